-- The first number whose list is a later map of the kind.
use Rattle.std.proofs.Common.{ℕ, Bool, List, Option, Some, None, ◌≡◌, ◌∙◌, ◌<◌, refl, sym, ap, subst, rules, arith}
use Rattle.std.specs.Prelude.{MatchOption}
use Rattle.std.specs.Option.{option_map}
use Rattle.std.specs.List.{range_with_len, find as first}
use Rattle.std.proofs.lemmas.Iterator.{YieldsList-from_range}
use Rattle.std.proofs.lemmas.Iterator.Search.{find_from_yields_List}
use Rattle.std.proofs.Math.Option as M
use Rattle.semigroups.specs.Results.{optional}
use Rattle.plain.specs.InnerEnumeration.{numbered}
use Rattle.plain.specs.InnerTables.{product_of, kind_of}
use Rattle.plain.proofs.Enumeration.{find_numbers, found_below}
use Rattle.plain.proofs.Earliest.{later, earliest_later}
use Rattle.plain.proofs.Search.next_number.Goals as goal

same_value : (r : Option ℕ) → option_map (λ x. x) r ≡ r
same_value None = refl
same_value (Some x) = refl

pub returns : goal.returns
returns c =
    let m = c.args.self.now.source.order in
    let n = c.args.self.now.target.order in
    let test : List ℕ → Bool = later m (product_of c.args.self.now.source) n (product_of c.args.self.now.target) (kind_of c.args.self.now.kind) c.args.self.now.after.now in
    let total = c.number_of_lists.result in
    let found : c.find.result ≡ first (λ k. test (numbered m n k)) (range_with_len 0 total) =
    sym (same_value c.find.result)
    ∙ find_from_yields_List (λ k. later m (product_of c.args.self.now.source) n (product_of c.args.self.now.target) (kind_of c.args.self.now.kind) c.args.self.now.after.now (numbered m n k)) _ _ c.find.result c.find.ensures.ran (YieldsList-from_range 0 total total refl (omega arith)) (λ x b q k. search rules) in
    record {
      answer =
          ap (λ r. M.map (numbered m n) (optional r)) found
          ∙ find_numbers test m n total c.number_of_lists.ensures.answer
          ∙ sym (earliest_later _ _ _ _ (kind_of c.args.self.now.kind) c.args.self.now.after.now);
      below = subst (λ (q : ℕ). MatchOption c.find.result (Unit {0}) (λ k. k < q)) c.number_of_lists.ensures.answer (found_below _ total c.find.result found);
    }
