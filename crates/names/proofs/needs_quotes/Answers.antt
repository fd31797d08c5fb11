-- The chain over the bytes is the definition. Assumes nothing.
use Rattle.std.proofs.Common.{◌≡◌, Bool, ◌||◌, List, ℕ, [], ◌∷◌, eqb, refl, ap, ◌∙◌, rules}
use Rattle.std.specs.List.{list_any}
use borrow.Author.Tests.{tests}
use Rattle.std.proofs.lemmas.Iterator.{YieldsList-from_slice}
use Rattle.std.proofs.lemmas.Iterator.Search.{any_from_yields_List}
use Rattle.sheets.specs.Names.{needs_quotes}
use Rattle.names.proofs.needs_quotes.Goals as goal

any_is : (s : List ℕ) → list_any (λ b. eqb b 44 || eqb b 34) s ≡ needs_quotes s
unfolding needs_quotes
any_is [] = refl
any_is (b ∷ s) = ap (λ (r : Bool). (eqb b 44 || eqb b 34) || r) (any_is s)

pub returns : goal.returns
returns c = record {
  answer =
      any_from_yields_List (λ b. eqb b 44 || eqb b 34) _ _ c.any.result c.any.ensures.ran (YieldsList-from_slice c.args.name.now cc) (λ x b q k. search (rules, tests))
      ∙ any_is c.args.name.now;
}
