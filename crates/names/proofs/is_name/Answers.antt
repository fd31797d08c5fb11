-- The test of the length and the chain over the bytes are the two parts of the definition. Assumes nothing.
use Rattle.std.proofs.Common.{◌≡◌, inl, inr, ◌≤◌, List, ℕ, length, refl, sym, ◌∙◌, rules, arith}
use borrow.Author.Tests.{eqb-true, eqb-false}
use Rattle.std.specs.List.{list_all}
use Rattle.std.proofs.lemmas.Iterator.{YieldsList-from_slice}
use Rattle.std.proofs.lemmas.Iterator.Search.{all_from_yields_List}
use Rattle.semigroups.proofs.Chains.{list_all_is}
use Rattle.semigroups.proofs.Lists.{element_is}
use Rattle.sheets.specs.Grammar.{is_printable}
use Rattle.sheets.specs.Names.{is_name}
use Rattle.sheets.proofs.Numbers.{name_empty, name_long}
use Rattle.names.proofs.is_name.Goals as goal

by_bytes : (s : List ℕ) → 1 ≤ length s → length s ≤ 40 → list_all is_printable s ≡ is_name s
unfolding is_name
by_bytes s l u = list_all_is is_printable s ∙ sym (rw (element_is 40 (length s) (l, u)) refl)

pub returns-then-is_empty : goal.returns-then-is_empty
returns-then-is_empty c = record {
  answer = elim c.then-is_empty.either [
    | inl e ↦ name_empty _ (omega (arith, eqb-true (length c.args.bytes.now) 0 (sym c.is_empty.ensures ∙ e)))
    | inr h ↦ name_long _ h.1
  ];
}

pub returns : goal.returns
returns c =
    let some = eqb-false (length c.args.bytes.now) 0 (sym c.is_empty.ensures ∙ c.if-is_empty.false) in
    record {
      answer =
          all_from_yields_List is_printable _ _ c.all.result c.all.ensures.ran (YieldsList-from_slice c.args.bytes.now cc) (λ x b q k. search rules)
          ∙ by_bytes c.args.bytes.now (omega arith) (omega arith);
    }
