use Rattle.std.proofs.Common.{rules, ℕ, Bool, refl, ◌+◌, arith, not, length}
use Rattle.std.proofs.lemmas.Iterator.{YieldsList-from_range}
use Rattle.std.proofs.lemmas.Iterator.Search.{find_from_yields_List}
use Rattle.semigroups.specs.Lists.{at, elements}
use Rattle.semigroups.specs.Tables.{is_element, bad_cell}
use Rattle.semigroups.proofs.Chains.{found_element}
use Rattle.tables.proofs.first_outside.Goals as goal

pub returns : goal.returns
unfolding bad_cell elements is_element at
returns c =
    let cells = c.args.cells.now in
    let test : ℕ → Bool = λ k. not (is_element c.args.n (at cells k)) in
    record { answer = found_element test (length cells) c.find.result (find_from_yields_List test _ _ c.find.result c.find.ensures.ran (YieldsList-from_range 1 (length cells + 1) (length cells) refl (omega arith)) (λ x b q k. search rules)) }
