-- One law for each way out of the questions; if all pass, the elements are written and then their table.
use Rattle.std.proofs.Common.{sym, ap, ◌≡◌, ◌∙◌, ◌≤◌, arith, ℕ, List, length, false}
use Rattle.std.specs.Prelude.{eqb}
use Rattle.std.proofs.lemmas.Bool.{eqb-true, eqb-false}
use Rattle.std.proofs.lemmas.Result.{err_from_is_err_and}
use Rattle.semigroups.specs.Calls.{Answer, refused}
use Rattle.semigroups.proofs.Results.{present, absent}
use Rattle.semigroups.proofs.Tables.{accepted}
use Rattle.semigroups.proofs.Subsemigroups.{table_refused, none_chosen, not_inside}
use Rattle.products.proofs.Products.{square_small}
use Rattle.generated.proofs.Questions.{entries_inside, entry_outside}
use Rattle.parts.proofs.Parts.{kept, order_small, short_cells, short_elements, ready, marked_room, after_part, given}
use Rattle.parts.proofs.subsemigroup.Goals as goal
use Rattle.parts.proofs.subsemigroup.Goals.{then-is_empty-via-then-is_empty, then-is_empty-via-else-is_empty+then-is_some}

pub returns-in_err-table : goal.returns-in_err-table
returns-in_err-table c =
    let p = err_from_is_err_and c.from_residual.result c.from_residual.ensures.1 in
    let k = kept _ _ _ _ _ _ (table_refused _ _ _ _ _ _ (sym c.in_err-table.ensures.answer)) in
    record { answer = rw p.1 (ap {B = Answer ℕ} refused p.2 ∙ k.answer); part = k.part; elements = k.elements }

pub returns-then-is_empty : goal.returns-then-is_empty
returns-then-is_empty c =
    let t = sym c.in_ok-table.ensures.answer in
    elim c.then-is_empty.branch [
      | then-is_empty-via-then-is_empty w ↦ let none = eqb-true _ _ (sym w.if-is_empty.ensures) in kept _ _ _ _ _ _ (none_chosen _ _ _ _ _ t (omega arith))
      | then-is_empty-via-else-is_empty+then-is_some w ↦ let k = present _ (sym w.if-is_some.ensures) in kept _ _ _ _ _ _ (not_inside _ _ _ _ _ t (entry_outside _ _ _ (sym w.outside.ensures.answer ∙ k.1)))
    ]

pub generate-generated-requires : goal.generate-generated-requires
generate-generated-requires c = record { inside = rw c.in_ok-table.ensures.table.0 (entries_inside _ _ (sym c.outside.ensures.answer ∙ absent _ (sym c.if-is_some.ensures))) }

pub overflow_mul-k : goal.overflow_mul-k
overflow_mul-k c =
    let t = c.in_ok-table.ensures in
    let s = order_small _ _ c.args.chosen.now (accepted _ _ (sym t.answer)) in
    let e = rw (t.table.0, t.table.1) at c.generate-generated.ensures.count in
    omega (arith, square_small c.generate-generated.result.count (omega arith))

some_chosen : (l : List ℕ) → eqb (length l) 0 ≡ false → 1 ≤ length l
some_chosen l e = let h = eqb-false (length l) 0 e in omega arith

pub returns-then-part-k : goal.returns-then-part-k
returns-then-part-k c =
    let t = c.in_ok-table.ensures in
    let inside = entries_inside _ _ (sym c.outside.ensures.answer ∙ absent _ (sym c.if-is_some.ensures)) in
    short_cells _ _ _ _ _ (sym t.answer) (some_chosen _ (sym c.if-is_empty.ensures)) inside _ (rw (t.table.0, t.table.1) at c.generate-generated.ensures.count) c.if-part-k.true

pub returns-then-elements-k : goal.returns-then-elements-k
returns-then-elements-k c =
    let t = c.in_ok-table.ensures in
    let inside = entries_inside _ _ (sym c.outside.ensures.answer ∙ absent _ (sym c.if-is_some.ensures)) in
    short_elements _ _ _ _ _ (sym t.answer) (some_chosen _ (sym c.if-is_empty.ensures)) inside _ (rw (t.table.0, t.table.1) at c.generate-generated.ensures.count) c.if-part-k.false
    c.if-elements-k.true

pub write_elements-requires-clause-room : goal.write_elements-requires-clause-room
write_elements-requires-clause-room c =
    let t = c.in_ok-table.ensures in
    let inside = entries_inside _ _ (sym c.outside.ensures.answer ∙ absent _ (sym c.if-is_some.ensures)) in
    let g = rw (t.table.0, t.table.1) at c.generate-generated.ensures in
    marked_room (ready t.answer (some_chosen _ (sym c.if-is_empty.ensures)) inside c.if-part-k.false c.if-elements-k.false g.marks g.count)

pub write_part-requires-clause-closed : goal.write_part-requires-clause-closed
write_part-requires-clause-closed c =
    let t = c.in_ok-table.ensures in
    let inside = entries_inside _ _ (sym c.outside.ensures.answer ∙ absent _ (sym c.if-is_some.ensures)) in
    let g = rw (t.table.0, t.table.1) at c.generate-generated.ensures in
    rw (t.table.0, t.table.1)
    (after_part (ready t.answer (some_chosen _ (sym c.if-is_empty.ensures)) inside c.if-part-k.false c.if-elements-k.false g.marks g.count) c.write_elements.ensures.elements)

pub returns : goal.returns
returns c =
    let t = c.in_ok-table.ensures in
    let inside = entries_inside _ _ (sym c.outside.ensures.answer ∙ absent _ (sym c.if-is_some.ensures)) in
    let g = rw (t.table.0, t.table.1) at c.generate-generated.ensures in
    given (ready t.answer (some_chosen _ (sym c.if-is_empty.ensures)) inside c.if-part-k.false c.if-elements-k.false g.marks g.count) c.write_elements.ensures.elements
    (rw (t.table.0, t.table.1) at c.write_part.ensures.part)
