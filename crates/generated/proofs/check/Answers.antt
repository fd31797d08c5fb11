use Rattle.std.proofs.Common.{sym, ◌∙◌}
use Rattle.std.proofs.lemmas.Result.{err_from_is_err_and}
use Rattle.semigroups.proofs.Results.{present, absent}
use Rattle.semigroups.proofs.Tables.{filled}
use Rattle.semigroups.proofs.Generated.{all_generated}
use Rattle.semigroups.proofs.Light.{cells_refused, not_inside, too_few, triple_decides}
use Rattle.generated.proofs.Questions.{entries_inside, entry_outside}
use Rattle.generated.proofs.check.Goals as goal

pub returns-in_err-table : goal.returns-in_err-table
returns-in_err-table c =
    let p = err_from_is_err_and c.from_residual.result c.from_residual.ensures.1 in
    record { answer = rw (p.1, p.2) (sym (cells_refused _ _ _ _ (sym c.in_err-table.ensures.answer))) }

pub returns-then-is_some : goal.returns-then-is_some
returns-then-is_some c =
    let k = present _ (sym c.if-is_some.ensures) in
    record { answer = sym (not_inside _ _ _ (filled _ _ (sym c.in_ok-table.ensures.answer)) (entry_outside _ _ _ (sym c.outside.ensures.answer ∙ k.1))) }

pub generate-requires : goal.generate-requires
generate-requires c = record { inside = rw c.in_ok-table.ensures.table.0 (entries_inside _ _ (sym c.outside.ensures.answer ∙ absent _ (sym c.if-is_some.ensures))) }

pub returns-then-generate-n : goal.returns-then-generate-n
returns-then-generate-n c =
    let t = c.in_ok-table.ensures in
    let inside = entries_inside _ _ (sym c.outside.ensures.answer ∙ absent _ (sym c.if-is_some.ensures)) in
    let count = rw (t.table.0, t.table.1) at c.generate.ensures.count in
    record { answer = sym (too_few _ _ _ (filled _ _ (sym t.answer)) inside (λ g. c.if-generate-n.true (count ∙ (all_generated _ _ _).1 g))) }

pub associative_through-requires : goal.associative_through-requires
associative_through-requires c = record { inside = rw c.in_ok-table.ensures.table.0 (entries_inside _ _ (sym c.outside.ensures.answer ∙ absent _ (sym c.if-is_some.ensures))) }

pub returns-in_err-associative_through : goal.returns-in_err-associative_through
returns-in_err-associative_through c =
    let p = err_from_is_err_and c.from_residual-in_err-associative_through.result c.from_residual-in_err-associative_through.ensures.1 in
    let t = c.in_ok-table.ensures in
    let inside = entries_inside _ _ (sym c.outside.ensures.answer ∙ absent _ (sym c.if-is_some.ensures)) in
    let count = rw (t.table.0, t.table.1) at c.generate.ensures.count in
    let triple = rw (t.table.0, t.table.1) at c.in_err-associative_through.ensures.answer in
    record { answer = rw (p.1, p.2) (sym (triple_decides _ _ _ (filled _ _ (sym t.answer)) inside ((all_generated _ _ _).0 (sym count ∙ c.if-generate-n.false)) ∙ sym triple)) }

pub returns : goal.returns
returns c =
    let t = c.in_ok-table.ensures in
    let inside = entries_inside _ _ (sym c.outside.ensures.answer ∙ absent _ (sym c.if-is_some.ensures)) in
    let count = rw (t.table.0, t.table.1) at c.generate.ensures.count in
    let triple = rw (t.table.0, t.table.1) at c.in_ok-associative_through.ensures.answer in
    record { answer = sym (triple_decides _ _ _ (filled _ _ (sym t.answer)) inside ((all_generated _ _ _).0 (sym count ∙ c.if-generate-n.false)) ∙ sym triple) }
