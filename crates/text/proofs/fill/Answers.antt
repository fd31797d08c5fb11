-- Each field's number is written. Assumes nothing.
use Rattle.std.proofs.Common.{refl, arith}
use Rattle.rfc4180.proofs.Fields.{field_passed}
use Rattle.rfc4180.proofs.Reading.{turn_forward}
use Rattle.rfc4180.proofs.Filling.{here, fill_first, fill_done, fill_field, fill_room, fill_next}
use Rattle.text.proofs.Following.{next_place, no_place}
use Rattle.text.proofs.fill.Goals as goal

pub loop-next-init : goal.loop-next-init
loop-next-init c = fill_first c.requires.some c.requires.bytes c.requires.numbers

pub read_number-requires-clause-some : goal.read_number-requires-clause-some
read_number-requires-clause-some c = (field_passed _ (fill_field c.loop-next.invariant refl)).some_byte

pub read_number-requires-clause-short : goal.read_number-requires-clause-short
read_number-requires-clause-short c = (field_passed _ (fill_field c.loop-next.invariant refl)).short

pub overflow_cast-cells : goal.overflow_cast-cells
overflow_cast-cells c = omega (arith, (field_passed _ (fill_field c.loop-next.invariant refl)).small, c.read_number.ensures.answer)

pub bounds-cells-k : goal.bounds-cells-k
bounds-cells-k c = fill_room c.loop-next.invariant refl c.requires.room

pub returns-in_default : goal.returns-in_default
returns-in_default c = record {
  cells = fill_done (fill_next c.loop-next.invariant refl c.read_number.ensures.answer) c.requires.room (no_place _ _ c.next_field-field.ensures.answer c.in_default.is);
}

pub loop-next-smaller : goal.loop-next-smaller
loop-next-smaller c =
    let p = next_place _ _ c.next_field-field.ensures.answer c.in-Some.is in
    rw p.1 at (turn_forward (here c.loop-next.invariant refl))

pub loop-next-preserved : goal.loop-next-preserved
loop-next-preserved c =
    let p = next_place _ _ c.next_field-field.ensures.answer c.in-Some.is in
    rw (p.0, p.1) at (fill_next c.loop-next.invariant refl c.read_number.ensures.answer)
