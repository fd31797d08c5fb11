use Rattle.std.proofs.Common.{arith}
use Rattle.parts.proofs.Parts.{elements_begin, elements_length, element_skipped, element_room, element_written, elements_end}
use Rattle.parts.proofs.write_elements.Goals as goal
use Rattle.parts.proofs.write_elements.Goals.{then-marks-x-eq1, else-marks-x-eq1}

pub loop-x-init : goal.loop-x-init
loop-x-init c = elements_begin _ _ _

pub bounds-elements-place : goal.bounds-elements-place
bounds-elements-place c =
    let a = c.loop-x.invariant in
    let r = element_room _ _ _ a (omega arith) c.if-marks-x-eq1.true in
    let e = elements_length _ _ _ a c.requires.room in
    omega arith

pub overflow_add-place : goal.overflow_add-place
overflow_add-place c = let r = element_room _ _ _ c.loop-x.invariant (omega arith) c.if-marks-x-eq1.true in omega arith

pub loop-x-preserved : goal.loop-x-preserved
loop-x-preserved c =
    let a = c.loop-x.invariant in
    elim c.if-marks-x-eq1.branch [
      | then-marks-x-eq1 w ↦ rw (w.elements-is, w.place-is) (element_written _ _ _ a (omega arith) w.if-marks-x-eq1.true c.requires.room)
      | else-marks-x-eq1 w ↦ rw (w.elements-is, w.place-is) (element_skipped _ _ _ a (omega arith) w.if-marks-x-eq1.false)
    ]

pub returns : goal.returns
returns c = record { elements = elements_end _ _ _ c.loop-x.invariant (omega arith) }
