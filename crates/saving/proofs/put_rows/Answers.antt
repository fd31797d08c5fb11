-- The text of a table is written row by row. Assumes nothing.
use Rattle.std.proofs.Common.{arith}
use Rattle.rfc4180.proofs.Writing.{write_room}
use Rattle.rfc4180.proofs.Saving.{rows_begun, rows_more, rows_done, rows_room}
use Rattle.saving.proofs.put_rows.Goals as goal

pub loop-i-init : goal.loop-i-init
loop-i-init c = rows_begun _ _ _

pub put_row-at-requires-clause-room : goal.put_row-at-requires-clause-room
put_row-at-requires-clause-room c = rows_room _ _ _ _ _ (omega arith) (write_room c.loop-i.invariant (omega (arith, c.requires.room)))

pub loop-i-preserved : goal.loop-i-preserved
loop-i-preserved c = rows_more _ _ _ (omega arith) c.loop-i.invariant c.put_row-at.ensures.text c.put_row-at.ensures.answer

pub returns : goal.returns
returns c =
    let all = rows_done _ _ c.loop-i.i (omega arith) c.requires.room c.loop-i.invariant in
    record { answer = all.0; text = all.1 }
