-- The bytes are written one by one. Assumes nothing.
use Rattle.lines.proofs.Lines.{write_begun, copied, copied_all}
use Rattle.lines.proofs.put_bytes.Goals as goal

pub loop-i-init : goal.loop-i-init
loop-i-init c = write_begun _ _ _

pub loop-i-preserved : goal.loop-i-preserved
loop-i-preserved c = copied c.args.bytes.now c.loop-i-test.true c.loop-i.invariant

pub returns-clause-out : goal.returns-clause-out
returns-clause-out c = (copied_all c.args.bytes.now c.loop-i-test.false c.loop-i.invariant).1
