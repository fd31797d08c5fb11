use Rattle.std.proofs.Common.{arith}
use Rattle.numbers.proofs.Sixteen.{put_value}
use Rattle.words.proofs.words.Goals as goal

pub loop-i-preserved : goal.loop-i-preserved
loop-i-preserved c = rw c.loop-i.invariant (put_value c.args.number c.args.side c.args.values.now c.requires.few c.loop-i.i (omega arith))
