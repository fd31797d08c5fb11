use Rattle.std.proofs.Common.{arith}
use Rattle.marking.proofs.Masks.{mask_begin, mask_next, mask_end}
use Rattle.marking.proofs.keep_pairs.Goals as goal

pub loop-place-init : goal.loop-place-init
loop-place-init c = mask_begin c.args.size c.args.pairs.now c.args.scratch.now

pub loop-place-preserved : goal.loop-place-preserved
loop-place-preserved c = mask_next c.args.size c.args.pairs.now c.args.scratch.now c.requires.1 c.loop-place.invariant c.loop-place-test.true

pub returns : goal.returns
returns c = record { scratch = mask_end c.args.size c.args.pairs.now c.args.scratch.now c.requires.1 c.loop-place.invariant (omega arith) }
