use Rattle.std.proofs.Common.{refl, arith}
use Rattle.plain.proofs.Enumeration.{write_begin, write_end, write_next}
use Rattle.plain.proofs.write_list.Goals as goal

pub loop-i-init : goal.loop-i-init
loop-i-init c = write_begin _ _ _ c.requires.k_bound _ refl

pub loop-i-preserved : goal.loop-i-preserved
loop-i-preserved c = write_next _ _ _ c.requires.k_bound _ _ _ c.loop-i.invariant c.loop-i-test.true

pub returns : goal.returns
returns c = record { list = write_end _ _ _ c.requires.k_bound _ _ _ c.loop-i.invariant (omega arith) }
