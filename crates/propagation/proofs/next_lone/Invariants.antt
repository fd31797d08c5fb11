-- No row before c waits.
use Rattle.std.proofs.Common.{◌≡◌, ℕ, ◌<◌}
use Rattle.semigroups.specs.Lists.{at}
use Rattle.semigroups.specs.Tables.{Element}
use Rattle.propagation.specs.InnerLone.{Lone}
use Rattle.propagation.proofs.next_lone.Given as goal

abbrev pub invariant-loop-c : goal.invariant-loop-c
invariant-loop-c l = (d : ℕ) → Element l.m d → d < l.c → at l.used d ≡ 0 → Lone l.rows d → ⊥
