use Rattle.std.proofs.Common.{◌≡◌, ◌-◌, false, get_or}
use Rattle.semigroups.specs.Lists.{member}
use Rattle.light.specs.InnerChoice.{RarestOrNone}
use Rattle.light.proofs.rarest.Given as goal

abbrev pub invariant-loop-x : goal.invariant-loop-x
invariant-loop-x l = RarestOrNone (l.x - 1) (λ y. get_or l.counts (y - 1) 0) (λ y. member y l.found ≡ false) l.chosen
