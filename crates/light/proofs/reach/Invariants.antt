use Rattle.std.proofs.Common.{◌≤◌, ◌-◌, length}
use Rattle.products.specs.Tables.{times_of}
use Rattle.light.proofs.Choice.{Reaching, Entering}
use Rattle.light.proofs.reach.Given as goal

abbrev pub invariant-loop-place : goal.invariant-loop-place
invariant-loop-place l =
    record {
      longer : l.count ≤ length l.found;
      entering : Entering (times_of l.table) l.list l.count l.place l.found;
    }

abbrev pub invariant-loop-place-2 : goal.invariant-loop-place-2
invariant-loop-place-2 l =
    record {
      within : l.place ≤ length l.found;
      reaching : Reaching (times_of l.table) l.list l.place l.found;
    }

-- At most 120 elements are found.
abbrev pub decreases-loop-place-2 : goal.decreases-loop-place-2
decreases-loop-place-2 l = 120 - l.place
