use Rattle.std.proofs.Common.{◌≤◌, ◌-◌, ◌/◌, take}
use Rattle.products.specs.Tables.{times_of}
use Rattle.light.specs.InnerChoice.{FoundProducts, RarestFirst}
use Rattle.light.proofs.choose.Given as goal

abbrev pub invariant-loop-x : goal.invariant-loop-x
invariant-loop-x l =
    record {
      few : l.count ≤ l.n / 4;
      rarest_first : RarestFirst l.n (times_of l.table) l.list l.count;
      products : FoundProducts (times_of l.table) (take l.count l.list) l.found;
    }

abbrev pub decreases-loop-x : goal.decreases-loop-x
decreases-loop-x l = l.n / 4 - l.count
