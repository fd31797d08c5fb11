-- The word has the bits kept before place k, and `rest` has the old ones from there on.
use Prim.Native.Nat.{◌-◌, ◌/◌, ◌^◌, ◌≤◌}
use Rattle.std.proofs.Common.{◌≡◌}
use Rattle.products.specs.Tables.{times_of}
use Rattle.rows.specs.InnerRows.{word}
use Rattle.rows.proofs.Words.{kept}
use Rattle.propagation.specs.InnerRows.{stays}
use Rattle.propagation.proofs.narrow_word.Given as goal

abbrev pub invariant-loop-rest : goal.invariant-loop-rest
invariant-loop-rest l =
    record {
      within : l.k ≤ l.count;
      after : l.rest ≡ l.old / 2 ^ l.k;
      so_far : l.w ≡ word (kept l.old l.from (stays (times_of l.target) l.x l.looks l.left l.right)) l.from l.k;
    }

abbrev pub decreases-loop-rest : goal.decreases-loop-rest
decreases-loop-rest l = l.count - l.k
