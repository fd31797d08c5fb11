-- The entries so far are added; then the list found holds the products of its first entries, and nothing that is not generated. At most 120 elements are found.
use Rattle.std.proofs.Common.{◌≡◌, ◌-◌, ◌≤◌, [], length, take}
use Rattle.products.specs.Tables.{times_of}
use Rattle.light.specs.InnerFound.{adding_all}
use Rattle.generated.proofs.Found.{Growing}
use Rattle.generated.proofs.generate.Given as goal

abbrev pub invariant-loop-x : goal.invariant-loop-x
invariant-loop-x l = l.found ≡ adding_all [] (take l.x-index l.list)

abbrev pub invariant-loop-place : goal.invariant-loop-place
invariant-loop-place l = record {
  reached : l.place ≤ length l.found;
  growing : Growing l.table.order (times_of l.table) l.list l.place l.found;
}

abbrev pub decreases-loop-place : goal.decreases-loop-place
decreases-loop-place l = 120 - l.place
