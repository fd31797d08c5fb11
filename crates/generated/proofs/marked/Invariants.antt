-- The marks are those of the entries so far.
use Rattle.std.proofs.Common.{◌≡◌, take}
use Rattle.light.specs.InnerFound.{indicator}
use Rattle.generated.proofs.marked.Given as goal

abbrev pub invariant-loop-x : goal.invariant-loop-x
invariant-loop-x l = l.marks ≡ indicator (take l.x-index l.list)
