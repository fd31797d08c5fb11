-- The first i elements have their numbers.
use Rattle.std.proofs.Common.{◌≡◌, take}
use Rattle.parts.specs.InnerParts.{numbering}
use Rattle.parts.proofs.numbers_of.Given as goal

abbrev pub invariant-loop-i : goal.invariant-loop-i
invariant-loop-i l = l.numbers ≡ numbering (take l.i l.elements)
