-- The bytes gathered, and those that are left of the field, are its value. Assumes nothing.
use Rattle.std.proofs.Common.{◌-◌, length}
use Rattle.sheets.specs.InnerCursor.{quoted_value, quoted_size}
use Rattle.names.proofs.Values.{Gathered}
use Rattle.names.proofs.read_quoted.Given as goal

abbrev pub invariant-loop-i : goal.invariant-loop-i
invariant-loop-i l = Gathered quoted_value quoted_size l.text l.at l.i l.value

abbrev pub decreases-loop-i : goal.decreases-loop-i
decreases-loop-i l = length l.text - l.i
