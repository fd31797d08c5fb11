-- The bytes gathered, and those that are left of the field, are its value. Assumes nothing.
use Rattle.std.proofs.Common.{◌+◌, length}
use Rattle.sheets.specs.InnerCursor.{bare_value}
use Rattle.names.proofs.Values.{Gathered}
use Rattle.names.proofs.read_bare.Given as goal

abbrev pub invariant-loop-i : goal.invariant-loop-i
invariant-loop-i l = Gathered bare_value (λ s. length (bare_value s)) l.text l.at (l.at + l.i) l.value
