-- Whether the text passes, and its place, are what the state makes of the bytes from i on. Assumes nothing.
use Rattle.sheets.proofs.Scan.{Scanning}
use Rattle.scanning.specs.InnerStates.{state_of}
use Rattle.scanning.proofs.scan.Given as goal

abbrev pub invariant-loop-i : goal.invariant-loop-i
invariant-loop-i l = Scanning l.text l.i (state_of l.state)
