-- The first other byte of the text is the first from place i on, and no line break began at the byte before. Assumes nothing.
use Rattle.std.proofs.Common.{◌≡◌, false, length, ◌-◌}
use Rattle.rfc4180.specs.Questions.{first_other}
use Rattle.rfc4180.proofs.Scan.{other_from, begun}
use Rattle.text.proofs.judge_bytes.Given as goal

abbrev pub invariant-loop-i : goal.invariant-loop-i
invariant-loop-i l = record { apart : begun l.text l.i ≡ false; ahead : first_other l.text ≡ other_from l.text l.i }

abbrev pub decreases-loop-i : goal.decreases-loop-i
decreases-loop-i l = length l.text - l.i
