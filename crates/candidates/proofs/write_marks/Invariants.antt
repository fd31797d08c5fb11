-- The marks up to the place are written, and later bytes are as they were.
use Rattle.std.proofs.Common.{◌≡◌, ℕ, Bool}
use Rattle.semigroups.specs.Scratch.{marks}
use Rattle.semigroups.proofs.Writing.{written}
use Rattle.candidates.specs.InnerPairs.{Decides}
use Rattle.candidates.proofs.write_marks.Given as goal

abbrev pub invariant-loop-place : goal.invariant-loop-place
invariant-loop-place g l = (p : ℕ → ℕ → Bool) → Decides l.m l.n (goal.F-post g l.passes) p → l.marks ≡ written (marks l.m l.n p) l.fn.marks l.place
