-- A refused call changes no byte.
-- Assumes nothing.
use Rattle.std.specs.Prelude.{◌≡◌, List, ℕ, length}
use Rattle.std.proofs.Math.Option.{some}
use Rattle.semigroups.specs.Questions.{Refusal}
use Rattle.semigroups.specs.Copies.{copies_refusal}
use Rattle.calls.specs.Copies.{copies_scratch}

-- A refusal changes no byte of scratch.
abbrev pub CopiesKeep : Type 0
CopiesKeep = (m : ℕ) (source : List ℕ) (n : ℕ) (target scratch : List ℕ) (r : Refusal) → copies_refusal m source n target (length scratch) ≡ some r → copies_scratch m source n target scratch ≡ scratch
