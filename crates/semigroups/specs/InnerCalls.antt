-- What a function that marks candidates leaves in scratch. Assumes nothing.
use Rattle.std.specs.Prelude.{Bool, List, ℕ}
use Rattle.semigroups.specs.Scratch.{marks}
use Rattle.semigroups.specs.Calls.{overwritten}

-- The scratch buffer after the marks are written.
unfoldable pub scratch_after : ℕ → ℕ → (ℕ → ℕ → Bool) → List ℕ → List ℕ
scratch_after m n candidate scratch = overwritten (marks m n candidate) scratch
