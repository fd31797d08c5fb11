-- What the bytes of scratch are, in plain words (RULES 8.2).
-- Assumes nothing.
use Rattle.std.specs.Prelude.{◌≡◌, Bool, List, ℕ, ◌+◌, ◌*◌, ◌≤◌, ◌<◌, length, get_or}
use Rattle.semigroups.specs.Tables.{Element}
use Rattle.semigroups.specs.Scratch.{marked, bit}

-- These bytes are the marks: their number is m × n divided by 8, rounded up; each pair has its mark; unused bits are 0.
pub record AreMarks (m n : ℕ) (candidate : ℕ → ℕ → Bool) (bytes : List ℕ) : Type 0 where
  pub enough : m * n ≤ 8 * length bytes
  pub no_more : 8 * length bytes < m * n + 8
  pub byte : (b : ℕ) → b < length bytes → get_or bytes b 0 < 256
  pub mark : (i j : ℕ) → Element m i → Element n j → marked n bytes i j ≡ candidate i j
  pub unused : (b r : ℕ) → b < length bytes → r < 8 → m * n ≤ 8 * b + r → bit (get_or bytes b 0) r ≡ 0
