-- Decimal numbers as bytes: digits are the bytes 48 to 57, the first digit counts most (RULES 19.1: decimal cells).
-- Assumes nothing.
use Rattle.std.specs.Prelude.{Bool, ◌&&◌, cond, List, [], ◌∷◌, ◌++◌, ℕ, zero, suc, ◌+◌, ◌-◌, ◌*◌, ◌/◌, ◌%◌, leb, ltb}

-- Whether a byte is a digit.
unfoldable pub is_digit : ℕ → Bool
is_digit b = leb 48 b && leb b 57

-- The number that v becomes when these digits are written after it.
unfoldable pub value_from : ℕ → List ℕ → ℕ
value_from v [] = v
value_from v (b ∷ f) = value_from (v * 10 + (b - 48)) f

-- The number that a field of digits stands for. A field of other bytes, which no accepted text has, gets some number too.
unfoldable pub value : List ℕ → ℕ
value f = value_from 0 f

-- The number k in decimal with no leading 0, if k has at most d digits. For a larger k, which no cell is, it is only the last d digits.
unfoldable pub numeral_within : ℕ → ℕ → List ℕ
numeral_within zero k = []
numeral_within (suc d) k = let r = numeral_within d (k / 10) in cond (ltb k 10) [] r ++ (48 + k % 10) ∷ []

-- A cell in decimal, with no leading 0. A cell is a byte, so three digits are enough.
unfoldable pub numeral : ℕ → List ℕ
numeral k = numeral_within 3 k
