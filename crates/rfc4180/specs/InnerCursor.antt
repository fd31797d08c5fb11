-- Reading a text field by field: the field that begins at a place, what stands after it, and where the next one begins. Fields are digits, as in every text
-- that passes question 21; places count from 0.
-- Assumes nothing.
use Rattle.std.specs.Prelude.{cond, Bool, ◌||◌, List, [], ◌∷◌, ℕ, ◌+◌, eqb, ltb, length, get_or, drop}
use Rattle.rfc4180.specs.Decimals.{is_digit}

-- The digits that a list of bytes begins with.
unfoldable pub digits : List ℕ → List ℕ
digits [] = []
digits (b ∷ t) = let r = digits t in cond (is_digit b) (b ∷ r) []

-- The place after the field.
abbrev pub field_end : List ℕ → ℕ → ℕ
field_end t at = at + length (digits (drop at t))

-- Whether a comma stands after the field, so that its record goes on.
unfoldable pub comma_follows : List ℕ → ℕ → Bool
comma_follows t at = eqb (get_or t (field_end t at) 0) 44

-- Where the next field begins, if there is one: after the comma, otherwise after the line break.
unfoldable pub next_field : List ℕ → ℕ → ℕ
next_field t at = cond (comma_follows t at) (field_end t at + 1) (field_end t at + 2)

-- Whether there is a next field. After a comma there always is one, though it may be empty at the end of the text; otherwise there is one if bytes are left.
unfoldable pub field_follows : List ℕ → ℕ → Bool
field_follows t at = comma_follows t at || ltb (next_field t at) (length t)
