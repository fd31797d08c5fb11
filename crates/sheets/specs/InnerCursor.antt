-- Reading a sheet field by field: the value of the field that bytes begin with, and how many bytes it takes, in a text that passes question 40.
-- It serves the proofs of the code; no contract of an entry point cites it.
-- Assumes nothing.
use Rattle.std.specs.Prelude.{◌||◌, cond, List, [], ◌∷◌, ℕ, suc, eqb, length}

-- The value of a field with no quote marks around it, which ends at a comma, at CR, or with the text.
unfoldable pub bare_value : List ℕ → List ℕ
bare_value [] = []
bare_value (b ∷ u) = let r = bare_value u in cond (eqb b 44 || eqb b 13) [] (b ∷ r)

-- The value of a field after its opening quote mark: the bytes up to the closing one, with doubled quote marks undone.
unfoldable pub quoted_value : List ℕ → List ℕ
quoted_value [] = []
quoted_value (b ∷ []) = cond (eqb b 34) [] (b ∷ [])
quoted_value (b ∷ c ∷ u) =
    let on = quoted_value u in
    let other = quoted_value (c ∷ u) in
    cond (eqb b 34) (cond (eqb c 34) (34 ∷ on) []) (b ∷ other)

-- How many bytes that value takes in the text, the closing quote mark included.
unfoldable pub quoted_size : List ℕ → ℕ
quoted_size [] = 0
quoted_size (b ∷ []) = 1
quoted_size (b ∷ c ∷ u) =
    let on = quoted_size u in
    let other = quoted_size (c ∷ u) in
    cond (eqb b 34) (cond (eqb c 34) (suc (suc on)) 1) (suc other)

-- The value of the field that these bytes begin with.
unfoldable pub value_at : List ℕ → List ℕ
value_at [] = []
value_at (b ∷ u) = cond (eqb b 34) (quoted_value u) (bare_value (b ∷ u))

-- How many bytes the field takes, its quote marks included.
unfoldable pub size_at : List ℕ → ℕ
size_at [] = 0
size_at (b ∷ u) = cond (eqb b 34) (suc (quoted_size u)) (length (bare_value (b ∷ u)))
