-- Names, on a sheet and in memory (RULES 20).
-- Assumes nothing.
use Rattle.std.specs.Prelude.{Bool, false, ◌&&◌, ◌||◌, not, cond, ℕ, suc, eqb, leb, length, get_or, take, drop}
use mathlib.Core.List.{List, [], ◌∷◌, ◌++◌, flat_map}
use Rattle.semigroups.specs.Lists.{all}
use Rattle.semigroups.specs.Tables.{largest_order, is_element}
use Rattle.rfc4180.specs.Decimals.{is_digit, value, numeral}
use Rattle.sheets.specs.Grammar.{is_printable}

-- "A name is 1 to 40 bytes from hexadecimal 20 to 7E" (RULES 20.2).
unfoldable pub is_name : List ℕ → Bool
is_name s = is_element 40 (length s) && all is_printable s

-- Whether a field is the number k, at most 120: "Numbers are decimal and start with no 0" (RULES 20.1), so it has at most three digits.
unfoldable pub is_number : ℕ → List ℕ → Bool
is_number k f = leb k largest_order && (all is_digit f && (is_element 3 (length f) && (not (eqb (get_or f 0 0) 48) && eqb (value f) k)))

-- ---- the text of names

-- Whether a name holds a comma or a quote mark.
unfoldable pub needs_quotes : List ℕ → Bool
needs_quotes [] = false
needs_quotes (b ∷ s) = let r = needs_quotes s in (eqb b 44 || eqb b 34) || r

-- The bytes with each quote mark doubled.
unfoldable pub doubled : List ℕ → List ℕ
doubled s = flat_map (λ b. cond (eqb b 34) (34 ∷ 34 ∷ []) (b ∷ [])) s

-- "Saving quotes exactly those names that hold a comma or a quote mark, and doubles each quote mark inside" (RULES 20.3).
unfoldable pub name_text : List ℕ → List ℕ
name_text s = cond (needs_quotes s) (34 ∷ doubled s ++ 34 ∷ []) s

-- The records of the names, numbered from k on, each closed by CR LF.
unfoldable pub names_text_from : ℕ → List (List ℕ) → List ℕ
names_text_from k [] = []
names_text_from k (s ∷ l) = numeral k ++ (44 ∷ name_text s ++ (13 ∷ 10 ∷ names_text_from (suc k) l))

-- The sheet of these names.
unfoldable pub names_text : List (List ℕ) → List ℕ
names_text l = names_text_from 1 l

-- ---- names in memory

-- The names that stand one after another in these bytes, with these lengths (RULES 20.6). Bytes after the last name are not looked at.
unfoldable pub names_at : List ℕ → List ℕ → List (List ℕ)
names_at bytes [] = []
names_at bytes (n ∷ ns) = take n bytes ∷ names_at (drop n bytes) ns
