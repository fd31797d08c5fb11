-- What the program prints, record by record (RULES 21.3). As text the records follow RFC 4180 (Records of crate rfc4180).
-- Assumes nothing.
use Rattle.std.specs.Prelude.{List, [], ◌∷◌, map, ℕ}
use Rattle.semigroups.specs.Lists.{elements, at}
use Rattle.semigroups.specs.Questions.{Refusal}
use Rattle.rfc4180.specs.Decimals.{numeral}
use Rattle.files.specs.Files.{refused_word}

-- ---- the words of the first record, as bytes

-- The word "found".
abbrev pub found_word : List ℕ
found_word = 102 ∷ 111 ∷ 117 ∷ 110 ∷ 100 ∷ []

-- The word "none".
abbrev pub none_word : List ℕ
none_word = 110 ∷ 111 ∷ 110 ∷ 101 ∷ []

-- ---- the records

-- The first record: a word and two numbers. After "found" and "none" these are the source order and the target order.
unfoldable pub first_record : List ℕ → ℕ → ℕ → List (List ℕ)
first_record word a b = word ∷ numeral a ∷ numeral b ∷ []

-- The record of element i and its image under the map f.
unfoldable pub pair_record : List ℕ → ℕ → List (List ℕ)
pair_record f i = numeral i ∷ numeral (at f i) ∷ []

-- ---- all records of an answer

-- A record for each of m elements: the element and its image.
unfoldable pub pair_records : ℕ → List ℕ → List (List (List ℕ))
pair_records m f = map (pair_record f) (elements m)

-- The records of a map that is found: the first record, then one for each source element.
unfoldable pub found_records : ℕ → ℕ → List ℕ → List (List (List ℕ))
found_records m n f = first_record found_word m n ∷ pair_records m f

-- The records of a refusal: the word, 1 or 2 for the file, and the number of the question.
unfoldable pub refused_records : ℕ → Refusal → List (List (List ℕ))
refused_records side r = first_record refused_word side r.number ∷ []
