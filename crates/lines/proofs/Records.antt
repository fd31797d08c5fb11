-- A record of a word and two numbers as text: how long it is, and what stands in the buffer once it is written. Assumes nothing.
use mathlib.Core.Path.{◌≡◌, refl, sym, ap, ◌∙◌}
use mathlib.Core.List.{List, [], ◌∷◌, ◌++◌, flat_map, append-nil}
use Prim.Native.Nat.{ℕ, ◌+◌, ◌≤◌}
use native.Mathlib.Omega.{arith}
use lib.ListN.{length, length-append}
use lib.Seq.{sets}
use Rattle.rfc4180.specs.Decimals.{numeral}
use Rattle.rfc4180.specs.Records.{record_text, line_text}
use Rattle.rfc4180.proofs.Decimals.{digits_few}
use Rattle.rfc4180.proofs.Writing.{write_first, write_last}
use Rattle.lines.proofs.Lines.{written}

pub record_three : (a b c : List ℕ) → record_text (a ∷ b ∷ c ∷ []) ≡ a ++ ((44 ∷ b) ++ (44 ∷ c))
unfolding record_text flat_map
record_three a b c = ap (λ (l : List ℕ). a ++ ((44 ∷ b) ++ l)) (append-nil (44 ∷ c))

pub fields_length : (w : List ℕ) (a b : ℕ) → length (record_text (w ∷ numeral a ∷ numeral b ∷ [])) ≡ length w + length (numeral a) + length (numeral b) + 2
fields_length w a b = ap length (record_three w (numeral a) (numeral b)) ∙ simp length-append (omega arith)

-- A line is longer than its record by the line break.
pub line_more : (r : List (List ℕ)) → length (line_text r) ≡ length (record_text r) + 2
unfolding line_text
line_more r = length-append (record_text r) (13 ∷ 10 ∷ [])

line_length : (w : List ℕ) (a b : ℕ) → length (line_text (w ∷ numeral a ∷ numeral b ∷ [])) ≡ length w + length (numeral a) + length (numeral b) + 4
line_length w a b = omega (arith, line_more (w ∷ numeral a ∷ numeral b ∷ []), fields_length w a b)

pub line_short : (w : List ℕ) (a b : ℕ) → length (line_text (w ∷ numeral a ∷ numeral b ∷ [])) ≤ length w + 10
line_short w a b = omega (arith, line_length w a b, digits_few a, digits_few b)

-- The three fields are written, one after another.
pub fields_written : (before word : List ℕ) (start a b : ℕ) {o₁ o₂ o₃ : List ℕ} {p₁ p₂ p₃ : ℕ}
    → p₁ ≡ start + length word → o₁ ≡ sets before start word
    → p₂ ≡ p₁ + length (44 ∷ numeral a) → o₂ ≡ sets o₁ p₁ (44 ∷ numeral a)
    → p₃ ≡ p₂ + length (44 ∷ numeral b) → o₃ ≡ sets o₂ p₂ (44 ∷ numeral b)
    → (p₃ ≡ start + length (record_text (word ∷ numeral a ∷ numeral b ∷ []))) × (o₃ ≡ sets before start (record_text (word ∷ numeral a ∷ numeral b ∷ [])))
fields_written before word start a b q₁ e₁ q₂ e₂ q₃ e₃ =
    let whole = record_text (word ∷ numeral a ∷ numeral b ∷ []) in
    let w₁ = written (write_first before start whole) word ((44 ∷ numeral a) ++ (44 ∷ numeral b)) (record_three word (numeral a) (numeral b)) e₁ q₁ in
    let w₂ = written w₁ (44 ∷ numeral a) (44 ∷ numeral b) refl e₂ q₂ in
    let w₃ = written w₂ (44 ∷ numeral b) [] (sym (append-nil (44 ∷ numeral b))) e₃ q₃ in
    let all = write_last w₃ refl in
    (all.1, all.0)

-- A record is written without its line break, and then the break.
pub line_written : (before : List ℕ) (start : ℕ) (r : List (List ℕ)) {o₁ o₂ : List ℕ} {p₁ p₂ : ℕ}
    → p₁ ≡ start + length (record_text r) → o₁ ≡ sets before start (record_text r) → p₂ ≡ p₁ + 2 → o₂ ≡ sets o₁ p₁ (13 ∷ 10 ∷ [])
    → (p₂ ≡ start + length (line_text r)) × (o₂ ≡ sets before start (line_text r))
unfolding line_text
line_written before start r q₁ e₁ q₂ e₂ =
    let whole = record_text r ++ 13 ∷ 10 ∷ [] in
    let w₁ = written (write_first before start whole) (record_text r) (13 ∷ 10 ∷ []) refl e₁ q₁ in
    let w₂ = written w₁ (13 ∷ 10 ∷ []) [] refl e₂ q₂ in
    let all = write_last w₂ refl in
    (all.1, all.0)
