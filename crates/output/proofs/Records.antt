-- The records of an answer as text, piece by piece: what is left to write, how long it is, and what stands in the buffer once it is written.
-- Assumes nothing.
use mathlib.Core.Path.{◌≡◌, refl, ap, sym, ◌∙◌}
use mathlib.Core.List.{List, [], ◌∷◌, ◌++◌, map, flat_map, append-nil}
use Prim.Native.Nat.{ℕ, zero, suc, ◌+◌, ◌-◌, ◌*◌, ◌≤◌, ◌<◌}
use native.Mathlib.Nat.{add-sub_cancel}
use native.Mathlib.Numerals.{add-one}
use native.Mathlib.Omega.{arith}
use lib.ListN.{length, get_or, length-append}
use lib.Seq.{sets}
use Rattle.semigroups.specs.Lists.{range, elements, at}
use Rattle.semigroups.specs.Questions.{Refusal}
use Rattle.rfc4180.specs.Decimals.{numeral}
use Rattle.rfc4180.specs.Records.{line_text, rows_text}
use Rattle.semigroups.specs.Calls.{overwritten}
use Rattle.rfc4180.proofs.Decimals.{digits_few}
use Rattle.rfc4180.proofs.Writing.{Writing, write_first, write_last, sets_overwritten}
use Rattle.lines.proofs.Lines.{written, two_fields}
use Rattle.lines.proofs.Records.{line_short}
use Rattle.files.specs.Files.{refused_word}
use Rattle.output.specs.Records.{found_word, first_record, pair_record, pair_records, found_records, refused_records}

-- ---- a record

pub first_short : (word : List ℕ) (a b : ℕ) → length (line_text (first_record word a b)) ≤ length word + 10
unfolding first_record
first_short word a b = line_short word a b

pub pair_length : (i x : ℕ) → length (line_text (numeral i ∷ numeral x ∷ [])) ≡ length (numeral i) + length (numeral x) + 3
pair_length i x = ap length (two_fields (numeral i) (numeral x)) ∙ simp length-append (omega arith)

pub pair_short : (i x : ℕ) → length (line_text (numeral i ∷ numeral x ∷ [])) ≤ 9
pair_short i x = omega (arith, pair_length i x, digits_few i, digits_few x)

pub pair_written : (before : List ℕ) (start i x : ℕ) {o₁ o₂ o₃ : List ℕ} {p₁ p₂ p₃ : ℕ}
    → p₁ ≡ start + length (numeral i) → o₁ ≡ sets before start (numeral i)
    → p₂ ≡ p₁ + length (44 ∷ numeral x) → o₂ ≡ sets o₁ p₁ (44 ∷ numeral x)
    → p₃ ≡ p₂ + 2 → o₃ ≡ sets o₂ p₂ (13 ∷ 10 ∷ [])
    → (p₃ ≡ start + length (line_text (numeral i ∷ numeral x ∷ []))) × (o₃ ≡ sets before start (line_text (numeral i ∷ numeral x ∷ [])))
pair_written before start i x q₁ e₁ q₂ e₂ q₃ e₃ =
    let whole = line_text (numeral i ∷ numeral x ∷ []) in
    let w₁ = written (write_first before start whole) (numeral i) ((44 ∷ numeral x) ++ 13 ∷ 10 ∷ []) (two_fields (numeral i) (numeral x)) e₁ q₁ in
    let w₂ = written w₁ (44 ∷ numeral x) (13 ∷ 10 ∷ []) refl e₂ q₂ in
    let w₃ = written w₂ (13 ∷ 10 ∷ []) [] refl e₃ q₃ in
    let all = write_last w₃ refl in
    (all.1, all.0)

-- ---- a record for each element

module _ (m : ℕ) (f : List ℕ) where
  -- The text of the records from element i on.
  unfoldable pub pairs_left : ℕ → List ℕ
  pairs_left i = rows_text (map (pair_record f) (range i (m + 1 - i)))

  pub pairs_first : rows_text (pair_records m f) ≡ pairs_left 1
  unfolding pair_records pairs_left elements
  pairs_first =
      let e : m + 1 - 1 ≡ m = omega arith in
      rw e

  pub pairs_step : (i : ℕ) → i ≤ m → pairs_left i ≡ line_text (pair_record f i) ++ pairs_left (i + 1)
  unfolding pairs_left rows_text flat_map range
  pairs_step i h =
      let e : m + 1 - i ≡ suc (m + 1 - suc i) = omega arith in
      rw (add-one i, e)

  pub pairs_end : (i : ℕ) → m < i → pairs_left i ≡ []
  unfolding pairs_left rows_text flat_map range
  pairs_end i h =
      let e : m + 1 - i ≡ 0 = omega arith in
      rw e

some_short : (f : List ℕ) (i k : ℕ) → length (rows_text (map (pair_record f) (range i k))) ≤ 9 * k
unfolding rows_text flat_map range pair_record
some_short f i zero = omega arith
some_short f i (suc k) =
    let rest = some_short f (suc i) k in
    simp length-append (omega (arith, pair_short i (at f i)))

pub pairs_short : (m : ℕ) (f : List ℕ) → length (rows_text (pair_records m f)) ≤ 9 * m
unfolding pair_records elements
pairs_short m f = some_short f 1 m

module _ (m : ℕ) (f : List ℕ) where
  pub pairs_begun : (before : List ℕ) (start : ℕ) → Writing before start (rows_text (pair_records m f)) (pairs_left m f 1) before start
  pairs_begun before start = rw (← pairs_first m f) (write_first before start (rows_text (pair_records m f)))

  -- The record at place i, which is that of element i + 1, comes first of those that are left.
  pairs_here : (i : ℕ) → i < m → pairs_left m f (i + 1) ≡ line_text (numeral (i + 1) ∷ numeral (get_or f i 0) ∷ []) ++ pairs_left m f (i + 1 + 1)
  unfolding pair_record at
  pairs_here i h =
      pairs_step m f (i + 1) (omega arith)
      ∙ ap (λ (k : ℕ). line_text (numeral (i + 1) ∷ numeral (get_or f k 0) ∷ []) ++ pairs_left m f (i + 1 + 1)) (add-sub_cancel i 1)

  pub pair_room : (i at room : ℕ) → i < m → at + length (pairs_left m f (i + 1)) ≤ room → at + length (line_text (numeral (i + 1) ∷ numeral (get_or f i 0) ∷ [])) ≤ room
  pair_room i at room h r = omega (arith, simp length-append at (ap length (pairs_here i h)))

  pub pairs_more : {before out : List ℕ} {start place : ℕ} (i : ℕ) {later : List ℕ} {next : ℕ} → i < m
      → Writing before start (rows_text (pair_records m f)) (pairs_left m f (i + 1)) out place
      → later ≡ sets out place (line_text (numeral (i + 1) ∷ numeral (get_or f i 0) ∷ [])) → next ≡ place + length (line_text (numeral (i + 1) ∷ numeral (get_or f i 0) ∷ []))
      → Writing before start (rows_text (pair_records m f)) (pairs_left m f (i + 1 + 1)) later next
  pairs_more i h w placed next = written w (line_text (numeral (i + 1) ∷ numeral (get_or f i 0) ∷ [])) (pairs_left m f (i + 1 + 1)) (pairs_here i h) placed next

-- ---- the whole text, from the start of a buffer on

-- The text of these records, of p bytes, stands in `out`; the buffer's later bytes are as before.
pub record Written (before : List ℕ) (rs : List (List (List ℕ))) (p : ℕ) (out : List ℕ) : Type 0 where
  pub size : p ≡ length (rows_text rs)
  pub text : out ≡ overwritten (rows_text rs) before

-- One record is written.
pub one_written : (before : List ℕ) (r : List (List ℕ)) (rs : List (List (List ℕ))) → rs ≡ r ∷ [] → length (line_text r) ≤ 17 → 1095 ≤ length before
    → {p : ℕ} {out : List ℕ} → p ≡ length (line_text r) → out ≡ sets before 0 (line_text r) → Written before rs p out
unfolding rows_text flat_map
one_written before r rs single short room q e =
    let same : line_text r ++ [] ≡ line_text r = append-nil (line_text r) in
    let fits : length (line_text r) ≤ length before = omega arith in
    rw single
    (record {
      size = q ∙ ap length (sym same);
      text = e ∙ sets_overwritten before (line_text r) fits ∙ ap (λ (l : List ℕ). overwritten l before) (sym same);
    })

found_text : (m n : ℕ) (f : List ℕ) → rows_text (found_records m n f) ≡ line_text (first_record found_word m n) ++ rows_text (pair_records m f)
unfolding rows_text flat_map found_records
found_text m n f = refl

pub found_short : (m n : ℕ) (f : List ℕ) → m ≤ 120 → length (rows_text (found_records m n f)) ≤ 1095
found_short m n f h = omega (arith, simp length-append at (ap length (found_text m n f)), first_short found_word m n, pairs_short m f)

-- The record of a refused file is written.
pub refused_written : (before : List ℕ) (side number : ℕ) (r : Refusal) → number ≡ r.number → 1095 ≤ length before
    → {p : ℕ} {out : List ℕ} → p ≡ length (line_text (first_record refused_word side number)) → out ≡ sets before 0 (line_text (first_record refused_word side number))
    → Written before (refused_records side r) p out
unfolding refused_records
refused_written before side number r e room q w =
    one_written before (first_record refused_word side number) (refused_records side r) (rw e) (first_short refused_word side number) room q w

-- The records of a map that is found are written.
pub found_written : (before : List ℕ) (m n : ℕ) (f : List ℕ) {o₁ o₂ : List ℕ} {p₁ p₂ : ℕ} → length (rows_text (found_records m n f)) ≤ length before
    → p₁ ≡ length (line_text (first_record found_word m n)) → o₁ ≡ sets before 0 (line_text (first_record found_word m n))
    → p₂ ≡ p₁ + length (rows_text (pair_records m f)) → o₂ ≡ sets o₁ p₁ (rows_text (pair_records m f))
    → (p₂ ≡ length (rows_text (found_records m n f))) × (o₂ ≡ overwritten (rows_text (found_records m n f)) before)
found_written before m n f h q₁ e₁ q₂ e₂ =
    let line = line_text (first_record found_word m n) in
    let z : 0 + length line ≡ length line = omega arith in
    let w₁ = written (write_first before 0 (rows_text (found_records m n f))) line (rows_text (pair_records m f)) (found_text m n f) e₁ (q₁ ∙ sym z) in
    let w₂ = written w₁ (rows_text (pair_records m f)) [] (sym (append-nil (rows_text (pair_records m f)))) e₂ q₂ in
    let all = write_last w₂ refl in
    (let r = all.1 in omega arith, all.0 ∙ sets_overwritten before (rows_text (found_records m n f)) h)
