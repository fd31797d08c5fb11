-- The records of the notes and of the totals as text: how long they are, what is left to write, and what stands in the buffer once it is written.
-- Assumes nothing.
use mathlib.Core.Path.{◌≡◌, refl, sym, ap, ◌∙◌}
use mathlib.Core.Bool.{Bool, true, false, cond}
use mathlib.Core.List.{List, [], ◌∷◌, ◌++◌, map, flat_map, append_assoc, append-nil}
use Prim.Native.Nat.{ℕ, zero, suc, ◌+◌, ◌-◌, ◌*◌, ◌≤◌, ◌<◌}
use native.Mathlib.Numerals.{add-one}
use native.Mathlib.Omega.{arith}
use lib.ListN.{length, length-append}
use lib.Seq.{sets}
use Rattle.semigroups.specs.Lists.{range, elements, keep}
use Rattle.semigroups.specs.Tables.{Element}
use Rattle.semigroups.specs.Calls.{overwritten}
use Rattle.rfc4180.specs.Decimals.{numeral}
use Rattle.rfc4180.specs.Records.{record_text, line_text, rows_text}
use Rattle.rfc4180.proofs.Decimals.{digits_few}
use Rattle.rfc4180.proofs.Writing.{Writing, write_first, write_room, write_last, sets_overwritten}
use Rattle.lines.proofs.Lines.{written}
use Rattle.lines.proofs.Records.{record_three, fields_length, line_more, line_short, line_written}
use Rattle.progress.specs.Classes.{Note, refused_by, in_class}
use Rattle.progress.specs.Held.{notes_from}
use Rattle.classification.specs.InnerHeld.{total_text}
use Rattle.progress.specs.Output.{class_word, note_record, is_in, note, names, lowest_files, members, total_record, note_records, total_records, notes_text, total_word}
use Rattle.progress.proofs.Wanted.{length_from}
use Rattle.classification.proofs.Held.{held, note_from_law, names_from}

-- The record of the class that file a names, with this number of members.
abbrev total_line : ℕ → ℕ → List (List ℕ)
total_line a total = total_word ∷ numeral a ∷ numeral total ∷ []

-- ---- a record

-- A record of four fields is one of three with a further field.
record_four : (a b c d : List ℕ) → record_text (a ∷ b ∷ c ∷ d ∷ []) ≡ record_text (a ∷ b ∷ c ∷ []) ++ (44 ∷ d)
record_four a b c d = four ∙ sym (ap (λ (l : List ℕ). l ++ (44 ∷ d)) (record_three a b c) ∙ append_assoc a ((44 ∷ b) ++ (44 ∷ c)) (44 ∷ d) ∙ ap (λ (l : List ℕ). a ++ l) (append_assoc (44 ∷ b) (44 ∷ c) (44 ∷ d)))
  where
    four : record_text (a ∷ b ∷ c ∷ d ∷ []) ≡ a ++ ((44 ∷ b) ++ ((44 ∷ c) ++ (44 ∷ d)))
    four = unfold record_text flat_map in ap (λ (l : List ℕ). a ++ ((44 ∷ b) ++ ((44 ∷ c) ++ l))) (append-nil (44 ∷ d))

pub class_more : (k n l : ℕ) → length (line_text (note_record k (in_class n l))) ≡ length (record_text (class_word ∷ numeral k ∷ numeral n ∷ [])) + length (numeral l) + 3
class_more k n l =
    let e = simp length-append at (ap length (record_four class_word (numeral k) (numeral n) (numeral l))) in
    omega (arith, line_more (note_record k (in_class n l)), e)

note_short : (k : ℕ) (x : Note) → length (line_text (note_record k x)) ≤ 19
note_short k (refused_by q) = omega (arith, line_short (114 ∷ 101 ∷ 102 ∷ 117 ∷ 115 ∷ 101 ∷ 100 ∷ []) k q)
note_short k (in_class n l) = omega (arith, class_more k n l, fields_length class_word k n, digits_few k, digits_few n, digits_few l)

-- The record of an accepted file is three fields, one more field, and the line break.
pub class_written : (before : List ℕ) (start k n l : ℕ) {o₁ o₂ o₃ : List ℕ} {p₁ p₂ p₃ : ℕ}
    → p₁ ≡ start + length (record_text (class_word ∷ numeral k ∷ numeral n ∷ [])) → o₁ ≡ sets before start (record_text (class_word ∷ numeral k ∷ numeral n ∷ []))
    → p₂ ≡ p₁ + length (44 ∷ numeral l) → o₂ ≡ sets o₁ p₁ (44 ∷ numeral l)
    → p₃ ≡ p₂ + 2 → o₃ ≡ sets o₂ p₂ (13 ∷ 10 ∷ [])
    → (p₃ ≡ start + length (line_text (note_record k (in_class n l)))) × (o₃ ≡ sets before start (line_text (note_record k (in_class n l))))
class_written before start k n l q₁ e₁ q₂ e₂ q₃ e₃ =
    let three = record_text (class_word ∷ numeral k ∷ numeral n ∷ []) in
    let whole = record_text (class_word ∷ numeral k ∷ numeral n ∷ numeral l ∷ []) in
    let w₁ = written (write_first before start whole) three (44 ∷ numeral l) (record_four class_word (numeral k) (numeral n) (numeral l)) e₁ q₁ in
    let w₂ = written w₁ (44 ∷ numeral l) [] (sym (append-nil (44 ∷ numeral l))) e₂ q₂ in
    let all = write_last w₂ refl in
    line_written before start (note_record k (in_class n l)) all.1 all.0 q₃ e₃

-- ---- the records of the files

module _ (notes : List Note) where
  -- The text of the records from file k on.
  unfoldable pub notes_left : ℕ → List ℕ
  notes_left k = rows_text (map (λ i. note_record i (note notes i)) (range k (length notes + 1 - k)))

  pub notes_first : rows_text (note_records notes) ≡ notes_left 1
  unfolding note_records notes_left elements
  notes_first = let e : length notes + 1 - 1 ≡ length notes = omega arith in rw e

  pub notes_step : (k : ℕ) → k ≤ length notes → notes_left k ≡ line_text (note_record k (note notes k)) ++ notes_left (k + 1)
  unfolding notes_left rows_text flat_map range
  notes_step k h =
      let e : length notes + 1 - k ≡ suc (length notes + 1 - suc k) = omega arith in
      rw (add-one k, e)

  pub notes_end : (k : ℕ) → length notes < k → notes_left k ≡ []
  unfolding notes_left rows_text flat_map range
  notes_end k h = let e : length notes + 1 - k ≡ 0 = omega arith in rw e

  some_notes : (i k : ℕ) → length (rows_text (map (λ j. note_record j (note notes j)) (range i k))) ≤ 19 * k
  unfolding rows_text flat_map range
  some_notes i zero = omega arith
  some_notes i (suc k) = let rest = some_notes (suc i) k in simp length-append (omega (arith, note_short i (note notes i)))

  pub notes_short : length (rows_text (note_records notes)) ≤ 19 * length notes
  unfolding note_records elements
  notes_short = some_notes 1 (length notes)

  -- ---- the totals

  -- The text of the totals from file a on.
  unfoldable pub totals_left : ℕ → List ℕ
  totals_left a = rows_text (map (total_record notes) (keep (names notes) (range a (length notes + 1 - a))))

  pub totals_first : rows_text (total_records notes) ≡ totals_left 1
  unfolding total_records lowest_files totals_left elements
  totals_first = let e : length notes + 1 - 1 ≡ length notes = omega arith in rw e

  total_rows : (a : ℕ) (b : Bool) → rows_text (map (total_record notes) (cond b (a ∷ keep (names notes) (range (suc a) (length notes + 1 - suc a))) (keep (names notes) (range (suc a) (length notes + 1 - suc a))))) ≡ cond b (line_text (total_record notes a)) [] ++ totals_left (suc a)
  unfolding totals_left rows_text flat_map
  total_rows a true = refl
  total_rows a false = refl

  first_row : (a : ℕ) → a ≤ length notes → totals_left a ≡ rows_text (map (total_record notes) (cond (names notes a) (a ∷ keep (names notes) (range (suc a) (length notes + 1 - suc a))) (keep (names notes) (range (suc a) (length notes + 1 - suc a)))))
  unfolding totals_left keep range
  first_row a h = let z : length notes + 1 - a ≡ suc (length notes + 1 - suc a) = omega arith in rw z

  pub totals_step : (a : ℕ) → a ≤ length notes → totals_left a ≡ total_text notes a ++ totals_left (a + 1)
  unfolding total_text
  totals_step a h = first_row a h ∙ total_rows a (names notes a) ∙ ap (λ (k : ℕ). cond (names notes a) (line_text (total_record notes a)) [] ++ totals_left k) (sym (add-one a))

  pub totals_end : (a : ℕ) → length notes < a → totals_left a ≡ []
  unfolding totals_left rows_text flat_map range keep
  totals_end a h = let e : length notes + 1 - a ≡ 0 = omega arith in rw e

  some_totals : (i k : ℕ) → length (rows_text (map (total_record notes) (keep (names notes) (range i k)))) ≤ 15 * k
  unfolding keep range
  some_totals i zero = unfold rows_text flat_map in omega arith
  some_totals i (suc k) = go (names notes i) (some_totals (suc i) k)
    where
      go : (b : Bool) → length (rows_text (map (total_record notes) (keep (names notes) (range (suc i) k)))) ≤ 15 * k
          → length (rows_text (map (total_record notes) (cond b (i ∷ keep (names notes) (range (suc i) k)) (keep (names notes) (range (suc i) k))))) ≤ 15 * suc k
      go true r = unfold rows_text flat_map total_record in simp length-append (omega (arith, line_short (116 ∷ 111 ∷ 116 ∷ 97 ∷ 108 ∷ []) i (members notes i)))
      go false r = omega arith

  pub totals_short : length (rows_text (total_records notes)) ≤ 15 * length notes
  unfolding total_records lowest_files elements
  totals_short = some_totals 1 (length notes)

  -- ---- the whole text

  rows_append : (r s : List (List (List ℕ))) → rows_text (r ++ s) ≡ rows_text r ++ rows_text s
  unfolding rows_text flat_map
  rows_append [] s = refl
  rows_append (x ∷ r) s = ap (λ (l : List ℕ). line_text x ++ l) (rows_append r s) ∙ sym (append_assoc (line_text x) (rows_text r) (rows_text s))

  whole_text : notes_text notes ≡ rows_text (note_records notes) ++ rows_text (total_records notes)
  unfolding notes_text
  whole_text = rows_append (note_records notes) (total_records notes)

  pub text_short : length (notes_text notes) ≤ 34 * length notes
  text_short = omega (arith, simp length-append at (ap length whole_text), notes_short, totals_short)

  pub text_written : (before : List ℕ) {o₁ o₂ : List ℕ} {p₁ p₂ : ℕ} → 34 * length notes ≤ length before
      → p₁ ≡ length (rows_text (note_records notes)) → o₁ ≡ sets before 0 (rows_text (note_records notes))
      → p₂ ≡ p₁ + length (rows_text (total_records notes)) → o₂ ≡ sets o₁ p₁ (rows_text (total_records notes))
      → (p₂ ≡ length (notes_text notes)) × (o₂ ≡ overwritten (notes_text notes) before)
  text_written before h q₁ e₁ q₂ e₂ =
      let first_part = rows_text (note_records notes) in
      let z : 0 + length first_part ≡ length first_part = omega arith in
      let w₁ = written (write_first before 0 (notes_text notes)) first_part (rows_text (total_records notes)) whole_text e₁ (q₁ ∙ sym z) in
      let w₂ = written w₁ (rows_text (total_records notes)) [] (sym (append-nil (rows_text (total_records notes)))) e₂ q₂ in
      let all = write_last w₂ refl in
      (let r = all.1 in omega arith, all.0 ∙ sets_overwritten before (notes_text notes) (let s = text_short in omega arith))

-- ---- what the loops write, from the arrays

module _ (orders numbers : List ℕ) (c : ℕ) where
  abbrev N : List Note
  N = notes_from orders numbers c

  pub notes_begun : (before : List ℕ) → Writing before 0 (rows_text (note_records N)) (notes_left N 1) before 0
  notes_begun before = rw (← notes_first N) (write_first before 0 (rows_text (note_records N)))

  note_text : (k : ℕ) → Element c k → notes_left N k ≡ line_text (note_record k (held orders numbers k)) ++ notes_left N (k + 1)
  note_text k h =
      let l = length_from orders numbers c in
      notes_step N k (omega arith) ∙ ap (λ (x : Note). line_text (note_record k x) ++ notes_left N (k + 1)) (note_from_law orders numbers c k h)

  pub notes_room : {before out : List ℕ} {place k : ℕ} → Element c k → 19 * c ≤ length before → Writing before 0 (rows_text (note_records N)) (notes_left N k) out place
      → place + length (line_text (note_record k (held orders numbers k))) ≤ length out
  notes_room {k = k} h b w =
      let l = length_from orders numbers c in
      let s = notes_short N in
      omega (arith, simp length-append at (ap length (note_text k h)), write_room w (omega arith))

  pub notes_next : {before out later : List ℕ} {place next k : ℕ} → Element c k → Writing before 0 (rows_text (note_records N)) (notes_left N k) out place
      → next ≡ place + length (line_text (note_record k (held orders numbers k))) → later ≡ sets out place (line_text (note_record k (held orders numbers k)))
      → Writing before 0 (rows_text (note_records N)) (notes_left N (k + 1)) later next
  notes_next {k = k} h w q e = written w (line_text (note_record k (held orders numbers k))) (notes_left N (k + 1)) (note_text k h) e q

  pub notes_done : {before out : List ℕ} {place k : ℕ} → c < k → Writing before 0 (rows_text (note_records N)) (notes_left N k) out place
      → record { answer : place ≡ length (rows_text (note_records N)); out : out ≡ sets before 0 (rows_text (note_records N)) }
  notes_done {k = k} h w = let l = length_from orders numbers c in let all = write_last w (notes_end N k (omega arith)) in record { answer = (let r = all.1 in omega arith); out = all.0 }

  pub totals_begun : (before : List ℕ) (start : ℕ) → Writing before start (rows_text (total_records N)) (totals_left N 1) before start
  totals_begun before start = rw (← totals_first N) (write_first before start (rows_text (total_records N)))

  total_text_law : (a : ℕ) → a ≤ c → totals_left N a ≡ total_text N a ++ totals_left N (a + 1)
  total_text_law a h = let l = length_from orders numbers c in totals_step N a (omega arith)

  pub totals_room : {before out : List ℕ} {start place a : ℕ} → a ≤ c → start + 15 * c ≤ length before → Writing before start (rows_text (total_records N)) (totals_left N a) out place
      → place + length (total_text N a) ≤ length out
  totals_room {a = a} h b w =
      let l = length_from orders numbers c in
      let s = totals_short N in
      omega (arith, simp length-append at (ap length (total_text_law a h)), write_room w (omega arith))

  pub totals_next : {before out later : List ℕ} {start place next a : ℕ} → a ≤ c → Writing before start (rows_text (total_records N)) (totals_left N a) out place
      → next ≡ place + length (total_text N a) → later ≡ sets out place (total_text N a) → Writing before start (rows_text (total_records N)) (totals_left N (a + 1)) later next
  totals_next {a = a} h w q e = written w (total_text N a) (totals_left N (a + 1)) (total_text_law a h) e q

  pub totals_done : {before out : List ℕ} {start place a : ℕ} → c < a → Writing before start (rows_text (total_records N)) (totals_left N a) out place
      → record { answer : place ≡ start + length (rows_text (total_records N)); out : out ≡ sets before start (rows_text (total_records N)) }
  totals_done {a = a} h w = let l = length_from orders numbers c in let all = write_last w (totals_end N a (omega arith)) in record { answer = all.1; out = all.0 }

  -- The text of the total of file a, if it names a class and if it does not.
  module _ (a : ℕ) (h : Element c a) where
    pub total_is : (total : ℕ) → is_in a (held orders numbers a) ≡ true → total ≡ members N a → line_text (total_line a total) ≡ total_text N a
    unfolding total_text total_record
    total_is total e q = ap (λ (k : ℕ). line_text (total_line a k)) q ∙ sym (ap (λ (b : Bool). cond b (line_text (total_line a (members N a))) []) (names_from orders numbers c a h ∙ e))

    pub total_none : is_in a (held orders numbers a) ≡ false → total_text N a ≡ []
    unfolding total_text
    total_none e = ap (λ (b : Bool). cond b (line_text (total_record N a)) []) (names_from orders numbers c a h ∙ e)

    -- What stands in the buffer once that text is written, and if there is none.
    module _ (before : List ℕ) (start : ℕ) where
      pub total_put : {line out : List ℕ} {p : ℕ} → line ≡ total_text N a → p ≡ start + length line → out ≡ sets before start line
          → record { answer : p ≡ start + length (total_text N a); out : out ≡ sets before start (total_text N a) }
      total_put e q w = record { answer = q ∙ ap (λ (t : List ℕ). start + length t) e; out = w ∙ ap (sets before start) e }

      pub total_kept : total_text N a ≡ [] → record { answer : start ≡ start + length (total_text N a); out : before ≡ sets before start (total_text N a) }
      total_kept e = record { answer = (let z : start ≡ start + 0 = omega arith in z ∙ ap (λ (t : List ℕ). start + length t) (sym e)); out = ap (sets before start) (sym e) }
