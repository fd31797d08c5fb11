-- Reading, record by record, a text that passes question 40: what is left to read decides. The idea: after each record nothing is left, or a sheet. Assumes
-- nothing.
use mathlib.Core.Path.{◌≡◌, refl, ap, sym, subst, ◌∙◌}
use mathlib.Core.Bool.{Bool, true, false, cond, true≢false}
use mathlib.Core.List.{List, [], ◌∷◌, ◌++◌, map, flatten, append_assoc}
use mathlib.Core.Option.{none, some}
use Prim.Native.Nat.{ℕ, suc, ◌+◌, ◌-◌, ◌*◌, ◌≤◌, ◌<◌}
use native.Mathlib.Omega.{arith}
use lib.Dec.{ltb}
use lib.ListN.{length, drop, set, length-append, length-drop, length-map}
use lib.Seq.{sets, drop-drop, drop-append_seam}
use borrow.Author.Tests.{lt-ltb, le-ltb}
use Rattle.semigroups.specs.Lists.{first_of}
use Rattle.semigroups.specs.InnerQuestions.{no}
use Rattle.semigroups.specs.Questions.{first_no}
use Rattle.semigroups.specs.Calls.{overwritten}
use Rattle.rfc4180.specs.Every.{Every}
use Rattle.rfc4180.proofs.Writing.{Writing, write_first, write_length, write_room, write_next, write_last, sets_overwritten}
use Rattle.sheets.specs.Grammar.{Entry, Sheet, ProperEntry, ProperSheet, field_text, entry_text, entries_text, sheet_text, IsSheet, Row, entry_row, sheet_rows}
use Rattle.sheets.specs.Readings.{rows_names}
use Rattle.sheets.specs.Names.{is_name, is_number}
use Rattle.sheets.specs.Questions.{rows_questions}
use Rattle.sheets.specs.InnerCursor.{value_at, size_at}
use Rattle.sheets.proofs.Completeness.{entries_some}
use Rattle.sheets.proofs.Numbers.{name_is, number_is}
use Rattle.sheets.proofs.Questions.{wrong_number, wrong_name, next_record, Names, numbered}
use Rattle.sheets.proofs.Cursor.{Tail, tail_end, tail_comma, tail_cr, FieldRead, field_read}

-- ---- the first record and what stands after it

sheet_of : Entry → List Entry → Bool → Sheet
sheet_of e es c = record { first = e; others = es; closed = c }

following_text : List Entry → Bool → List ℕ
following_text [] c = cond c (13 ∷ 10 ∷ []) []
following_text (f ∷ fs) c = 13 ∷ 10 ∷ sheet_text (sheet_of f fs c)

following_rows : List Entry → List Row
following_rows [] = []
following_rows (f ∷ fs) = map entry_row (f ∷ fs)

taken_apart : (e : Entry) (es : List Entry) (c : Bool) → entries_text e es ++ cond c (13 ∷ 10 ∷ []) [] ≡ field_text e.number ++ (44 ∷ (field_text e.name ++ following_text es c))
unfolding entries_text entry_text following_text sheet_text sheet_of
taken_apart e [] c = append_assoc (field_text e.number) (44 ∷ field_text e.name) (cond c (13 ∷ 10 ∷ []) [])
taken_apart e (f ∷ fs) c = simp append_assoc

rows_apart : (e : Entry) (es : List Entry) → map entry_row (e ∷ es) ≡ entry_row e ∷ following_rows es
unfolding following_rows
rows_apart e [] = refl
rows_apart e (f ∷ fs) = refl

after_tail : (es : List Entry) (c : Bool) → Tail (following_text es c)
unfolding following_text
after_tail [] true = tail_cr (10 ∷ [])
after_tail [] false = tail_end
after_tail (f ∷ fs) c = tail_cr (10 ∷ sheet_text (sheet_of f fs c))

-- ---- places

past : (t : List ℕ) (at : ℕ) (x y : List ℕ) → drop at t ≡ x ++ y → drop (at + length x) t ≡ y
past t at x y h = sym (drop-drop (length x) at t) ∙ ap (drop (length x)) h ∙ drop-append_seam x y

within : (t : List ℕ) (at : ℕ) (x : List ℕ) → drop at t ≡ x → length t - at ≡ length x
within t at x h = sym (length-drop at t) ∙ ap length h

-- ---- what is left

-- Nothing is left to read, or a sheet with these rows.
pub data Rest (t : List ℕ) (at : ℕ) : Bool → List Row → Type 0 where
  no_more : Rest t at false []
  more : (s : Sheet) → ProperSheet s → drop at t ≡ sheet_text s → Rest t at true (sheet_rows s)

record SheetLeft (t : List ℕ) (at : ℕ) (rows : List Row) : Type 0 where
  pub sheet : Sheet
  pub proper : ProperSheet sheet
  pub here : drop at t ≡ sheet_text sheet
  pub same : rows ≡ sheet_rows sheet

sheet_left : {t : List ℕ} {at : ℕ} {b : Bool} {rows : List Row} → Rest t at b rows → b ≡ true → SheetLeft t at rows
sheet_left no_more e = absurd (true≢false (sym e))
sheet_left (more s p h) e = record { sheet = s; proper = p; here = h; same = refl }

none_left : {t : List ℕ} {at : ℕ} {b : Bool} {rows : List Row} → Rest t at b rows → b ≡ false → rows ≡ []
none_left no_more e = refl
none_left (more s p h) e = absurd (true≢false e)

module _ (t : List ℕ) (at : ℕ) where
  -- The place after the first field of the record that begins here, and then the one after the second.
  abbrev pub comma_at : ℕ
  comma_at = at + size_at (drop at t)

  abbrev pub end_at : ℕ
  end_at = (comma_at + 1) + size_at (drop (comma_at + 1) t)

  -- The record that begins here, and what follows it.
  pub record Turn (rows : List Row) : Type 0 where
    pub row : Row
    pub others : List Row
    pub same : rows ≡ row ∷ others
    pub number : value_at (drop at t) ≡ row.number
    pub name : value_at (drop (comma_at + 1) t) ≡ row.name
    pub number_inside : at ≤ length t
    pub name_inside : comma_at + 1 ≤ length t
    pub end_inside : end_at ≤ length t
    pub rest : Rest t (end_at + 2) (ltb (end_at + 2) (length t)) others

  module _ (s : Sheet) (p : ProperSheet s) (here : drop at t ≡ sheet_text s) where
    abbrev following : List ℕ
    following = following_text s.others s.closed

    apart : drop at t ≡ field_text s.first.number ++ (44 ∷ (field_text s.first.name ++ following))
    unfolding sheet_text
    apart = here ∙ taken_apart s.first s.others s.closed

    number_read : FieldRead s.first.number (drop at t)
    number_read = subst (FieldRead s.first.number) (sym apart) (field_read s.first.number (44 ∷ (field_text s.first.name ++ following)) p.0.0 (tail_comma (field_text s.first.name ++ following)))

    after_number : drop comma_at t ≡ 44 ∷ (field_text s.first.name ++ following)
    after_number =
        ap (λ (n : ℕ). drop (at + n) t) number_read.size ∙ past t at (field_text s.first.number) (44 ∷ (field_text s.first.name ++ following)) apart

    after_comma : drop (comma_at + 1) t ≡ field_text s.first.name ++ following
    after_comma = past t comma_at (44 ∷ []) (field_text s.first.name ++ following) after_number

    name_read : FieldRead s.first.name (drop (comma_at + 1) t)
    name_read = subst (FieldRead s.first.name) (sym after_comma) (field_read s.first.name following p.0.1 (after_tail s.others s.closed))

    after_name : drop end_at t ≡ following
    after_name = ap (λ (n : ℕ). drop ((comma_at + 1) + n) t) name_read.size ∙ past t (comma_at + 1) (field_text s.first.name) following after_comma

    inside : (at ≤ length t) × (comma_at + 1 ≤ length t) × (end_at ≤ length t)
    inside =
        let first = within t at (field_text s.first.number ++ (44 ∷ (field_text s.first.name ++ following))) apart in
        let second = within t comma_at (44 ∷ (field_text s.first.name ++ following)) after_number in
        let third = within t (comma_at + 1) (field_text s.first.name ++ following) after_comma in
        let a = length-append (field_text s.first.number) (44 ∷ (field_text s.first.name ++ following)) in
        let b = length-append (field_text s.first.name) following in
        let n = name_read.size in
        (omega arith, omega arith, omega arith)

  rest_after : (end : ℕ) (es : List Entry) (c : Bool) → Every ProperEntry es → end ≤ length t → drop end t ≡ following_text es c → Rest t (end + 2) (ltb (end + 2) (length t)) (following_rows es)
  unfolding following_text following_rows sheet_text sheet_rows sheet_of
  rest_after end [] c p h e =
      subst (λ (b : Bool). Rest t (end + 2) b []) (sym (le-ltb (end + 2) (length t) (let w = within t end (cond c (13 ∷ 10 ∷ []) []) e in let u = short c in omega arith))) no_more
    where
      short : (c : Bool) → length {A = ℕ} (cond c (13 ∷ 10 ∷ []) []) ≤ 2
      short true = omega arith
      short false = omega arith
  rest_after end (f ∷ fs) c p h e =
      let s = sheet_of f fs c in
      let w = within t end (13 ∷ 10 ∷ sheet_text s) e in
      let u : 1 ≤ length (sheet_text s) = some_text in
      subst (λ (b : Bool). Rest t (end + 2) b (map entry_row (f ∷ fs))) (sym (lt-ltb (end + 2) (length t) (omega arith)))
      (more s proper_sheet (past t end (13 ∷ 10 ∷ []) (sheet_text s) e))
    where
      some_text : 1 ≤ length (sheet_text (sheet_of f fs c))
      some_text = simp length-append (omega (arith, entries_some f fs))

      proper_sheet : ProperSheet (sheet_of f fs c)
      proper_sheet = (p.0, p.1)

  turn_of : (rows : List Row) → SheetLeft t at rows → Turn rows
  unfolding sheet_rows entry_row
  turn_of rows l =
      let s = l.sheet in
      let p = l.proper in
      let h = l.here in
      let i = inside s p h in
      record {
        row = entry_row s.first;
        others = following_rows s.others;
        same = l.same ∙ rows_apart s.first s.others;
        number = (number_read s p h).value;
        name = (name_read s p h).value;
        number_inside = i.0;
        name_inside = i.1;
        end_inside = i.2;
        rest = rest_after end_at s.others s.closed p.1 i.2 (after_name s p h);
      }

  pub turn : {b : Bool} {rows : List Row} → Rest t at b rows → b ≡ true → Turn rows
  turn {rows = rows} r e = turn_of rows (sheet_left r e)

pub all_rows : (t : List ℕ) (p : IsSheet t) → Rest t 0 true (sheet_rows p.sheet)
all_rows t p = more p.sheet p.proper p.text

-- ---- judging; the record with place k begins at `at`

pub record Judging (t : List ℕ) (p : IsSheet t) (at k total : ℕ) (b : Bool) : Type 0 where
  pub rows : List Row
  pub rest : Rest t at b rows
  pub refusal : first_no (rows_questions 1 (sheet_rows p.sheet)) ≡ first_no (rows_questions k rows)
  pub count : k + length rows ≡ 1 + length (sheet_rows p.sheet)
  pub bytes : total + length (flatten (rows_names rows)) ≡ length (flatten (rows_names (sheet_rows p.sheet)))
  pub low : 1 ≤ k
  pub high : k ≤ 121
  pub few : total ≤ k * 40

pub judge_first : (t : List ℕ) (p : IsSheet t) → Judging t p 0 1 0 true
judge_first t p = record { rows = sheet_rows p.sheet; rest = all_rows t p; refusal = refl; count = refl; bytes = omega arith; low = omega arith; high = omega arith; few = omega arith }

module _ {t : List ℕ} {p : IsSheet t} {at k total : ℕ} {b : Bool} (j : Judging t p at k total b) where
  pub judge_turn : b ≡ true → Turn t at j.rows
  judge_turn e = turn t at j.rest e

  module _ (e : b ≡ true) where
    abbrev here : Turn t at j.rows
    here = judge_turn e

    left_is : first_no (rows_questions 1 (sheet_rows p.sheet)) ≡ first_no (rows_questions k (here.row ∷ here.others))
    left_is = j.refusal ∙ ap (λ (rs : List Row). first_no (rows_questions k rs)) here.same

    pub judge_number : is_number k (value_at (drop at t)) ≡ false → first_no (rows_questions 1 (sheet_rows p.sheet)) ≡ some (no 42 (k ∷ []))
    judge_number n = left_is ∙ wrong_number k here.row here.others (ap (is_number k) (sym here.number) ∙ n)

    module _ (n : is_number k (value_at (drop at t)) ≡ true) where
      abbrev right_number : is_number k here.row.number ≡ true
      right_number = ap (is_number k) (sym here.number) ∙ n

      pub judge_name : is_name (value_at (drop (comma_at t at + 1) t)) ≡ false → first_no (rows_questions 1 (sheet_rows p.sheet)) ≡ some (no 41 (k ∷ []))
      judge_name m = left_is ∙ wrong_name k here.row here.others right_number (ap is_name (sym here.name) ∙ m)

      pub judge_small : k ≤ 120
      judge_small = (number_is k (value_at (drop at t)) n).0

      pub judge_next : (size : ℕ) → is_name (value_at (drop (comma_at t at + 1) t)) ≡ true → size ≡ length (value_at (drop (comma_at t at + 1) t))
          → Judging t p (end_at t at + 2) (k + 1) (total + size) (ltb (end_at t at + 2) (length t))
      unfolding rows_names flatten
      judge_next size m z =
          let c = j.count in
          let y = j.bytes in
          let f = j.few in
          let u = judge_small in
          let s = (name_is (value_at (drop (comma_at t at + 1) t)) m).short in
          let rows_length : length j.rows ≡ suc (length here.others) = ap length here.same in
          let name_length : size ≡ length here.row.name = z ∙ ap length here.name in
          let names-length : length (flatten (rows_names j.rows)) ≡ length here.row.name + length (flatten (rows_names here.others)) =
          ap (λ (rs : List Row). length (flatten (rows_names rs))) here.same ∙ length-append here.row.name (flatten (rows_names here.others)) in
          record {
            rows = here.others;
            rest = here.rest;
            refusal = left_is ∙ next_record k here.row here.others right_number (ap is_name (sym here.name) ∙ m) ∙ ap (λ (i : ℕ). first_no (rows_questions i here.others)) (let q : suc k ≡ k + 1 = omega arith in q);
            count = omega arith;
            bytes = omega arith;
            low = omega arith;
            high = omega arith;
            few = omega arith;
          }

  pub judge_done : b ≡ false → (first_no (rows_questions 1 (sheet_rows p.sheet)) ≡ none) × (k - 1 ≡ length (sheet_rows p.sheet)) × (total ≡ length (flatten (rows_names (sheet_rows p.sheet))))
  unfolding rows_questions rows_names first_of flatten
  judge_done e =
      let n = none_left j.rest e in
      let c = j.count in
      let l = j.low in
      let y = j.bytes in
      let rows_length : length j.rows ≡ 0 = ap length n in
      let names-length : length (flatten (rows_names j.rows)) ≡ 0 = ap (λ (rs : List Row). length (flatten (rows_names rs))) n in
      (j.refusal ∙ ap (λ (rs : List Row). first_no (rows_questions k rs)) n, omega arith, omega arith)

-- ---- writing; k names are written, up to `start`, and the next record begins at `at`

pub record Filling (t : List ℕ) (p : IsSheet t) (names₀ lengths₀ names lengths : List ℕ) (at start k : ℕ) (b : Bool) : Type 0 where
  pub rows : List Row
  pub rest : Rest t at b rows
  pub valid : Names (rows_names rows)
  pub names_left_law : Writing names₀ 0 (flatten (rows_names (sheet_rows p.sheet))) (flatten (rows_names rows)) names start
  pub lengths_left : Writing lengths₀ 0 (map length (rows_names (sheet_rows p.sheet))) (map length (rows_names rows)) lengths k

pub fill_first : (t : List ℕ) (p : IsSheet t) (names lengths : List ℕ) → first_no (rows_questions 1 (sheet_rows p.sheet)) ≡ none → Filling t p names lengths names lengths 0 0 0 true
fill_first t p names lengths h =
    record {
      rows = sheet_rows p.sheet;
      rest = all_rows t p;
      valid = (numbered (sheet_rows p.sheet) h).names;
      names_left_law = write_first names 0 (flatten (rows_names (sheet_rows p.sheet)));
      lengths_left = write_first lengths 0 (map length (rows_names (sheet_rows p.sheet)));
    }

module _ {t : List ℕ} {p : IsSheet t} {names₀ lengths₀ names lengths : List ℕ} {at start k : ℕ} {b : Bool} (f : Filling t p names₀ lengths₀ names lengths at start k b) where
  pub fill_turn : b ≡ true → Turn t at f.rows
  fill_turn e = turn t at f.rest e

  pub fill_names_length : length names ≡ length names₀
  fill_names_length = write_length f.names_left_law

  pub fill_lengths_length : length lengths ≡ length lengths₀
  fill_lengths_length = write_length f.lengths_left

  module _ (e : b ≡ true) where
    abbrev this : Turn t at f.rows
    this = fill_turn e

    abbrev value : List ℕ
    value = value_at (drop (comma_at t at + 1) t)

    valid_rows : Names (rows_names (this.row ∷ this.others))
    valid_rows = subst (λ (rs : List Row). Names (rows_names rs)) this.same f.valid

    pub fill_short : length value ≤ 40
    unfolding rows_names
    fill_short = let s = (name_is this.row.name valid_rows.0).short in let z = ap length this.name in omega arith

    names_apart : flatten (rows_names f.rows) ≡ value ++ flatten (rows_names this.others)
    unfolding rows_names flatten
    names_apart = ap (λ (rs : List Row). flatten (rows_names rs)) this.same ∙ ap (λ (s : List ℕ). s ++ flatten (rows_names this.others)) (sym this.name)

    lengths_apart : map length (rows_names f.rows) ≡ length value ∷ map length (rows_names this.others)
    unfolding rows_names
    lengths_apart = ap (λ (rs : List Row). map length (rows_names rs)) this.same ∙ ap (λ (s : List ℕ). length s ∷ map length (rows_names this.others)) (sym this.name)

    pub fill_names_room : length (flatten (rows_names (sheet_rows p.sheet))) ≤ length names₀ → start + length value ≤ length names
    fill_names_room r =
        let w = write_room f.names_left_law (omega arith) in
        let z : length (flatten (rows_names f.rows)) ≡ length value + length (flatten (rows_names this.others)) = ap length names_apart ∙ length-append value (flatten (rows_names this.others)) in
        omega arith

    pub fill_lengths_room : length (sheet_rows p.sheet) ≤ length lengths₀ → k < length lengths
    unfolding rows_names
    fill_lengths_room r =
        let s = length-map (rows_names (sheet_rows p.sheet)) length in
        let s2 = length-map (sheet_rows p.sheet) (λ (row : Row). row.name) in
        let w = write_room f.lengths_left (omega arith) in
        let z : length (map length (rows_names f.rows)) ≡ suc (length (map length (rows_names this.others))) = ap length lengths_apart in
        omega arith

    pub fill_next : (bytes : List ℕ) (size next : ℕ) (after : List ℕ) → bytes ≡ value → size ≡ length value → after ≡ sets names start bytes → next ≡ start + length bytes
        → Filling t p names₀ lengths₀ after (set lengths k size) (end_at t at + 2) next (k + 1) (ltb (end_at t at + 2) (length t))
    unfolding rows_names
    fill_next bytes size next after y z a n =
        let w = write_next f.names_left_law bytes (flatten (rows_names this.others)) (names_apart ∙ ap (λ (s : List ℕ). s ++ flatten (rows_names this.others)) (sym y)) in
        record {
          rows = this.others;
          rest = this.rest;
          valid = valid_rows.1;
          names_left_law = rw (a, n) w;
          lengths_left = write_next f.lengths_left (size ∷ []) (map length (rows_names this.others)) (lengths_apart ∙ ap (λ (i : ℕ). i ∷ map length (rows_names this.others)) (sym z));
        }

  pub fill_done : b ≡ false → length (flatten (rows_names (sheet_rows p.sheet))) ≤ length names₀ → length (sheet_rows p.sheet) ≤ length lengths₀
      → (names ≡ overwritten (flatten (rows_names (sheet_rows p.sheet))) names₀) × (lengths ≡ overwritten (map length (rows_names (sheet_rows p.sheet))) lengths₀)
  unfolding rows_names flatten
  fill_done e r q =
      let n = none_left f.rest e in
      let s = length-map (rows_names (sheet_rows p.sheet)) length in
      let s2 = length-map (sheet_rows p.sheet) (λ (row : Row). row.name) in
      let a = (write_last f.names_left_law (ap (λ (rs : List Row). flatten (rows_names rs)) n)).0 in
      let c = (write_last f.lengths_left (ap (λ (rs : List Row). map length (rows_names rs)) n)).0 in
      (a ∙ sets_overwritten names₀ (flatten (rows_names (sheet_rows p.sheet))) r, c ∙ sets_overwritten lengths₀ (map length (rows_names (sheet_rows p.sheet))) (omega arith))
