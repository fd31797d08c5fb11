-- What the questions about a record, a name and the buffers say, one by one, and what passing them shows.
-- Assumes nothing.
use mathlib.Core.Path.{◌≡◌, refl, ap, ◌∙◌}
use mathlib.Core.Bool.{Bool, true, false, ◌&&◌}
use mathlib.Core.List.{List, [], ◌∷◌, ◌++◌, flatten}
use mathlib.Core.Option.{none, some, or_else, some-ne-none}
use Prim.Native.Nat.{ℕ, suc, ◌+◌, ◌≤◌, ◌<◌}
use native.Mathlib.Omega.{arith}
use lib.Dec.{leb}
use lib.ListN.{length, take, drop}
use borrow.Author.Tests.{leb-true, le-leb, lt-leb}
use Rattle.semigroups.specs.Lists.{all, first_of, member}
use Rattle.semigroups.specs.Tables.{Element, is_element}
use Rattle.semigroups.specs.Questions.{Question, ask, seek, Refusal, first_no}
use Rattle.semigroups.specs.QuestionsLaws.{Passed, numbers}
use Rattle.semigroups.specs.InnerQuestions.{no}
use Rattle.semigroups.proofs.Booleans.{and_left, and_right}
use Rattle.semigroups.proofs.Lists.{is_element_law, element_is}
use Rattle.semigroups.proofs.Questions.{all_passed, ask_passed, failed_before, passed_before, both_passed, Listed, listed, listed_append}
use Rattle.rfc4180.specs.Decimals.{numeral}
use Rattle.rfc4180.specs.Every.{Every}
use Rattle.sheets.specs.Grammar.{Row}
use Rattle.sheets.specs.Readings.{Reading, offence, read_rows, rows_names, names_in}
use Rattle.sheets.specs.Names.{is_name, is_number, names_text, names_at}
use Rattle.sheets.specs.Questions.{place_unless, rows_questions, load_names_questions, load_names_refusal, names_questions, save_names_questions, save_names_refusal}
use Rattle.sheets.proofs.Numbers.{number_is, is_number_law}
use Rattle.sheets.proofs.Saving.{names_rows}

-- ---- one record

module _ (k : ℕ) (r : Row) (rs : List Row) where
  pub wrong_number : is_number k r.number ≡ false → first_no (rows_questions k (r ∷ rs)) ≡ some (no 42 (k ∷ []))
  unfolding rows_questions first_of or_else
  wrong_number e = rw e

  pub wrong_name : is_number k r.number ≡ true → is_name r.name ≡ false → first_no (rows_questions k (r ∷ rs)) ≡ some (no 41 (k ∷ []))
  unfolding rows_questions first_of or_else
  wrong_name e f = rw (e, f)

  pub next_record : is_number k r.number ≡ true → is_name r.name ≡ true → first_no (rows_questions k (r ∷ rs)) ≡ first_no (rows_questions (suc k) rs)
  unfolding rows_questions first_of or_else
  next_record e f = rw (e, f)

-- ---- all records

passed_unless : (b : Bool) (k : ℕ) → place_unless b k ≡ none → b ≡ true
passed_unless true k e = refl
passed_unless false k e = absurd (some-ne-none (k ∷ []) e)

-- Every entry is a name.
abbrev pub Names : List (List ℕ) → Type 0
Names l = Every (λ s. is_name s ≡ true) l

-- The records from place k on have the numbers from k on, at most 120, and names.
pub record Numbered (k : ℕ) (rs : List Row) : Type 0 where
  pub numbers : rs ≡ names_rows k (rows_names rs)
  pub names : Names (rows_names rs)
  pub few : k + length rs ≤ 121

row_same : (r : Row) (k : ℕ) → r.number ≡ numeral k → ◌≡◌ {A = Row} r (record { number = numeral k; name = r.name })
row_same r k e = λ i. record { number = e i; name = r.name }

rows_passed : (k : ℕ) (rs : List Row) → k ≤ 121 → Passed (rows_questions k rs) → Numbered k rs
unfolding rows_questions names_rows rows_names
rows_passed k [] l h = record { numbers = refl; names = tt; few = omega arith }
rows_passed k (r ∷ rs) l h =
    let number = number_is k r.number (passed_unless (is_number k r.number) k h.0) in
    let n0 = number.0 in
    let later = rows_passed (suc k) rs (omega arith) h.1.1 in
    let few = later.few in
    record {
      numbers = ap (λ (x : Row). x ∷ rs) (row_same r k number.1) ∙ ap (λ (x : List Row). record { number = numeral k; name = r.name } ∷ x) later.numbers;
      names = (passed_unless (is_name r.name) k h.1.0, later.names);
      few = omega arith;
    }

pub numbered : (rs : List Row) → first_no (rows_questions 1 rs) ≡ none → Numbered 1 rs
numbered rs e = rows_passed 1 rs (omega arith) ((all_passed (rows_questions 1 rs)).0 e)

rows_pass : (k : ℕ) (l : List (List ℕ)) → 1 ≤ k → Names l → k + length l ≤ 121 → Passed (rows_questions k (names_rows k l))
unfolding rows_questions names_rows
rows_pass k [] m h u = tt
rows_pass k (s ∷ l) m h u = (rw (is_number_law k m (omega arith)), (rw h.0, rows_pass (suc k) l (omega arith) h.1 (omega arith)))

pub names_numbered : (l : List (List ℕ)) → Names l → length l ≤ 120 → first_no (rows_questions 1 (names_rows 1 l)) ≡ none
names_numbered l h u = (all_passed (rows_questions 1 (names_rows 1 l))).1 (rows_pass 1 l (omega arith) h (omega arith))

-- ---- loading

module _ {t : List ℕ} (w : Reading t) (nameRoom lengthRoom : ℕ) where
  abbrev rooms : List Question
  rooms = ask 27 (leb (length (flatten (names_in w))) nameRoom) ∷ ask 27 (leb (length (names_in w)) lengthRoom) ∷ []

  pub form_refused : (k : ℕ) → offence w ≡ some (k ∷ []) → load_names_refusal w nameRoom lengthRoom ≡ some (no 40 (k ∷ []))
  unfolding load_names_refusal first_of or_else
  form_refused k e = rw e

  after_form : offence w ≡ none → load_names_refusal w nameRoom lengthRoom ≡ first_no (rows_questions 1 (read_rows w) ++ rooms)
  unfolding load_names_refusal first_of or_else
  after_form e = rw e

  pub rows_refused : (r : Refusal) → offence w ≡ none → first_no (rows_questions 1 (read_rows w)) ≡ some r → load_names_refusal w nameRoom lengthRoom ≡ some r
  rows_refused r e h = after_form e ∙ failed_before (rows_questions 1 (read_rows w)) rooms h

  after_rows : offence w ≡ none → first_no (rows_questions 1 (read_rows w)) ≡ none → load_names_refusal w nameRoom lengthRoom ≡ first_no rooms
  after_rows e h = after_form e ∙ passed_before (rows_questions 1 (read_rows w)) rooms h

  pub names_refused : offence w ≡ none → first_no (rows_questions 1 (read_rows w)) ≡ none → nameRoom < length (flatten (names_in w)) → load_names_refusal w nameRoom lengthRoom ≡ some (no 27 [])
  unfolding first_of or_else
  names_refused e h m = after_rows e h ∙ rw (lt-leb (length (flatten (names_in w))) nameRoom m)

  pub lengths_refused : offence w ≡ none → first_no (rows_questions 1 (read_rows w)) ≡ none → length (flatten (names_in w)) ≤ nameRoom → lengthRoom < length (names_in w)
      → load_names_refusal w nameRoom lengthRoom ≡ some (no 27 [])
  unfolding first_of or_else
  lengths_refused e h m u = after_rows e h ∙ rw (le-leb (length (flatten (names_in w))) nameRoom m, lt-leb (length (names_in w)) lengthRoom u)

  pub load_passes : offence w ≡ none → first_no (rows_questions 1 (read_rows w)) ≡ none → length (flatten (names_in w)) ≤ nameRoom → length (names_in w) ≤ lengthRoom
      → load_names_refusal w nameRoom lengthRoom ≡ none
  unfolding first_of or_else
  load_passes e h m u = after_rows e h ∙ rw (le-leb (length (flatten (names_in w))) nameRoom m, le-leb (length (names_in w)) lengthRoom u)

  -- What is known of a text if loading it is not refused.
  pub record LoadPassed : Type 0 where
    pub form : offence w ≡ none
    pub records : Numbered 1 (read_rows w)
    pub names_room : length (flatten (names_in w)) ≤ nameRoom
    pub lengths_room : length (names_in w) ≤ lengthRoom

  pub load_passed : load_names_refusal w nameRoom lengthRoom ≡ none → LoadPassed
  unfolding load_names_refusal
  load_passed h =
      let p = (all_passed (load_names_questions w nameRoom lengthRoom)).0 h in
      let q = both_passed (rows_questions 1 (read_rows w)) rooms ((all_passed (rows_questions 1 (read_rows w) ++ rooms)).1 p.1) in
      let r = (all_passed rooms).0 q.1 in
      record {
        form = p.0;
        records = numbered (read_rows w) q.0;
        names_room = leb-true (length (flatten (names_in w))) nameRoom (ask_passed 27 (leb (length (flatten (names_in w))) nameRoom) r.0);
        lengths_room = leb-true (length (names_in w)) lengthRoom (ask_passed 27 (leb (length (names_in w)) lengthRoom) r.1.0);
      }

-- ---- one name in memory

-- The bytes of the name lie in the buffer, and they are a name.
pub record Held (n : ℕ) (bytes : List ℕ) : Type 0 where
  pub inside : n ≤ length bytes
  pub name : is_name (take n bytes) ≡ true

module _ (k : ℕ) (bytes : List ℕ) (n : ℕ) (ns : List ℕ) where
  abbrev held : Bool
  held = leb n (length bytes) && is_name (take n bytes)

  pub name_outside : length bytes < n → first_no (names_questions k bytes (n ∷ ns)) ≡ some (no 41 (k ∷ []))
  unfolding names_questions first_of or_else
  name_outside h = rw (lt-leb n (length bytes) h)

  pub no_name : n ≤ length bytes → is_name (take n bytes) ≡ false → first_no (names_questions k bytes (n ∷ ns)) ≡ some (no 41 (k ∷ []))
  unfolding names_questions first_of or_else
  no_name h e = rw (le-leb n (length bytes) h, e)

  pub next_name : n ≤ length bytes → is_name (take n bytes) ≡ true → first_no (names_questions k bytes (n ∷ ns)) ≡ first_no (names_questions (suc k) (drop n bytes) ns)
  unfolding names_questions first_of or_else
  next_name h e = rw (le-leb n (length bytes) h, e)

  pub name_held : first_no (names_questions k bytes (n ∷ ns)) ≡ none → Held n bytes × (first_no (names_questions (suc k) (drop n bytes) ns) ≡ none)
  unfolding names_questions
  name_held e =
      let p = (all_passed (seek 41 (place_unless held k) ∷ names_questions (suc k) (drop n bytes) ns)).0 e in
      let h = passed_unless held k p.0 in (
        record { inside = leb-true n (length bytes) (and_left (leb n (length bytes)) (is_name (take n bytes)) h); name = and_right (leb n (length bytes)) (is_name (take n bytes)) h },
        (all_passed (names_questions (suc k) (drop n bytes) ns)).1 p.1,
      )

-- ---- saving

module _ (bytes lengths : List ℕ) (room : ℕ) where
  abbrev size : ℕ
  size = length (names_text (names_at bytes lengths))

  abbrev text_room : List Question
  text_room = ask 28 (leb size room) ∷ []

  pub count_refused : is_element 120 (length lengths) ≡ false → save_names_refusal bytes lengths room ≡ some (no 42 [])
  unfolding save_names_refusal first_of or_else
  count_refused e = rw e

  after_count : Element 120 (length lengths) → save_names_refusal bytes lengths room ≡ first_no (names_questions 1 bytes lengths ++ text_room)
  unfolding save_names_refusal first_of or_else
  after_count e = rw (element_is 120 (length lengths) e)

  pub name_refused : (r : Refusal) → Element 120 (length lengths) → first_no (names_questions 1 bytes lengths) ≡ some r → save_names_refusal bytes lengths room ≡ some r
  name_refused r e h = after_count e ∙ failed_before (names_questions 1 bytes lengths) text_room h

  after_names : Element 120 (length lengths) → first_no (names_questions 1 bytes lengths) ≡ none → save_names_refusal bytes lengths room ≡ first_no text_room
  after_names e h = after_count e ∙ passed_before (names_questions 1 bytes lengths) text_room h

  pub text_refused : Element 120 (length lengths) → first_no (names_questions 1 bytes lengths) ≡ none → room < size → save_names_refusal bytes lengths room ≡ some (no 28 [])
  unfolding first_of or_else
  text_refused e h m = after_names e h ∙ rw (lt-leb size room m)

  pub save_passes : Element 120 (length lengths) → first_no (names_questions 1 bytes lengths) ≡ none → size ≤ room → save_names_refusal bytes lengths room ≡ none
  unfolding first_of or_else
  save_passes e h m = after_names e h ∙ rw (le-leb size room m)

  -- What is known of names if saving them is not refused.
  pub record SavePassed : Type 0 where
    pub count : Element 120 (length lengths)
    pub names : first_no (names_questions 1 bytes lengths) ≡ none
    pub text : size ≤ room

  pub save_passed : save_names_refusal bytes lengths room ≡ none → SavePassed
  unfolding save_names_refusal
  save_passed h =
      let p = (all_passed (save_names_questions bytes lengths room)).0 h in
      let q = both_passed (names_questions 1 bytes lengths) text_room ((all_passed (names_questions 1 bytes lengths ++ text_room)).1 p.1) in
      record {
        count = is_element_law 120 (length lengths) (ask_passed 42 (is_element 120 (length lengths)) p.0);
        names = q.0;
        text = leb-true size room (ask_passed 28 (leb size room) ((all_passed text_room).0 q.1).0);
      }

-- ---- which numbers can come

module _ (ns : List ℕ) where
  rows_numbers : member 42 ns ≡ true → member 41 ns ≡ true → (k : ℕ) (rs : List Row) → all (λ n. member n ns) (numbers (rows_questions k rs)) ≡ true
  unfolding rows_questions all
  rows_numbers a b k [] = refl
  rows_numbers a b k (r ∷ rs) = rw (a, b) (rows_numbers a b (suc k) rs)

  names_numbers : member 41 ns ≡ true → (k : ℕ) (bytes lengths : List ℕ) → all (λ n. member n ns) (numbers (names_questions k bytes lengths)) ≡ true
  unfolding names_questions all
  names_numbers a k bytes [] = refl
  names_numbers a k bytes (n ∷ lengths) = rw a (names_numbers a (suc k) (drop n bytes) lengths)

-- Loading is refused only by questions 40, 42, 41 and 27.
pub load_names_listed : {t : List ℕ} (w : Reading t) (nameRoom lengthRoom : ℕ) → Listed (40 ∷ 42 ∷ 41 ∷ 27 ∷ []) (load_names_questions w nameRoom lengthRoom)
unfolding member all
load_names_listed w nameRoom lengthRoom =
    let ns : List ℕ = 40 ∷ 42 ∷ 41 ∷ 27 ∷ [] in
    listed_append ns (seek 40 (offence w) ∷ []) (rows_questions 1 (read_rows w) ++ rooms w nameRoom lengthRoom) (listed ns (seek 40 (offence w) ∷ []) refl)
    (listed_append ns (rows_questions 1 (read_rows w)) (rooms w nameRoom lengthRoom) (listed ns (rows_questions 1 (read_rows w)) (rows_numbers ns refl refl 1 (read_rows w))) (listed ns (rooms w nameRoom lengthRoom) refl))

-- Saving is refused only by questions 42, 41 and 28.
pub save_names_listed : (bytes lengths : List ℕ) (room : ℕ) → Listed (42 ∷ 41 ∷ 28 ∷ []) (save_names_questions bytes lengths room)
unfolding member all
save_names_listed bytes lengths room =
    let ns : List ℕ = 42 ∷ 41 ∷ 28 ∷ [] in
    let count = ask 42 (is_element 120 (length lengths)) ∷ [] in
    listed_append ns count (names_questions 1 bytes lengths ++ text_room bytes lengths room) (listed ns count refl)
    (listed_append ns (names_questions 1 bytes lengths) (text_room bytes lengths room) (listed ns (names_questions 1 bytes lengths) (names_numbers ns refl 1 bytes lengths)) (listed ns (text_room bytes lengths room) refl))
