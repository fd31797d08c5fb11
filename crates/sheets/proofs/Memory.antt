-- Names in memory, one after another: judging them and writing their text, byte by byte and name by name. What is left to read decides.
-- Assumes nothing.
use mathlib.Core.Path.{◌≡◌, refl, ap, sym, ◌∙◌}
use mathlib.Core.Bool.{Bool, true, false, cond}
use mathlib.Core.List.{List, [], ◌∷◌, ◌++◌, flat_map}
use mathlib.Core.Option.{none, some}
use Prim.Native.Nat.{ℕ, suc, ◌+◌, ◌-◌, ◌*◌, ◌≤◌, ◌<◌}
use native.Mathlib.Omega.{arith}
use lib.Dec.{eqb}
use borrow.Author.Tests.{ne_eqb}
use lib.ListN.{length, get_or, take, drop, set, length-append, length-drop}
use lib.Seq.{sets, drop-drop}
use Rattle.semigroups.specs.Lists.{first_of}
use Rattle.semigroups.specs.InnerQuestions.{no}
use Rattle.semigroups.specs.Questions.{first_no}
use Rattle.semigroups.specs.Calls.{overwritten}
use Rattle.rfc4180.specs.Decimals.{numeral}
use Rattle.rfc4180.proofs.Decimals.{digits_few}
use Rattle.rfc4180.proofs.Writing.{Writing, write_first, write_length, write_room, write_next, write_last, sets_overwritten}
use Rattle.sheets.specs.Names.{is_name, needs_quotes, doubled, name_text, names_text_from, names_text, names_at}
use Rattle.sheets.specs.Questions.{names_questions}
use Rattle.sheets.proofs.Numbers.{name_is}
use Rattle.sheets.proofs.Questions.{Held, name_outside, no_name, next_name, name_held}
use Rattle.sheets.proofs.Cursor.{from_here, from_end}

-- ---- the text of a name

module _ (b : ℕ) (u : List ℕ) where
  pub doubled_quote : b ≡ 34 → doubled (b ∷ u) ≡ 34 ∷ 34 ∷ doubled u
  unfolding doubled flat_map
  doubled_quote e = rw e refl

  pub doubled_other : eqb b 34 ≡ false → doubled (b ∷ u) ≡ b ∷ doubled u
  unfolding doubled flat_map
  doubled_other e = rw e

pub nothing_doubled : doubled [] ≡ []
unfolding doubled flat_map
nothing_doubled = refl

pub unquoted : (s : List ℕ) → needs_quotes s ≡ false → name_text s ≡ s
unfolding name_text
unquoted s e = rw e

pub between_quotes : (s : List ℕ) → needs_quotes s ≡ true → name_text s ≡ (34 ∷ []) ++ (doubled s ++ (34 ∷ []))
unfolding name_text
between_quotes s e = rw e

pub quoted_length : (s : List ℕ) → needs_quotes s ≡ true → length (name_text s) ≡ 2 + length (doubled s)
quoted_length s e = ap length (between_quotes s e) ∙ simp length-append (omega arith)

doubled_short : (s : List ℕ) → length (doubled s) ≤ length s + length s
unfolding doubled flat_map
doubled_short [] = omega arith
doubled_short (b ∷ s) = go (doubled_short s) (eqb b 34)
  where
    go : length (doubled s) ≤ length s + length s → (x : Bool) → length (cond x (34 ∷ 34 ∷ []) (b ∷ []) ++ doubled s) ≤ suc (length s) + suc (length s)
    go ih true = omega arith
    go ih false = omega arith

pub name_text_short : (s : List ℕ) → length s ≤ 40 → length (name_text s) ≤ 82
name_text_short s h = go (needs_quotes s) refl
  where
    go : (b : Bool) → needs_quotes s ≡ b → length (name_text s) ≤ 82
    go true e = omega (arith, quoted_length s e, doubled_short s)
    go false e = omega (arith, ap length (unquoted s e))

-- ---- judging; k names are judged, and the next one begins at `start`

module _ (bytes lengths : List ℕ) where
  -- The names that are left, and with them the questions and the text that are left.
  abbrev names_left : ℕ → ℕ → List (List ℕ)
  names_left start k = names_at (drop start bytes) (drop k lengths)

  pub record JudgingNames (start k total : ℕ) : Type 0 where
    pub inside : start ≤ length bytes
    pub few : k ≤ length lengths
    pub refusal : first_no (names_questions 1 bytes lengths) ≡ first_no (names_questions (k + 1) (drop start bytes) (drop k lengths))
    pub size : total + length (names_text_from (k + 1) (names_left start k)) ≡ length (names_text (names_at bytes lengths))
    pub small : total ≤ k * 90

  pub judge_names_first : JudgingNames 0 0 0
  unfolding names_text
  judge_names_first = record { inside = omega arith; few = omega arith; refusal = refl; size = let z : length (names_text (names_at bytes lengths)) ≡ length (names_text_from 1 (names_at bytes lengths)) = refl in omega arith; small = omega arith }

  module _ (start k : ℕ) (h : k < length lengths) where
    abbrev n : ℕ
    n = get_or lengths k 0

    abbrev name : List ℕ
    name = take n (drop start bytes)

    lengths_apart : drop k lengths ≡ n ∷ drop (k + 1) lengths
    lengths_apart = from_here lengths k h

    after_name : drop n (drop start bytes) ≡ drop (start + n) bytes
    after_name = drop-drop n start bytes

    next_questions : first_no (names_questions (suc (k + 1)) (drop n (drop start bytes)) (drop (k + 1) lengths)) ≡ first_no (names_questions ((k + 1) + 1) (drop (start + n) bytes) (drop (k + 1) lengths))
    next_questions =
        let e : suc (k + 1) ≡ (k + 1) + 1 = omega arith in
        ap (λ (i : ℕ). first_no (names_questions i (drop n (drop start bytes)) (drop (k + 1) lengths))) e
        ∙ ap (λ (l : List ℕ). first_no (names_questions ((k + 1) + 1) l (drop (k + 1) lengths))) after_name

    text_apart : names_text_from (k + 1) (names_left start k) ≡ numeral (k + 1) ++ ((44 ∷ []) ++ (name_text name ++ ((13 ∷ 10 ∷ []) ++ names_text_from ((k + 1) + 1) (names_left (start + n) (k + 1)))))
    unfolding names_text_from names_at
    text_apart =
        let e : suc (k + 1) ≡ (k + 1) + 1 = omega arith in
        ap (λ (l : List ℕ). names_text_from (k + 1) (names_at (drop start bytes) l)) lengths_apart
        ∙ ap (λ (i : ℕ). numeral (k + 1) ++ (44 ∷ name_text name ++ (13 ∷ 10 ∷ names_text_from i (names_at (drop n (drop start bytes)) (drop (k + 1) lengths))))) e
        ∙ ap (λ (l : List ℕ). numeral (k + 1) ++ (44 ∷ name_text name ++ (13 ∷ 10 ∷ names_text_from ((k + 1) + 1) (names_at l (drop (k + 1) lengths))))) after_name

    left_length : length (drop start bytes) ≡ length bytes - start
    left_length = length-drop start bytes

    module _ (total : ℕ) (j : JudgingNames start k total) where
      questions_apart : first_no (names_questions 1 bytes lengths) ≡ first_no (names_questions (k + 1) (drop start bytes) (n ∷ drop (k + 1) lengths))
      questions_apart = j.refusal ∙ ap (λ (l : List ℕ). first_no (names_questions (k + 1) (drop start bytes) l)) lengths_apart

      pub judge_outside : length bytes - start < n → first_no (names_questions 1 bytes lengths) ≡ some (no 41 ((k + 1) ∷ []))
      judge_outside m = questions_apart ∙ name_outside (k + 1) (drop start bytes) n (drop (k + 1) lengths) (let e = left_length in omega arith)

      pub judge_no_name : n ≤ length bytes - start → is_name name ≡ false → first_no (names_questions 1 bytes lengths) ≡ some (no 41 ((k + 1) ∷ []))
      judge_no_name m e = questions_apart ∙ no_name (k + 1) (drop start bytes) n (drop (k + 1) lengths) (let z = left_length in omega arith) e

      pub judge_names_next : (added : ℕ) → n ≤ length bytes - start → is_name name ≡ true → added ≡ length (numeral (k + 1)) + length (name_text name) + 3 → JudgingNames (start + n) (k + 1) (total + added)
      judge_names_next added m e z =
          let i = j.inside in
          let s = j.size in
          let f = j.small in
          let d = digits_few (k + 1) in
          let short = (name_is name e).short in
          let text_short = name_text_short name short in
          let whole : length (names_text_from (k + 1) (names_left start k)) ≡ length (numeral (k + 1)) + (1 + (length (name_text name) + (2 + length (names_text_from ((k + 1) + 1) (names_left (start + n) (k + 1)))))) =
          ap length text_apart ∙ simp length-append (omega arith) in
          record {
            inside = omega arith;
            few = omega arith;
            refusal = questions_apart ∙ next_name (k + 1) (drop start bytes) n (drop (k + 1) lengths) (let y = left_length in omega arith) e ∙ next_questions;
            size = omega arith;
            small = omega arith;
          }

  pub judge_names_done : (start k total : ℕ) → JudgingNames start k total → length lengths ≤ k → (first_no (names_questions 1 bytes lengths) ≡ none) × (total ≡ length (names_text (names_at bytes lengths)))
  unfolding names_questions names_text_from names_at first_of
  judge_names_done start k total j h =
      let e = from_end lengths k h in
      let s = j.size in
      let z : length (names_text_from (k + 1) (names_left start k)) ≡ 0 = ap (λ (l : List ℕ). length (names_text_from (k + 1) (names_at (drop start bytes) l))) e in
      (j.refusal ∙ ap (λ (l : List ℕ). first_no (names_questions (k + 1) (drop start bytes) l)) e, omega arith)

  -- ---- writing; k names are written, up to `at`, and the next one begins at `start`

  pub record PuttingNames (before now : List ℕ) (start k at : ℕ) : Type 0 where
    pub inside : start ≤ length bytes
    pub few : k ≤ length lengths
    pub passed : first_no (names_questions (k + 1) (drop start bytes) (drop k lengths)) ≡ none
    pub text : Writing before 0 (names_text (names_at bytes lengths)) (names_text_from (k + 1) (names_left start k)) now at

  pub put_first : (before : List ℕ) → first_no (names_questions 1 bytes lengths) ≡ none → PuttingNames before before 0 0 0
  unfolding names_text
  put_first before h = record { inside = omega arith; few = omega arith; passed = h; text = write_first before 0 (names_text_from 1 (names_at bytes lengths)) }

  module _ {before now : List ℕ} {start k at : ℕ} (w : PuttingNames before now start k at) where
    pub put_length : length now ≡ length before
    put_length = write_length w.text

    module _ (h : k < length lengths) where
      held : Held (n start k h) (drop start bytes) × (first_no (names_questions (suc (k + 1)) (drop (n start k h) (drop start bytes)) (drop (k + 1) lengths)) ≡ none)
      held =
          name_held (k + 1) (drop start bytes) (n start k h) (drop (k + 1) lengths)
          (ap (λ (l : List ℕ). first_no (names_questions (k + 1) (drop start bytes) l)) (sym (lengths_apart start k h)) ∙ w.passed)

      pub put_inside : start + n start k h ≤ length bytes
      put_inside = let i = w.inside in let m = held.0.inside in let e = left_length start k h in omega arith

      -- There is room for the four pieces of a record.
      pub put_room : length (names_text (names_at bytes lengths)) ≤ length before
          → at + (length (numeral (k + 1)) + (1 + (length (name_text (name start k h)) + 2))) ≤ length now
      put_room r =
          let u = write_room w.text (omega arith) in
          let whole : length (names_text_from (k + 1) (names_left start k)) ≡ length (numeral (k + 1)) + (1 + (length (name_text (name start k h)) + (2 + length (names_text_from ((k + 1) + 1) (names_left (start + n start k h) (k + 1)))))) =
          ap length (text_apart start k h) ∙ simp length-append (omega arith) in
          omega arith

      pub put_next : (b1 b2 b3 : List ℕ) (a1 a2 a3 : ℕ)
          → b1 ≡ sets now at (numeral (k + 1)) → a1 ≡ at + length (numeral (k + 1))
          → b2 ≡ sets (set b1 a1 44) (a1 + 1) (name_text (name start k h)) → a2 ≡ (a1 + 1) + length (name_text (name start k h))
          → b3 ≡ sets b2 a2 (13 ∷ 10 ∷ []) → a3 ≡ a2 + 2
          → PuttingNames before b3 (start + n start k h) (k + 1) a3
      put_next b1 b2 b3 a1 a2 a3 e1 f1 e2 f2 e3 f3 =
          let s = name start k h in
          let rest = names_text_from ((k + 1) + 1) (names_left (start + n start k h) (k + 1)) in
          let w1 = write_next w.text (numeral (k + 1)) ((44 ∷ []) ++ (name_text s ++ ((13 ∷ 10 ∷ []) ++ rest))) (text_apart start k h) in
          let w1s : Writing before 0 (names_text (names_at bytes lengths)) ((44 ∷ []) ++ (name_text s ++ ((13 ∷ 10 ∷ []) ++ rest))) b1 a1 = rw (e1, f1) w1 in
          let w2 : Writing before 0 (names_text (names_at bytes lengths)) (name_text s ++ ((13 ∷ 10 ∷ []) ++ rest)) (set b1 a1 44) (a1 + 1) = write_next w1s (44 ∷ []) (name_text s ++ ((13 ∷ 10 ∷ []) ++ rest)) refl in
          let w3 = write_next w2 (name_text s) ((13 ∷ 10 ∷ []) ++ rest) refl in
          let w3s : Writing before 0 (names_text (names_at bytes lengths)) ((13 ∷ 10 ∷ []) ++ rest) b2 a2 = rw (e2, f2) w3 in
          let w4 = write_next w3s (13 ∷ 10 ∷ []) rest refl in
          let i = put_inside in
          record {
            inside = i;
            few = omega arith;
            passed = sym (next_questions start k h) ∙ held.1;
            text = rw (e3, f3) w4;
          }

    pub put_done : length lengths ≤ k → length (names_text (names_at bytes lengths)) ≤ length before → now ≡ overwritten (names_text (names_at bytes lengths)) before
    unfolding names_text_from names_at
    put_done h r =
        let e = from_end lengths k h in
        (write_last w.text (ap (λ (l : List ℕ). names_text_from (k + 1) (names_at (drop start bytes) l)) e)).0 ∙ sets_overwritten before (names_text (names_at bytes lengths)) r

-- ---- the text of a name, byte by byte

module _ (s : List ℕ) (i : ℕ) (h : i < length s) where
  here_is : drop i s ≡ get_or s i 0 ∷ drop (i + 1) s
  here_is = from_here s i h

  pub doubled_pair : get_or s i 0 ≡ 34 → doubled (drop i s) ≡ 34 ∷ 34 ∷ doubled (drop (i + 1) s)
  doubled_pair e = ap doubled here_is ∙ doubled_quote (get_or s i 0) (drop (i + 1) s) e

  pub doubled_single : (get_or s i 0 ≡ 34 → ⊥) → doubled (drop i s) ≡ get_or s i 0 ∷ doubled (drop (i + 1) s)
  doubled_single n = ap doubled here_is ∙ doubled_other (get_or s i 0) (drop (i + 1) s) (ne_eqb (get_or s i 0) 34 n)

module _ (s : List ℕ) (i : ℕ) (h : length s ≤ i) where
  pub doubled_end : doubled (drop i s) ≡ []
  doubled_end = ap doubled (from_end s i h) ∙ nothing_doubled

-- ---- a name in the text

module _ (before now name : List ℕ) (start at : ℕ) where
  pub put_unquoted : needs_quotes name ≡ false → at ≡ start + length name → now ≡ sets before start name
      → (at ≡ start + length (name_text name)) × (now ≡ sets before start (name_text name))
  put_unquoted e a b = let u = unquoted name e in (a ∙ ap (λ (l : List ℕ). start + length l) (sym u), b ∙ ap (sets before start) (sym u))

  pub put_quoted : needs_quotes name ≡ true → at ≡ (start + 1) + length (doubled name) → now ≡ sets (set before start 34) (start + 1) (doubled name)
      → (at + 1 ≡ start + length (name_text name)) × (set now at 34 ≡ sets before start (name_text name))
  put_quoted e a b =
      let w0 = write_first before start ((34 ∷ []) ++ (doubled name ++ (34 ∷ []))) in
      let w1 = write_next w0 (34 ∷ []) (doubled name ++ (34 ∷ [])) refl in
      let w2 = write_next w1 (doubled name) (34 ∷ []) refl in
      let w3 = write_next w2 (34 ∷ []) [] refl in
      let done = write_last w3 refl in
      let q = between_quotes name e in
      let l = quoted_length name e in
      (omega arith, rw (b, a) (done.0 ∙ ap (sets before start) (sym q)))
