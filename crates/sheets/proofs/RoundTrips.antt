-- Both round trips, stated at the calls: names saved load as the same names; a sheet that loads is, once saved, changed by no further round.
-- Assumes nothing.
use mathlib.Core.Path.{◌≡◌, refl, ap, sym, ◌∙◌}
use mathlib.Core.Bool.{Bool, true, false, cond}
use mathlib.Core.List.{List, [], ◌∷◌, ◌++◌, map, flatten, append_assoc, append-nil}
use mathlib.Core.Option.{Option, none, some-ne-none}
use Prim.Native.Nat.{ℕ, zero, suc, ◌+◌, ◌≤◌}
use native.Mathlib.Omega.{arith}
use lib.ListN.{length, take, drop, length-append, take-append-drop, length-map}
use lib.Seq.{take-append_seam, drop-append_seam, length-take-le, take_at}
use borrow.Author.Tests.{le-leb}
use Rattle.semigroups.specs.Lists.{sum}
use Rattle.semigroups.specs.Tables.{Element}
use Rattle.semigroups.specs.Questions.{Refusal, first_no}
use Rattle.semigroups.specs.QuestionsLaws.{Passed}
use Rattle.semigroups.specs.Calls.{Answer, gives, given_unless, overwritten, written_unless}
use Rattle.semigroups.proofs.Sums.{sum_map}
use Rattle.semigroups.proofs.Questions.{all_passed}
use Rattle.rfc4180.specs.Every.{Every}
use Rattle.rfc4180.specs.RoundsLaws.{given}
use Rattle.rfc4180.proofs.Writing.{overwritten_length, overwritten_twice}
use Rattle.rfc4180.proofs.RoundTrips.{given_passed}
use Rattle.sheets.specs.Grammar.{IsSheet, Sheet, Entry, Row, entries_text, sheet_text, sheet_rows, entry_row}
use Rattle.sheets.specs.Readings.{Reading, passes, offends, offence, read_rows, rows_names, names_in}
use Rattle.sheets.specs.ReadingsLaws.{Readable}
use Rattle.sheets.specs.Names.{names_text, names_at}
use Rattle.sheets.specs.Questions.{rows_questions, names_questions, load_names_refusal, save_names_refusal}
use Rattle.sheets.specs.Calls.{load_names_answer, names_after, lengths_after, save_names_answer, sheet_after}
use Rattle.sheets.specs.RoundsLaws.{NameBuffers, sheet_held, names_saved, name_round, name_rounds, SheetUnchanged, SavedNamesAreLoaded, LastBreakMayLack, SavedSheetStays, LoadedSheetStays}
use Rattle.sheets.proofs.Readings.{same_reading}
use Rattle.sheets.proofs.Numbers.{name_printable}
use Rattle.sheets.proofs.Saving.{Text, names_rows, saved_reading, names_of_rows}
use Rattle.sheets.proofs.Passing.{save_names_pass}
use Rattle.sheets.proofs.Questions.{Names, names_numbered, load_passes, LoadPassed, load_passed, name_held, save_passes, SavePassed, save_passed}

-- ---- names that can be kept

record Kept (l : List (List ℕ)) : Type 0 where
  pub names : Names l
  pub count : Element 120 (length l)

texts : (l : List (List ℕ)) → Names l → Every Text l
texts [] h = tt
texts (s ∷ l) h = (name_printable s h.0, texts l h.1)

-- ---- loading the text of names

saved_rows_in : (l : List (List ℕ)) → Kept l → (t : List ℕ) → t ≡ names_text l → (w : Reading t) → (offence w ≡ none) × (read_rows w ≡ names_rows 1 l)
saved_rows_in [] k t e w = let c = k.count in let z : ⊥ = omega arith in absurd z
saved_rows_in (s ∷ l) k t e w = let x = texts (s ∷ l) k.names in saved_reading t s l e x.0 x.1 w

module _ {t : List ℕ} (w : Reading t) (l : List (List ℕ)) (names lengths : List ℕ) (e : names_in w ≡ l) (h : load_names_refusal w (length names) (length lengths) ≡ none) where
  answer_is : load_names_answer w names lengths ≡ gives (length l)
  unfolding load_names_answer
  answer_is = ap (λ (q : Option Refusal). given_unless q (length (names_in w))) h ∙ ap {B = Answer ℕ} (λ (x : List (List ℕ)). gives (length x)) e

  names_are : names_after w names lengths ≡ overwritten (flatten l) names
  unfolding names_after
  names_are = ap (λ (q : Option Refusal). written_unless q (flatten (names_in w)) names) h ∙ ap (λ (x : List (List ℕ)). overwritten (flatten x) names) e

  lengths_are : lengths_after w names lengths ≡ overwritten (map length l) lengths
  unfolding lengths_after
  lengths_are = ap (λ (q : Option Refusal). written_unless q (map length (names_in w)) lengths) h ∙ ap (λ (x : List (List ℕ)). overwritten (map length x) lengths) e

record Loaded (l : List (List ℕ)) {t : List ℕ} (w : Reading t) (names lengths : List ℕ) : Type 0 where
  pub answer : load_names_answer w names lengths ≡ gives (length l)
  pub names_now : names_after w names lengths ≡ overwritten (flatten l) names
  pub lengths_now : lengths_after w names lengths ≡ overwritten (map length l) lengths

saved_loads : (l : List (List ℕ)) → Kept l → (t : List ℕ) → t ≡ names_text l → (names lengths : List ℕ) → length (flatten l) ≤ length names → length l ≤ length lengths
    → (w : Reading t) → Loaded l w names lengths
saved_loads l k t e names lengths m u w =
    let r = saved_rows_in l k t e w in
    let n : names_in w ≡ l = ap rows_names r.1 ∙ names_of_rows 1 l in
    let passed = ap (λ (rs : List Row). first_no (rows_questions 1 rs)) r.1 ∙ names_numbered l k.names k.count.1 in
    let bytes : length (flatten (names_in w)) ≡ length (flatten l) = ap (λ (x : List (List ℕ)). length (flatten x)) n in
    let count : length (names_in w) ≡ length l = ap length n in
    let h = load_passes w (length names) (length lengths) r.0 passed (omega arith) (omega arith) in
    record { answer = answer_is w l names lengths n h; names_now = names_are w l names lengths n h; lengths_now = lengths_are w l names lengths n h }

-- ---- saving names that stand one after another

names_at_law : (l : List (List ℕ)) (rest : List ℕ) → names_at (flatten l ++ rest) (map length l) ≡ l
unfolding names_at flatten
names_at_law [] rest = refl
names_at_law (s ∷ l) rest =
    rw (append_assoc s (flatten l) rest, take-append_seam s (flatten l ++ rest), drop-append_seam s (flatten l ++ rest), names_at_law l rest)

names_pass : (k : ℕ) (l : List (List ℕ)) (rest : List ℕ) → Names l → Passed (names_questions k (flatten l ++ rest) (map length l))
unfolding names_questions flatten
names_pass k [] rest h = tt
names_pass k (s ∷ l) rest h =
    let m : length s ≤ length (s ++ (flatten l ++ rest)) = simp length-append (omega arith) in
    rw (append_assoc s (flatten l) rest, take-append_seam s (flatten l ++ rest), drop-append_seam s (flatten l ++ rest))
    (rw (le-leb (length s) (length (s ++ (flatten l ++ rest))) m, h.0) refl, names_pass (suc k) l rest h.1)

memory_saves : (l : List (List ℕ)) → Kept l → (rest text : List ℕ) → length (names_text l) ≤ length text
    → (save_names_answer (flatten l ++ rest) (map length l) text ≡ gives (length (names_text l))) × (sheet_after (flatten l ++ rest) (map length l) text ≡ overwritten (names_text l) text)
unfolding save_names_answer sheet_after
memory_saves l k rest text r =
    let bytes = flatten l ++ rest in
    let lengths = map length l in
    let e = names_at_law l rest in
    let n : length lengths ≡ length l = length-map l length in
    let c = k.count in
    let size : length (names_text (names_at bytes lengths)) ≡ length (names_text l) = ap (λ (x : List (List ℕ)). length (names_text x)) e in
    let h = save_passes bytes lengths (length text) (omega arith) ((all_passed (names_questions 1 bytes lengths)).1 (names_pass 1 l rest k.names)) (omega arith) in (
      ap (λ (q : Option Refusal). given_unless q (length (names_text (names_at bytes lengths)))) h ∙ ap {B = Answer ℕ} gives size,
      ap (λ (q : Option Refusal). written_unless q (names_text (names_at bytes lengths)) text) h ∙ ap (λ (x : List (List ℕ)). overwritten (names_text x) text) e,
    )

-- ---- names saved load as the same names

length_flatten : (l : List (List ℕ)) → length (flatten l) ≡ sum length l
unfolding flatten sum
length_flatten [] = refl
length_flatten (s ∷ l) = length-append s (flatten l) ∙ ap (λ (k : ℕ). length s + k) (length_flatten l)

record InMemory (bytes lengths : List ℕ) : Type 0 where
  pub names : Names (names_at bytes lengths)
  pub sizes : map length (names_at bytes lengths) ≡ lengths
  pub rest : List ℕ
  pub whole : bytes ≡ flatten (names_at bytes lengths) ++ rest

in_memory : (k : ℕ) (bytes lengths : List ℕ) → first_no (names_questions k bytes lengths) ≡ none → InMemory bytes lengths
unfolding names_at flatten
in_memory k bytes [] h = record { names = tt; sizes = refl; rest = bytes; whole = refl }
in_memory k bytes (n ∷ ns) h =
    let held = name_held k bytes n ns h in
    let g : length (take n bytes) ≡ n = length-take-le n bytes held.0.inside in
    let r = in_memory (suc k) (drop n bytes) ns held.1 in
    record {
      names = (held.0.name, r.names);
      sizes = ap (λ (x : ℕ). x ∷ map length (names_at (drop n bytes) ns)) g ∙ ap (λ (l : List ℕ). n ∷ l) r.sizes;
      rest = r.rest;
      whole = sym (take-append-drop n bytes) ∙ ap (λ (l : List ℕ). take n bytes ++ l) r.whole ∙ sym (append_assoc (take n bytes) (flatten (names_at (drop n bytes) ns)) r.rest);
    }

kept : (names lengths : List ℕ) (room : ℕ) → SavePassed names lengths room → Kept (names_at names lengths)
kept names lengths room p =
    let m = in_memory 1 names lengths p.names in
    let e : length (names_at names lengths) ≡ length lengths = sym (length-map (names_at names lengths) length) ∙ ap length m.sizes in
    let c = p.count in
    record { names = m.names; count = omega arith }

saves : (names lengths text : List ℕ) → save_names_refusal names lengths (length text) ≡ none
    → (save_names_answer names lengths text ≡ gives (length (names_text (names_at names lengths)))) × (sheet_after names lengths text ≡ overwritten (names_text (names_at names lengths)) text)
unfolding save_names_answer sheet_after
saves names lengths text h =
    (ap (λ (q : Option Refusal). given_unless q (length (names_text (names_at names lengths)))) h, ap (λ (q : Option Refusal). written_unless q (names_text (names_at names lengths)) text) h)

pub saved_names_load : SavedNamesAreLoaded
saved_names_load names lengths text namesBuffer lengthsBuffer pass m u =
    let l = names_at names lengths in
    let h = (save_names_pass names lengths (length text)).1 pass in
    let p = save_passed names lengths (length text) h in
    let memory = in_memory 1 names lengths p.names in
    let g = saves names lengths text h in
    let size = length (names_text l) in
    let held : take size (sheet_after names lengths text) ≡ names_text l = ap (take size) g.1 ∙ take_at (names_text l) (drop size text) size refl in
    let e : length l ≡ length lengths = sym (length-map l length) ∙ ap length memory.sizes in
    let back = saved_loads l (kept names lengths (length text) p) (take size (sheet_after names lengths text)) held namesBuffer lengthsBuffer m (omega arith) in
    record {
      size = size;
      saved = g.0;
      bytes = flatten l;
      rest = memory.rest;
      whole = memory.whole;
      up_to_last = length_flatten l ∙ sym (sum_map (λ (n : ℕ). n) length l) ∙ ap (sum (λ (n : ℕ). n)) memory.sizes;
      loaded = record {
        count = λ w. (back w).answer ∙ ap {B = Answer ℕ} gives e;
        names_same = λ w. (back w).names_now;
        lengths_same = λ w. (back w).lengths_now ∙ ap (λ (x : List ℕ). overwritten x lengthsBuffer) memory.sizes;
      };
    }

-- ---- again and again

-- The sheet of these names stands in the text buffer, which was `before`, and the other buffers have room for them.
record Settled (l : List (List ℕ)) (before : List ℕ) (b : NameBuffers) : Type 0 where
  pub text : b.text ≡ overwritten (names_text l) before
  pub size : b.size ≡ length (names_text l)
  pub names_room : length (flatten l) ≤ length b.names
  pub lengths_room : length l ≤ length b.lengths

module _ (l : List (List ℕ)) (k : Kept l) where
  -- A round from a sheet that loads as these names leaves the sheet of these names.
  round_settles : (b : NameBuffers) (w : Reading (sheet_held b)) → Loaded l w b.names b.lengths → length (flatten l) ≤ length b.names → length l ≤ length b.lengths
      → length (names_text l) ≤ length b.text → Settled l b.text (name_round b w)
  unfolding name_round names_saved
  round_settles b w back m u r =
      let size : given (load_names_answer w b.names b.lengths) ≡ length l = ap given back.answer in
      let sizes : take (given (load_names_answer w b.names b.lengths)) (lengths_after w b.names b.lengths) ≡ map length l =
      ap (λ (i : ℕ). take i (lengths_after w b.names b.lengths)) size ∙ ap (take (length l)) back.lengths_now
      ∙ take_at (map length l) (drop (length (map length l)) b.lengths) (length l) (length-map l length) in
      let rest = drop (length (flatten l)) b.names in
      let s = memory_saves l k rest b.text r in
      let n : length (map length l) ≡ length l = length-map l length in
      record {
        text = rw (sizes, back.names_now) s.1;
        size = rw (sizes, back.names_now) (ap given s.0);
        names_room = rw (back.names_now, overwritten_length (flatten l) b.names m) m;
        lengths_room = rw (back.lengths_now, overwritten_length (map length l) b.lengths (omega arith)) u;
      }

  module _ (before : List ℕ) (r : length (names_text l) ≤ length before) where
    held_is : (b : NameBuffers) → Settled l before b → sheet_held b ≡ names_text l
    held_is b s = ap (take b.size) s.text ∙ take_at (names_text l) (drop (length (names_text l)) before) b.size (sym s.size)

    settled_round : (b : NameBuffers) (w : Reading (sheet_held b)) → Settled l before b → Settled l before (name_round b w)
    settled_round b w s =
        let long = overwritten_length (names_text l) before r in
        let z : length b.text ≡ length before = ap length s.text ∙ long in
        let back = saved_loads l k (sheet_held b) (held_is b s) b.names b.lengths s.names_room s.lengths_room w in
        let next = round_settles b w back s.names_room s.lengths_room (omega arith) in
        record {
          text = next.text ∙ ap (overwritten (names_text l)) s.text ∙ overwritten_twice (names_text l) before;
          size = next.size;
          names_room = next.names_room;
          lengths_room = next.lengths_room;
        }

    settled_rounds : (read : Readable) (b : NameBuffers) → Settled l before b → (n : ℕ) → Settled l before (name_rounds read n b)
    unfolding name_rounds
    settled_rounds read b s zero = s
    settled_rounds read b s (suc n) = let d = name_rounds read n b in settled_round d (read (sheet_held d)) (settled_rounds read b s n)

    unchanged : (first b : NameBuffers) → Settled l before first → Settled l before b → SheetUnchanged first b
    unchanged first b s u = record { text = u.text ∙ sym s.text; size = u.size ∙ sym s.size }

    -- If the names already stand in their buffers, a round changes no byte of any buffer.
    module _ (read : Readable) (b : NameBuffers) (s : Settled l before b) (names lengths : List ℕ) (ns : b.names ≡ overwritten (flatten l) names) (ls : b.lengths ≡ overwritten (map length l) lengths) where
      round_same : name_round b (read (sheet_held b)) ≡ b
      unfolding name_round names_saved
      round_same =
          let w = read (sheet_held b) in
          let back = saved_loads l k (sheet_held b) (held_is b s) b.names b.lengths s.names_room s.lengths_room w in
          let same = unchanged b (name_round b w) s (settled_round b w s) in
          let n : names_after w b.names b.lengths ≡ b.names = back.names_now ∙ ap (overwritten (flatten l)) ns ∙ overwritten_twice (flatten l) names ∙ sym ns in
          let m : lengths_after w b.names b.lengths ≡ b.lengths = back.lengths_now ∙ ap (overwritten (map length l)) ls ∙ overwritten_twice (map length l) lengths ∙ sym ls in
          λ i. record { text = same.text i; size = same.size i; names = n i; lengths = m i }

      rounds_same : (n : ℕ) → name_rounds read n b ≡ b
      unfolding name_rounds
      rounds_same zero = refl
      rounds_same (suc n) = ap (λ (c : NameBuffers). name_round c (read (sheet_held c))) (rounds_same n) ∙ round_same

pub saved_unchanged : SavedSheetStays
unfolding names_saved
saved_unchanged read names lengths b pass m u n =
    let l = names_at names lengths in
    let h = (save_names_pass names lengths (length b.text)).1 pass in
    let p = save_passed names lengths (length b.text) h in
    let memory = in_memory 1 names lengths p.names in
    let e : length l ≡ length lengths = sym (length-map l length) ∙ ap length memory.sizes in
    let g = saves names lengths b.text h in
    let first : Settled l b.text (names_saved names lengths b) = record { text = g.1; size = ap given g.0; names_room = m; lengths_room = omega arith } in
    let k = kept names lengths (length b.text) p in
    unchanged l k b.text p.text (names_saved names lengths b) (name_rounds read n (names_saved names lengths b)) first
    (settled_rounds l k b.text p.text read (names_saved names lengths b) first n)

-- ---- a sheet that loads

some_rows : (e : Entry) (es : List Entry) → 1 ≤ length (map entry_row (e ∷ es))
some_rows e [] = omega arith
some_rows e (f ∷ fs) = omega arith

count_of : {t : List ℕ} (w : Reading t) (nameRoom lengthRoom : ℕ) → LoadPassed w nameRoom lengthRoom → Element 120 (length (names_in w))
unfolding rows_names sheet_rows
count_of (passes s) nameRoom lengthRoom p =
    let few = p.records.few in
    let e = length-map (sheet_rows s.sheet) (λ (r : Row). r.name) in
    let one = some_rows s.sheet.first s.sheet.others in
    (omega arith, omega arith)
count_of (offends j f o) nameRoom lengthRoom p = absurd (some-ne-none (j ∷ []) p.form)

-- The rounds can be counted from the first one: one round, then n more.
rounds_first : (read : Readable) (n : ℕ) (b : NameBuffers) → name_rounds read (suc n) b ≡ name_rounds read n (name_round b (read (sheet_held b)))
unfolding name_rounds
rounds_first read zero b = refl
rounds_first read (suc n) b = ap (λ (c : NameBuffers). name_round c (read (sheet_held c))) (rounds_first read n b)

pub loaded_unchanged : LoadedSheetStays
unfolding load_names_answer name_round names_saved
loaded_unchanged read b count h r n =
    let w = read (sheet_held b) in
    let l = names_in w in
    let none_refused = (given_passed (load_names_refusal w (length b.names) (length b.lengths)) (length l) count h).0 in
    let p = load_passed w (length b.names) (length b.lengths) none_refused in
    let k : Kept l = record { names = p.records.names; count = count_of w (length b.names) (length b.lengths) p } in
    let back : Loaded l w b.names b.lengths =
    record {
      answer = answer_is w l b.names b.lengths refl none_refused;
      names_now = names_are w l b.names b.lengths refl none_refused;
      lengths_now = lengths_are w l b.names b.lengths refl none_refused;
    } in
    let first = round_settles l k b w back p.names_room p.lengths_room r in
    rounds_first read n b ∙ rounds_same l k b.text r read (name_round b w) first b.names b.lengths back.names_now back.lengths_now n

-- ---- the last line break

closing : Sheet → Sheet
closing s = record { first = s.first; others = s.others; closed = true }

closed_passes : (t : List ℕ) (p : IsSheet t) → p.sheet.closed ≡ false → IsSheet (t ++ 13 ∷ 10 ∷ [])
unfolding sheet_text closing
closed_passes t p e =
    let s = p.sheet in
    let open-text : t ≡ entries_text s.first s.others = p.text ∙ ap (λ (c : Bool). entries_text s.first s.others ++ cond c (13 ∷ 10 ∷ []) []) e ∙ append-nil (entries_text s.first s.others) in
    record { sheet = closing s; proper = p.proper; text = ap (λ (l : List ℕ). l ++ 13 ∷ 10 ∷ []) open-text }

pub loads_closed : LastBreakMayLack
unfolding load_names_answer names_after lengths_after load_names_refusal sheet_rows closing closed_passes
loads_closed t p e names lengths =
    let says : (v : Reading t) (w : Reading (t ++ 13 ∷ 10 ∷ [])) → (offence v ≡ offence w) × (read_rows v ≡ read_rows w) =
    λ v w. (let a = same_reading t v (passes p) in let b = same_reading (t ++ 13 ∷ 10 ∷ []) (passes (closed_passes t p e)) w in (a.0 ∙ b.0, a.1 ∙ b.1)) in
    record {
      count = λ v w. rw ((says v w).0, (says v w).1) refl;
      names_same = λ v w. rw ((says v w).0, (says v w).1) refl;
      lengths_same = λ v w. rw ((says v w).0, (says v w).1) refl;
    }
