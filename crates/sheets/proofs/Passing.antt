-- The questions about loading and saving names pass exactly where what the call needs holds; a refusal changes no lent byte.
-- Assumes nothing.
use mathlib.Core.Path.{◌≡◌, refl, ap, ap₂, ◌∙◌}
use mathlib.Core.Bool.{true}
use mathlib.Core.Logic.{◌↔◌}
use mathlib.Core.List.{List, [], ◌∷◌, map, flatten, Memᴰ, head-eq_of_cons-eq, tail-eq_of_cons-eq}
use mathlib.Core.Option.{none, some-ne-none}
use Prim.Native.Nat.{ℕ, suc, ◌≤◌}
use native.Mathlib.Omega.{arith}
use lib.ListN.{length, drop, length-map, length-drop}
use Rattle.semigroups.specs.Lists.{range, elements, first_of, sum}
use Rattle.semigroups.specs.Questions.{first_no}
use Rattle.rfc4180.specs.Decimals.{numeral}
use Rattle.rfc4180.proofs.Every.{every_mem, mem_every}
use Rattle.sheets.specs.Grammar.{Row, sheet_rows}
use Rattle.sheets.specs.Readings.{Reading, passes, offends, rows_names, names_in}
use Rattle.sheets.specs.Names.{is_name, names_at}
use Rattle.sheets.specs.Questions.{rows_questions, load_names_refusal, names_questions, save_names_refusal}
use Rattle.sheets.specs.PassingLaws.{Name, LoadNamesPass, SaveNamesPass}
use Rattle.sheets.specs.Calls.{names_after, lengths_after, sheet_after}
use Rattle.sheets.specs.CallsLaws.{LoadKeeps, SaveKeeps}
use Rattle.sheets.proofs.Readings.{same_reading}
use Rattle.sheets.proofs.Numbers.{name_exactly}
use Rattle.sheets.proofs.Saving.{names_rows}
use Rattle.sheets.proofs.Questions.{Names, names_numbered, load_passes, LoadPassed, load_passed, name_held, next_name, save_passes, save_passed}

-- ---- names

names_exactly : (l : List (List ℕ)) → Names l ↔ ((s : List ℕ) → Memᴰ s l → Name s)
names_exactly l = (
  (λ h s m. (name_exactly s).0 (every_mem (λ s. is_name s ≡ true) l h s m)),
  λ h. mem_every (λ s. is_name s ≡ true) l (λ s m. (name_exactly s).1 (h s m)),
)

-- ---- numbers from k on

numbers_of : (k : ℕ) (l : List (List ℕ)) → map (λ (r : Row). r.number) (names_rows k l) ≡ map numeral (range k (length l))
unfolding names_rows range
numbers_of k [] = refl
numbers_of k (s ∷ l) = ap (λ (x : List (List ℕ)). numeral k ∷ x) (numbers_of (suc k) l)

rows_numbered : (k : ℕ) (rs : List Row) → map (λ (r : Row). r.number) rs ≡ map numeral (range k (length rs)) → rs ≡ names_rows k (rows_names rs)
unfolding names_rows rows_names range
rows_numbered k [] e = refl
rows_numbered k (r ∷ rs) e =
    ap₂ {C = List Row} (λ (n : List ℕ) (x : List Row). record { number = n; name = r.name } ∷ x) (head-eq_of_cons-eq e) (rows_numbered (suc k) rs (tail-eq_of_cons-eq e))

-- ---- loading

names_count : (rs : List Row) → length (rows_names rs) ≡ length rs
unfolding rows_names
names_count rs = length-map rs (λ (r : Row). r.name)

module _ {t : List ℕ} (nameRoom lengthRoom : ℕ) where
  what_passed : (w : Reading t) → LoadPassed w nameRoom lengthRoom → LoadNamesPass t nameRoom lengthRoom
  unfolding elements
  what_passed (passes p) h =
      let rs = sheet_rows p.sheet in
      let few = h.records.few in
      let count = names_count rs in
      let room = h.lengths_room in
      record {
        form = p;
        numbers =
            ap (map (λ (r : Row). r.number)) h.records.numbers ∙ numbers_of 1 (rows_names rs) ∙ ap (λ (k : ℕ). map numeral (range 1 k)) count;
        few = omega arith;
        names = (names_exactly (rows_names rs)).0 h.records.names;
        names_room = h.names_room;
        lengths_room = omega arith;
      }
  what_passed (offends k f o) h = absurd (some-ne-none (k ∷ []) h.form)

  passing : (w : Reading t) → LoadNamesPass t nameRoom lengthRoom → load_names_refusal w nameRoom lengthRoom ≡ none
  unfolding elements
  passing w h =
      let rs = sheet_rows h.form.sheet in
      let same = same_reading t w (passes h.form) in
      let count = names_count rs in
      let few = h.few in
      let room = h.lengths_room in
      let bytes = h.names_room in
      let numbered : first_no (rows_questions 1 rs) ≡ none =
      ap (λ (x : List Row). first_no (rows_questions 1 x)) (rows_numbered 1 rs h.numbers) ∙ names_numbered (rows_names rs) ((names_exactly (rows_names rs)).1 h.names) (omega arith) in
      let long : length (flatten (names_in w)) ≡ length (flatten (rows_names rs)) = ap (λ (x : List Row). length (flatten (rows_names x))) same.1 in
      let many : length (names_in w) ≡ length (rows_names rs) = ap (λ (x : List Row). length (rows_names x)) same.1 in
      load_passes w nameRoom lengthRoom same.0 (ap (λ (x : List Row). first_no (rows_questions 1 x)) same.1 ∙ numbered) (omega arith) (omega arith)

  pub load_names_pass : (w : Reading t) → (load_names_refusal w nameRoom lengthRoom ≡ none) ↔ LoadNamesPass t nameRoom lengthRoom
  load_names_pass w = ((λ e. what_passed w (load_passed w nameRoom lengthRoom e)), passing w)

-- ---- saving

names_held : (k : ℕ) (bytes lengths : List ℕ) → (first_no (names_questions k bytes lengths) ≡ none) ↔ ((sum (λ (n : ℕ). n) lengths ≤ length bytes) × Names (names_at bytes lengths))
unfolding names_questions first_of names_at sum
names_held k bytes [] = ((λ e. (omega arith, tt)), λ h. refl)
names_held k bytes (n ∷ ns) =
    let later = names_held (suc k) (drop n bytes) ns in
    let d = length-drop n bytes in (
      (λ e.
          let h = name_held k bytes n ns e in
          let inside = h.0.inside in
          let r = later.0 h.1 in
          let r0 = r.0 in
          (omega arith, (h.0.name, r.1))),
      λ h. let h0 = h.0 in next_name k bytes n ns (omega arith) h.1.0 ∙ later.1 (omega arith, h.1.1),
    )

pub save_names_pass : (bytes lengths : List ℕ) (room : ℕ) → (save_names_refusal bytes lengths room ≡ none) ↔ SaveNamesPass bytes lengths room
save_names_pass bytes lengths room =
    let held = names_held 1 bytes lengths in
    let named = names_exactly (names_at bytes lengths) in (
      (λ e. let p = save_passed bytes lengths room e in let h = held.0 p.names in record { count = p.count; inside = h.0; names = named.0 h.1; text_room = p.text }),
      λ h. save_passes bytes lengths room h.count (held.1 (h.inside, named.1 h.names)) h.text_room,
    )

-- ---- refused

pub load_keeps : LoadKeeps
unfolding names_after lengths_after
load_keeps t w names lengths r e = (rw e, rw e)

pub save_keeps : SaveKeeps
unfolding sheet_after
save_keeps names lengths text r e = rw e
