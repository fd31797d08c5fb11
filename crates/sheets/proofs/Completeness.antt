-- A text that passes question 40 is accepted. The idea: after a field the reading is in one of three states, which no later byte tells apart. Assumes nothing.
use mathlib.Core.Path.{◌≡◌, refl, ap, sym, subst, ◌∙◌}
use mathlib.Core.Bool.{Bool, true, false, cond}
use mathlib.Core.List.{List, [], ◌∷◌, ◌++◌, flat_map}
use Prim.Native.Nat.{ℕ, ◌≤◌}
use native.Mathlib.Omega.{arith}
use lib.ListN.{length, length-append}
use Rattle.rfc4180.specs.Every.{Every}
use Rattle.sheets.specs.Grammar.{is_printable, is_text_data, is_quotable, Item, single, twice, Field, non_escaped, escaped, Entry, Sheet, ProperItem, ProperField, ProperEntry, ProperSheet, item_text, field_text, entry_text, entries_text, sheet_text, IsSheet}
use Rattle.sheets.specs.InnerAutomaton.{Column, number_part, name_part, State, opening, bare, quoted, shut, cr, line, after_field, bare_step, opening_step, state_after, accepting, run, accepts}
use Rattle.sheets.proofs.Bytes.{bare_quote, inside_quote}

pub run_append : (q : State) (s t : List ℕ) → run q (s ++ t) ≡ run (run q s) t
unfolding run
run_append q [] t = refl
run_append q (b ∷ s) t = run_append (state_after q b) s t

-- ---- a byte

pub opening_bare : (n : Column) (b : ℕ) → is_text_data b ≡ true → state_after (opening n) b ≡ bare n
unfolding state_after opening_step bare_step
opening_bare n b h = simp (bare_quote b h, h)

pub bare_bare : (n : Column) (b : ℕ) → is_text_data b ≡ true → state_after (bare n) b ≡ bare n
unfolding state_after bare_step
bare_bare n b h = simp h

pub quoted_inside : (n : Column) (b : ℕ) → is_quotable b ≡ true → state_after (quoted n) b ≡ quoted n
unfolding state_after
quoted_inside n b h = simp (inside_quote b h, h)

-- ---- a field

-- The three states in which the reading may be after a field.
pub data Ended (n : Column) : State → Type 0 where
  ended_opening : Ended n (opening n)
  ended_bare : Ended n (bare n)
  ended_shut : Ended n (shut n)

pub run_bare : (n : Column) (s : List ℕ) → Every (λ b. is_text_data b ≡ true) s → run (bare n) s ≡ bare n
unfolding run
run_bare n [] h = refl
run_bare n (b ∷ s) h = rw (bare_bare n b h.0) (run_bare n s h.1)

pub run_items : (n : Column) (i : List Item) → Every ProperItem i → run (quoted n) (flat_map item_text i) ≡ quoted n
unfolding run state_after flat_map item_text
run_items n [] h = refl
run_items n (single b ∷ i) h = rw (quoted_inside n b h.0) (run_items n i h.1)
run_items n (twice ∷ i) h = run_items n i h.1

run_non_escaped : (n : Column) (b : ℕ) (s : List ℕ) → is_text_data b ≡ true → Every (λ c. is_text_data c ≡ true) s → run (opening n) (b ∷ s) ≡ bare n
unfolding run
run_non_escaped n b s e h = ap (λ (q : State). run q s) (opening_bare n b e) ∙ run_bare n s h

run_escaped : (n : Column) (i : List Item) → Every ProperItem i → run (opening n) (34 ∷ flat_map item_text i ++ 34 ∷ []) ≡ shut n
unfolding run state_after opening_step
run_escaped n i h = run_append (quoted n) (flat_map item_text i) (34 ∷ []) ∙ ap (λ (q : State). state_after q 34) (run_items n i h)

pub ended_field : (n : Column) (f : Field) → ProperField f → Ended n (run (opening n) (field_text f))
unfolding run field_text
ended_field n (non_escaped []) h = ended_opening
ended_field n (non_escaped (b ∷ s)) h = subst (Ended n) (sym (run_non_escaped n b s h.0 h.1)) ended_bare
ended_field n (escaped i) h = subst (Ended n) (sym (run_escaped n i h)) ended_shut

-- ---- after a field

pub ended_comma : {q : State} → Ended number_part q → state_after q 44 ≡ opening name_part
unfolding state_after opening_step bare_step after_field is_text_data is_printable
ended_comma ended_opening = refl
ended_comma ended_bare = refl
ended_comma ended_shut = refl

pub ended_cr : {q : State} → Ended name_part q → state_after q 13 ≡ cr
unfolding state_after opening_step bare_step after_field is_text_data is_printable
ended_cr ended_opening = refl
ended_cr ended_bare = refl
ended_cr ended_shut = refl

ended_accepting : {q : State} → Ended name_part q → accepting q ≡ true
unfolding accepting
ended_accepting ended_opening = refl
ended_accepting ended_bare = refl
ended_accepting ended_shut = refl

-- ---- records

pub run_comma : {q : State} → Ended number_part q → (t : List ℕ) → run q (44 ∷ t) ≡ run (opening name_part) t
unfolding run
run_comma h t = ap (λ (p : State). run p t) (ended_comma h)

pub ended_entry : (e : Entry) → ProperEntry e → Ended name_part (run (opening number_part) (entry_text e))
unfolding entry_text
ended_entry e h =
    let f = ended_field number_part e.number h.0 in
    rw (run_append (opening number_part) (field_text e.number) (44 ∷ field_text e.name), run_comma f (field_text e.name)) (ended_field name_part e.name h.1)

pub entry_some : (e : Entry) → 1 ≤ length (entry_text e)
unfolding entry_text
entry_some e = simp length-append (omega arith)

pub entries_some : (e : Entry) (es : List Entry) → 1 ≤ length (entries_text e es)
unfolding entries_text
entries_some e [] = entry_some e
entries_some e (f ∷ fs) = simp length-append (omega arith)

run_line : (t : List ℕ) → 1 ≤ length t → run line t ≡ run (opening number_part) t
unfolding run state_after
run_line [] h = let w : ⊥ = omega arith in absurd w
run_line (b ∷ t) h = refl

pub run_break : {q : State} → Ended name_part q → (t : List ℕ) → run q (13 ∷ 10 ∷ t) ≡ run line t
unfolding run state_after
run_break h t = ap (λ (p : State). run (state_after p 10) t) (ended_cr h)

pub ended_entries : (e : Entry) (es : List Entry) → ProperEntry e → Every ProperEntry es → Ended name_part (run (opening number_part) (entries_text e es))
unfolding entries_text
ended_entries e [] p ps = ended_entry e p
ended_entries e (f ∷ fs) p ps =
    let h = ended_entry e p in
    rw (run_append (opening number_part) (entry_text e) (13 ∷ 10 ∷ entries_text f fs), run_break h (entries_text f fs), run_line (entries_text f fs) (entries_some f fs))
    (ended_entries f fs ps.0 ps.1)

sheet_accepted : (s : Sheet) → ProperSheet s → accepts (sheet_text s) ≡ true
unfolding accepts sheet_text run accepting
sheet_accepted s p =
    let h = ended_entries s.first s.others p.0 p.1 in
    ap accepting (run_append (opening number_part) (entries_text s.first s.others) (cond s.closed (13 ∷ 10 ∷ []) [])) ∙ go h s.closed
  where
    go : {q : State} → Ended name_part q → (c : Bool) → accepting (run q (cond c (13 ∷ 10 ∷ []) [])) ≡ true
    go h true = rw (run_break h []) refl
    go h false = ended_accepting h

-- A text that passes question 40 is accepted.
pub passes_accepted : (t : List ℕ) → IsSheet t → accepts t ≡ true
passes_accepted t h = ap accepts h.text ∙ sheet_accepted h.sheet h.proper
