-- All sheets with one text have the same values: these are the fields that the automaton gathers.
-- Assumes nothing.
use mathlib.Core.Path.{◌≡◌, refl, ap, sym, ◌∙◌}
use mathlib.Core.Bool.{Bool, true, false, cond}
use mathlib.Core.List.{List, [], ◌∷◌, ◌++◌, flat_map, append_assoc, map}
use Prim.Native.Nat.{ℕ, ◌≤◌}
use native.Mathlib.Omega.{arith}
use lib.Dec.{eqb}
use lib.ListN.{length, length-append}
use Rattle.rfc4180.specs.Records.{onto}
use Rattle.rfc4180.specs.Every.{Every}
use Rattle.sheets.specs.Grammar.{is_printable, is_text_data, is_quotable, Item, single, twice, Field, non_escaped, escaped, Entry, Sheet, ProperItem, ProperField, ProperEntry, ProperSheet, item_text, field_text, entry_text, entries_text, sheet_text, IsSheet, item_value, field_value, Row, entry_row, sheet_rows}
use Rattle.sheets.specs.InnerAutomaton.{Column, number_part, name_part, State, opening, bare, quoted, shut, cr, line, dead, after_field, bare_step, opening_step, state_after}
use Rattle.sheets.proofs.Bytes.{bare_quote, inside_quote}
use Rattle.sheets.proofs.Completeness.{opening_bare, bare_bare, quoted_inside, Ended, ended_opening, ended_bare, ended_shut, entries_some}

-- ---- the fields of a text

-- The fields from a byte on, if l are those after it: the byte belongs to the first of them, closes a field, or is a quote mark.
unfoldable opening_add : ℕ → List (List ℕ) → List (List ℕ)
opening_add b l = cond (eqb b 34) l (cond (is_text_data b) (onto b l) ([] ∷ l))

unfoldable add : State → ℕ → List (List ℕ) → List (List ℕ)
add (opening n) b l = opening_add b l
add (bare n) b l = cond (is_text_data b) (onto b l) ([] ∷ l)
add (quoted n) b l = cond (eqb b 34) l (onto b l)
add (shut n) b l = cond (eqb b 34) (onto b l) ([] ∷ l)
add cr b l = l
add line b l = opening_add b l
add dead b l = l

-- The fields at the end of the text: the one that is being read gets no more bytes.
unfoldable end_fields : State → List (List ℕ)
end_fields (opening n) = [] ∷ []
end_fields (bare n) = [] ∷ []
end_fields (quoted n) = [] ∷ []
end_fields (shut n) = [] ∷ []
end_fields cr = []
end_fields line = []
end_fields dead = []

unfoldable fields_from : State → List ℕ → List (List ℕ)
fields_from q [] = end_fields q
fields_from q (b ∷ t) = add q b (fields_from (state_after q b) t)

unfoldable paired : List (List ℕ) → List Row
paired [] = []
paired (a ∷ []) = []
paired (a ∷ b ∷ l) = record { number = a; name = b } ∷ paired l

-- The rows of a text, by the automaton.
unfoldable rows_of : List ℕ → List Row
rows_of t = paired (fields_from (opening number_part) t)

-- ---- a byte

fields_opening : (n : Column) (b : ℕ) (t : List ℕ) → is_text_data b ≡ true → fields_from (opening n) (b ∷ t) ≡ onto b (fields_from (bare n) t)
unfolding fields_from add opening_add
fields_opening n b t h = simp (opening_bare n b h, bare_quote b h, h)

fields_bare : (n : Column) (b : ℕ) (t : List ℕ) → is_text_data b ≡ true → fields_from (bare n) (b ∷ t) ≡ onto b (fields_from (bare n) t)
unfolding fields_from add
fields_bare n b t h = simp (bare_bare n b h, h)

fields_inside : (n : Column) (b : ℕ) (t : List ℕ) → is_quotable b ≡ true → fields_from (quoted n) (b ∷ t) ≡ onto b (fields_from (quoted n) t)
unfolding fields_from add
fields_inside n b t h = simp (quoted_inside n b h, inside_quote b h)

fields_twice : (n : Column) (t : List ℕ) → fields_from (quoted n) (34 ∷ 34 ∷ t) ≡ onto 34 (fields_from (quoted n) t)
unfolding fields_from add state_after
fields_twice n t = refl

-- ---- a field

-- The lists with these entries put in front of the first one.
onto_all : List ℕ → List (List ℕ) → List (List ℕ)
onto_all [] l = l
onto_all (b ∷ v) l = onto b (onto_all v l)

onto_all_law : (v : List ℕ) (l : List (List ℕ)) → onto_all v ([] ∷ l) ≡ v ∷ l
unfolding onto_all onto
onto_all_law [] l = refl
onto_all_law (b ∷ v) l = rw (onto_all_law v l)

all_bare : (n : Column) (s u : List ℕ) → Every (λ b. is_text_data b ≡ true) s → fields_from (bare n) (s ++ u) ≡ onto_all s (fields_from (bare n) u)
unfolding onto_all
all_bare n [] u h = refl
all_bare n (b ∷ s) u h = fields_bare n b (s ++ u) h.0 ∙ ap (onto b) (all_bare n s u h.1)

all_items : (n : Column) (i : List Item) (u : List ℕ) → Every ProperItem i → fields_from (quoted n) (flat_map item_text i ++ u) ≡ onto_all (map item_value i) (fields_from (quoted n) u)
unfolding onto_all item_value flat_map item_text
all_items n [] u h = refl
all_items n (single b ∷ i) u h = fields_inside n b (flat_map item_text i ++ u) h.0 ∙ ap (onto b) (all_items n i u h.1)
all_items n (twice ∷ i) u h = fields_twice n (flat_map item_text i ++ u) ∙ ap (onto 34) (all_items n i u h.1)

fields_shut : (n : Column) (u : List ℕ) → fields_from (quoted n) (34 ∷ u) ≡ fields_from (shut n) u
unfolding fields_from add state_after
fields_shut n u = refl

fields_quote : (n : Column) (u : List ℕ) → fields_from (opening n) (34 ∷ u) ≡ fields_from (quoted n) u
unfolding fields_from add state_after opening_add opening_step
fields_quote n u = refl

-- What follows a field is read alike from the three states after it.
field_rows : (n : Column) (f : Field) (u : List ℕ) (l : List (List ℕ)) → ProperField f → ((q : State) → Ended n q → fields_from q u ≡ [] ∷ l) → fields_from (opening n) (field_text f ++ u) ≡ field_value f ∷ l
unfolding field_text field_value onto_all
field_rows n (non_escaped []) u l h g = g (opening n) ended_opening
field_rows n (non_escaped (b ∷ s)) u l h g =
    fields_opening n b (s ++ u) h.0 ∙ ap (onto b) (all_bare n s u h.1 ∙ ap (onto_all s) (g (bare n) ended_bare)) ∙ onto_all_law (b ∷ s) l
field_rows n (escaped i) u l h g =
    ap (fields_from (opening n)) (append_assoc (34 ∷ flat_map item_text i) (34 ∷ []) u) ∙ fields_quote n (flat_map item_text i ++ 34 ∷ u)
    ∙ all_items n i (34 ∷ u) h ∙ ap (onto_all (map item_value i)) (fields_shut n u ∙ g (shut n) ended_shut) ∙ onto_all_law (map item_value i) l

-- ---- after a field

fields_comma : {q : State} → Ended number_part q → (u : List ℕ) → fields_from q (44 ∷ u) ≡ [] ∷ fields_from (opening name_part) u
unfolding fields_from add opening_add state_after opening_step bare_step after_field is_text_data is_printable
fields_comma ended_opening u = refl
fields_comma ended_bare u = refl
fields_comma ended_shut u = refl

fields_break : {q : State} → Ended name_part q → (u : List ℕ) → fields_from q (13 ∷ 10 ∷ u) ≡ [] ∷ fields_from line u
unfolding fields_from add opening_add state_after opening_step bare_step after_field is_text_data is_printable
fields_break ended_opening u = refl
fields_break ended_bare u = refl
fields_break ended_shut u = refl

fields_end : {q : State} → Ended name_part q → fields_from q [] ≡ [] ∷ []
unfolding fields_from end_fields
fields_end ended_opening = refl
fields_end ended_bare = refl
fields_end ended_shut = refl

fields_line : (t : List ℕ) → 1 ≤ length t → fields_from line t ≡ fields_from (opening number_part) t
unfolding fields_from add state_after
fields_line [] h = let w : ⊥ = omega arith in absurd w
fields_line (b ∷ t) h = refl

fields_last : {q : State} → Ended name_part q → (c : Bool) → fields_from q (cond c (13 ∷ 10 ∷ []) []) ≡ [] ∷ []
unfolding fields_from end_fields
fields_last h true = fields_break h []
fields_last h false = fields_end h

-- ---- records

entry_fields : (e : Entry) (u : List ℕ) (l : List (List ℕ)) → ProperEntry e → ((q : State) → Ended name_part q → fields_from q u ≡ [] ∷ l)
    → fields_from (opening number_part) (entry_text e ++ u) ≡ field_value e.number ∷ field_value e.name ∷ l
unfolding entry_text
entry_fields e u l h g =
    ap (fields_from (opening number_part)) (append_assoc (field_text e.number) (44 ∷ field_text e.name) u)
    ∙ field_rows number_part e.number (44 ∷ field_text e.name ++ u) (field_value e.name ∷ l) h.0
    (λ p q. fields_comma q (field_text e.name ++ u) ∙ ap (λ (k : List (List ℕ)). [] ∷ k) (field_rows name_part e.name u l h.1 g))

entries_rows : (e : Entry) (es : List Entry) (c : Bool) → ProperEntry e → Every ProperEntry es
    → paired (fields_from (opening number_part) (entries_text e es ++ cond c (13 ∷ 10 ∷ []) [])) ≡ map entry_row (e ∷ es)
unfolding paired entries_text entry_row
entries_rows e [] c p ps = ap paired (entry_fields e (cond c (13 ∷ 10 ∷ []) []) [] p (λ p q. fields_last q c))
entries_rows e (f ∷ fs) c p ps =
    let w : List ℕ = cond c (13 ∷ 10 ∷ []) [] in
    let v = entries_text f fs ++ w in
    let some : 1 ≤ length v = simp length-append (omega (arith, entries_some f fs)) in
    let r = fields_from (opening number_part) v in
    ap (λ (t : List ℕ). paired (fields_from (opening number_part) t)) (append_assoc (entry_text e) (13 ∷ 10 ∷ entries_text f fs) w)
    ∙ ap paired (entry_fields e (13 ∷ 10 ∷ v) r p (λ p q. fields_break q v ∙ ap (λ (k : List (List ℕ)). [] ∷ k) (fields_line v some)))
    ∙ ap (λ (k : List Row). entry_row e ∷ k) (entries_rows f fs c ps.0 ps.1)

sheet_rows_law : (s : Sheet) → ProperSheet s → rows_of (sheet_text s) ≡ sheet_rows s
unfolding rows_of sheet_text sheet_rows
sheet_rows_law s p = entries_rows s.first s.others s.closed p.0 p.1

-- The values of a text that passes question 40 are the same, whichever way it is taken apart.
pub same_rows : (t : List ℕ) (p q : IsSheet t) → sheet_rows p.sheet ≡ sheet_rows q.sheet
same_rows t p q = sym (rows_of_law p) ∙ rows_of_law q
  where
    rows_of_law : (p : IsSheet t) → rows_of t ≡ sheet_rows p.sheet
    rows_of_law p = ap rows_of p.text ∙ sheet_rows_law p.sheet p.proper
