-- A text that is accepted passes question 40. The idea: for each state, what may be left to read is put together from fields as they are written.
-- Assumes nothing.
use mathlib.Core.Path.{◌≡◌, refl, sym}
use mathlib.Core.Bool.{Bool, true, false, cond, true≢false}
use mathlib.Core.List.{List, [], ◌∷◌, ◌++◌, flat_map, append_assoc, append-nil}
use Prim.Native.Nat.{ℕ}
use lib.Dec.{eqb}
use borrow.Author.Tests.{eqb-true}
use Rattle.rfc4180.specs.Every.{Every}
use Rattle.sheets.specs.Grammar.{is_text_data, is_quotable, Item, single, twice, Field, non_escaped, escaped, Entry, Sheet, ProperItem, ProperField, item_text, field_text, entry_text, entries_text, sheet_text, IsSheet}
use Rattle.sheets.specs.InnerAutomaton.{Column, number_part, name_part, State, opening, bare, quoted, shut, cr, line, dead, after_field, bare_step, opening_step, state_after, accepting, run, accepts}

-- What may be left after CR LF: nothing, or a sheet.
pub data Line : List ℕ → Type 0 where
  no_more : Line []
  more : {t : List ℕ} → IsSheet t → Line t

-- What may be left after a field.
pub data Following : Column → List ℕ → Type 0 where
  end : Following name_part []
  break : {t : List ℕ} → Line t → Following name_part (13 ∷ 10 ∷ t)
  comma : (f : Field) {u : List ℕ} → ProperField f → Following name_part u → Following number_part (44 ∷ field_text f ++ u)

pub data Left : State → List ℕ → Type 0 where
  at_opening : {n : Column} (f : Field) {u : List ℕ} → ProperField f → Following n u → Left (opening n) (field_text f ++ u)
  in_bare : {n : Column} (s : List ℕ) {u : List ℕ} → Every (λ b. is_text_data b ≡ true) s → Following n u → Left (bare n) (s ++ u)
  in_quoted : {n : Column} (i : List Item) {u : List ℕ} → Every ProperItem i → Following n u → Left (quoted n) (flat_map item_text i ++ 34 ∷ u)
  at_shut : {n : Column} {u : List ℕ} → Following n u → Left (shut n) u
  at_twice : {n : Column} {t : List ℕ} → Left (quoted n) t → Left (shut n) (34 ∷ t)
  at_cr : {t : List ℕ} → Line t → Left cr (10 ∷ t)
  at_line : {t : List ℕ} → Line t → Left line t

-- ---- a record

one : Entry → Bool → Sheet
one e c = record { first = e; others = []; closed = c }

before : Entry → Sheet → Sheet
before e s = record { first = e; others = s.first ∷ s.others; closed = s.closed }

passes_record : (f g : Field) → ProperField f → ProperField g → (w : List ℕ) → Following name_part w → IsSheet (field_text f ++ (44 ∷ field_text g ++ w))
unfolding sheet_text entries_text entry_text one before
passes_record f g p q w end =
    let e : Entry = record { number = f; name = g } in
    record { sheet = one e false; proper = ((p, q), tt); text = simp (append_assoc, append-nil) }
passes_record f g p q w (break no_more) =
    let e : Entry = record { number = f; name = g } in
    record { sheet = one e true; proper = ((p, q), tt); text = simp append_assoc }
passes_record f g p q w (break (more {t = t} h)) =
    let e : Entry = record { number = f; name = g } in
    let x = h.text in
    record { sheet = before e h.sheet; proper = ((p, q), h.proper); text = rw x (simp append_assoc) }

pub opening_passes : {t : List ℕ} → Left (opening number_part) t → IsSheet t
opening_passes (at_opening f p (comma g {u = w} q h)) = passes_record f g p q w h

-- ---- one byte in front

open_quote : {n : Column} {t : List ℕ} → Left (quoted n) t → Left (opening n) (34 ∷ t)
unfolding field_text
open_quote (in_quoted i p h) = simp append_assoc at (at_opening (escaped i) p h)

open_bare : {n : Column} {t : List ℕ} (b : ℕ) → is_text_data b ≡ true → Left (bare n) t → Left (opening n) (b ∷ t)
unfolding field_text
open_bare b e (in_bare s p h) = at_opening (non_escaped (b ∷ s)) (e, p) h

more_bare : {n : Column} {t : List ℕ} (b : ℕ) → is_text_data b ≡ true → Left (bare n) t → Left (bare n) (b ∷ t)
more_bare b e (in_bare s p h) = in_bare (b ∷ s) (e, p) h

more_quoted : {n : Column} {t : List ℕ} (b : ℕ) → is_quotable b ≡ true → Left (quoted n) t → Left (quoted n) (b ∷ t)
unfolding flat_map item_text
more_quoted b e (in_quoted i p h) = in_quoted (single b ∷ i) (e, p) h

close_quote : {n : Column} {t : List ℕ} → Left (shut n) t → Left (quoted n) (34 ∷ t)
unfolding flat_map item_text
close_quote (at_shut h) = in_quoted [] tt h
close_quote (at_twice (in_quoted i p h)) = in_quoted (twice ∷ i) (tt, p) h

after_opening : {n : Column} {t : List ℕ} → Following n t → Left (opening n) t
unfolding field_text
after_opening h = at_opening (non_escaped []) tt h

after_bare : {n : Column} {t : List ℕ} → Following n t → Left (bare n) t
after_bare h = in_bare [] tt h

dead_left : {A : Type 0} {t : List ℕ} → Left dead t → A
dead_left l = elim l [ ]

comma_follows_law : {t : List ℕ} → Left (opening name_part) t → Following number_part (44 ∷ t)
comma_follows_law (at_opening f p h) = comma f p h

cr_follows : {t : List ℕ} → Left cr t → Following name_part (13 ∷ t)
cr_follows (at_cr l) = break l

after_cons : (n : Column) (b : ℕ) (t : List ℕ) → Left (after_field n b) t → Following n (b ∷ t)
unfolding after_field
after_cons number_part b t = go (eqb b 44) refl
  where
    go : (x : Bool) → eqb b 44 ≡ x → Left (cond x (opening name_part) dead) t → Following number_part (b ∷ t)
    go true e l = rw (eqb-true b 44 e) (comma_follows_law l)
    go false e l = dead_left l
after_cons name_part b t = go (eqb b 13) refl
  where
    go : (x : Bool) → eqb b 13 ≡ x → Left (cond x cr dead) t → Following name_part (b ∷ t)
    go true e l = rw (eqb-true b 13 e) (cr_follows l)
    go false e l = dead_left l

bare_cons : (n : Column) (b : ℕ) (t : List ℕ) → Left (bare_step n b) t → Left (bare n) (b ∷ t)
unfolding bare_step
bare_cons n b t = go (is_text_data b) refl
  where
    go : (x : Bool) → is_text_data b ≡ x → Left (cond x (bare n) (after_field n b)) t → Left (bare n) (b ∷ t)
    go true e l = more_bare b e l
    go false e l = after_bare (after_cons n b t l)

opening_cons : (n : Column) (b : ℕ) (t : List ℕ) → Left (opening_step n b) t → Left (opening n) (b ∷ t)
unfolding opening_step bare_step
opening_cons n b t = go (eqb b 34) (is_text_data b) refl refl
  where
    go : (x y : Bool) → eqb b 34 ≡ x → is_text_data b ≡ y → Left (cond x (quoted n) (cond y (bare n) (after_field n b))) t → Left (opening n) (b ∷ t)
    go true y e f l = rw (eqb-true b 34 e) (open_quote l)
    go false true e f l = open_bare b f l
    go false false e f l = after_opening (after_cons n b t l)

quoted_cons : (n : Column) (b : ℕ) (t : List ℕ) → Left (state_after (quoted n) b) t → Left (quoted n) (b ∷ t)
unfolding state_after
quoted_cons n b t = go (eqb b 34) (is_quotable b) refl refl
  where
    go : (x y : Bool) → eqb b 34 ≡ x → is_quotable b ≡ y → Left (cond x (shut n) (cond y (quoted n) dead)) t → Left (quoted n) (b ∷ t)
    go true y e f l = rw (eqb-true b 34 e) (close_quote l)
    go false true e f l = more_quoted b f l
    go false false e f l = dead_left l

shut_cons : (n : Column) (b : ℕ) (t : List ℕ) → Left (state_after (shut n) b) t → Left (shut n) (b ∷ t)
unfolding state_after
shut_cons n b t = go (eqb b 34) refl
  where
    go : (x : Bool) → eqb b 34 ≡ x → Left (cond x (quoted n) (after_field n b)) t → Left (shut n) (b ∷ t)
    go true e l = rw (eqb-true b 34 e) (at_twice l)
    go false e l = at_shut (after_cons n b t l)

line_of : {t : List ℕ} → Left line t → Line t
line_of (at_line l) = l

cr_cons : (b : ℕ) (t : List ℕ) → Left (state_after cr b) t → Left cr (b ∷ t)
unfolding state_after
cr_cons b t = go (eqb b 10) refl
  where
    go : (x : Bool) → eqb b 10 ≡ x → Left (cond x line dead) t → Left cr (b ∷ t)
    go true e l = rw (eqb-true b 10 e) (at_cr (line_of l))
    go false e l = dead_left l

left_cons : (q : State) (b : ℕ) (t : List ℕ) → Left (state_after q b) t → Left q (b ∷ t)
unfolding state_after
left_cons (opening n) b t l = opening_cons n b t l
left_cons (bare n) b t l = bare_cons n b t l
left_cons (quoted n) b t l = quoted_cons n b t l
left_cons (shut n) b t l = shut_cons n b t l
left_cons cr b t l = cr_cons b t l
left_cons line b t l = at_line (more (opening_passes (opening_cons number_part b t l)))
left_cons dead b t l = dead_left l

left_end : (q : State) → accepting q ≡ true → Left q []
unfolding accepting
left_end (opening number_part) h = absurd (true≢false (sym h))
left_end (opening name_part) h = after_opening end
left_end (bare number_part) h = absurd (true≢false (sym h))
left_end (bare name_part) h = after_bare end
left_end (quoted n) h = absurd (true≢false (sym h))
left_end (shut number_part) h = absurd (true≢false (sym h))
left_end (shut name_part) h = at_shut end
left_end cr h = absurd (true≢false (sym h))
left_end line h = at_line no_more
left_end dead h = absurd (true≢false (sym h))

left : (q : State) (t : List ℕ) → accepting (run q t) ≡ true → Left q t
unfolding run
left q [] h = left_end q h
left q (b ∷ t) h = left_cons q b t (left (state_after q b) t h)

-- A text that is accepted passes question 40.
pub accepted_passes : (t : List ℕ) → accepts t ≡ true → IsSheet t
unfolding accepts
accepted_passes t h = opening_passes (left (opening number_part) t h)
