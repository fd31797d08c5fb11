-- The field of digits at a place of a text, and questions 23 to 25.
-- Assumes nothing.
use mathlib.Core.Path.{◌≡◌, refl, ap, sym, ◌∙◌}
use mathlib.Core.Bool.{Bool, true, false, not, cond, and-false}
use mathlib.Core.List.{List, [], ◌∷◌, flat_map}
use mathlib.Core.Option.{none, some, or_else}
use Prim.Native.Nat.{ℕ, suc, ◌+◌, ◌*◌, ◌^◌, ◌≤◌, ◌<◌}
use native.Mathlib.Nat.{pow-suc, pow-le-pow_right}
use native.Mathlib.Numerals.{add-one}
use native.Mathlib.Omega.{arith}
use lib.Dec.{eqb, leb, ltb}
use lib.ListN.{length, get_or, drop, length-drop, drop_of_length-le, get_or-eq_default}
use lib.Seq.{drop-cons}
use borrow.Author.Tests.{leb-true, leb-false, le-leb, lt-leb, le-ltb, eqb-false, ne_eqb, not-true}
use Rattle.semigroups.specs.Tables.{is_element}
use Rattle.semigroups.specs.Lists.{first_of}
use Rattle.semigroups.specs.InnerQuestions.{no}
use Rattle.semigroups.proofs.Lists.{is_element_law}
use Rattle.semigroups.proofs.Questions.{ask_passed, all_passed, first_append, both_passed}
use Rattle.rfc4180.specs.Decimals.{is_digit, value}
use Rattle.rfc4180.specs.InnerCursor.{digits, field_end, comma_follows, next_field, field_follows}
use Rattle.rfc4180.specs.Questions.{field_questions, fields_questions}
use Rattle.rfc4180.specs.InnerQuestions.{fields_refusal, field_refusal}
use Rattle.rfc4180.specs.PassingLaws.{Number}

-- ---- the digits at a place

pub is_digit_law : (b : ℕ) → 48 ≤ b → b ≤ 57 → is_digit b ≡ true
unfolding is_digit
is_digit_law b l u = simp (le-leb 48 b l, le-leb b 57 u)

pub below_digit : (b : ℕ) → b < 48 → is_digit b ≡ false
unfolding is_digit
below_digit b l = simp (lt-leb 48 b l)

pub above_digit : (b : ℕ) → 57 < b → is_digit b ≡ false
unfolding is_digit
above_digit b u = simp (lt-leb b 57 u, and-false)

module _ (t : List ℕ) (i : ℕ) where
  pub digits_past : length t ≤ i → digits (drop i t) ≡ []
  unfolding digits
  digits_past h = rw (drop_of_length-le t h)

  pub digits_none : i < length t → is_digit (get_or t i 0) ≡ false → digits (drop i t) ≡ []
  unfolding digits
  digits_none h e = rw (drop-cons t i 0 h) (simp e)

  pub digits_more : i < length t → is_digit (get_or t i 0) ≡ true → digits (drop i t) ≡ get_or t i 0 ∷ digits (drop (i + 1) t)
  unfolding digits
  digits_more h e = rw (drop-cons t i 0 h, add-one) (simp e)

  -- If at least one digit is left, a digit stands at the place.
  pub digit_here : 1 ≤ length (digits (drop i t)) → (i < length t) × (is_digit (get_or t i 0) ≡ true)
  digit_here h = go (leb (length t) i) refl
    where
      inside : i < length t → (d : Bool) → is_digit (get_or t i 0) ≡ d → (i < length t) × (is_digit (get_or t i 0) ≡ true)
      inside l true e = (l, e)
      inside l false e = let w : ⊥ = omega (arith, ap length (digits_none l e)) in absurd w

      go : (p : Bool) → leb (length t) i ≡ p → (i < length t) × (is_digit (get_or t i 0) ≡ true)
      go true e = let w : ⊥ = omega (arith, ap length (digits_past (leb-true (length t) i e))) in absurd w
      go false e = inside (leb-false (length t) i e) (is_digit (get_or t i 0)) refl

  pub digits_first : 1 ≤ length (digits (drop i t)) → get_or (digits (drop i t)) 0 0 ≡ get_or t i 0
  digits_first h = let d = digit_here h in rw (digits_more d.0 d.1)

digits_short : (l : List ℕ) → length (digits l) ≤ length l
unfolding digits
digits_short [] = omega arith
digits_short (b ∷ l) = elim (is_digit b) as (λ e. length (cond e (b ∷ digits l) []) ≤ suc (length l)) [ true ↦ omega (arith, digits_short l) | false ↦ omega arith ]

pub end_inside : (t : List ℕ) (at : ℕ) → at ≤ length t → field_end t at ≤ length t
end_inside t at h = omega (arith, digits_short (drop at t), length-drop at t)

-- ---- what stands after a field

-- The field at `at` ends at `end`, and the cursor goes on at `next`.
pub record Goes (t : List ℕ) (at end next : ℕ) (comma more : Bool) : Type 0 where
  pub ending : end ≡ field_end t at
  pub place : next ≡ next_field t at
  pub same_record : comma ≡ comma_follows t at
  pub further : more ≡ field_follows t at

module _ (t : List ℕ) (at : ℕ) {end : ℕ} (e : end ≡ field_end t at) where
  pub nothing_follows : length t ≤ end → Goes t at end (end + 2) false false
  unfolding comma_follows next_field field_follows
  nothing_follows h =
      let b = ap (λ (i : ℕ). get_or t i 0) (sym e) ∙ get_or-eq_default t 0 {n = end} h in
      record { ending = e; place = rw (b, e); same_record = rw b; further = rw b (simp (le-ltb (field_end t at + 2) (length t) (omega arith))) }

  pub comma_follows_law : get_or t end 0 ≡ 44 → Goes t at end (end + 1) true true
  unfolding comma_follows next_field field_follows
  comma_follows_law c =
      let b = ap (λ (i : ℕ). get_or t i 0) (sym e) ∙ c in
      record { ending = e; place = rw (b, e); same_record = rw b; further = rw b }

  pub break_follows : (get_or t end 0 ≡ 44 → ⊥) → Goes t at end (end + 2) false (ltb (end + 2) (length t))
  unfolding comma_follows next_field field_follows
  break_follows h =
      let b = ap (λ (i : ℕ). eqb (get_or t i 0) 44) (sym e) ∙ ne_eqb (get_or t end 0) 44 h in
      record { ending = e; place = rw (b, e); same_record = rw b; further = rw (b, e) }

-- A list of length 0 is empty.
pub empty : (l : List ℕ) → length l ≤ 0 → l ≡ []
empty [] h = refl
empty (b ∷ l) h = let w : ⊥ = omega arith in absurd w

-- A number of k digits is below 10 to the power k.
pub bound_more : (v d k : ℕ) → v < 10 ^ k → d ≤ 9 → v * 10 + d < 10 ^ (k + 1)
bound_more v d k h g = rw add-one (omega (arith, pow-suc 10 k))

pub bound_two : (k : ℕ) → k ≤ 2 → 10 ^ k ≤ 100
bound_two k h = pow-le-pow_right {n = 10} (omega arith) h

-- ---- questions 23 to 25

module _ (f : List ℕ) where
  pub field_zero : get_or f 0 0 ≡ 48 → some (no 24 []) ≡ field_refusal f
  unfolding field_refusal first_of or_else
  field_zero h = simp h

  -- A field with no byte passes question 24 and fails question 23.
  pub field_empty : length f < 1 → some (no 23 []) ≡ field_refusal f
  unfolding field_refusal first_of or_else is_element
  field_empty h = simp (get_or-eq_default f 0 {n = 0} (omega arith), lt-leb _ _ h)

  module _ (leading : get_or f 0 0 ≡ 48 → ⊥) where
    pub field_long : 3 < length f → some (no 23 []) ≡ field_refusal f
    unfolding field_refusal first_of or_else is_element
    field_long h = simp (ne_eqb _ _ leading, lt-leb _ _ h, and-false)

    module _ (one : 1 ≤ length f) (three : length f ≤ 3) where
      pub field_large : 120 < value f → some (no 25 []) ≡ field_refusal f
      unfolding field_refusal first_of or_else is_element
      field_large h = simp (ne_eqb _ _ leading, le-leb _ _ one, le-leb _ _ three, lt-leb _ _ h)

      pub field_passes : value f ≤ 120 → none ≡ field_refusal f
      unfolding field_refusal first_of or_else is_element
      field_passes h = simp (ne_eqb _ _ leading, le-leb _ _ one, le-leb _ _ three, le-leb _ _ h)

-- ---- a field that passes

pub field_passed : (f : List ℕ) → field_refusal f ≡ none → Number f
unfolding field_refusal
field_passed f h =
    let p = (all_passed (field_questions f)).0 h in
    let size = is_element_law 3 (length f) (ask_passed 23 (is_element 3 (length f)) p.1.0) in
    record {
      some_byte = size.0;
      short = size.1;
      leading = eqb-false (get_or f 0 0) 48 (not-true (eqb (get_or f 0 0) 48) (ask_passed 24 (not (eqb (get_or f 0 0) 48)) p.0));
      small = leb-true (value f) 120 (ask_passed 25 (leb (value f) 120) p.1.1.0);
    }

-- ---- field after field

pub no_fields : fields_refusal [] ≡ none
unfolding fields_refusal fields_questions flat_map first_of
no_fields = refl

pub fields_first : (f : List ℕ) (fs : List (List ℕ)) → fields_refusal (f ∷ fs) ≡ or_else (field_refusal f) (fields_refusal fs)
unfolding fields_refusal fields_questions field_refusal flat_map
fields_first f fs = first_append (field_questions f) (fields_questions fs)

pub fields_passed : (f : List ℕ) (fs : List (List ℕ)) → fields_refusal (f ∷ fs) ≡ none → (field_refusal f ≡ none) × (fields_refusal fs ≡ none)
unfolding fields_refusal fields_questions field_refusal flat_map
fields_passed f fs h = both_passed (field_questions f) (fields_questions fs) h
