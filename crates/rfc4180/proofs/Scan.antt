-- Question 21 from a place on: what is left of the scan there, and which bytes pass.
-- Assumes nothing.
use mathlib.Core.Path.{◌≡◌, refl, ap, ◌∙◌}
use mathlib.Core.Bool.{Bool, true, false, ◌||◌, not, cond, and-false, or-true}
use mathlib.Core.List.{List, [], ◌∷◌}
use mathlib.Core.Option.{Option, none, some, or_else}
use Prim.Native.Nat.{ℕ, zero, suc, ◌+◌, ◌-◌, ◌≤◌, ◌<◌}
use native.Mathlib.Numerals.{add-one}
use native.Mathlib.Omega.{arith}
use lib.ListN.{length, get_or, get_or-eq_default}
use borrow.Author.Tests.{le-leb, lt-leb, ne_eqb}
use Rattle.semigroups.specs.Lists.{range, find, first_of}
use Rattle.semigroups.specs.InnerQuestions.{no}
use Rattle.rfc4180.specs.Decimals.{is_digit}
use Rattle.rfc4180.specs.Records.{is_break}
use Rattle.rfc4180.specs.Questions.{break_at, in_break, is_allowed, first_other}
use Rattle.rfc4180.specs.InnerQuestions.{bytes_refusal}

-- The first other byte from place i on.
unfoldable pub other_from : List ℕ → ℕ → Option ℕ
other_from t i = find (λ p. not (is_allowed t p)) (range i (length t - i))

-- Whether a line break began at the byte before.
unfoldable pub begun : List ℕ → ℕ → Bool
begun t zero = false
begun t (suc p) = break_at t p

module _ (t : List ℕ) where
  pub begin : first_other t ≡ other_from t 0
  unfolding first_other other_from
  begin =
      let e : length t - 0 ≡ length t = omega arith in
      rw e

  pub begin_clear : begun t 0 ≡ false
  unfolding begun
  begin_clear = refl

  step : (i : ℕ) → i < length t → other_from t i ≡ cond (not (is_allowed t i)) (some i) (other_from t (i + 1))
  unfolding other_from find range
  step i h =
      let e : length t - i ≡ suc (length t - (i + 1)) = omega arith in
      rw (e, add-one)

  pub pass : (i : ℕ) → i < length t → is_allowed t i ≡ true → other_from t i ≡ other_from t (i + 1)
  pass i h e = step i h ∙ simp e

  pub fail : (i : ℕ) → i < length t → is_allowed t i ≡ false → other_from t i ≡ some i
  fail i h e = step i h ∙ simp e

  pub finish : (i : ℕ) → length t ≤ i → other_from t i ≡ none
  unfolding other_from find range
  finish i h =
      let e : length t - i ≡ 0 = omega arith in
      rw e

  -- ---- one byte

  in_break_law : (i : ℕ) → in_break t i ≡ (begun t i || break_at t i)
  unfolding in_break begun
  in_break_law zero = refl
  in_break_law (suc p) = refl

  pub digit : (i : ℕ) → 48 ≤ get_or t i 0 → get_or t i 0 ≤ 57 → is_allowed t i ≡ true
  unfolding is_allowed is_digit
  digit i a b = simp (le-leb _ _ a, le-leb _ _ b)

  pub comma : (i : ℕ) → get_or t i 0 ≡ 44 → is_allowed t i ≡ true
  unfolding is_allowed is_digit
  comma i e = simp e

  not_cr : (i : ℕ) → (get_or t i 0 ≡ 13 → ⊥) → break_at t i ≡ false
  unfolding break_at is_break
  not_cr i h = rw (ne_eqb _ _ h)

  -- No line break begins at a byte other than CR.
  pub clear : (i : ℕ) → (get_or t i 0 ≡ 13 → ⊥) → begun t (i + 1) ≡ false
  unfolding begun
  clear i h = rw add-one (not_cr i h)

  -- ---- a line break

  pair_at : (i : ℕ) → get_or t i 0 ≡ 13 → get_or t (suc i) 0 ≡ 10 → break_at t i ≡ true
  unfolding break_at is_break
  pair_at i e f = simp (e, f)

  pub pass_pair : (i : ℕ) → i + 1 < length t → get_or t i 0 ≡ 13 → get_or t (i + 1) 0 ≡ 10 → other_from t i ≡ other_from t (i + 2)
  unfolding is_allowed begun
  pass_pair i h e f =
      let g : get_or t (suc i) 0 ≡ 10 = rw add-one at f in
      let p : break_at t i ≡ true = pair_at i e g in
      let a : is_allowed t i ≡ true = simp (in_break_law i, p, or-true) in
      let b : is_allowed t (i + 1) ≡ true = rw add-one (simp (in_break_law (suc i), p, or-true)) in
      let q : i + 1 + 1 ≡ i + 2 = omega arith in
      pass i (omega arith) a ∙ pass (i + 1) h b ∙ ap (other_from t) q

  pub clear_pair : (i : ℕ) → get_or t (i + 1) 0 ≡ 10 → begun t (i + 2) ≡ false
  clear_pair i f =
      let q : i + 2 ≡ i + 1 + 1 = omega arith in
      rw q (clear (i + 1) (λ e. omega arith))

  -- ---- other bytes

  lone : (i : ℕ) → begun t i ≡ false → get_or t i 0 ≡ 13 → (get_or t (suc i) 0 ≡ 10 → ⊥) → is_allowed t i ≡ false
  unfolding is_allowed is_digit break_at is_break
  lone i d e f = simp (in_break_law i, d, e, ne_eqb _ _ f)

  pub lone_last : (i : ℕ) → begun t i ≡ false → length t - i < 2 → get_or t i 0 ≡ 13 → is_allowed t i ≡ false
  lone_last i d h e = lone i d e (λ f. omega (arith, get_or-eq_default t 0 {n = suc i} (omega arith)))

  pub lone_inside : (i : ℕ) → begun t i ≡ false → get_or t i 0 ≡ 13 → (get_or t (i + 1) 0 ≡ 10 → ⊥) → is_allowed t i ≡ false
  lone_inside i d e f = lone i d e (λ g. f (rw add-one g))

  pub low : (i : ℕ) → begun t i ≡ false → get_or t i 0 < 48 → (get_or t i 0 ≡ 44 → ⊥) → (get_or t i 0 ≡ 13 → ⊥) → is_allowed t i ≡ false
  unfolding is_allowed is_digit
  low i d a b c = simp (lt-leb _ _ a, ne_eqb _ _ b, in_break_law i, d, not_cr i c)

  pub high : (i : ℕ) → begun t i ≡ false → 57 < get_or t i 0 → (get_or t i 0 ≡ 44 → ⊥) → (get_or t i 0 ≡ 13 → ⊥) → is_allowed t i ≡ false
  unfolding is_allowed is_digit
  high i d a b c = simp (lt-leb _ _ a, and-false, ne_eqb _ _ b, in_break_law i, d, not_cr i c)

-- ---- what question 21 says

pub other_refused : (t : List ℕ) (i : ℕ) → first_other t ≡ some i → some (no 21 (i ∷ [])) ≡ bytes_refusal t
unfolding bytes_refusal first_of or_else
other_refused t i h = simp h

pub none_refused : (t : List ℕ) → first_other t ≡ none → none ≡ bytes_refusal t
unfolding bytes_refusal first_of or_else
none_refused t h = simp h
