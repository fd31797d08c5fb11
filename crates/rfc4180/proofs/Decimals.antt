-- Decimal numbers of at most three digits: reading and writing undo each other.
-- Assumes nothing.
use mathlib.Core.Path.{◌≡◌, refl, ◌∙◌}
use mathlib.Core.Bool.{Bool, true, false, cond}
use mathlib.Core.List.{List, [], ◌∷◌}
use Prim.Native.Nat.{ℕ, zero, suc, ◌+◌, ◌-◌, ◌*◌, ◌/◌, ◌%◌, ◌≤◌, ◌<◌}
use native.Mathlib.Omega.{arith}
use native.Mathlib.Nat.{mod-lt}
use lib.Dec.{ltb}
use lib.ListN.{length, get_or, length-append}
use borrow.Author.Tests.{le-leb, lt-ltb, le-ltb, ltb-true, ltb-false}
use Rattle.rfc4180.specs.Decimals.{is_digit, value_from, value, numeral_within, numeral}
use Rattle.rfc4180.proofs.Every.{every_append}
use Rattle.rfc4180.proofs.Rows.{Digits, digit_range}

-- ---- by the number of digits

pub numeral_one : (k : ℕ) → k < 10 → numeral k ≡ (48 + k) ∷ []
unfolding numeral numeral_within
numeral_one k h =
    let m : k % 10 ≡ k = omega arith in
    simp (lt-ltb k 10 h, m)

pub numeral_two : (k : ℕ) → 10 ≤ k → k < 100 → numeral k ≡ (48 + k / 10) ∷ (48 + k % 10) ∷ []
unfolding numeral numeral_within
numeral_two k l h =
    let q : k / 10 < 10 = omega arith in
    let m : k / 10 % 10 ≡ k / 10 = omega arith in
    simp (le-ltb k 10 l, lt-ltb (k / 10) 10 q, m)

pub numeral_three : (k : ℕ) → 100 ≤ k → k < 1000 → numeral k ≡ (48 + k / 100) ∷ (48 + k / 10 % 10) ∷ (48 + k % 10) ∷ []
unfolding numeral numeral_within
numeral_three k l h =
    let t : 10 ≤ k = omega arith in
    let u : 10 ≤ k / 10 = omega arith in
    let m : k / 10 / 10 % 10 ≡ k / 100 = omega arith in
    let q : k / 10 / 10 < 10 = omega arith in
    simp (le-ltb k 10 t, le-ltb (k / 10) 10 u, lt-ltb (k / 10 / 10) 10 q, m)

pub digit_at : (x : ℕ) → x < 10 → is_digit (48 + x) ≡ true
unfolding is_digit
digit_at x h =
    let l : 48 ≤ 48 + x = omega arith in
    let u : 48 + x ≤ 57 = omega arith in
    simp (le-leb 48 (48 + x) l, le-leb (48 + x) 57 u)

pub numeral_digits : (d k : ℕ) → Digits (numeral_within d k)
unfolding numeral_within
numeral_digits zero k = tt
numeral_digits (suc d) k =
    every_append (λ b. is_digit b ≡ true) (cond (ltb k 10) [] (numeral_within d (k / 10))) ((48 + k % 10) ∷ [])
    (elim (ltb k 10) as (λ e. Digits (cond e [] (numeral_within d (k / 10)))) [ true ↦ tt | false ↦ numeral_digits d (k / 10) ])
    (digit_at (k % 10) (mod-lt k (omega arith)), tt)

pub numeral_short : (d k : ℕ) → length (numeral_within d k) ≤ d
unfolding numeral_within
numeral_short zero k = omega arith
numeral_short (suc d) k = simp length-append (go (numeral_short d (k / 10)) (ltb k 10))
  where
    go : length (numeral_within d (k / 10)) ≤ d → (e : Bool) → length (cond e [] (numeral_within d (k / 10))) + 1 ≤ suc d
    go ih true = omega arith
    go ih false = omega arith

-- ---- one, two or three digits

data Size (k : ℕ) : Type 0 where
  one_digit : k < 10 → Size k
  two_digits : 10 ≤ k → k < 100 → Size k
  three_digits : 100 ≤ k → Size k

size_of : (k : ℕ) → Size k
size_of k = go (ltb k 10) (ltb k 100) refl refl
  where
    go : (x y : Bool) → ltb k 10 ≡ x → ltb k 100 ≡ y → Size k
    go true y e f = one_digit (ltb-true k 10 e)
    go false true e f = two_digits (ltb-false k 10 e) (ltb-true k 100 f)
    go false false e f = three_digits (ltb-false k 100 f)

pub value_numeral : (k : ℕ) → k < 1000 → value (numeral k) ≡ k
unfolding value value_from
value_numeral k h = go (size_of k)
  where
    go : Size k → value (numeral k) ≡ k
    go (one_digit a) = rw (numeral_one k a) (omega arith)
    go (two_digits a b) = rw (numeral_two k a b) (omega arith)
    go (three_digits a) = rw (numeral_three k a h) (omega arith)

pub numeral_long : (k : ℕ) → k < 1000 → 1 ≤ length (numeral k)
numeral_long k h = go (size_of k)
  where
    go : Size k → 1 ≤ length (numeral k)
    go (one_digit a) = rw (numeral_one k a) (omega arith)
    go (two_digits a b) = rw (numeral_two k a b) (omega arith)
    go (three_digits a) = rw (numeral_three k a h) (omega arith)

-- A numeral has no leading 0.
pub numeral_leading : (k : ℕ) → 1 ≤ k → k < 1000 → get_or (numeral k) 0 0 ≡ 48 → ⊥
numeral_leading k l h = go (size_of k)
  where
    go : Size k → get_or (numeral k) 0 0 ≡ 48 → ⊥
    go (one_digit a) = rw (numeral_one k a) (λ e. omega arith)
    go (two_digits a b) = rw (numeral_two k a b) (λ e. omega arith)
    go (three_digits a) = rw (numeral_three k a h) (λ e. omega arith)

-- A field that passes questions 23 and 24 is the decimal number of its value.
pub numeral_value : (f : List ℕ) → Digits f → 1 ≤ length f → length f ≤ 3 → (get_or f 0 0 ≡ 48 → ⊥) → numeral (value f) ≡ f
unfolding value value_from
numeral_value [] h l u z = let w : ⊥ = omega arith in absurd w
numeral_value (a ∷ []) h l u z =
    let ra = digit_range a h.0 in
    let v : 0 * 10 + (a - 48) < 10 = omega arith in
    let x : 48 + (0 * 10 + (a - 48)) ≡ a = omega arith in
    numeral_one _ v ∙ cc
numeral_value (a ∷ b ∷ []) h l u z =
    let ra = digit_range a h.0 in
    let rb = digit_range b h.1.0 in
    let k : ℕ = (0 * 10 + (a - 48)) * 10 + (b - 48) in
    let lo : 10 ≤ k = omega arith in
    let hi : k < 100 = omega arith in
    let x : 48 + k / 10 ≡ a = omega arith in
    let y : 48 + k % 10 ≡ b = omega arith in
    numeral_two k lo hi ∙ cc
numeral_value (a ∷ b ∷ c ∷ []) h l u z =
    let ra = digit_range a h.0 in
    let rb = digit_range b h.1.0 in
    let rc = digit_range c h.1.1.0 in
    let k : ℕ = ((0 * 10 + (a - 48)) * 10 + (b - 48)) * 10 + (c - 48) in
    let lo : 100 ≤ k = omega arith in
    let hi : k < 1000 = omega arith in
    let x : 48 + k / 100 ≡ a = omega arith in
    let y : 48 + k / 10 % 10 ≡ b = omega arith in
    let w : 48 + k % 10 ≡ c = omega arith in
    numeral_three k lo hi ∙ cc
numeral_value (a ∷ b ∷ c ∷ d ∷ f) h l u z = let w : ⊥ = omega arith in absurd w

pub digits_few : (k : ℕ) → length (numeral k) ≤ 3
unfolding numeral
digits_few k = numeral_short 3 k
