-- The digits at a place of a text, one after another: where they end, and the number that they stand for. Assumes nothing.
use Rattle.std.specs.Char.{is_ascii_digit}
use Rattle.std.specs.List.{prefix_len}
use Rattle.std.proofs.lemmas.List.Folds.{length-prefix_len}
use mathlib.Core.Path.{◌≡◌, refl, ap, sym, ◌∙◌}
use mathlib.Core.Bool.{true, false, cond}
use mathlib.Core.Logic.{⊎_elim}
use mathlib.Core.List.{List, [], ◌∷◌}
use Prim.Native.Nat.{ℕ, ◌+◌, ◌-◌, ◌*◌, ◌≤◌, ◌<◌}
use native.Mathlib.Omega.{arith}
use lib.ListN.{length, get_or, drop, take, get_or-eq_default}
use Rattle.semigroups.proofs.Booleans.{clash, at_most_or_above}
use Rattle.rfc4180.specs.Decimals.{is_digit, value, value_from}
use Rattle.rfc4180.specs.InnerCursor.{digits}
use Rattle.rfc4180.proofs.Fields.{empty, below_digit, digits_past, digits_none, digits_more, digit_here}

-- How many digits stand from place i on.
abbrev pub digits_from : List ℕ → ℕ → ℕ
digits_from t i = length (digits (drop i t))

-- ---- digits as Rust tests and counts them

pub ascii_digit : (b : ℕ) → is_ascii_digit b ≡ is_digit b
unfolding is_digit
ascii_digit b = refl

prefix_digits : (l : List ℕ) → prefix_len is_ascii_digit l ≡ length (digits l)
unfolding digits is_digit
prefix_digits [] = refl
prefix_digits (b ∷ l) =
    elim (is_ascii_digit b) as (λ e. cond e (1 + prefix_len is_ascii_digit l) 0 ≡ length (cond e (b ∷ digits l) [])) [
      | true ↦ omega (arith, prefix_digits l)
      | false ↦ refl
    ]

pub digits_counted : (l : List ℕ) → length (take (prefix_len is_ascii_digit l) l) ≡ length (digits l)
digits_counted l = length-prefix_len is_ascii_digit l ∙ prefix_digits l

-- ---- where digits end

module _ (t : List ℕ) (i : ℕ) where
  -- Past the end of a text no digit stands.
  pub past_digits : length t ≤ i → is_digit (get_or t i 0) ≡ false
  past_digits h = ap is_digit (get_or-eq_default t 0 {n = i} h) ∙ below_digit 0 (omega arith)

  -- If no digit stands at i, there are none from i on; otherwise there is one more than after i.
  pub none_from : is_digit (get_or t i 0) ≡ false → digits_from t i ≡ 0
  none_from e = ⊎_elim (λ h. ap length (digits_past t i h)) (λ h. ap length (digits_none t i h e)) (at_most_or_above (length t) i)

  pub digit_inside : is_digit (get_or t i 0) ≡ true → i < length t
  digit_inside e = ⊎_elim (λ h. absurd (clash e (past_digits h))) (λ h. h) (at_most_or_above (length t) i)

  -- The place j is the next one.
  pub one_more : (j : ℕ) → j ≡ i + 1 → is_digit (get_or t i 0) ≡ true → digits_from t i ≡ 1 + digits_from t j
  one_more j n e = omega (arith, ap length (digits_more t i (digit_inside e) e), ap (digits_from t) n)

-- ---- the number of one to three digits

-- The digit at i, of which j is the next place.
module _ (t : List ℕ) (i j : ℕ) (n : j ≡ i + 1) (some : 1 ≤ digits_from t i) where
  one_less : digits_from t j ≡ digits_from t i - 1
  one_less = omega (arith, one_more t i j n (digit_here t i some).1)

  -- Reading this digit after the number v leaves the digits from the next place on to be read.
  read_on : (v : ℕ) → value_from v (digits (drop i t)) ≡ value_from (v * 10 + (get_or t i 0 - 48)) (digits (drop j t))
  unfolding value_from
  read_on v = let d = digit_here t i some in ap (value_from v) (digits_more t i d.0 d.1 ∙ ap (λ (k : ℕ). get_or t i 0 ∷ digits (drop k t)) (sym n))

read_all : (t : List ℕ) (i v : ℕ) → digits_from t i ≤ 0 → value_from v (digits (drop i t)) ≡ v
unfolding value_from
read_all t i v h = ap (value_from v) (empty (digits (drop i t)) h)

module _ (t : List ℕ) (at : ℕ) (some : 1 ≤ digits_from t at) where
  after_one : digits_from t (at + 1) ≡ digits_from t at - 1
  after_one = one_less t at (at + 1) (omega arith) some

  pub second_left : 2 ≤ digits_from t at → 1 ≤ digits_from t (at + 1)
  second_left two = omega (arith, after_one)

  pub third_left : 2 ≤ digits_from t at → digits_from t (at + 2) ≡ digits_from t at - 2
  third_left two = omega (arith, after_one, one_less t (at + 1) (at + 2) (omega arith) (second_left two))

  module _ {x : ℕ} (ex : x ≡ get_or t at 0 - 48) where
    first_read : value (digits (drop at t)) ≡ value_from x (digits (drop (at + 1) t))
    unfolding value
    first_read =
        read_on t at (at + 1) (omega arith) some 0 ∙ ap (λ (v : ℕ). value_from v (digits (drop (at + 1) t))) (let z : 0 * 10 + (get_or t at 0 - 48) ≡ x = omega arith in z)

    pub number_of_one : digits_from t at < 2 → x ≡ value (digits (drop at t))
    number_of_one h = sym (first_read ∙ read_all t (at + 1) x (omega (arith, after_one)))

    module _ {y : ℕ} (ey : y ≡ get_or t (at + 1) 0 - 48) (two : 2 ≤ digits_from t at) where
      second_read : value (digits (drop at t)) ≡ value_from (x * 10 + y) (digits (drop (at + 2) t))
      second_read =
          first_read ∙ read_on t (at + 1) (at + 2) (omega arith) (second_left two) x ∙ ap (λ (d : ℕ). value_from (x * 10 + d) (digits (drop (at + 2) t))) (sym ey)

      pub number_of_two : digits_from t at < 3 → x * 10 + y ≡ value (digits (drop at t))
      number_of_two h = sym (second_read ∙ read_all t (at + 2) (x * 10 + y) (omega (arith, third_left two)))

      pub number_of_three : {z : ℕ} → z ≡ get_or t (at + 2) 0 - 48 → digits_from t at ≡ 3 → (x * 10 + y) * 10 + z ≡ value (digits (drop at t))
      number_of_three {z} ez h =
          let third : 1 ≤ digits_from t (at + 2) = omega (arith, third_left two) in
          sym
          (second_read
          ∙ read_on t (at + 2) (at + 3) (omega arith) third (x * 10 + y)
          ∙ read_all t (at + 3) ((x * 10 + y) * 10 + (get_or t (at + 2) 0 - 48)) (omega (arith, third_left two, one_less t (at + 2) (at + 3) (omega arith) third))
          ∙ ap (λ (d : ℕ). (x * 10 + y) * 10 + d) (sym ez))
