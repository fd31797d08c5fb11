-- Zeros and ones, eight to a byte: each is a byte, and its bits read back as the numbers that they stand for. Assumes nothing.
use mathlib.Core.Path.{◌≡◌, refl, sym, ap, ◌∙◌, subst}
use mathlib.Core.Logic.{⊎_elim}
use mathlib.Core.List.{List}
use Prim.Native.Nat.{ℕ, zero, suc, ◌+◌, ◌-◌, ◌*◌, ◌/◌, ◌%◌, ◌^◌, ◌≤◌, ◌<◌}
use native.Mathlib.Nat.{pow-suc, pow-succ', div-one, div-div-eq-div-mul, eq-or-lt_of_le, add-mul-div_right, mul_assoc, mul-le-mul_right, one-mul}
use native.Mathlib.Omega.{arith}
use lib.ListN.{get_or}
use lib.Pow.{pow_pos, pow-add, high}
use Rattle.semigroups.specs.Lists.{range, sum}
use Rattle.semigroups.specs.Scratch.{packed_byte, bit}
use Rattle.semigroups.proofs.Sums.{sum_more}

-- A higher digit changes no lower bit.
higher : (x c j k : ℕ) → j < k → (x + c * 2 ^ k) / 2 ^ j % 2 ≡ x / 2 ^ j % 2
higher x c j k h =
    let over = 2 ^ (k - suc j) in
    let power : 2 ^ k ≡ over * 2 * 2 ^ j =
    ap (λ (e : ℕ). 2 ^ e) (let z : k ≡ (k - suc j) + suc j = omega arith in z) ∙ pow-add 2 (k - suc j) (suc j) ∙ ap (λ (e : ℕ). over * e) (pow-succ' 2 j) ∙ sym (mul_assoc over 2 (2 ^ j)) in
    ap (λ (p : ℕ). (x + c * p) / 2 ^ j % 2) power
    ∙ ap (λ (p : ℕ). (x + p) / 2 ^ j % 2) (sym (mul_assoc c (over * 2) (2 ^ j)) ∙ ap (λ (p : ℕ). p * 2 ^ j) (sym (mul_assoc c over 2)))
    ∙ ap (λ (p : ℕ). p % 2) (add-mul-div_right x (c * over * 2) (pow_pos j))
    ∙ (let z : (x / 2 ^ j + c * over * 2) % 2 ≡ x / 2 ^ j % 2 = omega arith in z)

highest : (x c k : ℕ) → x < 2 ^ k → c ≤ 1 → (x + c * 2 ^ k) / 2 ^ k % 2 ≡ c
highest x c k h small =
    ap (λ (p : ℕ). p / 2 ^ k % 2) (let z : x + c * 2 ^ k ≡ c * 2 ^ k + x = omega arith in z)
    ∙ ap (λ (p : ℕ). p % 2) (high c k h) ∙ (let z : c % 2 ≡ c = omega arith in z)

module _ (l : List ℕ) (b : ℕ) where
  -- What the first r of the eight numbers of byte b are worth together.
  unfoldable pub worth_of : ℕ → ℕ
  worth_of r = sum (λ r. get_or l (8 * b + r) 0 * 2 ^ r) (range 0 r)

  pub worth_none : worth_of 0 ≡ 0
  unfolding worth_of range sum
  worth_none = refl

  pub worth_next : (r : ℕ) → worth_of (suc r) ≡ worth_of r + get_or l (8 * b + r) 0 * 2 ^ r
  unfolding worth_of
  worth_next r = sum_more worth 0 r ∙ ap (λ (k : ℕ). sum worth (range 0 r) + worth k) (let z : 0 + r ≡ r = omega arith in z)
    where
      worth : ℕ → ℕ
      worth r = get_or l (8 * b + r) 0 * 2 ^ r

  pub worth_all : worth_of 8 ≡ packed_byte l b
  unfolding worth_of packed_byte
  worth_all = refl

module _ (l : List ℕ) (small : (k : ℕ) → get_or l k 0 ≤ 1) (b : ℕ) where
  pub worth_below : (r : ℕ) → worth_of l b r < 2 ^ r
  worth_below zero = omega (arith, worth_none l b)
  worth_below (suc r) =
      let h = worth_below r in
      let s : get_or l (8 * b + r) 0 * 2 ^ r ≤ 1 * 2 ^ r = mul-le-mul_right (2 ^ r) (small (8 * b + r)) in
      omega (arith, worth_next l b r, pow-suc 2 r, one-mul (2 ^ r))

  digit : (k j : ℕ) → j < k → worth_of l b k / 2 ^ j % 2 ≡ get_or l (8 * b + j) 0
  digit zero j h = let z : ⊥ = omega arith in absurd z
  digit (suc k) j h =
      let w = worth_of l b k in
      let c = get_or l (8 * b + k) 0 in
      ap (λ (x : ℕ). x / 2 ^ j % 2) (worth_next l b k)
      ∙ ⊎_elim (λ (e : j ≡ k). subst (λ (i : ℕ). (w + c * 2 ^ k) / 2 ^ i % 2 ≡ get_or l (8 * b + i) 0) (sym e) (highest w c k (worth_below k) (small (8 * b + k))))
      (λ (u : j < k). higher w c j k u ∙ digit k j u)
      (eq-or-lt_of_le {n = j} {m = k} (omega arith))

  pub packed_below : packed_byte l b < 256
  packed_below = subst (λ (x : ℕ). x < 256) (worth_all l b) (worth_below 8)

  pub packed_bit : (r : ℕ) → r < 8 → bit (packed_byte l b) r ≡ get_or l (8 * b + r) 0
  unfolding bit
  packed_bit r h = ap (λ (x : ℕ). x / 2 ^ r % 2) (sym (worth_all l b)) ∙ digit 8 r h

-- ---- a number is told by its bits

bit_next : (x r : ℕ) → bit x (suc r) ≡ bit (x / 2) r
unfolding bit
bit_next x r = ap (λ (p : ℕ). x / p % 2) (pow-succ' 2 r) ∙ ap (λ (p : ℕ). p % 2) (sym (div-div-eq-div-mul x 2 (2 ^ r)))

pub bit_small : (x r : ℕ) → bit x r ≤ 1
unfolding bit
bit_small x r = let q = x / 2 ^ r in let z : q % 2 ≤ 1 = omega arith in z

-- Two numbers of k bits whose bits are equal are equal.
pub bits_tell : (k x y : ℕ) → x < 2 ^ k → y < 2 ^ k → ((r : ℕ) → r < k → bit x r ≡ bit y r) → x ≡ y
bits_tell zero x y hx hy e = omega arith
bits_tell (suc k) x y hx hy e =
    let p = pow-suc 2 k in
    let half = bits_tell k (x / 2) (y / 2) (omega arith) (omega arith) (λ r h. sym (bit_next x r) ∙ e (suc r) (omega arith) ∙ bit_next y r) in
    let last : x % 2 ≡ y % 2 = unfold bit in ap (λ (q : ℕ). q % 2) (sym (div-one x)) ∙ e 0 (omega arith) ∙ ap (λ (q : ℕ). q % 2) (div-one y) in
    omega arith
