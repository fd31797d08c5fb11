-- Pairs in the sequence of their numbers, and the bytes of their marks: a pair and the one after it, where a byte of marks begins, and that marks depend only
-- on the pairs of elements. Assumes nothing.
use mathlib.Core.Path.{◌≡◌, sym, ap, ap₂, ◌∙◌, subst}
use mathlib.Core.Bool.{Bool, cond}
use mathlib.Core.List.{List, map, ◌++◌}
use Prim.Native.Nat.{ℕ, suc, ◌+◌, ◌-◌, ◌*◌, ◌/◌, ◌%◌, ◌^◌, ◌≤◌, ◌<◌}
use native.Mathlib.Nat.{mul-le-mul_left, mul-le-mul_right, suc-mul, mul-one, pow-suc}
use native.Mathlib.Omega.{arith}
use lib.ListN.{length, get_or, set, drop}
use lib.Seq.{ext_get_or}
use lib.Pow.{pow_mono}
use Rattle.semigroups.specs.Lists.{range}
use Rattle.semigroups.specs.Tables.{cell_place, Element}
use Rattle.semigroups.specs.Scratch.{packed_byte, scratch_size, marks}
use Rattle.semigroups.specs.InnerScratch.{pair_marks}
use Rattle.semigroups.specs.Calls.{overwritten}
use Rattle.semigroups.specs.InnerCalls.{scratch_after}
use Rattle.semigroups.proofs.Tables.{place_below, place_of, place_elements}
use Rattle.semigroups.proofs.Packing.{worth_of, worth_none, worth_next, worth_all}
use Rattle.semigroups.proofs.Candidates.{length_pairs, pair_at, length_marks, marks_byte}
use Rattle.semigroups.proofs.Writing.{written, written_all, write_next}
use Rattle.candidates.specs.InnerPairs.{PairAt, Decides}

-- ---- pair after pair

-- A byte of the marks begins with a pair.
pub first_pair : (m n b : ℕ) → b < scratch_size m n → PairAt n (b * 8) (b * 8 / n + 1) (b * 8 % n + 1)
unfolding scratch_size
first_pair m n b h =
    let w = place_elements m n (b * 8) (omega arith) in
    record { number = place_of n (b * 8); row = w.0.0; column = w.1 }

module _ {n k i j : ℕ} (a : PairAt n k i j) where
  -- The source element of a pair is at most its number plus 1.
  pub row_small : i ≤ k + 1
  row_small =
      let e = a.number in
      let c = a.column in
      let wide : (i - 1) * 1 ≤ (i - 1) * n = mul-le-mul_left (i - 1) (omega arith) in
      omega (arith, mul-one (i - 1))

  -- After the last column comes the first one of the next row.
  pub next_row : n ≤ j → PairAt n (k + 1) (i + 1) 1
  next_row h =
      let e = a.number in
      let c = a.column in
      let r = a.row in
      let following : (i + 1 - 1) * n ≡ suc (i - 1) * n = ap (λ (x : ℕ). x * n) (let z : i + 1 - 1 ≡ suc (i - 1) = omega arith in z) in
      record { number = omega (arith, suc-mul (i - 1) n); row = omega arith; column = omega arith }

-- ---- eight marks

module _ (m n : ℕ) (Answers : ℕ → ℕ → Bool → Type 0) (b : ℕ) where
  -- The first r marks of byte b are worth `byte` together, and the pair of the next is i, j.
  pub record Gathered (i j byte r : ℕ) : Type 0 where
    pub pair : PairAt n (8 * b + r) i j
    pub small : byte < 2 ^ r
    pub so_far : (p : ℕ → ℕ → Bool) → Decides m n Answers p → byte ≡ worth_of (pair_marks m n p) b r

  pub gather_begin : b < scratch_size m n → Gathered (b * 8 / n + 1) (b * 8 % n + 1) 0 0
  gather_begin h =
      record {
        pair = subst (λ (k : ℕ). PairAt n k (b * 8 / n + 1) (b * 8 % n + 1)) (omega arith) (first_pair m n b h);
        small = omega arith;
        so_far = λ p d. sym (worth_none (pair_marks m n p) b);
      }

  module _ {i j byte r : ℕ} (g : Gathered i j byte r) (more : r < 8) (v : ℕ) (one : v ≤ 1) where
    -- The shift wraps nothing.
    shifted : v * 2 ^ r % 2 ^ 64 ≡ v * 2 ^ r
    shifted =
        let most : 2 ^ r ≤ 2 ^ 7 = pow_mono {i = r} {j = 7} (omega arith) in
        let less : v * 2 ^ r ≤ 1 * 2 ^ r = mul-le-mul_right (2 ^ r) one in
        omega arith

    pub gathered_small : byte + v * 2 ^ r % 2 ^ 64 < 2 ^ (r + 1)
    gathered_small =
        let s = g.small in
        let e = shifted in
        let less : v * 2 ^ r ≤ 1 * 2 ^ r = mul-le-mul_right (2 ^ r) one in
        let twice : 2 ^ (r + 1) ≡ 2 ^ r * 2 = ap (λ (k : ℕ). 2 ^ k) (let z : r + 1 ≡ suc r = omega arith in z) ∙ pow-suc 2 r in
        omega arith

    pub gather_next : ((p : ℕ → ℕ → Bool) → Decides m n Answers p → v ≡ get_or (pair_marks m n p) (cell_place n i j) 0) → (i' j' : ℕ) → PairAt n (cell_place n i j + 1) i' j'
        → Gathered i' j' (byte + v * 2 ^ r % 2 ^ 64) (r + 1)
    gather_next e i' j' a =
        record {
          pair = subst (λ (k : ℕ). PairAt n k i' j') (let here = g.pair.number in omega arith) a;
          small = gathered_small;
          so_far = λ p d.
              let here : v ≡ get_or (pair_marks m n p) (8 * b + r) 0 = e p d ∙ ap (λ (k : ℕ). get_or (pair_marks m n p) k 0) g.pair.number in
              ap₂ (λ (x y : ℕ). x + y) (g.so_far p d) (shifted ∙ ap (λ (x : ℕ). x * 2 ^ r) here) ∙ sym (worth_next (pair_marks m n p) b r)
              ∙ ap (worth_of (pair_marks m n p) b) (let z : suc r ≡ r + 1 = omega arith in z);
        }

    -- The sum is a byte.
    pub gathered_byte : byte + v * 2 ^ r % 2 ^ 64 < 256
    gathered_byte = let s = gathered_small in let most : 2 ^ (r + 1) ≤ 2 ^ 8 = pow_mono {i = r + 1} {j = 8} (omega arith) in omega arith

  module _ {i j byte r : ℕ} (g : Gathered i j byte r) (end : r ≡ 8) where
    pub gather_end : (p : ℕ → ℕ → Bool) → Decides m n Answers p → byte ≡ packed_byte (pair_marks m n p) b
    gather_end p d = g.so_far p d ∙ ap (worth_of (pair_marks m n p) b) end ∙ worth_all (pair_marks m n p) b

    pub gather_byte : byte < 256
    gather_byte = let s = g.small in let e : 2 ^ r ≡ 2 ^ 8 = ap (λ (k : ℕ). 2 ^ k) end in omega arith

-- ---- byte after byte

module _ (m n : ℕ) (p : ℕ → ℕ → Bool) (before buffer : List ℕ) (place : ℕ) (room : scratch_size m n ≤ length before) (so_far : buffer ≡ written (marks m n p) before place) where
  pub byte_written : (v : ℕ) → place < scratch_size m n → v ≡ packed_byte (pair_marks m n p) place → set buffer place v ≡ written (marks m n p) before (place + 1)
  byte_written v h e =
      let size = length_marks m n p in
      ap (λ (b : List ℕ). set b place v) so_far ∙ write_next (marks m n p) before place v (omega arith) (omega arith) (e ∙ sym (marks_byte m n p place h))

  pub all_written : place ≡ scratch_size m n → buffer ≡ scratch_after m n p before
  unfolding scratch_after
  all_written h =
      let end : place ≡ length (marks m n p) = let size = length_marks m n p in omega arith in
      so_far ∙ written_all (marks m n p) before place end ∙ ap (λ (k : ℕ). marks m n p ++ drop k before) end

-- ---- marks go by the pairs of elements alone

module _ (m n : ℕ) (p q : ℕ → ℕ → Bool) (same : (i j : ℕ) → Element m i → Element n j → p i j ≡ q i j) where
  pairs_same : pair_marks m n p ≡ pair_marks m n q
  pairs_same = ext_get_or 0 (pair_marks m n p) (pair_marks m n q) (length_pairs m n p ∙ sym (length_pairs m n q)) entry
    where
      entry : (k : ℕ) → k < length (pair_marks m n p) → get_or (pair_marks m n p) k 0 ≡ get_or (pair_marks m n q) k 0
      entry k h =
          let i = k / n + 1 in
          let j = k % n + 1 in
          let w = place_elements m n k (let l = length_pairs m n p in omega arith) in
          pair_at m n p k i j (place_of n k) w.0 w.1 ∙ ap (λ (b : Bool). cond b 1 0) (same i j w.0 w.1) ∙ sym (pair_at m n q k i j (place_of n k) w.0 w.1)

  pub scratch_same : (scratch : List ℕ) → scratch_after m n p scratch ≡ scratch_after m n q scratch
  unfolding scratch_after marks pair_marks
  scratch_same scratch = ap (λ (l : List ℕ). overwritten (map (packed_byte l) (range 0 (scratch_size m n))) scratch) pairs_same
