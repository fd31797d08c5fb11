-- Words with at most one bit, and rows with one: what lies inside them, and what they share with others. Assumes nothing.
use mathlib.Core.Path.{◌≡◌, sym, ap, ap₂, ◌∙◌}
use mathlib.Core.Logic.{◌⊎◌, inl, inr, ⊎_elim}
use Prim.Native.Nat.{ℕ, zero, suc, ◌+◌, ◌/◌, ◌%◌, ◌≤◌}
use native.Mathlib.Omega.{arith}
use lib.Bits.{bit_and, bit_or, and_step, or_step, and_zero_l, and_zero_r, and_self}
use lib.Count.{ones, ones_step}
use Rattle.semigroups.proofs.Booleans.{equal_or_not}
use Rattle.rows.specs.declared.Row.{Row}
use Rattle.rows.specs.InnerRows.{RowInside}
use Rattle.rows.proofs.Masks.{inside_mask, inside_old, ones_zero}

-- ---- words

none_below : (d w : ℕ) → w ≤ d → ones w ≡ 0 → w ≡ 0
none_below zero w h e = omega arith
none_below (suc d) w h e =
    let s = ones_step w in
    let half = none_below d (w / 2) (omega arith) (omega arith) in
    omega arith

-- A word with no bit set is 0.
pub none_zero : (w : ℕ) → ones w ≡ 0 → w ≡ 0
none_zero w e = none_below w w (omega arith) e

few_below : (d v w : ℕ) → v ≤ d → ones v ≤ 1 → bit_and w v ≡ w → (w ≡ 0) ⊎ (w ≡ v)
few_below zero v w h o e =
    let z : v ≡ 0 = omega arith in
    inl (sym e ∙ ap (bit_and w) z ∙ and_zero_r w)
few_below (suc d) v w h o e = go (equal_or_not (v % 2) 0) (few_below d (v / 2) (w / 2) (omega arith) half_few halves)
  where
    half_few : ones (v / 2) ≤ 1
    half_few = let s = ones_step v in omega arith

    halves : bit_and (w / 2) (v / 2) ≡ w / 2
    halves = let s = and_step w v in omega arith

    go : (v % 2 ≡ 0) ⊎ (v % 2 ≡ 0 → ⊥) → (w / 2 ≡ 0) ⊎ (w / 2 ≡ v / 2) → (w ≡ 0) ⊎ (w ≡ v)
    go (inl z) (inl q) = let s = and_step w v in inl (omega arith)
    go (inl z) (inr q) = let s = and_step w v in inr (omega arith)
    go (inr ne) q =
        let odd : v % 2 ≡ 1 = ⊎_elim (λ (z : v % 2 ≡ 0). absurd (ne z)) (λ (k : v % 2 ≡ 0 → ⊥). omega arith) (equal_or_not (v % 2) 0) in
        let s = ones_step v in
        let none = none_zero (v / 2) (omega arith) in
        let nothing : w / 2 ≡ 0 = ⊎_elim (λ (a : w / 2 ≡ 0). a) (λ (a : w / 2 ≡ v / 2). a ∙ none) q in
        ⊎_elim (λ (z : w % 2 ≡ 0). inl (omega arith)) (λ (k : w % 2 ≡ 0 → ⊥). inr (omega arith)) (equal_or_not (w % 2) 0)

-- A word inside a word with at most one bit has no bit, or equals it.
inside_few : (v w : ℕ) → ones v ≤ 1 → bit_and w v ≡ w → (w ≡ 0) ⊎ (w ≡ v)
inside_few v w o e = few_below v v w (omega arith) o e

or_clear_below : (d w a b : ℕ) → w ≤ d → bit_and w a ≡ 0 → bit_and w b ≡ 0 → bit_and w (bit_or a b) ≡ 0
or_clear_below zero w a b h e f = let z : w ≡ 0 = omega arith in ap (λ (x : ℕ). bit_and x (bit_or a b)) z ∙ and_zero_l (bit_or a b)
or_clear_below (suc d) w a b h e f =
    let s = and_step w a in
    let t = and_step w b in
    let u = and_step w (bit_or a b) in
    let o = or_step a b in
    let half : bit_or a b / 2 ≡ bit_or (a / 2) (b / 2) = omega arith in
    let below = or_clear_below d (w / 2) (a / 2) (b / 2) (omega arith) (omega arith) (omega arith) in
    let same = ap (bit_and (w / 2)) half in
    omega arith

-- A word that shares no bit with either of two others shares none with their union.
pub or_clear : (w a b : ℕ) → bit_and w a ≡ 0 → bit_and w b ≡ 0 → bit_and w (bit_or a b) ≡ 0
or_clear w a b e f = or_clear_below w w a b (omega arith) e f

clear_or_below : (d w a b : ℕ) → w ≤ d → bit_and w (bit_or a b) ≡ 0 → (bit_and w a ≡ 0) × (bit_and w b ≡ 0)
clear_or_below zero w a b h e =
    let z : w ≡ 0 = omega arith in
    (ap (λ (x : ℕ). bit_and x a) z ∙ and_zero_l a, ap (λ (x : ℕ). bit_and x b) z ∙ and_zero_l b)
clear_or_below (suc d) w a b h e =
    let s = and_step w a in
    let t = and_step w b in
    let u = and_step w (bit_or a b) in
    let o = or_step a b in
    let half : bit_or a b / 2 ≡ bit_or (a / 2) (b / 2) = omega arith in
    let same = ap (bit_and (w / 2)) half in
    let below = clear_or_below d (w / 2) (a / 2) (b / 2) (omega arith) (omega arith) in
    let left = below.0 in
    let right = below.1 in
    (omega arith, omega arith)

-- A word that shares no bit with the union of two others shares none with either.
pub clear_or : (w a b : ℕ) → bit_and w (bit_or a b) ≡ 0 → (bit_and w a ≡ 0) × (bit_and w b ≡ 0)
clear_or w a b e = clear_or_below w w a b (omega arith) e

-- ---- rows

abbrev pub bits : Row → ℕ
bits r = ones r.lo + ones r.hi

-- The row shares no bit with the two words.
abbrev pub Clear : Row → ℕ → ℕ → Type 0
Clear r lo hi = (bit_and r.lo lo ≡ 0) × (bit_and r.hi hi ≡ 0)

no_bits : (r : Row) → r.lo ≡ 0 → r.hi ≡ 0 → bits r ≡ 0
no_bits r e f = ap₂ ◌+◌ (ap ones e ∙ ones_zero) (ap ones f ∙ ones_zero)

-- If a row that is not empty lies inside a row of one element, the two are equal.
pub inside_one : (s r : Row) → bits s ≡ 1 → RowInside r s → 1 ≤ bits r → r ≡ s
inside_one s r one i h = go (inside_few s.lo r.lo (omega arith) i.0) (inside_few s.hi r.hi (omega arith) i.1)
  where
    same : r.lo ≡ s.lo → r.hi ≡ s.hi → r ≡ s
    same e f = ap₂ (λ (a b : ℕ). let x : Row = record { lo = a; hi = b } in x) e f

    go : (r.lo ≡ 0) ⊎ (r.lo ≡ s.lo) → (r.hi ≡ 0) ⊎ (r.hi ≡ s.hi) → r ≡ s
    go (inl e) (inl f) = absurd (let z = no_bits r e f in let q : ⊥ = omega arith in q)
    go (inl e) (inr f) =
        let a = ap ones e ∙ ones_zero in
        let b = ap ones f in
        same (e ∙ sym (none_zero s.lo (omega arith))) f
    go (inr e) (inl f) =
        let a = ap ones f ∙ ones_zero in
        let b = ap ones e in
        same e (f ∙ sym (none_zero s.hi (omega arith)))
    go (inr e) (inr f) = same e f

-- Two rows of one element each are equal, or share no bit.
pub same_or_clear : (r s : Row) → bits r ≡ 1 → bits s ≡ 1 → (r ≡ s) ⊎ Clear r s.lo s.hi
same_or_clear r s one two = go (equal_or_not (bits common) 0)
  where
    common : Row
    common = record { lo = bit_and r.lo s.lo; hi = bit_and r.hi s.hi }

    go : (bits common ≡ 0) ⊎ (bits common ≡ 0 → ⊥) → (r ≡ s) ⊎ Clear r s.lo s.hi
    go (inl z) = inr (none_zero (bit_and r.lo s.lo) (omega arith), none_zero (bit_and r.hi s.hi) (omega arith))
    go (inr ne) =
        let some : 1 ≤ bits common = omega arith in
        inl (sym (inside_one r common one (inside_old r.lo s.lo, inside_old r.hi s.hi) some)
        ∙ inside_one s common two (inside_mask r.lo s.lo, inside_mask r.hi s.hi) some)

-- A row that is not empty shares a bit with itself.
pub not_clear : (r : Row) → 1 ≤ bits r → Clear r r.lo r.hi → ⊥
not_clear r h c = let z = no_bits r (sym (and_self r.lo) ∙ c.0) (sym (and_self r.hi) ∙ c.1) in omega arith
