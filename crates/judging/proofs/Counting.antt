-- Counting comparisons that agree. Assumes nothing.
use mathlib.Core.Path.{◌≡◌, refl, ap, sym, ◌∙◌}
use mathlib.Core.Bool.{Bool, true}
use Prim.Native.Nat.{ℕ, zero, suc, ◌+◌}
use native.Mathlib.Omega.{arith}
use Rattle.judging.specs.declared.tally.Tally.{Tally}
use Rattle.judging.specs.InnerTally.{counted, agreed}

pub agreed_counted : (k : ℕ) (t : Tally) → agreed k (counted t true) ≡ agreed (suc k) t
unfolding agreed
agreed_counted zero t = refl
agreed_counted (suc k) t = ap (λ (x : Tally). counted x true) (agreed_counted k t)

pub agreed_add : (j k : ℕ) (t : Tally) → agreed (j + k) t ≡ agreed j (agreed k t)
unfolding agreed
agreed_add zero k t = let z : 0 + k ≡ k = omega arith in rw z
agreed_add (suc j) k t = let z : suc j + k ≡ suc (j + k) = omega arith in ap (λ (x : ℕ). agreed x t) z ∙ ap (λ (x : Tally). counted x true) (agreed_add j k t)

-- One more comparison agrees.
pub agreed_next : (k : ℕ) (t : Tally) {r : Tally} (same : Bool) → r ≡ counted (agreed k t) same → same ≡ true → r ≡ agreed (k + 1) t
unfolding agreed
agreed_next k t same e h =
    let z : k + 1 ≡ suc k = omega arith in
    e ∙ ap (counted (agreed k t)) h ∙ ap (λ (x : ℕ). agreed x t) (sym z)

-- Two more comparisons agree, after k that agree.
pub two_more : (b : Tally) (k : ℕ) {t r : Tally} (one two : Bool) → t ≡ agreed k b → one ≡ true → two ≡ true → r ≡ counted (counted t one) two → r ≡ agreed (suc (suc k)) b
unfolding agreed
two_more b k one two e f g h = h ∙ ap (λ (x : Tally). counted (counted x one) two) e ∙ ap (λ (y : Bool). counted (counted (agreed k b) y) two) f ∙ ap (counted (counted (agreed k b) true)) g

-- ---- a walk: k more after its first call, of which j are left

module _ (k j : ℕ) (first t r : Tally) (same : Bool) (inv : agreed (suc j) t ≡ agreed (suc k) first) (more : r ≡ counted t same) (agree : same ≡ true) where
  counted_on : r ≡ counted t true
  counted_on = more ∙ ap (counted t) agree

  pub walk_ends : j ≡ 0 → (start : Tally) (one : Bool) → first ≡ counted start one → one ≡ true → r ≡ agreed (suc (suc k)) start
  unfolding agreed
  walk_ends e start one f g =
      counted_on ∙ ap (λ (x : ℕ). agreed (suc x) t) (sym e) ∙ inv ∙ ap (agreed (suc k)) (f ∙ ap (counted start) g) ∙ agreed_counted (suc k) start

  pub walk_goes : (i : ℕ) → j ≡ suc i → agreed (suc i) r ≡ agreed (suc k) first
  walk_goes i e = ap (agreed (suc i)) counted_on ∙ agreed_counted (suc i) t ∙ ap (λ (x : ℕ). agreed (suc x) t) (sym e) ∙ inv

-- ---- more calls that agree

-- After k comparisons that agree, so do `calls` more.
pub calls_more : (b : Tally) (k j : ℕ) (calls : ℕ) → calls ≡ j → {t r : Tally} → t ≡ agreed k b → r ≡ agreed calls t → r ≡ agreed (j + k) b
calls_more b k j calls e f g = g ∙ ap (agreed calls) f ∙ ap (λ (x : ℕ). agreed x (agreed k b)) e ∙ sym (agreed_add j k b)

pub agreed_none : (t : Tally) {calls : ℕ} → calls ≡ 0 → t ≡ agreed calls t
unfolding agreed
agreed_none t e = rw e
