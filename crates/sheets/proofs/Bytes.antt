-- What the tests of the bytes of a field say.
-- Assumes nothing.
use mathlib.Core.Path.{◌≡◌, refl}
use mathlib.Core.Bool.{Bool, true, false, ◌&&◌, ◌||◌, not}
use Prim.Native.Nat.{ℕ}
use native.Mathlib.Omega.{arith}
use lib.Dec.{eqb}
use borrow.Author.Tests.{eqb-true, not-true}
use Rattle.semigroups.proofs.Booleans.{and_left, and_right, impossible}
use Rattle.sheets.specs.Grammar.{is_printable, is_text_data, is_quotable}

pub bare_text : (b : ℕ) → is_text_data b ≡ true → is_printable b ≡ true
unfolding is_text_data
bare_text b h = and_left (is_printable b) (not (eqb b 44) && not (eqb b 34)) h

pub bare_comma : (b : ℕ) → is_text_data b ≡ true → eqb b 44 ≡ false
unfolding is_text_data
bare_comma b h = not-true (eqb b 44) (and_left (not (eqb b 44)) (not (eqb b 34)) (and_right (is_printable b) (not (eqb b 44) && not (eqb b 34)) h))

pub bare_quote : (b : ℕ) → is_text_data b ≡ true → eqb b 34 ≡ false
unfolding is_text_data
bare_quote b h = not-true (eqb b 34) (and_right (not (eqb b 44)) (not (eqb b 34)) (and_right (is_printable b) (not (eqb b 44) && not (eqb b 34)) h))

pub inside_quote : (b : ℕ) → is_quotable b ≡ true → eqb b 34 ≡ false
unfolding is_quotable
inside_quote b h = go (is_printable b) (eqb b 34) (eqb b 13) (eqb b 10) refl refl refl h
  where
    go : (x y z w : Bool) → eqb b 34 ≡ y → eqb b 13 ≡ z → eqb b 10 ≡ w → ((x && not y) || (z || w)) ≡ true → y ≡ false
    go x false z w e f g k = refl
    go x true true w e f g k = let p = eqb-true b 34 e in let q = eqb-true b 13 f in let r : ⊥ = omega arith in absurd r
    go x true false true e f g k = let p = eqb-true b 34 e in let q = eqb-true b 10 g in let r : ⊥ = omega arith in absurd r
    go true true false false e f g k = impossible (cc)
    go false true false false e f g k = impossible (cc)
