-- Writing a list of bytes piece by piece from a place of a buffer on: what is done, and what is left.
-- Assumes nothing.
use mathlib.Core.Path.{◌≡◌, refl, ap, sym, ◌∙◌}
use mathlib.Core.List.{List, [], ◌∷◌, ◌++◌, append_assoc, append-nil}
use Prim.Native.Nat.{ℕ, suc, ◌+◌, ◌/◌, ◌%◌, ◌≤◌, ◌<◌}
use native.Mathlib.Numerals.{add-one, add-two}
use native.Mathlib.Omega.{arith}
use lib.ListN.{length, drop, set, length-append, length-drop}
use lib.Seq.{sets, length-sets, sets-eq, drop-append_seam}
use Rattle.rfc4180.specs.Decimals.{numeral}
use Rattle.semigroups.specs.Calls.{overwritten}
use Rattle.rfc4180.proofs.Decimals.{numeral_one, numeral_two, numeral_three}

sets_append : (b : List ℕ) (i : ℕ) (p q : List ℕ) → sets b i (p ++ q) ≡ sets (sets b i p) (i + length p) q
sets_append b i [] q = let e : i + 0 ≡ i = omega arith in rw e
sets_append b i (x ∷ p) q =
    let e : i + suc (length p) ≡ suc i + length p = omega arith in
    sets_append (set b i x) (suc i) p q ∙ rw e

-- The bytes `whole` are to stand in `before` from `start` on; those before `at` stand in `now`, and `left` is left to write.
pub record Writing (before : List ℕ) (start : ℕ) (whole left now : List ℕ) (at : ℕ) : Type 0 where
  pub done : List ℕ
  pub so_far : now ≡ sets before start done
  pub place : at ≡ start + length done
  pub all : whole ≡ done ++ left

pub write_first : (before : List ℕ) (start : ℕ) (whole : List ℕ) → Writing before start whole whole before start
write_first before start whole = record { done = []; so_far = refl; place = omega arith; all = refl }

module _ {before : List ℕ} {start : ℕ} {whole left now : List ℕ} {at : ℕ} (w : Writing before start whole left now at) where
  pub write_length : length now ≡ length before
  write_length = ap length w.so_far ∙ length-sets before start w.done

  pub write_room : start + length whole ≤ length before → at + length left ≤ length now
  write_room h = let p = w.place in omega (arith, write_length, simp length-append at (ap length w.all))

  -- The next piece is written.
  pub write_next : (p q : List ℕ) → left ≡ p ++ q → Writing before start whole q (sets now at p) (at + length p)
  write_next p q e =
      let m : at ≡ start + length w.done = w.place in
      record {
        done = w.done ++ p;
        so_far = ap (λ (b : List ℕ). sets b at p) w.so_far ∙ ap (λ (k : ℕ). sets (sets before start w.done) k p) m ∙ sym (sets_append before start w.done p);
        place = simp length-append (omega arith);
        all = w.all ∙ ap (λ (l : List ℕ). w.done ++ l) e ∙ sym (append_assoc w.done p q);
      }

  -- Nothing is left.
  pub write_last : left ≡ [] → (now ≡ sets before start whole) × (at ≡ start + length whole)
  write_last e =
      let d : whole ≡ w.done = w.all ∙ ap (λ (l : List ℕ). w.done ++ l) e ∙ append-nil w.done in
      (w.so_far ∙ ap (sets before start) (sym d), w.place ∙ ap (λ (l : List ℕ). start + length l) (sym d))

-- ---- over the start of a buffer

pub overwritten_length : (w b : List ℕ) → length w ≤ length b → length (overwritten w b) ≡ length b
overwritten_length w b h = simp (length-append, length-drop) (omega arith)

pub overwritten_twice : (w b : List ℕ) → overwritten w (overwritten w b) ≡ overwritten w b
overwritten_twice w b = ap (λ (l : List ℕ). w ++ l) (drop-append_seam w (drop (length w) b))

pub sets_overwritten : (before whole : List ℕ) → length whole ≤ length before → sets before 0 whole ≡ overwritten whole before
sets_overwritten before whole h =
    let z : 0 + length whole ≡ length whole = omega arith in
    sets-eq whole before 0 (omega arith) ∙ ap (λ (k : ℕ). whole ++ drop k before) z

-- ---- a decimal number, digit by digit

module _ (b : List ℕ) (at k : ℕ) where
  pub put_one : k < 10 → (at + 1 ≡ at + length (numeral k)) × (set b at (48 + k) ≡ sets b at (numeral k))
  put_one h = (rw (numeral_one k h), rw (numeral_one k h))

  pub put_two : 10 ≤ k → k < 100 → (at + 2 ≡ at + length (numeral k)) × (set (set b at (48 + k / 10)) (at + 1) (48 + k % 10) ≡ sets b at (numeral k))
  put_two l h = (rw (numeral_two k l h), rw (numeral_two k l h, add-one))

  pub put_three : 100 ≤ k → k < 1000
      → (at + 3 ≡ at + length (numeral k)) × (set (set (set b at (48 + k / 100)) (at + 1) (48 + k / 10 % 10)) (at + 2) (48 + k % 10) ≡ sets b at (numeral k))
  put_three l h = (rw (numeral_three k l h), rw (numeral_three k l h, add-one, add-two))
