-- A count in decimal, from its first digit on. Assumes nothing.
use mathlib.Core.Path.{◌≡◌, refl, ap, ◌∙◌}
use mathlib.Core.Bool.{cond}
use mathlib.Core.List.{List, [], ◌∷◌, ◌++◌}
use Prim.Native.Nat.{ℕ, zero, suc, ◌+◌, ◌*◌, ◌/◌, ◌%◌, ◌≤◌, ◌<◌}
use native.Mathlib.Omega.{arith}
use borrow.Author.Tests.{lt-ltb, le-ltb}
use lib.Dec.{ltb}
use lib.ListN.{length, set, length-append}
use lib.Seq.{sets}
use Rattle.rfc4180.specs.Decimals.{numeral_within}
use Rattle.rfc4180.proofs.Writing.{write_first, write_last, sets_overwritten}
use Rattle.lines.proofs.Lines.{written}
use Rattle.judging.specs.InnerTally.{decimal, colon, agree_word, differ_word, tally_line}
use Rattle.judging.specs.declared.tally.Tally.{Tally}
use Rattle.semigroups.specs.Calls.{overwritten}
use Rattle.rfc4180.proofs.Decimals.{numeral_short}

pub one_digit : (k : ℕ) → k < 10 → decimal k ≡ (48 + k) ∷ []
unfolding numeral_within
one_digit k h =
    let m : k % 10 ≡ k = omega arith in
    simp (lt-ltb k 10 h, m)

-- The first number with more than d + 1 digits.
above : ℕ → ℕ
above zero = 10
above (suc d) = above d * 10

-- One more digit of room makes no difference to a number that needs no more than d + 1 digits.
room_enough : (d k : ℕ) → k < above d → numeral_within (suc d) k ≡ numeral_within (suc (suc d)) k
unfolding numeral_within above
room_enough zero k h = simp (lt-ltb k 10 h)
room_enough (suc d) k h =
    let q : k / 10 < above d = omega arith in
    ap (λ (l : List ℕ). cond (ltb k 10) [] l ++ (48 + k % 10) ∷ []) (room_enough d (k / 10) q)

last_digit : (d k : ℕ) → 10 ≤ k → numeral_within (suc d) k ≡ numeral_within d (k / 10) ++ (48 + k % 10) ∷ []
unfolding numeral_within
last_digit d k h = rw (le-ltb k 10 h)

more_digits : (k : ℕ) → 10 ≤ k → k < 18446744073709551616 → decimal k ≡ decimal (k / 10) ++ (48 + k % 10) ∷ []
unfolding above
more_digits k l h =
    let q : k / 10 < 10000000000000000000 = omega arith in
    last_digit 19 k l ∙ ap (λ (s : List ℕ). s ++ (48 + k % 10) ∷ []) (room_enough 18 (k / 10) q)

-- The last digit is written after the others.
pub digits_written : (out : List ℕ) (at k : ℕ) → 10 ≤ k → k < 18446744073709551616 → {place : ℕ} {o : List ℕ} → place ≡ at + length (decimal (k / 10)) → o ≡ sets out at (decimal (k / 10))
    → (place + 1 ≡ at + length (decimal k)) × (set o place (48 + k % 10) ≡ sets out at (decimal k))
digits_written out at k l h q e =
    let w₁ = written (write_first out at (decimal k)) (decimal (k / 10)) ((48 + k % 10) ∷ []) (more_digits k l h) e q in
    let w₂ = written w₁ ((48 + k % 10) ∷ []) [] refl refl refl in
    let all = write_last w₂ refl in
    (all.1, all.0)

pub digits_length : (k : ℕ) → 10 ≤ k → k < 18446744073709551616 → length (decimal k) ≡ length (decimal (k / 10)) + 1
digits_length k l h = ap length (more_digits k l h) ∙ length-append (decimal (k / 10)) ((48 + k % 10) ∷ [])

-- ---- the line of a group

line_short : (group : List ℕ) (t : Tally) → length group ≤ 40 → length (tally_line group t) ≤ 98
unfolding tally_line
line_short group t h =
    let a = numeral_short 20 t.agreeing in
    let d = numeral_short 20 t.differing in
    simp length-append (omega arith)

pub line_written : (before group : List ℕ) (t : Tally) → length group ≤ 40 → 100 ≤ length before → {o₁ o₂ o₃ o₄ o₅ o₆ : List ℕ} {p₁ p₂ p₃ p₄ p₅ p₆ : ℕ}
    → p₁ ≡ 0 + length group → o₁ ≡ sets before 0 group
    → p₂ ≡ p₁ + length colon → o₂ ≡ sets o₁ p₁ colon
    → p₃ ≡ p₂ + length (decimal t.agreeing) → o₃ ≡ sets o₂ p₂ (decimal t.agreeing)
    → p₄ ≡ p₃ + length agree_word → o₄ ≡ sets o₃ p₃ agree_word
    → p₅ ≡ p₄ + length (decimal t.differing) → o₅ ≡ sets o₄ p₄ (decimal t.differing)
    → p₆ ≡ p₅ + length differ_word → o₆ ≡ sets o₅ p₅ differ_word
    → (p₆ ≡ length (tally_line group t)) × (o₆ ≡ overwritten (tally_line group t) before)
unfolding tally_line
line_written before group t small room q₁ e₁ q₂ e₂ q₃ e₃ q₄ e₄ q₅ e₅ q₆ e₆ =
    let a = decimal t.agreeing in
    let d = decimal t.differing in
    let w₁ = written (write_first before 0 (tally_line group t)) group (colon ++ (a ++ (agree_word ++ (d ++ differ_word)))) refl e₁ q₁ in
    let w₂ = written w₁ colon (a ++ (agree_word ++ (d ++ differ_word))) refl e₂ q₂ in
    let w₃ = written w₂ a (agree_word ++ (d ++ differ_word)) refl e₃ q₃ in
    let w₄ = written w₃ agree_word (d ++ differ_word) refl e₄ q₄ in
    let w₅ = written w₄ d differ_word refl e₅ q₅ in
    let w₆ = written w₅ differ_word [] refl e₆ q₆ in
    let all = write_last w₆ refl in
    let short = line_short group t small in
    (let r = all.1 in omega arith, all.0 ∙ sets_overwritten before (tally_line group t) (omega arith))
