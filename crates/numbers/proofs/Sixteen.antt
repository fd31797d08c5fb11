-- An answer is sixteen numbers exactly if at most fourteen values follow the number and the side. Assumes nothing.
use mathlib.Core.Path.{◌≡◌, ap, ◌∙◌, sym}
use mathlib.Core.Logic.{◌↔◌}
use mathlib.Core.List.{List, [], ◌∷◌, ◌++◌, append_assoc}
use Prim.Native.Nat.{ℕ, suc, ◌+◌, ◌-◌, ◌≤◌, ◌<◌}
use native.Mathlib.Omega.{arith}
use native.Mathlib.Numerals.{add-one}
use lib.ListN.{length, get_or, take, set, replicate, length-append, length-replicate}
use lib.Seq.{take-suc, length-take-le, set-append_seam}
use Rattle.numbers.specs.Words.{words}

module _ (number side : ℕ) where
  -- ---- the layout

  module _ (values : List ℕ) where
    long : length (words number side values) ≡ 2 + (length values + (14 - length values))
    long = simp (length-append, length-replicate) (omega arith)

    pub sixteen : (length (words number side values) ≡ 16) ↔ (length values ≤ 14)
    sixteen = (λ e. let l = long in omega arith, λ few. let l = long in omega arith)

  -- ---- one more value

  zeros_left : (k : ℕ) → k < 14 → replicate {A = ℕ} (14 - k) 0 ≡ 0 ∷ replicate (14 - (k + 1)) 0
  zeros_left k h = let e : 14 - k ≡ suc (14 - (k + 1)) = omega arith in rw e

  module _ (values : List ℕ) (x : ℕ) (few : length values < 14) where
    one_more : set (words number side values) (length values + 2) x ≡ words number side (values ++ x ∷ [])
    one_more =
        let e : length values + 2 ≡ suc (suc (length values)) = omega arith in
        let zeros : List ℕ = replicate (14 - (length values + 1)) 0 in
        rw e
        (ap (λ (l : List ℕ). number ∷ side ∷ l)
        (ap (λ (l : List ℕ). set (values ++ l) (length values) x) (zeros_left (length values) few)
        ∙ set-append_seam values 0 zeros x
        ∙ sym (append_assoc values (x ∷ []) zeros)
        ∙ ap (λ (k : ℕ). (values ++ x ∷ []) ++ replicate (14 - k) 0) (sym (length-append values (x ∷ [])))))

  module _ (values : List ℕ) (few : length values ≤ 14) (i : ℕ) (h : i < length values) where
    pub put_value : set (words number side (take i values)) (i + 2) (get_or values i 0) ≡ words number side (take (i + 1) values)
    put_value =
        let size : length (take i values) ≡ i = length-take-le i values (omega arith) in
        let step = one_more (take i values) (get_or values i 0) (omega arith) in
        rw (add-one, take-suc values i 0) (ap (λ (k : ℕ). set (words number side (take i values)) (k + 2) (get_or values i 0)) (sym size) ∙ step)
