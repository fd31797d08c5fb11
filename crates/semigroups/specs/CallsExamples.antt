-- Scratch after some marks are written, computed from the definitions.
-- Assumes nothing.
use Rattle.std.specs.Prelude.{◌≡◌, true, false, [], ◌∷◌, ◌+◌, eqb}
use Rattle.semigroups.specs.Scratch.{scratch_size, marks, marked}
use Rattle.semigroups.specs.InnerCalls.{scratch_after}

-- Scratch that held bytes of 255, after one mark is written, at the last of 1, of 7, of 8 and of 9 pairs; the marks of the three pairs of equal elements among
-- 3 × 3, and what is read from them. 120 × 120 pairs take 1,800 bytes.
abbrev pub ScratchExamples : Type 0
ScratchExamples =
    (scratch_after 1 1 (λ i j. true) (255 ∷ 255 ∷ []) ≡ 1 ∷ 255 ∷ []) × (scratch_after 1 7 (λ i j. eqb j 7) (255 ∷ 255 ∷ []) ≡ 64 ∷ 255 ∷ [])
    × (scratch_after 2 4 (λ i j. eqb (i + j) 6) (255 ∷ 255 ∷ []) ≡ 128 ∷ 255 ∷ []) × (scratch_after 3 3 (λ i j. eqb (i + j) 6) (255 ∷ 255 ∷ 255 ∷ []) ≡ 0 ∷ 1 ∷ 255 ∷ [])
    × (marks 3 3 eqb ≡ 17 ∷ 1 ∷ []) × (marked 3 (17 ∷ 1 ∷ []) 2 2 ≡ true) × (marked 3 (17 ∷ 1 ∷ []) 3 3 ≡ true) × (marked 3 (17 ∷ 1 ∷ []) 3 2 ≡ false)
    × (scratch_size 120 120 ≡ 1800)
