-- Worked examples of the least degree (RULES 17), computed from the definitions. Assumes nothing.
use Rattle.std.specs.Prelude.{◌≡◌, List, [], ◌∷◌, ℕ}
use Rattle.std.proofs.Math.Option.{Option, none, some}
use Rattle.semigroups.specs.Tables.{product}
use Rattle.semigroups.specs.InnerQuestions.{no}
use Rattle.semigroups.specs.Cases.{Table, one, swap, left, right, mat5}
use Rattle.planning.specs.Degrees.{Fit, fit, least_fit, least_degree, fit_positions, degree_refusal}
use Rattle.planning.specs.DegreesLaws.{EmbedsAt, LandingPositions}

-- The group of order 4 that one element generates: no transformation of three points has four different powers.
abbrev pub cyclic4 : Table
cyclic4 = record { order = 4; cells = 1 ∷ 2 ∷ 3 ∷ 4 ∷ 2 ∷ 3 ∷ 4 ∷ 1 ∷ 3 ∷ 4 ∷ 1 ∷ 2 ∷ 4 ∷ 1 ∷ 2 ∷ 3 ∷ [] }

-- The least degree of a table, with the first embedding.
abbrev pub least_fit_of : Table → Option Fit
least_fit_of t = least_fit t.order (product t.order t.cells)

-- mat5 gives 3, with its positions. Each degree is the least of some table, and some table has none of these. swap fits at 2, and so at 3.
pub record DegreeExamples : Type 0 where
  pub mat5_three : least_degree 5 (product 5 mat5.cells) ≡ some 3
  pub mat5_positions : fit_positions 5 (least_fit_of mat5) ≡ 1 ∷ 1 ∷ 1 ∷ 1 ∷ 1 ∷ 3 ∷ 1 ∷ 1 ∷ 2 ∷ 1 ∷ 3 ∷ 3 ∷ 1 ∷ 2 ∷ 2 ∷ []
  pub mat5_lands : LandingPositions 5 (product 5 mat5.cells) 3 (1 ∷ 3 ∷ 2 ∷ 9 ∷ 5 ∷ []) (fit_positions 5 (least_fit_of mat5))
  pub one_first : least_fit_of one ≡ some (fit 1 (1 ∷ []))
  pub swap_second : least_fit_of swap ≡ some (fit 2 (2 ∷ 3 ∷ []))
  pub swap_larger : (f : List ℕ) × EmbedsAt 2 (product 2 swap.cells) 3 f
  pub right_second : least_fit_of right ≡ some (fit 2 (1 ∷ 4 ∷ []))
  pub left_third : least_fit_of left ≡ some (fit 3 (3 ∷ 9 ∷ []))
  pub cyclic4_none : least_fit_of cyclic4 ≡ none

-- mat5 needs 15 bytes of positions, and a table of one element 3, though its degree is 1. A table that is not associative is refused before the buffer.
abbrev pub DegreeQuestionExamples : Type 0
DegreeQuestionExamples =
    (degree_refusal 5 mat5.cells 15 ≡ none) × (degree_refusal 5 mat5.cells 14 ≡ some (no 80 [])) × (degree_refusal 1 one.cells 3 ≡ none)
    × (degree_refusal 1 one.cells 2 ≡ some (no 80 [])) × (degree_refusal 2 (2 ∷ 1 ∷ 1 ∷ 1 ∷ []) 0 ≡ some (no 4 (1 ∷ 1 ∷ 2 ∷ [])))
