-- The table of all transformations of d points (RULES 14; arXiv 1603.06204, section 2: a transformation is the list
-- of its images). Mappings are written on the right and compose from left to right, as in Araújo, von Bünau, Mitchell and Neunhöffer, "Computing
-- automorphisms of semigroups", section 1. Assumes nothing.
use Rattle.std.specs.Prelude.{List, [], ◌∷◌, ℕ, ◌+◌, ◌-◌, ◌*◌, ◌^◌, leb, get_or}
use Rattle.std.proofs.Math.Option.{Option}
use Rattle.semigroups.specs.Lists.{count, earlier, lists}
use Rattle.semigroups.specs.Tables.{Product, grid, is_element}
use Rattle.semigroups.specs.Questions.{Question, ask, Refusal, first_no}
use Rattle.semigroups.specs.Maps.{after}

-- All transformations of d points: all image lists, in list order.
unfoldable pub transformations : ℕ → List (List ℕ)
transformations d = lists d d

-- How many transformations of d points there are.
unfoldable pub transformation_order : ℕ → ℕ
transformation_order d = d ^ d

-- Transformation number i, counted from 1.
unfoldable pub transformation : ℕ → ℕ → List ℕ
transformation d i = get_or (transformations d) (i - 1) []

-- The number of a transformation: one more than the number of transformations that are earlier (RULES 14.1).
unfoldable pub number_of : ℕ → List ℕ → ℕ
number_of d f = count (λ g. earlier g f) (transformations d) + 1

-- The product of transformations s and t, given by their numbers: s first, then t, so t is done after s (RULES 14.2).
unfoldable pub transformation_product : ℕ → Product
transformation_product d s t = number_of d (after (transformation d t) (transformation d s))

-- The cells of the table of all transformations of d points.
unfoldable pub transformation_cells : ℕ → List ℕ
transformation_cells d = grid (transformation_order d) (transformation_order d) (transformation_product d)

-- The questions about a table of transformations: 8, is the degree 1 to 3? 9, has the buffer room for its cells?
abbrev pub transformation_questions : ℕ → ℕ → List Question
transformation_questions d size = ask 8 (is_element 3 d) ∷ ask 9 (leb (transformation_order d * transformation_order d) size) ∷ []

-- The refusal of a degree and a buffer of this size, if a question fails.
unfoldable pub transformation_refusal : ℕ → ℕ → Option Refusal
transformation_refusal d size = first_no (transformation_questions d size)
