-- The shorter check of a table whose generators are known (RULES 15), which is Light's associativity test: only triples with their middle on the list are
-- looked at. Assumes nothing.
use Rattle.std.specs.Prelude.{◌&&◌, not, List, [], ◌∷◌, ◌++◌, ℕ, eqb, length}
use Rattle.std.proofs.Math.Option.{Option}
use Rattle.semigroups.specs.Lists.{at, all, find, member, lists}
use Rattle.semigroups.specs.Tables.{Product, product, is_element, associates}
use Rattle.semigroups.specs.Questions.{Question, ask, seek, Refusal, first_no, cells_questions}
use Rattle.semigroups.specs.Generated.{generated}

-- The first triple i, j, k, by i, then j, then k, that has its middle on the list and does not associate; or none (RULES 15.3).
unfoldable pub bad_triple_through : ℕ → Product → List ℕ → Option (List ℕ)
bad_triple_through n s l = find (λ t. member (at t 2) l && not (associates s (at t 1) (at t 2) (at t 3))) (lists 3 n)

-- The questions about a table and a list of its elements: 1 to 3; then 50, is every entry 1 to n? 51, does the list generate all n elements? 4, does every
-- triple with its middle on the list associate?
abbrev pub generators_questions : ℕ → List ℕ → List ℕ → List Question
generators_questions n cells l =
    cells_questions n cells ++ ask 50 (all (is_element n) l) ∷ ask 51 (eqb (length (generated n (product n cells) l)) n) ∷ seek 4 (bad_triple_through n (product n cells) l) ∷ []

-- The refusal of the shorter check, if a question fails.
unfoldable pub generators_refusal : ℕ → List ℕ → List ℕ → Option Refusal
generators_refusal n cells l = first_no (generators_questions n cells l)
