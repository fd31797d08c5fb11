-- Refusals as the functions inside the library make them, and those of parts of the questions about a table. Assumes nothing.
use Rattle.std.specs.Prelude.{List, ℕ}
use Rattle.std.proofs.Math.Option.{Option}
use Rattle.semigroups.specs.Questions.{Refusal, first_no, cells_questions, tables_questions}

-- The refusal with this number and these values that names no side.
abbrev pub no : ℕ → List ℕ → Refusal
no number values = record { number = number; side = 0; values = values }

-- The refusal of one of two tables, with the side that it names.
abbrev pub naming : ℕ → Refusal → Refusal
naming side r = record { number = r.number; side = side; values = r.values }

-- The refusal of cells and an order, if one of questions 1 to 3 fails.
unfoldable pub cells_refusal : ℕ → List ℕ → Option Refusal
cells_refusal n cells = first_no (cells_questions n cells)

-- The refusal of two tables, if one of the four questions about each fails.
unfoldable pub tables_refusal : ℕ → List ℕ → ℕ → List ℕ → Option Refusal
tables_refusal m source n target = first_no (tables_questions m source n target)
