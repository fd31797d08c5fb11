-- What is said of a file that holds a table (RULES 21.1): its bytes are loaded as text, and questions 3 and 4 are asked of the table. Assumes nothing.
use Rattle.std.specs.Prelude.{List, [], ◌∷◌, ◌++◌, ℕ, ◌*◌}
use Rattle.std.proofs.Math.Option.{Option}
use Rattle.semigroups.specs.Tables.{largest_order}
use Rattle.semigroups.specs.Questions.{Question, Refusal, first_no, cell_question, triple_question}
use Rattle.rfc4180.specs.Tables.{order_of, cells_of}
use Rattle.rfc4180.specs.Questions.{load_questions}

-- The questions about the table of a file that loads: 3, is every cell 1 to n? Then 4, is the table associative?
abbrev pub loaded_questions : List ℕ → List Question
loaded_questions t = cell_question (order_of t) (cells_of t) ∷ triple_question (order_of t) (cells_of t) ∷ []

-- The questions about a file with these bytes and a buffer of this many cells: those about loading it, then those about its table.
abbrev pub file_questions : List ℕ → ℕ → List Question
file_questions t room = load_questions t room ++ loaded_questions t

-- The refusal of a file, if a question fails.
unfoldable pub file_refusal : List ℕ → ℕ → Option Refusal
file_refusal t room = first_no (file_questions t room)

-- How many cells a buffer must have to hold any table: as many as a table of the largest order has.
abbrev pub room : ℕ
room = largest_order * largest_order

-- The word "refused", with which the record of a refused file begins (RULES 21.3 and 22.3).
abbrev pub refused_word : List ℕ
refused_word = 114 ∷ 101 ∷ 102 ∷ 117 ∷ 115 ∷ 101 ∷ 100 ∷ []
