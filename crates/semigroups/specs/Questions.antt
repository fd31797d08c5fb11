-- The questions that a call asks one after another (RULES 7): the first "no" gives its number, the side that it names, and what is said with it.
-- Each call has a list of questions. Those about a table, an element, a map check and a search stand here; the others stand with their subjects, such as 8 and
-- 9 in Transformations.
-- Assumes nothing.
use Rattle.std.specs.Prelude.{Bool, cond, List, [], ◌∷◌, ◌++◌, map, ℕ, ◌*◌, eqb, leb, length}
use Rattle.std.proofs.Math.Option
use Rattle.std.proofs.Math.Option.{Option, none, some}
use Rattle.semigroups.specs.Lists.{first_of}
use Rattle.semigroups.specs.Tables.{largest_order, product, is_element, bad_cell, bad_triple}
use Rattle.semigroups.specs.Scratch.{scratch_size}

-- ---- a question

-- A question: its number; the side that it names, 1 for the source, 2 for the target, or 0 for none; and how it fails: none if it passes, else the values that
-- its "no" carries.
pub record Question : Type 0 where
  pub number : ℕ
  pub side : ℕ
  pub fails : Option (List ℕ)

-- The question with this number, which passes or not; its "no" carries nothing.
abbrev pub ask : ℕ → Bool → Question
ask number passes = record { number = number; side = 0; fails = cond passes none (some []) }

-- The question with this number, which fails if values are found; its "no" carries them.
abbrev pub seek : ℕ → Option (List ℕ) → Question
seek number found = record { number = number; side = 0; fails = found }

-- The question, which now names a side: in a call with two tables that of the table it is about (RULES 7.4).
abbrev pub on_side : ℕ → Question → Question
on_side side q = record { number = q.number; side = side; fails = q.fails }

-- ---- a refusal

-- A refusal: the number of the question that fails, the side that it names or 0, and the values said with it (RULES 7.5).
pub record Refusal : Type 0 where
  pub number : ℕ
  pub side : ℕ
  pub values : List ℕ

-- The refusal by a question, if it fails.
abbrev pub refusal_by : Question → Option Refusal
refusal_by q = Option.map (λ values. record { number = q.number; side = q.side; values = values }) q.fails

-- The refusal by the first question of a list that fails, if one does.
abbrev pub first_no : List Question → Option Refusal
first_no qs = first_of refusal_by qs

-- ---- about a table

-- Question 3: is every cell 1 to n? Its "no" carries the first cell that is not.
abbrev pub cell_question : ℕ → List ℕ → Question
cell_question n cells = seek 3 (Option.map (λ k. k ∷ []) (bad_cell n cells))

-- Question 4: is the table associative? Its "no" carries the first failing triple.
abbrev pub triple_question : ℕ → List ℕ → Question
triple_question n cells = seek 4 (bad_triple n (product n cells))

-- The questions about cells and an order: 1, is the order 1 to 120? 2, are there n × n cells? Then 3. Saving a table asks these and not 4.
abbrev pub cells_questions : ℕ → List ℕ → List Question
cells_questions n cells = ask 1 (is_element largest_order n) ∷ ask 2 (eqb (length cells) (n * n)) ∷ cell_question n cells ∷ []

-- The questions about a table: 1 to 3, then 4.
abbrev pub table_questions : ℕ → List ℕ → List Question
table_questions n cells = cells_questions n cells ++ triple_question n cells ∷ []

-- The refusal of a table, if a question fails.
unfoldable pub table_refusal : ℕ → List ℕ → Option Refusal
table_refusal n cells = first_no (table_questions n cells)

-- ---- about an element, a map check, a search

-- The questions about an element: the table's four; then 7, is it 1 to n?
abbrev pub element_questions : ℕ → List ℕ → ℕ → List Question
element_questions n cells a = table_questions n cells ++ ask 7 (is_element n a) ∷ []

-- The refusal of a table and an element, if a question fails.
unfoldable pub element_refusal : ℕ → List ℕ → ℕ → Option Refusal
element_refusal n cells a = first_no (element_questions n cells a)

-- The questions about two tables: the source's four, then the target's four.
abbrev pub tables_questions : ℕ → List ℕ → ℕ → List ℕ → List Question
tables_questions m source n target = map (on_side 1) (table_questions m source) ++ map (on_side 2) (table_questions n target)

-- The questions of a map check: those about the two tables; then 5, has the map buffer exactly m bytes?
abbrev pub check_questions : ℕ → List ℕ → ℕ → List ℕ → ℕ → List Question
check_questions m source n target mapLength = tables_questions m source n target ++ ask 5 (eqb mapLength m) ∷ []

-- The refusal of a map check, if a question fails.
unfoldable pub check_refusal : ℕ → List ℕ → ℕ → List ℕ → ℕ → Option Refusal
check_refusal m source n target mapLength = first_no (check_questions m source n target mapLength)

-- The questions of a search: those of a map check; then 6, has the scratch buffer at least the bytes that its marks take?
abbrev pub search_questions : ℕ → List ℕ → ℕ → List ℕ → ℕ → ℕ → List Question
search_questions m source n target mapLength scratchLength = check_questions m source n target mapLength ++ ask 6 (leb (scratch_size m n) scratchLength) ∷ []

-- The refusal of a search, if a question fails.
unfoldable pub search_refusal : ℕ → List ℕ → ℕ → List ℕ → ℕ → ℕ → Option Refusal
search_refusal m source n target mapLength scratchLength = first_no (search_questions m source n target mapLength scratchLength)
