-- What a call that loads or saves says, and the bytes that it leaves, from all that is lent (RULES 19 and 7).
-- Assumes nothing.
use Rattle.std.specs.Prelude.{List, ℕ, length}
use Rattle.semigroups.specs.Calls.{Answer, given_unless, written_unless}
use Rattle.rfc4180.specs.Tables.{order_of, cells_of, table_text}
use Rattle.rfc4180.specs.Questions.{load_refusal, save_refusal}

-- ---- loading a text into a cell buffer

-- What a call that loads answers: the order.
unfoldable pub load_answer : List ℕ → List ℕ → Answer ℕ
load_answer t cells = given_unless (load_refusal t (length cells)) (order_of t)

-- The cell buffer after the call: the cells of the text; later bytes are untouched, and a refusal changes no byte.
unfoldable pub cells_after : List ℕ → List ℕ → List ℕ
cells_after t cells = written_unless (load_refusal t (length cells)) (cells_of t) cells

-- ---- saving the table of order n with these cells into a text buffer

-- What a call that saves answers: the length of the text.
unfoldable pub save_answer : ℕ → List ℕ → List ℕ → Answer ℕ
save_answer n cells text = given_unless (save_refusal n cells (length text)) (length (table_text n cells))

-- The text buffer after the call: the text of the table; later bytes are untouched, and a refusal changes no byte.
unfoldable pub text_after : ℕ → List ℕ → List ℕ → List ℕ
text_after n cells text = written_unless (save_refusal n cells (length text)) (table_text n cells) text
