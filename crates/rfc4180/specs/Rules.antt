-- What RULES 19 says of tables as text, as sentences about the definitions. Assumes nothing.
use Rattle.std.specs.Prelude.{◌≡◌, List, ℕ, ◌*◌, ◌≤◌, ◌<◌, length}
use Rattle.semigroups.specs.Tables.{Filled}
use Rattle.rfc4180.specs.Decimals.{value, numeral}
use Rattle.rfc4180.specs.RoundsLaws.{closed, Buffers, saved, rounds, Unchanged}
use Rattle.rfc4180.specs.Records.{rows, rows_text}
use Rattle.rfc4180.specs.Tables.{table_text}
use Rattle.rfc4180.specs.Questions.{longest_text}
use Rattle.rfc4180.specs.PassingLaws.{SavePasses}

-- What RULES 19 says of tables as text.
pub record TextRules : Type 0 where
  -- The records and fields of a text make that text again, each record closed, the last one too.
  pub rows_back : (t : List ℕ) → rows_text (rows t) ≡ closed t
  -- A decimal number has the value that it was written for.
  pub number_back : (k : ℕ) → k < 1000 → value (numeral k) ≡ k
  -- Every table's text has at most 57,720 bytes.
  pub table_fits : (n : ℕ) (cells : List ℕ) → Filled n cells → length (table_text n cells) ≤ longest_text
  -- A table saved, then loaded and saved again, however often: the text keeps every byte, and loads as the same cells.
  pub saved_stays : (n : ℕ) (cells : List ℕ) (b : Buffers) → SavePasses n cells (length b.text) → n * n ≤ length b.cells
      → (r : ℕ) → Unchanged n cells (saved n cells b) (rounds r (saved n cells b))
