-- What passes the questions about a file, in plain words; and which of its bytes are read.
-- Assumes nothing.
use Rattle.std.specs.Prelude.{List, ℕ, ◌+◌, take}
use Rattle.semigroups.specs.Tables.{Accepted}
use Rattle.rfc4180.specs.Tables.{order_of, cells_of}
use Rattle.rfc4180.specs.Questions.{longest_text}
use Rattle.rfc4180.specs.PassingLaws.{LoadPasses}

-- What passes the questions about a file: it loads, and its table is accepted.
pub record FilePasses (t : List ℕ) (room : ℕ) : Type 0 where
  pub loads : LoadPasses t room
  pub table : Accepted (order_of t) (cells_of t)

-- The bytes of a file that are read: one more than the longest text has. No later byte makes a difference.
abbrev pub first_bytes : List ℕ → List ℕ
first_bytes t = take (longest_text + 1) t
