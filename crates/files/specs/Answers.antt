-- What the function that asks the questions about a file answers (RULES 21.1). Assumes nothing.
use Rattle.std.specs.Prelude.{List, ℕ, length}
use Rattle.semigroups.specs.Calls.{Answer, refused, gives, given_unless}
use Rattle.rfc4180.specs.Tables.{order_of}
use Rattle.files.specs.Files.{file_refusal}

-- The number of the question that fails, or 0 if none fails.
abbrev pub failed_number : Answer ℕ → ℕ
failed_number (refused r) = r.number
failed_number (gives n) = 0

-- What is said of a file: its order, or its earliest failed question.
unfoldable pub file_answer : List ℕ → List ℕ → Answer ℕ
file_answer t cells = given_unless (file_refusal t (length cells)) (order_of t)
