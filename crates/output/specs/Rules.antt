-- What RULES 21 says of the whole output of the program `recue`, for files of any bytes. Assumes nothing.
use Rattle.std.specs.Prelude.{◌≡◌, List, ℕ}
use Rattle.std.proofs.Math.Option.{none, some}
use Rattle.semigroups.specs.Questions.{Refusal}
use Rattle.rfc4180.specs.Records.{rows_text}
use Rattle.rfc4180.specs.Tables.{order_of, cells_of}
use Rattle.files.specs.Files.{file_refusal, room}
use Rattle.output.specs.Records.{refused_records}
use Rattle.output.specs.Program.{answer_records, recue_output}
use Rattle.output.specs.ProgramLaws.{FirstBytesDecide}
use Rattle.output.specs.Examples.{RecueExample}

pub record RecueRules : Type 0 where
  -- RULES 21.3: "refused, 1 or 2 for the file, the number". Where the source is refused, the target makes no difference.
  pub source_refused : (source target : List ℕ) (r : Refusal) → file_refusal source room ≡ some r → recue_output source target ≡ rows_text (refused_records 1 r)
  pub target_refused : (source target : List ℕ) (r : Refusal) → file_refusal source room ≡ none → file_refusal target room ≡ some r → recue_output source target ≡ rows_text (refused_records 2 r)
  -- Otherwise the output is what is found between the two tables.
  pub both_accepted : (source target : List ℕ) → file_refusal source room ≡ none → file_refusal target room ≡ none
      → recue_output source target ≡ rows_text (answer_records (order_of source) (cells_of source) (order_of target) (cells_of target))
  -- RULES 21.2: no byte after the first 57,721 of a file makes a difference.
  pub first_bytes_law : FirstBytesDecide
  -- RULES 21.4: the example, byte for byte.
  pub example : RecueExample
