-- The whole output of the program, from the bytes of its two files (RULES 21). A file that cannot be opened counts as empty.
-- Assumes nothing.
use Rattle.std.specs.Prelude.{List, [], ◌∷◌, ℕ}
use Rattle.std.proofs.Math.Option.{Option, none, some}
use Rattle.semigroups.specs.Tables.{product}
use Rattle.semigroups.specs.Questions.{Refusal}
use Rattle.semigroups.specs.Maps.{embeddings, maps, first, earliest}
use Rattle.rfc4180.specs.Records.{rows_text}
use Rattle.rfc4180.specs.Tables.{order_of, cells_of}
use Rattle.output.specs.Records.{none_word, first_record, found_records, refused_records}
use Rattle.files.specs.Files.{file_refusal, room}

-- The records of a map that is found; if there is none, the first record alone.
abbrev pub map_records : ℕ → ℕ → Option (List ℕ) → List (List (List ℕ))
map_records m n (some f) = found_records m n f
map_records m n none = first_record none_word m n ∷ []

-- The records of the answer: the first embedding of one table in another, or none.
unfoldable pub answer_records : ℕ → List ℕ → ℕ → List ℕ → List (List (List ℕ))
answer_records m source n target = map_records m n (earliest first (maps embeddings m (product m source) n (product n target)))

-- The record of a file's refusal if there is one, otherwise these records.
abbrev pub refused_unless : ℕ → Option Refusal → List (List (List ℕ)) → List (List (List ℕ))
refused_unless side none rs = rs
refused_unless side (some r) rs = refused_records side r

-- The records of the whole output: the source's refusal, else the target's, else the first embedding or none.
unfoldable pub recue_records : List ℕ → List ℕ → List (List (List ℕ))
recue_records source target =
    let answer = answer_records (order_of source) (cells_of source) (order_of target) (cells_of target) in
    let second = refused_unless 2 (file_refusal target room) answer in
    refused_unless 1 (file_refusal source room) second

-- The whole output of the program, as text.
unfoldable pub recue_output : List ℕ → List ℕ → List ℕ
recue_output source target = rows_text (recue_records source target)
