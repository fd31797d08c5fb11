-- What is claimed of the program `recue` beyond its output. Assumes nothing.
use Rattle.std.specs.Prelude.{◌≡◌, List, ℕ}
use Rattle.files.specs.FilesLaws.{first_bytes}
use Rattle.output.specs.Program.{recue_output}

-- Of each file no more is read than one byte beyond the longest text: no later byte makes a difference (RULES 21.2).
abbrev pub FirstBytesDecide : Type 0
FirstBytesDecide = (source target : List ℕ) → recue_output (first_bytes source) (first_bytes target) ≡ recue_output source target
