-- The total of one class, as the code writes it. No contract of an entry point cites this. Assumes nothing.
use Rattle.std.specs.Prelude.{cond, List, [], ℕ}
use Rattle.rfc4180.specs.Records.{line_text}
use Rattle.progress.specs.Classes.{Note}
use Rattle.progress.specs.Output.{names, total_record}

-- The text of the total of the class that file a names; it is empty if file a names no class.
unfoldable pub total_text : List Note → ℕ → List ℕ
total_text notes a = cond (names notes a) (line_text (total_record notes a)) []
