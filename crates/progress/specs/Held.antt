-- What the code holds of the progress: for each note a byte for the order and one for the number, and what comes next; the new file's table stands in a lent
-- buffer of cells. Assumes nothing.
use Rattle.std.specs.Prelude.{Bool, true, false, List, [], ◌∷◌, map, ℕ, zero, suc, ◌+◌, ◌*◌, ◌/◌, ◌%◌, take}
use Rattle.std.proofs.Math.Option.{Option, none, some}
use Rattle.semigroups.specs.Lists.{elements, at}
use Rattle.rfc4180.specs.Calls.{cells_after}
use Rattle.progress.specs.Classes.{Note, refused_by, in_class}
use Rattle.progress.specs.Progress.{Phase, reading, comparing, over, Progress, progress}
use Rattle.progress.specs.declared.Task.{Task}
use Rattle.progress.specs.declared.Task.TheVariants.{Read, Compare, Stop}
use Rattle.progress.specs.declared.Classifier.{Classifier}

-- The note that two bytes hold. Order 0 stands for a refused file, and the other byte is then the number of the question; otherwise it is the lowest file of
-- the class.
abbrev pub note_from : ℕ → ℕ → Note
note_from zero number = refused_by number
note_from (suc n) number = in_class (suc n) number

-- The notes of the first `count` files, from the two arrays of bytes.
unfoldable pub notes_from : List ℕ → List ℕ → ℕ → List Note
notes_from orders numbers count = map (λ k. note_from (at orders k) (at numbers k)) (elements count)

-- The notes that the classifier holds.
abbrev pub notes_in : Classifier → List Note
notes_in c = notes_from c.orders c.numbers c.count

-- The phase that a task and the buffer of cells stand for.
abbrev pub phase_of : Task → List ℕ → Phase
phase_of Read cells = reading
phase_of (Compare n j) cells = comparing n (take (n * n) cells) j
phase_of Stop cells = over

-- The progress that the classifier and the buffer of cells stand for.
abbrev pub progress_of : Classifier → List ℕ → Progress
progress_of c cells = progress (notes_in c) (phase_of c.task cells)

-- What is known of the file that was asked for: its bytes, or none if it could not be opened.
abbrev pub opened_text : Bool → List ℕ → Option (List ℕ)
opened_text true text = some text
opened_text false text = none

-- The buffer of cells after a step: a new file is loaded into it; any other step changes no byte.
abbrev pub cells_then : Task → Bool → List ℕ → List ℕ → List ℕ
cells_then Read true text cells = cells_after text cells
cells_then Read false text cells = cells
cells_then (Compare n j) opened text cells = cells
cells_then Stop opened text cells = cells

-- The name of file k, `01.csv` and so on, from its last two digits; k has no more.
unfoldable pub file_name : ℕ → List ℕ
file_name k = (48 + k / 10 % 10) ∷ (48 + k % 10) ∷ 46 ∷ 99 ∷ 115 ∷ 118 ∷ []
