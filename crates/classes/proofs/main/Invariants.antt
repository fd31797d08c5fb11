-- What holds of the progress at all times; the measure is how many files may still be asked for. Assumes nothing.
use Rattle.std.proofs.Common.{◌≡◌, length}
use Rattle.progress.specs.Progress as progress
use Rattle.progress.specs.Held.{progress_of}
use Rattle.classification.specs.ProgressLaws as progress-laws
use Rattle.classes.proofs.main.Given as goal

abbrev pub invariant-loop-k : goal.invariant-loop-k
invariant-loop-k l = record { text : length l.text ≡ 57721; cells : length l.cells ≡ 14400; sound : progress.Sound (progress_of l.classifier l.cells) }

abbrev pub decreases-loop-k : goal.decreases-loop-k
decreases-loop-k l = progress-laws.still_to_read (progress_of l.classifier l.cells)
