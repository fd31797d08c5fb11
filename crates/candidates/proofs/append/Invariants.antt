-- The array holds the longer keys of the elements so far, then zeros.
use Rattle.std.proofs.Common.{◌≡◌}
use Rattle.products.specs.InnerPerElement.{per_element}
use Rattle.candidates.specs.InnerKeys.{appended}
use Rattle.candidates.proofs.append.Given as goal

abbrev pub invariant-loop-place : goal.invariant-loop-place
invariant-loop-place l = l.longer ≡ per_element l.place (appended l.values l.keys l.numbers)
