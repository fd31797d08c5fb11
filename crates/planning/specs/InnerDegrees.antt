-- What is left in the image buffer once the questions have passed. Assumes nothing.
use Rattle.std.specs.Prelude.{List, ℕ}
use Rattle.std.proofs.Math.Option.{Option, map}
use Rattle.semigroups.specs.Tables.{Product}
use Rattle.planning.specs.Degrees.{Fit, least_fit}

-- The first embedding at the least degree, or none.
unfoldable pub least_embedding : ℕ → Product → Option (List ℕ)
least_embedding m s = map (λ (x : Fit). x.embedding) (least_fit m s)
