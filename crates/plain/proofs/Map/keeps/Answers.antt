-- The entries of the pair are elements of the source.
use Rattle.std.proofs.Common.{arith}
use Rattle.plain.proofs.Enumeration.{entry_element}
use Rattle.plain.proofs.Map.keeps.Goals as goal

pub image-x-requires : goal.image-x-requires
image-x-requires c = entry_element _ _ _ c.requires.pair 0 (omega arith)

pub image-y-requires : goal.image-y-requires
image-y-requires c = entry_element _ _ _ c.requires.pair 1 (omega arith)

pub product-ij-requires-clause-row : goal.product-ij-requires-clause-row
product-ij-requires-clause-row c = entry_element _ _ _ c.requires.pair 0 (omega arith)

pub product-ij-requires-clause-column : goal.product-ij-requires-clause-column
product-ij-requires-clause-column c = entry_element _ _ _ c.requires.pair 1 (omega arith)
