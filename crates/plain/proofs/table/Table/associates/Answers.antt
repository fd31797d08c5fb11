-- The entries of the triple are elements.
use Rattle.std.proofs.Common.{arith}
use Rattle.plain.proofs.Enumeration.{entry_element}
use Rattle.plain.proofs.table.Table.associates.Goals as goal

pub product-ij-requires-clause-row : goal.product-ij-requires-clause-row
product-ij-requires-clause-row c = entry_element _ _ _ c.requires.elements 0 (omega arith)

pub product-ij-requires-clause-column : goal.product-ij-requires-clause-column
product-ij-requires-clause-column c = entry_element _ _ _ c.requires.elements 1 (omega arith)

pub product-jk-requires-clause-row : goal.product-jk-requires-clause-row
product-jk-requires-clause-row c = entry_element _ _ _ c.requires.elements 1 (omega arith)

pub product-jk-requires-clause-column : goal.product-jk-requires-clause-column
product-jk-requires-clause-column c = entry_element _ _ _ c.requires.elements 2 (omega arith)

pub product-requires-clause-column : goal.product-requires-clause-column
product-requires-clause-column c = entry_element _ _ _ c.requires.elements 2 (omega arith)

pub product-requires-2-clause-row : goal.product-requires-2-clause-row
product-requires-2-clause-row c = entry_element _ _ _ c.requires.elements 0 (omega arith)
