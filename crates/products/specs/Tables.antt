-- The product of a table (arXiv 1603.06204, section 2). Assumes nothing.
use Rattle.semigroups.specs.Tables.{Product, product}
use Rattle.products.specs.declared.Table.{Table}

-- The product that the cells of a table give.
abbrev pub times_of : Table → Product
times_of t = product t.order t.cells.now
