-- The product of a table, and the kinds of maps, in the words of the rules (RULES 3 and 5). Assumes nothing.
use Rattle.semigroups.specs.Tables.{Product, product}
use Rattle.semigroups.specs.Maps.{embeddings, isomorphisms}
use Rattle.semigroups.specs.Maps
use Rattle.plain.specs.declared.table.Table.{Table}
use Rattle.plain.specs.declared.Kind.{Kind}
use Rattle.plain.specs.declared.Kind.TheVariants.{Embeddings, Isomorphisms}

-- The product that the cells of a table give.
abbrev pub product_of : Table → Product
product_of t = product t.order t.cells.now

-- The kind of maps.
abbrev pub kind_of : Kind → Maps.Kind
kind_of Embeddings = embeddings
kind_of Isomorphisms = isomorphisms
