-- What the kinds of the code and the answers of a search between accepted tables mean. Assumes nothing.
use Rattle.std.specs.Prelude.{Bool, true, false}
use Rattle.semigroups.specs.Maps as maps
use Rattle.kinds.specs.declared.Kind.{Kind}
use Rattle.kinds.specs.declared.Kind.TheVariants.{Embeddings, Isomorphisms, Reversed}

-- The kind of maps that a value of the code stands for.
abbrev pub kind_of : Kind → maps.Kind
kind_of Embeddings = maps.embeddings
kind_of Isomorphisms = maps.isomorphisms
kind_of Reversed = maps.reversed

-- Found for true, none for false.
abbrev pub sought_if : Bool → maps.Sought
sought_if true = maps.found
sought_if false = maps.nothing
