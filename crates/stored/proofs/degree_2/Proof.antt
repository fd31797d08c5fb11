-- The 16 bytes of degree 2 are the products of the definition, computed. Assumes nothing.
use mathlib.Core.Path.{refl}
use mathlib.Core.List.{flat_map}
use Rattle.semigroups.specs.Lists.{range, elements, at, sum, count, earlier, lists}
use Rattle.semigroups.specs.Tables.{grid}
use Rattle.semigroups.specs.Maps.{after}
use Rattle.semigroups.specs.Transformations.{transformations, transformation_order, transformation, number_of, transformation_product, transformation_cells}
use Rattle.stored.proofs.degree_2.Statement.{statement}
use Rattle.stored.proofs.degree_2.Tie as tie

returns : tie.Need-returns
unfolding range elements at sum count earlier lists grid after transformations transformation_order transformation number_of transformation_product transformation_cells flat_map
returns c = refl

pub degree_2_spec : {M : Type 1} → statement M
degree_2_spec = tie.close (tie.spec returns)
