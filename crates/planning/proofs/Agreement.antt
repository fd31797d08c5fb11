-- The table of all transformations of d points may stand in for their product, since both agree on the elements. Assumes nothing.
use mathlib.Core.Path.{◌≡◌, sym, ap}
use Prim.Native.Nat.{ℕ}
use Rattle.semigroups.specs.Tables.{Product}
use Rattle.semigroups.specs.Maps.{embeddings, maps, first, earliest}
use Rattle.semigroups.specs.Transformations.{transformation_order, transformation_product}
use Rattle.semigroups.proofs.Maps.{Agree, embeddings_agree}
use Rattle.semigroups.proofs.Transformations.{table_product}
use Rattle.planning.specs.Degrees.{degree_product, first_at}

pub table_agrees : (d : ℕ) → Agree (transformation_order d) (degree_product d) (transformation_product d)
unfolding degree_product
table_agrees d = table_product d

pub agrees_table : (d : ℕ) → Agree (transformation_order d) (transformation_product d) (degree_product d)
agrees_table d i j hi hj = sym (table_agrees d i j hi hj)

pub first_by_product : (m : ℕ) (s : Product) (d : ℕ) → first_at m s d ≡ earliest first (maps embeddings m s (transformation_order d) (transformation_product d))
unfolding first_at
first_by_product m s d = ap (earliest first) (embeddings_agree m s (transformation_order d) (degree_product d) (transformation_product d) (table_agrees d) (agrees_table d))
