use Rattle.std.proofs.Common.{◌≡◌}
use Rattle.std.specs.Prelude.{map, take}
use Rattle.products.specs.Tables.{times_of}
use Rattle.light.specs.InnerFound.{adding_all}
use Rattle.light.proofs.multiply_right.Given as goal

abbrev pub invariant-loop-y : goal.invariant-loop-y
invariant-loop-y l = l.found ≡ adding_all l.initial.found (take l.y-index (map (times_of l.table l.x) l.list))
