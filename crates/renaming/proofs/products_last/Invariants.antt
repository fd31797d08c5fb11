use Rattle.std.proofs.Common.{◌≡◌, ◌-◌, take}
use Rattle.light.specs.InnerFound.{adding_all}
use Rattle.renaming.specs.InnerRenaming.{non_products}
use Rattle.renaming.proofs.products_last.Given as goal

abbrev pub invariant-loop-x : goal.invariant-loop-x
invariant-loop-x l = l.found ≡ non_products (l.x - 1) l.table.cells.now

abbrev pub invariant-loop-y : goal.invariant-loop-y
invariant-loop-y l = l.found ≡ adding_all (non_products l.table.order l.table.cells.now) (take l.y-index l.table.cells.now)
