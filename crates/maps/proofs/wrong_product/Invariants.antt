-- The earliest pair whose product fails is the first one from here on.
use Rattle.std.proofs.Common.{◌≡◌}
use Rattle.semigroups.specs.Lists.{find, lists}
use Rattle.products.specs.Tables.{times_of}
use Rattle.maps.proofs.Pairs.{from_first, from_pair}
use Rattle.maps.proofs.Faults.{is_wrong}
use Rattle.maps.proofs.wrong_product.Given as goal

abbrev pub invariant-loop-j : goal.invariant-loop-j
invariant-loop-j l = find (is_wrong (times_of l.source) (times_of l.target) l.map) (lists 2 l.m) ≡ from_pair (is_wrong (times_of l.source) (times_of l.target) l.map) l.m l.i l.j

abbrev pub invariant-loop-i : goal.invariant-loop-i
invariant-loop-i l = find (is_wrong (times_of l.source) (times_of l.target) l.map) (lists 2 l.m) ≡ from_first (is_wrong (times_of l.source) (times_of l.target) l.map) l.m l.i
