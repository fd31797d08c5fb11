-- The earliest pair with equal images is the first one from here on; pairs that do not rise are left out at once.
use Rattle.std.proofs.Common.{◌≡◌, length}
use Rattle.semigroups.specs.Lists.{find, lists}
use Rattle.maps.proofs.Pairs.{from_first, from_pair}
use Rattle.maps.proofs.Faults.{is_equal}
use Rattle.maps.proofs.equal_images.Given as goal

abbrev pub invariant-loop-j : goal.invariant-loop-j
invariant-loop-j l = find (is_equal l.map) (lists 2 (length l.map)) ≡ from_pair (is_equal l.map) (length l.map) l.i l.j

abbrev pub invariant-loop-i : goal.invariant-loop-i
invariant-loop-i l = find (is_equal l.map) (lists 2 (length l.map)) ≡ from_first (is_equal l.map) (length l.map) l.i
