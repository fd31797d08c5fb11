use Rattle.std.proofs.Common.{◌+◌, ◌-◌, ◌*◌}
use Rattle.semigroups.specs.Tables.{turned}
use Rattle.semigroups.proofs.Writing.{AtRow, AtCell}
use Rattle.products.specs.Tables.{times_of}
use Rattle.products.proofs.Table.turn.Given as goal

abbrev pub invariant-loop-j : goal.invariant-loop-j
invariant-loop-j l = AtCell l.n l.n (turned (times_of l.self)) l.initial.turned l.i l.j ((l.i - 1) * l.n + (l.j - 1)) l.turned

abbrev pub invariant-loop-i : goal.invariant-loop-i
invariant-loop-i l = AtRow l.n l.n (turned (times_of l.self)) l.initial.turned l.i ((l.i - 1) * l.n) l.turned
