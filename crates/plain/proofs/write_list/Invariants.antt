-- The invariant: the entries from i on are written, and what is left of k has the digits of those before.
use Rattle.std.proofs.Common.{length}
use Rattle.plain.specs.InnerEnumeration.{numbered}
use Rattle.plain.proofs.Enumeration.{Written}
use Rattle.plain.proofs.write_list.Given as goal

abbrev pub invariant-loop-i : goal.invariant-loop-i
invariant-loop-i l = Written l.n (numbered (length l.initial.list) l.n l.k) l.list l.rest l.i
