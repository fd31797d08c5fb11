-- The loop's invariant: the bytes from i on are left to write. Assumes nothing.
use Rattle.std.proofs.Common.{◌+◌, drop}
use Rattle.rfc4180.proofs.Writing.{Writing}
use Rattle.lines.proofs.put_bytes.Given as goal

abbrev pub invariant-loop-i : goal.invariant-loop-i
invariant-loop-i l = Writing l.initial.out l.at l.bytes (drop l.i l.bytes) l.out (l.at + l.i)
