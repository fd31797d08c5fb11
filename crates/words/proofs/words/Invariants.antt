-- The array is the answer with the values passed so far.
use Rattle.std.proofs.Common.{◌≡◌, take}
use Rattle.numbers.specs.Words.{words}
use Rattle.words.proofs.words.Given as goal

abbrev pub invariant-loop-i : goal.invariant-loop-i
invariant-loop-i l = l.answer ≡ words l.number l.side (take l.i l.values)
