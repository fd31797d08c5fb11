use Rattle.std.proofs.Common.{arith, ap, ◌∙◌}
use Rattle.std.proofs.lemmas.List.{take_all}
use Rattle.parts.specs.InnerParts.{numbering}
use Rattle.parts.proofs.Parts.{numbering_nil, entry_small, numbers_few, numbers_next}
use Rattle.parts.proofs.numbers_of.Goals as goal

pub loop-i-init : goal.loop-i-init
loop-i-init c = numbering_nil

pub overflow_cast-numbers : goal.overflow_cast-numbers
overflow_cast-numbers c = let h = numbers_few _ c.requires.inside c.requires.no_repeats in omega arith

pub bounds-numbers-x : goal.bounds-numbers-x
bounds-numbers-x c = let h = entry_small _ c.requires.inside c.loop-i.i (omega arith) in omega arith

pub loop-i-preserved : goal.loop-i-preserved
loop-i-preserved c = numbers_next _ c.requires.inside c.requires.no_repeats _ _ (omega arith) c.loop-i.invariant

pub returns : goal.returns
returns c = record { answer = c.loop-i.invariant ∙ ap numbering (take_all c.loop-i.i c.args.elements.now (omega arith)) }
