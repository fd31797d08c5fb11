use Rattle.std.proofs.Common.{◌∙◌}
use Rattle.kinds.proofs.Marked.{marked_unlimited}
use Rattle.kinds.proofs.find_allowed.Goals as goal

pub returns-then-all : goal.returns-then-all
returns-then-all c = let a = c.args in record { answer = c.find.ensures.answer ∙ marked_unlimited a.next a.m a.source.now a.n a.target.now a.after.now a.scratch.now }

pub returns : goal.returns
returns c = let a = c.args in record { answer = c.find_narrowed.ensures.answer ∙ marked_unlimited a.next a.m a.source.now a.n a.target.now a.after.now a.scratch.now }
