-- The triple that is tested is list number k.
use Rattle.std.proofs.Common.{◌∙◌, sym, arith}
use Rattle.plain.proofs.Triples.{triples_begin, triples_next, triples_hit, triples_end}
use Rattle.plain.proofs.judge_triples.Goals as goal

pub loop-k-init : goal.loop-k-init
loop-k-init c = triples_begin _ _

pub returns-then-not-associates : goal.returns-then-not-associates
returns-then-not-associates c =
    record { answer = sym (c.loop-k.invariant ∙ triples_hit _ _ _ (omega arith) _ c.list_of-triple.ensures.list (sym c.associates.ensures.answer ∙ c.if-not-associates.true)) }

pub loop-k-preserved : goal.loop-k-preserved
loop-k-preserved c = c.loop-k.invariant ∙ triples_next _ _ _ (omega arith) _ c.list_of-triple.ensures.list (sym c.associates.ensures.answer ∙ c.if-not-associates.false)

pub returns : goal.returns
returns c = record { answer = sym (c.loop-k.invariant ∙ triples_end _ _ _ (omega arith)) }
