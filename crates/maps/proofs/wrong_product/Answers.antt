use Rattle.std.proofs.Common.{sym, subst, arith, ◌∙◌}
use Rattle.semigroups.specs.Tables.{Element}
use Rattle.semigroups.proofs.Tables.{list_at}
use Rattle.maps.proofs.Pairs.{pairs_begin, first_enter, pair_pass, pair_hit, pair_leave, pairs_end}
use Rattle.maps.proofs.Faults.{compared, right_pair, wrong_pair, wrong_as_test}
use Rattle.maps.proofs.wrong_product.Goals as goal

pub loop-i-init : goal.loop-i-init
loop-i-init c = pairs_begin _ _

pub loop-j-init : goal.loop-j-init
loop-j-init c = c.loop-i.invariant ∙ first_enter _ _ _ (omega arith)

pub times-requires-clause-left : goal.times-requires-clause-left
times-requires-clause-left c =
    let i : Element c.args.source.now.order c.loop-i.i = omega arith in
    subst (Element c.args.target.now.order) (sym c.image-first.ensures.answer) (list_at _ _ _ c.requires.inside _ i)

pub times-requires-clause-right : goal.times-requires-clause-right
times-requires-clause-right c =
    let j : Element c.args.source.now.order c.loop-j.j = omega arith in
    subst (Element c.args.target.now.order) (sym c.image-second.ensures.answer) (list_at _ _ _ c.requires.inside _ j)

pub returns-then-image-times : goal.returns-then-image-times
returns-then-image-times c =
    let w = compared _ _ _ _ _ _ _ _ _ _ _ _ c.image-first.ensures.answer c.image-second.ensures.answer c.times-ij.ensures.answer c.image.ensures.answer c.times.ensures.answer in
    record { answer = sym (wrong_as_test _ _ _ _ _ ∙ c.loop-j.invariant ∙ pair_hit _ _ _ _ (omega arith) (wrong_pair _ _ _ _ _ (λ e. c.if-image-times.true (w.0 ∙ e ∙ sym w.1)))) }

pub loop-j-preserved : goal.loop-j-preserved
loop-j-preserved c =
    let w = compared _ _ _ _ _ _ _ _ _ _ _ _ c.image-first.ensures.answer c.image-second.ensures.answer c.times-ij.ensures.answer c.image.ensures.answer c.times.ensures.answer in
    c.loop-j.invariant ∙ pair_pass _ _ _ _ (omega arith) (right_pair _ _ _ _ _ (sym w.0 ∙ c.if-image-times.false ∙ w.1))

pub loop-i-preserved : goal.loop-i-preserved
loop-i-preserved c = c.loop-j.invariant ∙ pair_leave _ _ _ _ (omega arith)

pub returns : goal.returns
returns c = record { answer = sym (wrong_as_test _ _ _ _ _ ∙ c.loop-i.invariant ∙ pairs_end _ _ _ (omega arith)) }
