use Rattle.std.proofs.Common.{◌≡◌, ◌+◌, arith, sym, ap, ◌∙◌}
use Rattle.progress.specs.Held.{notes_in}
use Rattle.progress.specs.Progress.{names_order}
use Rattle.progress.proofs.Wanted.{length_from}
use Rattle.classification.proofs.NextClass.{none_start, none_step, next_here, next_end}
use Rattle.classification.proofs.Held.{note_from_law}
use Rattle.classification.proofs.next_class.Goals as goal

pub loop-i-init : goal.loop-i-init
loop-i-init c = none_start (notes_in c.args.classifier.now) c.args.n c.args.j

pub returns-then-names_order-clause-answer : goal.returns-then-names_order-clause-answer
returns-then-names_order-clause-answer c =
    let s = c.args.classifier.now in
    let l = length_from s.orders s.numbers s.count in
    let said = ap (names_order c.args.n c.loop-i.i) (note_from_law s.orders s.numbers s.count c.loop-i.i (omega arith)) in
    next_here _ _ _ _ c.loop-i.invariant (omega arith) (omega arith) (said ∙ sym c.names_order.ensures.answer ∙ c.if-names_order.true)

pub loop-i-preserved : goal.loop-i-preserved
loop-i-preserved c =
    let s = c.args.classifier.now in
    let said = ap (names_order c.args.n c.loop-i.i) (note_from_law s.orders s.numbers s.count c.loop-i.i (omega arith)) in
    none_step _ _ _ _ c.loop-i.invariant (said ∙ sym c.names_order.ensures.answer ∙ c.if-names_order.false)

pub returns-clause-answer : goal.returns-clause-answer
returns-clause-answer c =
    let s = c.args.classifier.now in
    let l = length_from s.orders s.numbers s.count in
    let end : s.count + 1 ≡ c.loop-i.i = omega arith in
    end ∙ next_end _ _ _ c.loop-i.i c.loop-i.invariant (omega arith)
