use Rattle.std.proofs.Common.{arith, sym, ◌∙◌, subst, ℕ, List, ◌+◌, ◌≤◌, length}
use Rattle.classification.proofs.Text.{total_is, total_none, total_put, total_kept}
use Rattle.classification.proofs.put_total.Goals as goal

pub put_record-requires-clause-room : goal.put_record-requires-clause-room
put_record-requires-clause-room c =
    let z = c.args in
    let s = z.classifier.now in
    let m = c.members-total in
    let e = total_is s.orders s.numbers s.count z.a (omega arith) m.result (sym c.is_in.ensures.answer ∙ c.if-is_in.true) m.ensures.answer in
    subst (λ (t : List ℕ). z.at + length t ≤ length z.out.now) (sym e) c.requires.room

pub returns-then-is_in : goal.returns-then-is_in
returns-then-is_in c =
    let z = c.args in
    let s = z.classifier.now in
    let m = c.members-total in
    let e = total_is s.orders s.numbers s.count z.a (omega arith) m.result (sym c.is_in.ensures.answer ∙ c.if-is_in.true) m.ensures.answer in
    total_put s.orders s.numbers s.count z.a (omega arith) z.out.now z.at e c.put_record.ensures.answer c.put_record.ensures.out

pub returns : goal.returns
returns c =
    let z = c.args in
    let s = z.classifier.now in
    total_kept s.orders s.numbers s.count z.a (omega arith) z.out.now z.at (total_none s.orders s.numbers s.count z.a (omega arith) (sym c.is_in.ensures.answer ∙ c.if-is_in.false))
