use Rattle.std.proofs.Common.{◌≡◌, ◌+◌, ap₂, ◌∙◌, arith, cond, eqb, ℕ}
use Rattle.products.specs.Tables.{times_of}
use Rattle.choosing.proofs.Adding.{differing, weight_from, sum_step, sum_past}
use Rattle.choosing.proofs.weight.Goals as goal

pub loop-b-init : goal.loop-b-init
loop-b-init c =
    let a = c.args in
    let e = weight_from a.source.now.order (times_of a.source.now) a.c in
    record { most = omega arith; rest = omega arith }

pub loop-b-preserved : goal.loop-b-preserved
loop-b-preserved c =
    let a = c.args in
    let s = times_of a.source.now in
    let l = c.loop-b in
    let square = c.times-square.ensures.answer in
    let one = c.differs-k in
    let two = c.differs-k-in-loop-b in
    let left : one.result ≡ cond (eqb (s a.c l.b) (s a.c a.c)) 0 1 = one.ensures.answer.0 ∙ ap₂ {C = ℕ} (λ (x y : ℕ). cond (eqb x y) 0 1) c.times.ensures.answer square in
    let right : two.result ≡ cond (eqb (s l.b a.c) (s a.c a.c)) 0 1 = two.ensures.answer.0 ∙ ap₂ {C = ℕ} (λ (x y : ℕ). cond (eqb x y) 0 1) c.times-in-loop-b.ensures.answer square in
    let step = sum_step (differing s a.c) a.source.now.order l.b (omega arith) in
    record { most = omega arith; rest = omega arith }

pub returns : goal.returns
returns c =
    let a = c.args in
    let l = c.loop-b in
    let e = sum_past (differing (times_of a.source.now) a.c) a.source.now.order l.b (omega arith) in
    record { answer = omega arith; most = omega arith }
