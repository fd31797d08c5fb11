-- Each turn passes over two numbers, or finds one of them. Assumes nothing.
use Rattle.std.proofs.Common.{ℕ, ◌≡◌, ◌≤◌, ◌<◌, ◌+◌, ◌*◌, sym, ap, ◌∙◌, arith}
use Rattle.products.specs.Tables.{times_of}
use Rattle.products.proofs.Triples.{failing_from, third_begin, third_pass, third_pass_two, third_hit, third_end}
use Rattle.products.proofs.Table.failing_third.Goals as goal
use Rattle.products.proofs.Table.failing_third.Goals.{else-n-eq1-via-then-n-eq1+else-fails-3, else-n-eq1-via-else-n-eq1}

pub loop-half-init : goal.loop-half-init
loop-half-init c = third_begin _ _ _ _

pub returns-then-fails : goal.returns-then-fails
returns-then-fails c = record { answer = sym (c.loop-half.invariant ∙ third_hit _ _ _ _ _ (omega arith) (sym c.fails.ensures.answer ∙ c.if-fails.true)) }

pub returns-then-fails-2 : goal.returns-then-fails-2
returns-then-fails-2 c =
    record {
      answer = sym
          (c.loop-half.invariant ∙ third_pass _ _ _ _ _ (omega arith) (sym c.fails.ensures.answer ∙ c.if-fails.false)
          ∙ third_hit _ _ _ _ _ (omega arith) (sym c.fails-in-loop-half.ensures.answer ∙ c.if-fails-2.true));
    }

pub loop-half-preserved : goal.loop-half-preserved
loop-half-preserved c =
    let t = c.args.self.now in
    let place : 2 * c.loop-half.half + 1 + 2 ≡ 2 * (c.loop-half.half + 1) + 1 = omega arith in
    c.loop-half.invariant
    ∙ third_pass_two _ _ _ _ _ (omega arith) (sym c.fails.ensures.answer ∙ c.if-fails.false) (sym c.fails-in-loop-half.ensures.answer ∙ c.if-fails-2.false)
    ∙ ap (failing_from (times_of t) t.order c.args.i c.args.j) place

pub returns-then-fails-3 : goal.returns-then-fails-3
returns-then-fails-3 c =
    let t = c.args.self.now in
    let last : 2 * c.loop-half.half + 1 ≡ t.order = omega arith in
    record {
      answer = sym
          (c.loop-half.invariant ∙ ap (failing_from (times_of t) t.order c.args.i c.args.j) last
          ∙ third_hit _ _ _ _ _ (omega arith) (sym c.fails-then-n-eq1.ensures.answer ∙ c.if-fails-3.true));
    }

pub returns : goal.returns
returns c =
    let t = c.args.self.now in
    record {
      answer = sym
          (c.loop-half.invariant
          ∙ elim c.else-n-eq1.branch [
            | else-n-eq1-via-then-n-eq1+else-fails-3 w ↦
                let last : 2 * c.loop-half.half + 1 ≡ t.order = omega arith in
                ap (failing_from (times_of t) t.order c.args.i c.args.j) last
                ∙ third_pass _ _ _ _ _ (omega arith) (sym w.fails-then-n-eq1.ensures.answer ∙ w.if-fails-3.false)
                ∙ third_end _ _ _ _ _ (omega arith)
            | else-n-eq1-via-else-n-eq1 w ↦ third_end _ _ _ _ _ (omega arith)
          ]);
    }
