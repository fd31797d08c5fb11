use Rattle.std.proofs.Common.{refl, ap, ◌/◌, ◌+◌, ℕ, arith}
use native.Mathlib.Nat.{div-le_self}
use Rattle.products.specs.Tables.{times_of}
use Rattle.choosing.specs.InnerNext.{cost}
use Rattle.choosing.proofs.Next.{IsCost, each_start, each_more, costs_end}
use Rattle.choosing.proofs.costs.Goals as goal

pub loop-c-init : goal.loop-c-init
loop-c-init c = each_start (IsCost c.args.source.now.order (times_of c.args.source.now)) _ refl

pub overflow_cast-found : goal.overflow_cast-found
overflow_cast-found c = omega (arith, div-le_self 30000 (c.weight.result + 1))

pub loop-c-preserved : goal.loop-c-preserved
unfolding cost
loop-c-preserved c =
    let t = c.args.source.now in
    let small = t.filled.order.1 in
    each_more (IsCost t.order (times_of t)) c.loop-c.found c.loop-c.c (30000 / (c.weight.result + 1)) (omega arith) c.loop-c.invariant (ap (λ (k : ℕ). 30000 / (k + 1)) c.weight.ensures.answer)

pub returns : goal.returns
returns c = let t = c.args.source.now in record { costs = costs_end (times_of t) c.loop-c.found t.order c.loop-c.c (omega arith) (omega arith) c.loop-c.invariant }
