use Rattle.std.proofs.Common.{ap₂, ◌∙◌, arith}
use Rattle.products.specs.Tables.{times_of}
use Rattle.propagation.specs.InnerRows.{pattern}
use Rattle.neighbours.proofs.Sending.{pattern_below, found_start, found_small, found_step, found_end}
use Rattle.neighbours.proofs.neighbours.Goals as goal

pub loop-b-init : goal.loop-b-init
loop-b-init c = let t = c.args.table.now in found_start t.order (times_of t) c.args.c

pub overflow_add-found : goal.overflow_add-found
overflow_add-found c =
    let t = c.args.table.now in
    let l = c.loop-b in
    let few = found_small t.order (times_of t) c.args.c l.b l.found l.invariant c.pattern.result (omega (arith, pattern_below c.args.c l.b c.times-cb.result c.times-bc.result)) in
    let small = t.filled.order in
    omega arith

pub loop-b-preserved : goal.loop-b-preserved
loop-b-preserved c =
    let t = c.args.table.now in
    let l = c.loop-b in
    found_step t.order (times_of t) c.args.c l.b l.found l.invariant (omega arith) c.pattern.result
    (c.pattern.ensures.answer ∙ ap₂ (pattern c.args.c l.b) c.times-cb.ensures.answer c.times-bc.ensures.answer)

pub returns : goal.returns
returns c =
    let t = c.args.table.now in
    record { counts = found_end t.order (times_of t) c.args.c c.loop-b.b c.loop-b.found c.loop-b.invariant (omega arith) }
