use Rattle.std.proofs.Common.{Bool, refl, subst, arith}
use Rattle.products.specs.Tables.{times_of}
use Rattle.semigroups.specs.TablesLaws.{Closed}
use Rattle.semigroups.proofs.Booleans.{clash}
use Rattle.rows.proofs.Rows.{shrinks_more}
use Rattle.propagation.specs.InnerLone.{KeptOrEmptiedFrom}
use Rattle.propagation.proofs.Narrowed.{table_closed}
use Rattle.propagation.proofs.Lone.{propagating_start, fewer, told_no, propagating_more, all_narrowed, told_yes}
use Rattle.propagation.proofs.propagate.Goals as goal

pub loop-l-init : goal.loop-l-init
loop-l-init c =
    let a = c.args in
    let m = a.source.now.order in
    let n = a.target.now.order in
    let source = c.args.source.now.filled in
    let closed : Closed m (times_of a.source.now) = table_closed a.source.now in
    propagating_start m (times_of a.source.now) n (times_of a.target.now) closed source.order.1 a.rows.now

pub returns-then-not-propagate_from-clause-keeps : goal.returns-then-not-propagate_from-clause-keeps
returns-then-not-propagate_from-clause-keeps c = λ f F h.
    let w = c.propagate_from in
    absurd (clash {b = w.result} (w.ensures.keeps f F (c.loop-l.invariant.keeps f F h)).0 c.if-not-propagate_from.true)

pub returns-then-not-propagate_from-clause-shrinks : goal.returns-then-not-propagate_from-clause-shrinks
returns-then-not-propagate_from-clause-shrinks c =
    let w = c.propagate_from in
    shrinks_more c.loop-l.rows w.new.rows c.args.rows.now c.loop-l.invariant.shrinks w.ensures.shrinks

pub returns-then-not-propagate_from-clause-told : goal.returns-then-not-propagate_from-clause-told
returns-then-not-propagate_from-clause-told c =
    let a = c.args in
    let m = a.source.now.order in
    let n = a.target.now.order in
    let s = times_of a.source.now in
    let t = times_of a.target.now in
    let source = c.args.source.now.filled in
    let closed : Closed m s = table_closed a.source.now in
    let l = c.loop-l in
    let next = c.in-Some.ensures.answer in
    let w = c.propagate_from in
    let new = w.new.rows in
    told_no m s n t closed source.order.1 a.rows.now l.rows l.used l.invariant c.in-Some.l next.0 next.1 new w.ensures.shrinks
    (subst (λ (ok : Bool). KeptOrEmptiedFrom m s n t c.in-Some.l l.rows ok new) c.if-not-propagate_from.true w.ensures.told)

pub loop-l-smaller : goal.loop-l-smaller
loop-l-smaller c =
    let a = c.args in
    let m = a.source.now.order in
    let n = a.target.now.order in
    let s = times_of a.source.now in
    let source = c.args.source.now.filled in
    let closed : Closed m s = table_closed a.source.now in
    let l = c.loop-l in
    let next = c.in-Some.ensures.answer in
    omega (arith, fewer m s n (times_of a.target.now) closed source.order.1 a.rows.now l.rows l.used l.invariant c.in-Some.l next.0 next.1)

pub loop-l-preserved : goal.loop-l-preserved
loop-l-preserved c =
    let a = c.args in
    let m = a.source.now.order in
    let n = a.target.now.order in
    let s = times_of a.source.now in
    let t = times_of a.target.now in
    let source = c.args.source.now.filled in
    let closed : Closed m s = table_closed a.source.now in
    let l = c.loop-l in
    let next = c.in-Some.ensures.answer in
    let w = c.propagate_from in
    let new = w.new.rows in
    let ok = c.if-not-propagate_from.false in
    propagating_more m s n t closed source.order.1 a.rows.now l.rows l.used l.invariant c.in-Some.l next.0 next.1
    new (λ f F h. (refl, (w.ensures.keeps f F h).1)) w.ensures.shrinks (w.ensures.narrows ok)
    (subst (λ (b : Bool). KeptOrEmptiedFrom m s n t c.in-Some.l l.rows b new) ok w.ensures.told)

pub returns-clause-narrows : goal.returns-clause-narrows
returns-clause-narrows c =
    let a = c.args in
    let m = a.source.now.order in
    let n = a.target.now.order in
    let s = times_of a.source.now in
    let source = c.args.source.now.filled in
    let closed : Closed m s = table_closed a.source.now in
    let l = c.loop-l in
    λ ok. all_narrowed m s n (times_of a.target.now) closed source.order.1 a.rows.now l.rows l.used l.invariant c.in_default.ensures.answer c.args.target.now.filled.order.1

pub returns-clause-told : goal.returns-clause-told
returns-clause-told c =
    let a = c.args in
    let m = a.source.now.order in
    let n = a.target.now.order in
    let s = times_of a.source.now in
    let source = c.args.source.now.filled in
    let closed : Closed m s = table_closed a.source.now in
    let l = c.loop-l in
    told_yes m s n (times_of a.target.now) closed source.order.1 a.rows.now l.rows l.used l.invariant c.in_default.ensures.answer c.args.target.now.filled.order.1
