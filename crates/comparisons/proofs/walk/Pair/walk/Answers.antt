use Rattle.std.proofs.Common.{refl, sym, ap, ◌∙◌, arith, rules}
use Rattle.semigroups.specs.Results.{optional}
use Rattle.plain.specs.InnerTables.{kind_of}
use Rattle.judging.proofs.Counting.{walk_ends, walk_goes}
use Rattle.comparisons.proofs.Walking.{left_found, left_none}
use Rattle.comparisons.proofs.walk.Pair.walk.Goals as goal

pub loop-tally-init : goal.loop-tally-init
loop-tally-init c = record { whole = refl; long = search rules }

pub returns-in-None : goal.returns-in-None
returns-in-None c =
    let p = c.args.self.now in
    let none_left =
    left_none (kind_of c.args.kind) p.source.now p.m p.target.now p.n c.loop-tally.buffer p.source_accepted p.target_accepted p.small c.loop-tally.invariant.long (sym (ap optional c.in-None.is) ∙ c.step-next.ensures.found) in
    record { answer = walk_ends _ _ _ _ _ _ c.loop-tally.invariant.whole c.counted-tally-in-loop-tally.ensures.answer c.step-next.ensures.same none_left _ _ c.counted-tally.ensures.answer c.step-first.ensures.same }

pub loop-tally-smaller : goal.loop-tally-smaller
loop-tally-smaller c =
    let p = c.args.self.now in
    let e = left_found (kind_of c.args.kind) p.source.now p.m p.target.now p.n c.loop-tally.buffer p.source_accepted p.target_accepted p.small c.loop-tally.invariant.long c.in-Some.map (sym (ap optional c.in-Some.is) ∙ c.step-next.ensures.found) in
    omega arith

pub loop-tally-preserved : goal.loop-tally-preserved
loop-tally-preserved c =
    let p = c.args.self.now in
    let e = left_found (kind_of c.args.kind) p.source.now p.m p.target.now p.n c.loop-tally.buffer p.source_accepted p.target_accepted p.small c.loop-tally.invariant.long c.in-Some.map (sym (ap optional c.in-Some.is) ∙ c.step-next.ensures.found) in
    record {
      whole = walk_goes _ _ _ _ _ _ c.loop-tally.invariant.whole c.counted-tally-in-loop-tally.ensures.answer c.step-next.ensures.same _ e;
      long = rw c.in-Some.is at c.step-next.ensures.long;
    }
