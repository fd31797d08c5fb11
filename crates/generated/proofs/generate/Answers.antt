use Rattle.std.proofs.Common.{ℕ, List, [], ◌∙◌, refl, ap, arith, get_or}
use Rattle.semigroups.proofs.NoRepeats.{place_mem}
use Rattle.semigroups.proofs.Tables.{filled_closed}
use Rattle.light.specs.InnerFound.{adding}
use Rattle.light.proofs.Found.{adding_none, adding_next}
use Rattle.generated.proofs.Found.{growing_inside, growing_start, growing_next, growing_marks, growing_count}
use Rattle.generated.proofs.generate.Goals as goal

pub loop-x-init : goal.loop-x-init
loop-x-init c = c.new-found.ensures.answer ∙ adding_none _

pub add-requires : goal.add-requires
add-requires c =
    let o = c.args.table.now.filled.order in
    let x = c.requires.inside _ (place_mem 0 _ _ c.loop-x-test.true) in
    omega arith

pub loop-x-preserved : goal.loop-x-preserved
loop-x-preserved c =
    let list = c.args.list.now in
    let i = c.loop-x.x-index in
    let x = get_or list i 0 in
    c.add.ensures.answer ∙ ap (λ (r : List ℕ). adding r x) c.loop-x.invariant ∙ adding_next [] list i x c.loop-x-test.true refl

pub loop-place-init : goal.loop-place-init
loop-place-init c =
    record {
      reached = omega arith;
      growing = growing_start _ _ _ (filled_closed _ _ c.args.table.now.filled) c.requires.inside _ _ c.loop-x-test.false c.loop-x.invariant;
    }

pub multiply-requires-clause-inside : goal.multiply-requires-clause-inside
multiply-requires-clause-inside c = growing_inside _ _ _ c.loop-place.invariant.growing

pub loop-place-preserved : goal.loop-place-preserved
loop-place-preserved c =
    let g = growing_next _ _ _ (filled_closed _ _ c.args.table.now.filled) c.requires.inside _ _ c.loop-place.invariant.growing (omega arith) _ c.multiply.ensures.found in
    record { reached = g.0; growing = g.1 }

pub returns-clause-marks : goal.returns-clause-marks
returns-clause-marks c =
    c.marks.ensures.answer ∙ growing_marks _ _ _ (filled_closed _ _ c.args.table.now.filled) c.requires.inside _ _ c.loop-place.invariant.growing (omega arith)

pub returns-clause-count : goal.returns-clause-count
returns-clause-count c =
    c.len-2.ensures.answer
    ∙ growing_count _ _ _ (filled_closed _ _ c.args.table.now.filled) c.requires.inside _ _ c.loop-place.invariant.growing (omega arith) c.len-2.ensures.once
