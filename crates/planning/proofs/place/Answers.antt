use Rattle.std.proofs.Common.{ℕ, ◌≡◌, arith, ap, ◌∙◌, length, subst}
use Rattle.semigroups.specs.InnerTables.{IsList}
use Rattle.semigroups.specs.Calls.{overwritten}
use Rattle.semigroups.specs.Transformations.{transformation_order}
use Rattle.planning.specs.Degrees.{landings}
use Rattle.planning.proofs.Searching.{first_list}
use Rattle.planning.proofs.Trying.{told_found, told_none, try_begin, try_next, try_hit, try_end}
use Rattle.planning.proofs.place.Goals as goal

pub loop-degree-init : goal.loop-degree-init
loop-degree-init c = try_begin _ _ _ _

pub write_positions-requires-clause-image : goal.write_positions-requires-clause-image
write_positions-requires-clause-image c =
    let f = c.fits.new.image in
    let d = transformation_order c.loop-degree.degree in
    let e : c.args.m ≡ length f = omega arith in
    subst (λ (k : ℕ). IsList k d f) e (first_list _ _ _ _ (told_found _ _ _ c.fits.ensures.first c.if-fits.true))

pub returns-then-fits : goal.returns-then-fits
returns-then-fits c =
    let f = c.fits.new.image in
    let e : length f ≡ c.args.m = omega arith in
    try_hit _ _ _ _ _ _ _ c.loop-degree.invariant (omega arith) _ (told_found _ _ _ c.fits.ensures.first c.if-fits.true) _
    (c.write_positions.ensures.positions ∙ ap (λ (k : ℕ). overwritten (landings k c.loop-degree.degree f) c.loop-degree.positions) e)

pub loop-degree-preserved : goal.loop-degree-preserved
loop-degree-preserved c = try_next _ _ _ _ _ _ _ c.loop-degree.invariant (omega arith) (told_none _ _ _ c.fits.ensures.first c.if-fits.false) _ c.fits.ensures.image

pub returns : goal.returns
returns c = try_end _ _ _ _ _ _ _ c.loop-degree.invariant (omega arith)
