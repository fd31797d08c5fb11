use Rattle.std.proofs.Common.{ℕ, ◌+◌, ◌-◌, ◌*◌, arith, subst, length, set, ◌∙◌}
use Rattle.semigroups.proofs.Writing.{AtRow, AtCell, grid_begin, row_begin, cell_next, row_end, grid_end}
use Rattle.planning.specs.Degrees.{position}
use Rattle.planning.proofs.Points.{room_enough, image_number, image_small, image_position, landings_written}
use Rattle.planning.proofs.write_positions.Goals as goal

pub loop-i-init : goal.loop-i-init
loop-i-init c =
    let z = c.args in
    subst (λ (p : ℕ). AtRow (length z.image.now) z.degree (position z.degree z.image.now) z.positions.now 1 p z.positions.now) (omega arith) (grid_begin _ _ _ _)

pub loop-x-init : goal.loop-x-init
loop-x-init c =
    let z = c.args in
    subst (λ (p : ℕ). AtCell (length z.image.now) z.degree (position z.degree z.image.now) c.loop-i.positions (c.loop-i.i + 1) 1 p c.loop-i.positions) (omega arith)
    (row_begin _ _ _ _ _ _ _ c.loop-i.invariant (omega arith))

pub landing-requires-clause-number : goal.landing-requires-clause-number
landing-requires-clause-number c = image_number _ _ _ c.requires.image _ (omega arith)

pub overflow_cast-positions : goal.overflow_cast-positions
overflow_cast-positions c =
    let small = image_small _ _ _ c.requires.image c.loop-i.i c.loop-x.x _ (omega arith) (omega arith) c.landing.ensures.answer c.requires.degree in
    omega arith

pub loop-x-preserved : goal.loop-x-preserved
loop-x-preserved c =
    let z = c.args in
    let p = c.loop-i.i * z.degree + (c.loop-x.x - 1) in
    let enough = room_enough _ _ _ c.requires.degree c.requires.room in
    subst (λ (q : ℕ). AtCell (length z.image.now) z.degree (position z.degree z.image.now) c.loop-i.positions (c.loop-i.i + 1) (c.loop-x.x + 1) q (set c.loop-x.positions p c.landing.result)) (omega arith)
    (cell_next _ _ _ _ _ _ _ _ c.loop-x.invariant (omega arith) _ (omega arith)
    (image_position _ _ _ c.requires.image c.loop-i.i c.loop-x.x _ (omega arith) (omega arith) c.landing.ensures.answer))

pub loop-i-preserved : goal.loop-i-preserved
loop-i-preserved c =
    let z = c.args in
    subst (λ (p : ℕ). AtRow (length z.image.now) z.degree (position z.degree z.image.now) z.positions.now (c.loop-i.i + 1 + 1) p c.loop-x.positions) (omega arith)
    (row_end _ _ _ _ _ _ _ c.loop-i.invariant _ _ _ c.loop-x.invariant (omega arith))

pub returns : goal.returns
returns c = record { positions = grid_end _ _ _ _ _ _ _ c.loop-i.invariant (omega arith) ∙ landings_written _ _ _ _ }
