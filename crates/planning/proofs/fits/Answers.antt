-- Accepted tables and buffers of the right length are lent: the first embedding is found, or there is none. Assumes nothing.
use Rattle.std.proofs.Common.{refl, sym, List, ℕ, replicate, arith}
use Rattle.std.proofs.Math.Seq.{length-take-le}
use Rattle.planning.proofs.Searching.{square_room, order_filled, always_filled, cells_filled, target_accepted, marks_room, first_found, first_left}
use Rattle.planning.proofs.fits.Goals as goal

-- A buffer as it is lent.
abbrev zeros : List ℕ
zeros = replicate 729 0

pub returns-in_default : goal.returns-in_default
returns-in_default c = absurd (always_filled _ c.requires.degree zeros refl c.in_default.ensures.answer)

pub overflow_mul-size : goal.overflow_mul-size
overflow_mul-size c =
    let order = order_filled _ c.requires.degree zeros refl c.in-Ok.n c.in-Ok.ensures.answer in
    omega (arith, square_room _ c.requires.degree _ order)

pub slice_bounds-target-end : goal.slice_bounds-target-end
slice_bounds-target-end c =
    let order = order_filled _ c.requires.degree zeros refl c.in-Ok.n c.in-Ok.ensures.answer in
    omega (arith, square_room _ c.requires.degree _ order, c.fill-filled.auto.cells)

pub slice_bounds-find-end : goal.slice_bounds-find-end
slice_bounds-find-end c =
    let order = order_filled _ c.requires.degree zeros refl c.in-Ok.n c.in-Ok.ensures.answer in
    sym (length-take-le _ _ (omega (arith, square_room _ c.requires.degree _ order, c.fill-filled.auto.cells)))

pub find-requires-clause-accepted : goal.find-requires-clause-accepted
find-requires-clause-accepted c =
    let p = c.requires in
    let order = order_filled _ p.degree zeros refl c.in-Ok.n c.in-Ok.ensures.answer in
    let cells = cells_filled _ p.degree zeros refl _ c.fill-filled.ensures.cells _ order in
    (p.accepted, target_accepted _ c.args.cells.now p.few _ p.degree _ _ cells order)

pub find-requires-clause-map_len : goal.find-requires-clause-map_len
find-requires-clause-map_len c =
    let p = c.requires in
    let order = order_filled _ p.degree zeros refl c.in-Ok.n c.in-Ok.ensures.answer in
    let cells = cells_filled _ p.degree zeros refl _ c.fill-filled.ensures.cells _ order in
    (p.image, marks_room _ c.args.cells.now p.few _ p.degree _ _ cells order)

pub returns : goal.returns
returns c =
    let p = c.requires in
    let order = order_filled _ p.degree zeros refl c.in-Ok.n c.in-Ok.ensures.answer in
    let cells = cells_filled _ p.degree zeros refl _ c.fill-filled.ensures.cells _ order in
    record {
      first = first_found _ _ p.few _ p.degree _ _ cells order _ _ c.find.result c.find.ensures.call;
      image = first_left _ _ p.few _ p.degree _ _ cells order _ _ c.find.result c.find.ensures.call;
    }
