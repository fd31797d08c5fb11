-- `search_turned` meets its contract: the room begins with the turned target, and isomorphisms onto that are the reversed ones. Assumes nothing.
use mathlib.Core.Path.{ap, ◌∙◌}
use mathlib.Core.List.{List}
use Prim.Native.Nat.{ℕ, ◌*◌, ◌≤◌}
use native.Mathlib.Omega.{arith}
use borrow.Author.Rules.{rules}
use lib.ListN.{length}
use Rattle.semigroups.specs.Maps.{isomorphisms}
use Rattle.calls.specs.Calls.{lend}
use Rattle.kinds.specs.InnerSearching.{searched}
use Rattle.kinds.proofs.Turned.{turned_call, turned_part, part_accepted, part_length}
use Rattle.kinds.proofs.search_turned.Statement.{statement}
use Rattle.kinds.proofs.search_turned.Tie as tie

-- What is known once the target is turned.
module _ (c : tie.After-turn) where
  abbrev start : tie.Start
  start = c.before.before.before.before.before.before.before

  abbrev n : ℕ
  n = start.args.n

  abbrev target : List ℕ
  target = start.args.target.now

  abbrev room : List ℕ
  room = c.turn.new.turned

  fits : n * n ≤ length room
  fits = let k = c.turn.auto.turned in let h = start.requires.1.1 in omega arith

overflow_mul-size : tie.Need-overflow_mul-size
overflow_mul-size c = search rules

turn-requires : tie.Need-turn-requires
turn-requires c κs = search rules

slice_bounds-search_straight-end : tie.Need-slice_bounds-search_straight-end
slice_bounds-search_straight-end c = search rules

slice_bounds-search_straight-end-2 : tie.Need-slice_bounds-search_straight-end-2
slice_bounds-search_straight-end-2 c = let t = c.before.before in let z = start t in part_length (n t) (target t) z.args.room.now (room t) z.requires.0.1 (fits t) t.turn.ensures

search_straight-requires : tie.Need-search_straight-requires
search_straight-requires c κs =
    let t = c.before.before.before.before in
    let z = start t in
    ((z.requires.0.0, part_accepted (n t) (target t) z.args.room.now (room t) z.requires.0.1 (fits t) t.turn.ensures), z.requires.1.0)

shape_of-map : tie.Need-shape_of-map
shape_of-map c = search rules

shape_of-scratch : tie.Need-shape_of-scratch
shape_of-scratch c = search rules

shape_of-room : tie.Need-shape_of-room
shape_of-room c = search rules

returns : tie.Need-returns
returns c =
    let t = c.before.before.before.before.before.before.before.before.before in
    let z = start t in
    let a = z.args in (
      c.search_straight.ensures
          ∙ ap (λ (g : List ℕ). searched isomorphisms a.next a.limit (lend a.source.now a.m g (n t) a.map.now a.scratch.now)) (turned_part (n t) (target t) a.room.now (room t) z.requires.0.1 (fits t) t.turn.ensures)
          ∙ turned_call a.next a.limit a.m a.source.now (n t) (target t) a.map.now a.scratch.now z.requires.0.1,
      c.turn.ensures,
    )

pub search_turned_spec : {M : Type 1} → statement M
search_turned_spec =
    tie.close
    (tie.spec
    overflow_mul-size
    turn-requires
    slice_bounds-search_straight-end
    slice_bounds-search_straight-end-2
    search_straight-requires
    shape_of-map
    shape_of-scratch
    shape_of-room
    returns)
