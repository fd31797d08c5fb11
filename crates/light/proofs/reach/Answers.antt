use Rattle.std.proofs.Common.{ℕ, ◌-◌, sym, ap, subst, arith, length}
use Rattle.semigroups.proofs.NoRepeats.{place_mem}
use Rattle.semigroups.proofs.Tables.{filled_closed}
use Rattle.products.specs.Tables.{times_of}
use Rattle.light.proofs.Choice.{Entering, right_longer, part_inside, entering_longer, entering_start, entering_next, reaching_whole, reached, found_inside}
use Rattle.light.proofs.reach.Goals as goal

pub add-requires : goal.add-requires
add-requires c =
    let o = c.args.table.now.filled.order in
    let e = c.requires.list _ (place_mem 0 c.args.list.now (length c.args.list.now - 1) (omega arith)) in
    omega arith

pub loop-place-init : goal.loop-place-init
loop-place-init c =
    let s = times_of c.args.table.now in
    let list = c.args.list.now in
    let longer = entering_longer s list c.requires.some c.args.found.now c.requires.before in
    let start = entering_start s list c.requires.some c.args.found.now c.requires.before in
    record {
      longer = omega (arith, ap length c.add.ensures.answer);
      entering = subst (λ (k : ℕ). Entering s list k 0 c.add.new.self) (sym c.len-count.ensures.answer)
          (subst (Entering s list (length c.args.found.now) 0) (sym c.add.ensures.answer) start);
    }

pub multiply_right-requires-clause-list : goal.multiply_right-requires-clause-list
multiply_right-requires-clause-list c = part_inside c.args.table.now.order c.args.list.now (length c.args.list.now - 1) c.requires.list

pub multiply_right-requires-clause-found : goal.multiply_right-requires-clause-found
multiply_right-requires-clause-found c =
    let t = c.args.table.now in
    found_inside t.order (times_of t) c.args.list.now _ _ (filled_closed t.order t.cells.now t.filled) c.requires.list c.loop-place.invariant.entering.reaching

pub loop-place-preserved : goal.loop-place-preserved
loop-place-preserved c =
    let v = c.loop-place.invariant in
    let more = right_longer _ _ _ c.multiply_right.ensures.found in
    record {
      longer = omega arith;
      entering = entering_next (times_of c.args.table.now) c.args.list.now _ _ _ _ v.entering c.loop-place-test.true v.longer c.multiply_right.ensures.found;
    }

pub multiply_right-requires-in-loop-place-2-clause-found : goal.multiply_right-requires-in-loop-place-2-clause-found
multiply_right-requires-in-loop-place-2-clause-found c =
    let t = c.args.table.now in
    found_inside t.order (times_of t) c.args.list.now _ _ (filled_closed t.order t.cells.now t.filled) c.requires.list c.loop-place-2.invariant.reaching

pub loop-place-2-preserved : goal.loop-place-2-preserved
loop-place-2-preserved c =
    let r = c.multiply_right-in-loop-place-2.ensures.found in
    let more = right_longer _ _ _ r in
    record {
      within = omega arith;
      reaching = reaching_whole (times_of c.args.table.now) c.args.list.now _ _ _ c.loop-place-2.invariant.reaching (omega arith) r;
    }

pub returns : goal.returns
returns c = record { found = reached (times_of c.args.table.now) c.args.list.now _ _ c.loop-place-2.invariant.reaching (omega arith) }
