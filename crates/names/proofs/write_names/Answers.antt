-- A name and its length are written, and those of the records that follow are left. Assumes nothing.
use Rattle.std.proofs.Common.{Bool, length, ap, sym, subst, ◌∙◌, arith}
use borrow.Author.Tests.{lt-ltb, le-ltb}
use Rattle.sheets.proofs.Records.{Filling, fill_first, fill_turn, fill_lengths_length, fill_short, fill_names_room, fill_lengths_room, fill_next, fill_done}
use Rattle.names.proofs.Values.{holds_short}
use Rattle.names.proofs.Turns.{some_byte, comma_inside, name_held, end_is}
use Rattle.names.proofs.write_names.Goals as goal

pub loop-at-init : goal.loop-at-init
loop-at-init c = λ p.
    subst (λ (b : Bool). Filling c.args.text.now p c.args.names.now c.args.lengths.now c.args.names.now c.args.lengths.now 0 0 0 b) (sym (some_byte c.args.text.now p))
    (fill_first c.args.text.now p c.args.names.now c.args.lengths.now (c.requires.fits p).passed)

pub overflow_add-number : goal.overflow_add-number
overflow_add-number c =
    let h = comma_inside _ _ _ c.read_field-number.ensures.end (fill_turn (c.loop-at.invariant c.requires.form) (lt-ltb _ _ c.loop-at-test.true)) in
    omega arith

pub read_field-name-requires : goal.read_field-name-requires
read_field-name-requires c = comma_inside _ _ _ c.read_field-number.ensures.end (fill_turn (c.loop-at.invariant c.requires.form) (lt-ltb _ _ c.loop-at-test.true))

pub put_bytes-start-requires : goal.put_bytes-start-requires
put_bytes-start-requires c =
    let f = c.loop-at.invariant c.requires.form in
    let on = lt-ltb _ _ c.loop-at-test.true in
    let held = name_held _ _ _ c.read_field-number.ensures.end _ c.read_field-name.ensures.value in
    let whole = ap length (c.held.ensures.value ∙ (holds_short _ _ held (fill_short f on)).1) in
    let room = fill_names_room f on (c.requires.fits c.requires.form).names in
    record { room = omega arith }

pub bounds-lengths-k : goal.bounds-lengths-k
bounds-lengths-k c = fill_lengths_room (c.loop-at.invariant c.requires.form) (lt-ltb _ _ c.loop-at-test.true) (c.requires.fits c.requires.form).lengths

pub overflow_add-k : goal.overflow_add-k
overflow_add-k c =
    let f = c.loop-at.invariant c.requires.form in
    let h = fill_lengths_room f (lt-ltb _ _ c.loop-at-test.true) (c.requires.fits c.requires.form).lengths in
    omega (arith, fill_lengths_length f)

pub overflow_add-at : goal.overflow_add-at
overflow_add-at c =
    let e = end_is _ _ _ c.read_field-number.ensures.end _ c.read_field-name.ensures.end in
    let h = (fill_turn (c.loop-at.invariant c.requires.form) (lt-ltb _ _ c.loop-at-test.true)).end_inside in
    omega arith

pub loop-at-preserved : goal.loop-at-preserved
loop-at-preserved c =
    let on = lt-ltb _ _ c.loop-at-test.true in
    let held = name_held _ _ _ c.read_field-number.ensures.end _ c.read_field-name.ensures.value in
    let whole = holds_short _ _ held (fill_short (c.loop-at.invariant c.requires.form) on) in
    λ p.
    rw (end_is _ _ _ c.read_field-number.ensures.end _ c.read_field-name.ensures.end)
    (fill_next (c.loop-at.invariant p) on _ _ _ _ (c.held.ensures.value ∙ whole.1) whole.0 c.put_bytes-start.ensures.out c.put_bytes-start.ensures.answer)

pub returns : goal.returns
returns c = record {
  names = λ p. (fill_done (c.loop-at.invariant p) (le-ltb _ _ c.loop-at-test.false) (c.requires.fits p).names (c.requires.fits p).lengths).0;
  lengths = λ p. (fill_done (c.loop-at.invariant p) (le-ltb _ _ c.loop-at-test.false) (c.requires.fits p).names (c.requires.fits p).lengths).1;
}
