-- A record is a number, a comma, a name and a line break. Assumes nothing.
use Rattle.std.proofs.Common.{◌≡◌, List, ℕ, ◌+◌, length, get_or, take, drop, ap, ◌∙◌, arith, length-set}
use Rattle.sheets.specs.Names.{name_text}
use Rattle.sheets.proofs.Memory.{put_first, put_length, put_inside, put_room, put_next, put_done}
use Rattle.names.proofs.Parts.{part_is}
use Rattle.names.proofs.put_names.Goals as goal

pub loop-k-init : goal.loop-k-init
loop-k-init c = put_first _ _ _ c.requires.names.passed

pub put_number-at-requires-clause-room : goal.put_number-at-requires-clause-room
put_number-at-requires-clause-room c = let r = put_room _ _ c.loop-k.invariant c.loop-k-test.true c.requires.room in omega arith

pub bounds-text-at : goal.bounds-text-at
bounds-text-at c =
    let r = put_room _ _ c.loop-k.invariant c.loop-k-test.true c.requires.room in
    omega (arith, c.put_number-at.ensures.answer, c.put_number-at.auto.out)

pub overflow_add-at : goal.overflow_add-at
overflow_add-at c =
    let r = put_room _ _ c.loop-k.invariant c.loop-k-test.true c.requires.room in
    omega (arith, c.put_number-at.ensures.answer, put_length _ _ c.loop-k.invariant)

pub slice_bounds-put_name-end : goal.slice_bounds-put_name-end
slice_bounds-put_name-end c = let i = put_inside _ _ c.loop-k.invariant c.loop-k-test.true in omega arith

pub put_name-at-requires : goal.put_name-at-requires
put_name-at-requires c =
    let r = put_room _ _ c.loop-k.invariant c.loop-k-test.true c.requires.room in
    let part = part_is c.args.names.now c.loop-k.start (get_or c.args.lengths.now c.loop-k.k 0) in
    rw (length-set, part) (omega (arith, c.put_number-at.ensures.answer, c.put_number-at.auto.out))

pub put_break-at-requires : goal.put_break-at-requires
put_break-at-requires c =
    let r = put_room _ _ c.loop-k.invariant c.loop-k-test.true c.requires.room in
    let n = get_or c.args.lengths.now c.loop-k.k 0 in
    let size = ap (λ (l : List ℕ). length (name_text l)) (part_is c.args.names.now c.loop-k.start n) in
    let kept : length c.put_name-at.new.text ≡ length c.put_number-at.new.out = c.put_name-at.auto.text ∙ simp length-set in
    record { room = omega (arith, size, c.put_number-at.ensures.answer, c.put_name-at.ensures.answer, c.put_number-at.auto.out) }

pub loop-k-preserved : goal.loop-k-preserved
loop-k-preserved c =
    let n = get_or c.args.lengths.now c.loop-k.k 0 in
    let part = part_is c.args.names.now c.loop-k.start n in
    let end : c.put_name-at.result ≡ (c.put_number-at.result + 1) + length (name_text (take n (drop c.loop-k.start c.args.names.now))) =
    c.put_name-at.ensures.answer ∙ ap (λ (l : List ℕ). (c.put_number-at.result + 1) + length (name_text l)) part in
    put_next _ _ c.loop-k.invariant c.loop-k-test.true _ _ _ _ _ _ c.put_number-at.ensures.out c.put_number-at.ensures.answer (rw part at c.put_name-at.ensures.text) end
    c.put_break-at.ensures.out c.put_break-at.ensures.answer

pub returns : goal.returns
returns c = record { text = put_done _ _ c.loop-k.invariant c.loop-k-test.false c.requires.room }
