use Rattle.std.proofs.Common.{arith}
use Rattle.semigroups.proofs.Candidates.{size_limit}
use Rattle.candidates.proofs.Marks.{gather_begin, gathered_byte, gather_next, gather_end, gather_byte, row_small, first_pair}
use Rattle.candidates.proofs.marks_byte.Goals as goal

pub overflow_mul-first : goal.overflow_mul-first
overflow_mul-first g c = let q = c.requires.place in omega (arith, size_limit c.args.m c.args.n q.0 q.1)

-- A byte of the marks has a pair, so there is a target element.
pub nonzero_div-pair : goal.nonzero_div-pair
nonzero_div-pair g c = let column = (first_pair c.args.m c.args.n c.args.place c.requires.place.2).column in omega arith

pub overflow_add-pair : goal.overflow_add-pair
overflow_add-pair g c =
    let q = c.requires.place in
    let small = row_small (first_pair c.args.m c.args.n c.args.place q.2) in
    omega (arith, size_limit c.args.m c.args.n q.0 q.1)

pub nonzero_rem-pair : goal.nonzero_rem-pair
nonzero_rem-pair g c = let column = (first_pair c.args.m c.args.n c.args.place c.requires.place.2).column in omega arith

pub overflow_add-pair-2 : goal.overflow_add-pair-2
overflow_add-pair-2 g c = let q = c.requires.place in let column = (first_pair c.args.m c.args.n c.args.place q.2).column in omega arith

pub loop-r-init : goal.loop-r-init
loop-r-init g c = gather_begin c.args.m c.args.n _ c.args.place c.requires.place.2

pub mark-requires-clause-pair : goal.mark-requires-clause-pair
mark-requires-clause-pair g c = let q = c.requires.place in let at = c.loop-r.invariant.pair in (at.row, at.column, q.0, q.1)

pub overflow_add-byte : goal.overflow_add-byte
overflow_add-byte g c = let s = gathered_byte _ _ _ _ c.loop-r.invariant c.loop-r-test.true c.mark.result c.mark.ensures.small in omega arith

pub following-pair-requires : goal.following-pair-requires
following-pair-requires g c =
    let q = c.requires.place in
    let at = c.loop-r.invariant.pair in
    let more = c.loop-r-test.true in
    let small = row_small at in
    (at.row, omega (arith, size_limit c.args.m c.args.n q.0 q.1), at.column, q.1)

pub loop-r-preserved : goal.loop-r-preserved
loop-r-preserved g c = gather_next _ _ _ _ c.loop-r.invariant c.loop-r-test.true c.mark.result c.mark.ensures.small c.mark.ensures.answer _ _ c.following-pair.ensures.next

pub overflow_cast-result : goal.overflow_cast-result
overflow_cast-result g c = let small = gather_byte _ _ _ _ c.loop-r.invariant (omega arith) in omega arith

pub returns : goal.returns
returns g c = record { answer = gather_end _ _ _ _ c.loop-r.invariant (omega arith) }
