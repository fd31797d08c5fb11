use Rattle.std.proofs.Common.{ℕ, ◌/◌, ◌%◌, get_or, ap, nat_eq, arith}
use Rattle.semigroups.specs.Scratch.{bit, marked}
use Rattle.semigroups.proofs.Candidates.{byte_below}
use Rattle.candidates.proofs.marked.Goals as goal

-- The pair's byte lies in the buffer.
pub bounds-scratch-pair : goal.bounds-scratch-pair
bounds-scratch-pair c =
    let a = c.args in
    let e = c.pair_number-pair.ensures.answer in
    let marks = c.requires.n_in_bounds in
    let column = c.requires.n_le_largest_order.1 in
    omega (arith, byte_below a.i a.n a.i a.j (omega arith) column)

pub returns : goal.returns
unfolding marked bit
returns c = record { answer = ap (λ (k : ℕ). nat_eq (bit (get_or c.args.scratch.now (k / 8) 0) (k % 8)) 1) c.pair_number-pair.ensures.answer }
