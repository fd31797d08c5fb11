use Rattle.std.proofs.Common.{sym, arith}
use Rattle.semigroups.specs.Scratch.{marks}
use Rattle.semigroups.proofs.Writing.{written_none}
use Rattle.candidates.proofs.Marks.{byte_written, all_written}
use Rattle.candidates.proofs.write_marks.Goals as goal

pub loop-place-init : goal.loop-place-init
loop-place-init g c = λ p d. sym (written_none (marks c.args.m c.args.n p) c.args.marks.now)

pub loop-place-preserved : goal.loop-place-preserved
loop-place-preserved g c = λ p d.
    let a = c.args in
    let l = c.loop-place in
    let size = c.scratch_size-place-end.ensures.answer in
    byte_written a.m a.n p a.marks.now l.marks l.place c.requires.n_in_bounds (l.invariant p d) c.marks_byte.result (omega arith) (c.marks_byte.ensures.answer p d)

pub returns : goal.returns
returns g c = record {
  marks = λ p d.
      let a = c.args in
      let l = c.loop-place in
      let size = c.scratch_size-place-end.ensures.answer in
      all_written a.m a.n p a.marks.now l.marks l.place c.requires.n_in_bounds (l.invariant p d) (omega arith);
}
