use Rattle.std.proofs.Common.{sym, ◌∙◌, arith}
use Rattle.constraints.proofs.Constraints.{near_is}
use Rattle.constraints.proofs.Placing.{next_length}
use Rattle.constraints.proofs.Attempt.near_fits.Goals as goal

pub returns : goal.returns
returns c =
    let s = c.args.self.now in
    record { answer = c.pair_fits.ensures.answer ∙ sym (near_is _ _ _ s.len _ (next_length s.image.now s.len s.x (omega arith)) (omega (arith, c.max.ensures))) }
