use Rattle.std.proofs.Common.{ℕ, not, nat_eq, ap, ap₂, ◌∙◌, ◌≤◌, arith}
use borrow.Author.Tests.{eq-eqb}
use Rattle.products.specs.Tables.{times_of}
use Rattle.constraints.proofs.Placing.{fits_inside, fits_itself, fits_outside}
use Rattle.constraints.proofs.Attempt.pair_fits.Goals as goal

pub returns-then-c-self : goal.returns-then-c-self
returns-then-c-self c =
    let s = c.args.self.now in
    let t = times_of s.target.now in
    let v = c.times-v in
    record {
      answer = ap (λ (i : ℕ). nat_eq i v.result) c.image_of-then-c-self.ensures.answer
          ∙ fits_inside _ _ _ _ _ s.trial (times_of s.source.now) t c.args.a c.args.b _ _ c.times-c.ensures.answer (v.ensures.answer ∙ ap₂ t c.image_of.ensures.answer c.image_of-2.ensures.answer) c.if-c-self.true;
    }

pub returns-then-v-self : goal.returns-then-v-self
returns-then-v-self c =
    let s = c.args.self.now in
    let t = times_of s.target.now in
    let v = c.times-v in
    let small : v.result ≤ 120 = omega arith in
    record {
      answer = fits_outside _ _ _ _ _ s.trial (times_of s.source.now) t c.args.a c.args.b _ _ c.times-c.ensures.answer (v.ensures.answer ∙ ap₂ t c.image_of.ensures.answer c.image_of-2.ensures.answer) small c.if-c-self.false c.if-v-self.true;
    }

pub returns-else-v-self : goal.returns-else-v-self
returns-else-v-self c =
    let s = c.args.self.now in
    let t = times_of s.target.now in
    let v = c.times-v in
    record {
      answer = ap not (eq-eqb v.result s.x c.if-v-self.false)
          ∙ fits_itself _ _ _ _ _ s.trial (times_of s.source.now) t c.args.a c.args.b _ _ c.times-c.ensures.answer (v.ensures.answer ∙ ap₂ t c.image_of.ensures.answer c.image_of-2.ensures.answer) c.if-c-self.false c.if-v-self.false;
    }
