-- A pair within the source's order has a mark at its number, and after the last pair there is none.
use Rattle.std.proofs.Common.{◌≡◌, ◌-◌, ◌*◌, ◌≤◌, Bool, true, false, cond, refl, sym, ap, ◌∙◌, arith}
use Rattle.std.proofs.Math.Nat.{mul-le-mul_right}
use mir.Val.{bool_byte}
use Rattle.semigroups.proofs.Candidates.{pair_at, pair_past}
use Rattle.candidates.proofs.mark.Goals as goal

byte : (b : Bool) → bool_byte b ≡ cond b 1 0
byte true = refl
byte false = refl

byte_small : (b : Bool) → bool_byte b ≤ 1
byte_small true = omega arith
byte_small false = omega arith

pub returns-then-pair-m : goal.returns-then-pair-m
returns-then-pair-m g c =
    let a = c.args in
    let q = c.requires.pair in
    let column = q.1 in
    record {
      small = byte_small c.passes.result;
      answer = λ p d.
          byte c.passes.result ∙ ap (λ (b : Bool). cond b 1 0) (d a.pair.i a.pair.j c.passes.result (omega arith) (omega arith) c.passes.ensures)
          ∙ sym (pair_at a.m a.n p _ a.pair.i a.pair.j refl (omega arith) (omega arith));
    }

pub returns-else-pair-m : goal.returns-else-pair-m
returns-else-pair-m g c =
    let a = c.args in
    let q = c.requires.pair in
    let above = c.if-pair-m.false in
    let past : a.m * a.n ≤ (a.pair.i - 1) * a.n = mul-le-mul_right a.n (omega arith) in
    record { small = omega arith; answer = λ p d. sym (pair_past a.m a.n p _ (omega arith)) }
