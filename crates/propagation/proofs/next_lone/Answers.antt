use Rattle.std.proofs.Common.{◌≡◌, ◌⊎◌, inl, inr, ℕ, subst, arith}
use Rattle.semigroups.specs.Lists.{at}
use Rattle.semigroups.proofs.Booleans.{equal_or_not}
use Rattle.propagation.specs.InnerLone.{Lone}
use Rattle.propagation.proofs.next_lone.Goals as goal

pub returns-then-waits : goal.returns-then-waits
returns-then-waits c =
    let l = c.loop-c in
    let w = c.waits.ensures.answer in
    let t = c.if-waits.true in
    record { answer = (l.auto.c, record { most = omega arith; waits = λ h. (w.unused t, w.lone t); before = λ d hd h z o. l.invariant d hd (h l.auto.c) z o }) }

pub loop-c-preserved : goal.loop-c-preserved
loop-c-preserved c d hd h z o = go (equal_or_not d c.loop-c.c)
  where
    go : (d ≡ c.loop-c.c) ⊎ (d ≡ c.loop-c.c → ⊥) → ⊥
    go (inl e) = c.waits.ensures.answer.none c.if-waits.false (subst (λ (k : ℕ). at c.args.used.now k ≡ 0) e z) (subst (Lone c.args.rows.now) e o)
    go (inr ne) = c.loop-c.invariant d hd (omega arith) z o

pub returns : goal.returns
returns c =
    let l = c.loop-c in
    record {
      answer = record {
        most = omega arith;
        waits = λ h. absurd (let z : ⊥ = omega arith in z);
        before = λ d hd h z o. l.invariant d hd (omega arith) z o;
      };
    }
