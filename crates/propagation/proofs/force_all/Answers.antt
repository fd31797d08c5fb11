use Rattle.rows.proofs.Rows.{shrinks_none, shrinks_more}
use Rattle.propagation.specs.InnerLone.{begun, further}
use Rattle.propagation.proofs.force_all.Goals as goal

pub loop-c-init : goal.loop-c-init
loop-c-init c = record { keeps = λ f F e h. h; shrinks = shrinks_none c.args.rows.now; forced = begun }

pub loop-c-preserved : goal.loop-c-preserved
loop-c-preserved c =
    let l = c.loop-c in
    let w = c.force_with in
    record {
      keeps = λ f F e h. w.ensures.keeps f F e (l.invariant.keeps f F e h);
      shrinks = shrinks_more l.rows w.new.rows c.args.rows.now l.invariant.shrinks w.ensures.shrinks;
      forced = further l.c l.rows w.new.rows l.invariant.forced w.ensures.forced;
    }
