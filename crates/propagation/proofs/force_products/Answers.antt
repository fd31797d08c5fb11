use Rattle.std.proofs.Common.{arith}
use Rattle.semigroups.specs.Lists.{at}
use Rattle.semigroups.specs.Tables.{Element}
use Rattle.products.specs.Tables.{times_of}
use Rattle.semigroups.specs.TablesLaws.{Closed}
use Rattle.rows.proofs.Rows.{shrinks_none, shrinks_more, forced_shrinks}
use Rattle.propagation.specs.InnerRows.{begun, further}
use Rattle.propagation.proofs.Narrowed.{table_closed, pair_kept, multiplied_more}
use Rattle.propagation.proofs.force_products.Goals as goal

pub loop-j-init : goal.loop-j-init
loop-j-init c = record { keeps = λ f F b h. h; forced = λ i h. absurd (let z : ⊥ = omega arith in z); shrinks = shrinks_none c.args.rows.now; rows = begun }

pub force_pair-requires : goal.force_pair-requires
force_pair-requires c =
    let l = c.loop-j in
    let m = c.requires.images.1 in
    let images = c.requires.images.0 in
    record { element = (omega arith, m, images l.j (omega arith), images c.args.len (omega arith)) }

pub force_pair-requires-in-loop-j : goal.force_pair-requires-in-loop-j
force_pair-requires-in-loop-j c =
    let l = c.loop-j in
    let m = c.requires.images.1 in
    let images = c.requires.images.0 in
    record { element = (m, omega arith, images c.args.len (omega arith), images l.j (omega arith)) }

pub loop-j-preserved : goal.loop-j-preserved
loop-j-preserved c =
    let a = c.args in
    let s = times_of a.source.now in
    let r = times_of a.target.now in
    let source = c.args.source.now.filled in
    let so = source.order in
    let to = c.args.target.now.filled.order in
    let closed : Closed a.source.now.order s = table_closed a.source.now in
    let l = c.loop-j in
    let i = l.invariant in
    let m = c.requires.images.1 in
    let one = c.force_pair in
    let two = c.force_pair-in-loop-j in
    let rows₁ = one.new.rows in
    let rows₂ = two.new.rows in
    let hj : Element a.len l.j = omega arith in
    let hl : Element a.len a.len = omega arith in
    let mj : Element a.source.now.order l.j = omega arith in
    let left = closed l.j a.len mj m in
    let right = closed a.len l.j m mj in
    let x = at a.image.now l.j in
    let y = at a.image.now a.len in
    record {
      keeps = λ f F b h.
          pair_kept a.source.now.order s a.target.now.order r closed f F so.1 to.1 a.image.now rows₁ rows₂ a.len l.j m mj (b a.len hl) (b l.j hj) two.ensures.forced
          (pair_kept a.source.now.order s a.target.now.order r closed f F so.1 to.1 a.image.now l.rows rows₁ l.j a.len mj m (b l.j hj) (b a.len hl) one.ensures.forced (i.keeps f F b h));
      forced = multiplied_more a.source.now.order s r closed so.1 a.image.now a.len m l.j hj l.rows rows₁ rows₂ one.ensures.forced two.ensures.forced i.forced;
      shrinks = shrinks_more rows₁ rows₂ a.rows.now
          (shrinks_more l.rows rows₁ a.rows.now i.shrinks (forced_shrinks l.rows rows₁ (s l.j a.len) (r x y) (omega arith) one.ensures.forced))
          (forced_shrinks rows₁ rows₂ (s a.len l.j) (r y x) (omega arith) two.ensures.forced);
      rows = further l.j l.rows rows₁ rows₂ i.rows one.ensures.forced two.ensures.forced;
    }
