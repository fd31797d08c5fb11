use Rattle.std.proofs.Common.{arith}
use Rattle.semigroups.proofs.Tables.{product_element}
use Rattle.products.specs.Tables.{times_of}
use Rattle.constraints.proofs.Noting.{turn, turns_done}
use Rattle.constraints.proofs.Required.note_newest.Goals as goal

pub loop-j-preserved : goal.loop-j-preserved
loop-j-preserved c =
    let a = c.args in
    let source = a.source.now.filled in
    let target = a.target.now.filled in
    let once = c.note_pair.ensures in
    let twice = c.note_pair-in-loop-j.ensures in
    turn _ (times_of a.source.now) _ (times_of a.target.now) (product_element _ _ source.size source.in_range) (product_element _ _ target.size target.in_range) source.order.1 target.order.1
    a.image.now a.len c.requires.images c.requires.within c.loop-j.j (omega arith) _ _ _ _ _ _ c.loop-j.invariant once.forced once.owner twice.forced twice.owner

pub returns : goal.returns
returns c = let l = c.loop-j in record { constraints = turns_done _ _ _ c.args.len l.j (omega arith) _ _ l.invariant }
