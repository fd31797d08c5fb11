use Rattle.std.proofs.Common.{take}
use Rattle.std.proofs.Math.ListN.{replicate}
use Rattle.std.proofs.lemmas.List.{length-take-le}
use Rattle.semigroups.proofs.Candidates.{size_limit}
use Rattle.classification.proofs.Said.{says_isomorphic}
use Rattle.classification.proofs.isomorphic.Goals as goal

pub find-requires-clause-map_len : goal.find-requires-clause-map_len
find-requires-clause-map_len c =
    let m = c.requires.0.filled.order.1 in
    (length-take-le c.args.m (replicate 120 0) m, size_limit _ _ m c.requires.1.filled.order.1)

pub returns : goal.returns
returns c = record { answer = says_isomorphic _ _ _ _ (take c.args.m (replicate 120 0)) (replicate 1800 0) c.find.result c.find.ensures.call }
