use Rattle.std.proofs.lemmas.Bool.Decides.{Decides-eqb}
use Rattle.std.proofs.lemmas.Slice.Eq.{slice_eq-Decides}
use Rattle.cases.proofs.Bytes.{same_bytes}
use Rattle.cases.proofs.limits.same_bytes.Goals as goal

pub returns : goal.returns
returns c =
    let d = slice_eq-Decides Decides-eqb c.args.a.now c.args.b.now c.eq.result c.eq.ensures in
    record { answer = same_bytes _ _ c.eq.result d.0 d.1 }
