use Rattle.std.proofs.Common.{sym, ap, subst}
use Rattle.std.proofs.Math.Option.{map}
use Rattle.semigroups.specs.InnerQuestions.{no}
use Rattle.semigroups.proofs.Tables.{no_bad_triple, filled_closed}
use Rattle.light.specs.InnerChoice.{LightsAnswer}
use Rattle.light.proofs.Choice.{lights_yes}
use Rattle.products.specs.Tables.{times_of}
use Rattle.tables.proofs.associativity.Goals as goal

pub returns-then-accept : goal.returns-then-accept
returns-then-accept c =
    let t = c.args.table.now in
    record { answer = sym (ap (map (λ l. no 4 l)) (no_bad_triple _ _ (lights_yes _ _ (filled_closed _ _ t.filled) (subst (LightsAnswer t.order (times_of t)) c.if-accept.true c.accept.ensures.answer)))) }
