use Rattle.std.proofs.Common.{◌≡◌, ◌∙◌, rules}
use Rattle.std.specs.Prelude.{is_none}
use Rattle.semigroups.specs.Lists.{elements}
use Rattle.products.specs.Tables.{times_of}
use Rattle.light.proofs.Choice.{none_fails}
use Rattle.light.proofs.associative_pair.Goals as goal

pub returns : goal.returns
returns c =
    let t = c.args.table.now in
    let none : c.is_none.result ≡ is_none c.failing_third.result = search rules in
    record { answer = none ∙ none_fails (times_of t) c.args.i c.args.j (elements t.order) c.failing_third.result c.failing_third.ensures.answer }
