use Rattle.std.proofs.Common.{List, ℕ, ◌∙◌, sym, ap, subst}
use Rattle.semigroups.specs.Tables.{Element}
use Rattle.semigroups.proofs.NoRepeats.{place_mem}
use Rattle.products.specs.Tables.{times_of}
use Rattle.light.specs.InnerFound.{adding}
use Rattle.light.proofs.Found.{adding_none}
use Rattle.light.proofs.Choice.{product_added}
use Rattle.light.proofs.multiply_right.Goals as goal

pub loop-y-init : goal.loop-y-init
loop-y-init c = adding_none c.args.found.now

pub times-requires-clause-left : goal.times-requires-clause-left
times-requires-clause-left c = subst (Element c.args.table.now.order) (sym c.at-x.ensures.answer) (c.requires.found _ (place_mem 0 _ _ c.requires.place))

pub times-requires-clause-right : goal.times-requires-clause-right
times-requires-clause-right c = c.requires.list _ (place_mem 0 _ _ c.loop-y-test.true)

pub loop-y-preserved : goal.loop-y-preserved
loop-y-preserved c =
    let l = c.loop-y in
    c.add.ensures.answer ∙ ap (λ (r : List ℕ). adding r c.times.result) l.invariant
    ∙ product_added (times_of c.args.table.now) c.at-x.result c.args.list.now c.args.found.now l.y-index c.times.result c.loop-y-test.true c.times.ensures.answer
