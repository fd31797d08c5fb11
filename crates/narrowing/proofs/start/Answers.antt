use Rattle.std.proofs.Common.{ap, ◌∙◌}
use Rattle.semigroups.specs.Scratch.{marked}
use Rattle.products.specs.Tables.{times_of}
use Rattle.colours.specs.InnerColours.{same_colour}
use Rattle.fitting.specs.InnerPartial.{blank, kept_partial}
use Rattle.narrowing.proofs.Starting.{same_order, other_order}
use Rattle.narrowing.proofs.start.Goals as goal

pub returns-then-source-target : goal.returns-then-source-target
returns-then-source-target c =
    let source = c.args.source.now in
    let target = c.args.target.now in
    let candidate = marked target.order c.args.scratch.now in
    record {
      answer = c.keep_colours.ensures.answer
          ∙ ap (kept_partial target.order target.order (same_colour target.order (times_of source) (times_of target))) (c.keep_marked-p.ensures.answer ∙ ap (kept_partial source.order target.order candidate) c.new.ensures.answer)
          ∙ ap blank (same_order source.order source.cells.now target.order target.cells.now source.filled target.filled candidate c.if-source-target.true);
    }

pub returns : goal.returns
returns c =
    let source = c.args.source.now in
    let target = c.args.target.now in
    let candidate = marked target.order c.args.scratch.now in
    record {
      answer = c.keep_marked-p.ensures.answer ∙ ap (kept_partial source.order target.order candidate) c.new.ensures.answer
          ∙ ap blank (other_order source.order source.cells.now target.order target.cells.now source.filled target.filled candidate c.if-source-target.false);
    }
