use Rattle.std.proofs.Common.{ap, ◌∙◌}
use Rattle.semigroups.specs.Scratch.{marked}
use Rattle.semigroups.proofs.Booleans.{clash}
use Rattle.products.specs.Tables.{times_of}
use Rattle.backtrack.specs.InnerState.{padded}
use Rattle.rows.proofs.Room.{roomy_kept}
use Rattle.twins.specs.InnerTwins.{shares_later}
use Rattle.twins.proofs.Rising.{shares_later_law}
use Rattle.fitting.specs.declared.Partial.{Partial}
use Rattle.narrowing.proofs.Starting.{start_covers}
use Rattle.narrowing.proofs.Extending.{start as begin, all_found, nowhere}
use Rattle.narrowing.proofs.find_by_rows.Goals as goal

pub returns-then-not-is_roomy : goal.returns-then-not-is_roomy
returns-then-not-is_roomy c =
    let w = c.args.search.now in
    let source = w.source.now in
    let target = w.target.now in
    let p = c.start-p.result in
    record {
      answer = nowhere w c.args.next (λ f F among.
          clash {b = c.is_roomy.result}
          (c.is_roomy.ensures.answer ∙ roomy_kept p.rows source.order (times_of source) target.order (times_of target) f target.filled.order.1 F
          (start_covers source.order source.cells.now target.order target.cells.now source.filled target.filled (marked target.order w.scratch.now) p c.start-p.ensures.answer f F among))
          c.if-not-is_roomy.true);
    }

pub extend-requires : goal.extend-requires
extend-requires c =
    let w = c.args.search.now in
    let source = w.source.now in
    let target = w.target.now in
    let e = c.start-p.ensures.answer in
    begin w (shares_later c.groups-group.result) c.args.next c.start-p.result (ap (λ (p : Partial). p.len) e) (ap (λ (p : Partial). p.image) e) (ap (λ (p : Partial). p.ok) e)
    (start_covers source.order source.cells.now target.order target.cells.now source.filled target.filled (marked target.order w.scratch.now) c.start-p.result e)
    (shares_later_law c.groups-group.result)

pub returns : goal.returns
returns c =
    record { answer = c.extend.ensures.answer ∙ ap padded (all_found c.args.search.now c.groups-group.result c.args.next c.start-p.result (ap (λ (p : Partial). p.len) c.start-p.ensures.answer) c.groups-group.ensures.answer) }
