use Rattle.std.proofs.Common.{◌-◌, ◌*◌, ap, ◌∙◌}
use Rattle.products.specs.InnerCounting.{occurrences}
use Rattle.counts.proofs.Counts.{row_counted, part_to_end}
use Rattle.counts.proofs.row_frequency.Goals as goal

pub returns : goal.returns
returns c =
    let t = c.args.table.now in
    let a = c.args.a in
    record { answer = c.count.ensures.answer ∙ ap (occurrences a 1 t.order) (part_to_end t.cells.now ((a - 1) * t.order)) ∙ row_counted t.order t.cells.now a }
