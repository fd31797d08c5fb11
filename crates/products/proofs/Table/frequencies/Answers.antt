use Rattle.std.proofs.Common.{◌∙◌, length}
use Rattle.semigroups.specs.Invariants.{frequency}
use Rattle.products.specs.InnerCounting.{occurrences}
use Rattle.products.specs.Tables.{times_of}
use Rattle.products.proofs.Counting.{table_counted}
use Rattle.products.proofs.PerElement.{per_element_same}
use Rattle.products.proofs.Table.frequencies.Goals as goal

pub returns : goal.returns
returns c =
    let t = c.args.self.now in
    record { answer = c.tally.ensures.answer ∙ per_element_same t.order (λ a. occurrences a 1 (length t.cells.now) t.cells.now) (frequency t.order (times_of t)) (λ a h. table_counted t.order t.cells.now t.filled.size a) }
