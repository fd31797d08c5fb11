-- `begun` notes the number of a refused file, and looks for the class of an accepted one. Assumes nothing.
use mathlib.Core.Path.{sym, ap, ◌∙◌}
use native.Mathlib.Omega.{arith}
use Rattle.files.specs.Answers.{failed_number}
use Rattle.answers.specs.Answers.{numbered_says}
use Rattle.files.proofs.Files.{holds}
use Rattle.files.proofs.Numbers.{failed_small}
use Rattle.classification.proofs.Steps.{begun_refused, begun_accepted}
use Rattle.classification.proofs.begun.Goals as goal

pub noted-requires : goal.noted-requires
noted-requires c =
    let small = failed_small _ _ c.load_then_check-verdict.result c.load_then_check-verdict.ensures.answer c.failed_question.ensures.answer in
    (c.requires.0, omega arith, omega arith)

pub returns-in_default-clause-answer : goal.returns-in_default-clause-answer
returns-in_default-clause-answer c =
    let says = ap numbered_says c.in_default.is in
    c.noted.ensures.answer _
    ∙ begun_refused _ _ c.requires.1 _ _ (sym c.load_then_check-verdict.ensures.answer ∙ says) _ (c.failed_question.ensures.answer ∙ ap failed_number says)

pub onward-requires : goal.onward-requires
onward-requires c =
    let loaded = c.load_then_check-verdict in
    let given = sym loaded.ensures.answer ∙ ap numbered_says c.in-Ok.is in
    let o = (holds _ _ _ given loaded.ensures.cells loaded.auto.cells).table.filled.order in (c.requires.0, o.0, o.1, omega arith)

pub returns-clause-answer : goal.returns-clause-answer
returns-clause-answer c =
    let loaded = c.load_then_check-verdict in
    let given = sym loaded.ensures.answer ∙ ap numbered_says c.in-Ok.is in
    c.onward.ensures.answer _ ∙ begun_accepted _ _ c.requires.1 _ _ given (holds _ _ _ given loaded.ensures.cells loaded.auto.cells)
