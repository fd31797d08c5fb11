-- `holds_like` loads the table of an accepted file, looks at its order, and asks for an isomorphism. Assumes nothing.
use mathlib.Core.Path.{refl, sym, ap, ◌∙◌}
use lib.ListN.{replicate}
use Rattle.answers.specs.Answers.{numbered_says}
use Rattle.files.proofs.Files.{holds}
use Rattle.classification.proofs.Steps.{holds_refused, holds_is, holds_other}
use Rattle.classification.proofs.holds_like.Goals as goal

pub returns-in_default : goal.returns-in_default
returns-in_default c =
    record { answer = holds_refused _ (replicate 14400 0) refl _ _ _ (sym c.load_then_check-verdict.ensures.answer ∙ ap numbered_says c.in_default.is) }

pub returns-then-m-n : goal.returns-then-m-n
returns-then-m-n c =
    let loaded = c.load_then_check-verdict in
    let given = sym loaded.ensures.answer ∙ ap numbered_says c.in-Ok.is in
    record { answer = holds_other _ (replicate 14400 0) refl _ _ _ given (holds _ _ _ given loaded.ensures.cells loaded.auto.cells) c.if-m-n.true }

pub isomorphic-requires : goal.isomorphic-requires
isomorphic-requires c =
    let loaded = c.load_then_check-verdict in
    let given = sym loaded.ensures.answer ∙ ap numbered_says c.in-Ok.is in
    ((holds _ (replicate 14400 0) _ given loaded.ensures.cells loaded.auto.cells).table, c.requires)

pub returns : goal.returns
returns c =
    let loaded = c.load_then_check-verdict in
    let given = sym loaded.ensures.answer ∙ ap numbered_says c.in-Ok.is in
    let h = holds _ (replicate 14400 0) _ given loaded.ensures.cells loaded.auto.cells in
    record { answer = c.isomorphic.ensures.answer ∙ holds_is _ (replicate 14400 0) refl _ _ _ given h }
