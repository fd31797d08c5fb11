use Rattle.std.proofs.Common.{List, ℕ, ◌≡◌, ◌+◌, ◌-◌, ◌∙◌, refl, ap, arith, get_or}
use Rattle.light.specs.InnerFound.{adding}
use Rattle.light.proofs.Found.{adding_next}
use Rattle.renaming.specs.InnerRenaming.{non_products}
use Rattle.renaming.proofs.Renaming.{none_passed, product_passed, non_product_added, elements_passed, cells_added}
use Rattle.renaming.proofs.products_last.Goals as goal
use Rattle.renaming.proofs.products_last.Goals.{then-counts-x-eq0, else-counts-x-eq0}

pub loop-x-init : goal.loop-x-init
loop-x-init c = c.new-found.ensures.answer ∙ none_passed c.args.table.now.cells.now

pub loop-x-preserved : goal.loop-x-preserved
loop-x-preserved c =
    let t = c.args.table.now in
    let l = c.loop-x in
    let cells = t.cells.now in
    let here : l.x ≡ l.x + 1 - 1 = omega arith in
    let counts = c.frequencies-counts in
    let passed : c.if-counts-x-eq0.found ≡ non_products l.x cells =
    elim c.if-counts-x-eq0.branch [
      | then-counts-x-eq0 w ↦
          w.found-is ∙ w.add.ensures.answer ∙ ap (λ (r : List ℕ). adding r l.x) l.invariant
          ∙ non_product_added t.order cells t.filled counts.result counts.ensures.answer l.x (omega arith) w.if-counts-x-eq0.true
      | else-counts-x-eq0 w ↦
          w.found-is ∙ l.invariant ∙ product_passed t.order cells t.filled counts.result counts.ensures.answer l.x (omega arith) w.if-counts-x-eq0.false
    ] in
    passed ∙ ap (λ (k : ℕ). non_products k cells) here

pub loop-y-init : goal.loop-y-init
loop-y-init c =
    let t = c.args.table.now in
    c.loop-x.invariant ∙ elements_passed t.order t.cells.now t.filled (c.loop-x.x - 1) (omega arith)

pub loop-y-preserved : goal.loop-y-preserved
loop-y-preserved c =
    let t = c.args.table.now in
    let cells = t.cells.now in
    let i = c.loop-y.y-index in
    let y = get_or cells i 0 in
    c.add-in-loop-y.ensures.answer ∙ ap (λ (r : List ℕ). adding r y) c.loop-y.invariant ∙ adding_next (non_products t.order cells) cells i y c.loop-y-test.true refl

pub returns : goal.returns
returns c =
    let t = c.args.table.now in
    record { answer = c.loop-y.invariant ∙ cells_added t.order t.cells.now t.filled c.loop-y.y-index c.loop-y-test.false }
