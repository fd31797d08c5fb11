-- A cell that is looked at counts if it holds the number. Assumes nothing.
use Rattle.std.proofs.Common.{ℕ, ◌≡◌, ◌+◌, sym, ap, ◌∙◌, arith}
use Rattle.products.specs.InnerCounting.{occurrences}
use Rattle.products.proofs.Counting.{occurs_none, occurs, occurs_not, occurs_at_most}
use Rattle.counts.proofs.count.Goals as goal
use Rattle.counts.proofs.count.Goals.{then-cells-i, else-cells-i}

pub loop-i-init : goal.loop-i-init
loop-i-init c = sym (occurs_none c.args.a c.args.step c.args.cells.now)

pub overflow_add-found : goal.overflow_add-found
overflow_add-found c = omega (arith, c.loop-i.invariant, occurs_at_most c.args.a c.args.step c.args.cells.now c.loop-i.i)

pub loop-i-preserved : goal.loop-i-preserved
loop-i-preserved c =
    let a = c.args in
    let i = c.loop-i.i in
    elim c.if-cells-i.branch [
      | then-cells-i w ↦ w.found-is ∙ ap (λ (k : ℕ). k + 1) c.loop-i.invariant ∙ sym (occurs a.a a.step a.cells.now i w.if-cells-i.true)
      | else-cells-i w ↦ w.found-is ∙ c.loop-i.invariant ∙ sym (occurs_not a.a a.step a.cells.now i w.if-cells-i.false)
    ]

pub returns : goal.returns
returns c =
    let a = c.args in
    let all : c.loop-i.i ≡ a.k = omega arith in
    record { answer = c.loop-i.invariant ∙ ap (λ (j : ℕ). occurrences a.a a.step j a.cells.now) all }
