-- An element counts if both products with it are equal. Assumes nothing.
use Rattle.std.proofs.Common.{ℕ, Bool, ◌≡◌, ◌+◌, ◌-◌, sym, ap, ◌∙◌, arith}
use Rattle.std.specs.Prelude.{eqb}
use borrow.Author.Tests.{eq-eqb, ne_eqb}
use Rattle.semigroups.specs.Lists.{elements, count}
use Rattle.semigroups.specs.Invariants.{commuting}
use Rattle.products.specs.Tables.{times_of}
use Rattle.products.specs.declared.Table.{Table}
use Rattle.products.proofs.Counting.{count_elements_none, count_element_hit, count_element_miss, count_elements}
use Rattle.counts.proofs.commuting.Goals as goal
use Rattle.counts.proofs.commuting.Goals.{then-times, else-times}

-- Whether b commutes with a.
abbrev commutes : Table → ℕ → ℕ → Bool
commutes t a b = eqb (times_of t a b) (times_of t b a)

pub loop-b-init : goal.loop-b-init
loop-b-init c = sym (count_elements_none (commutes c.args.table.now c.args.a))

pub overflow_add-found : goal.overflow_add-found
overflow_add-found c = let n = c.args.table.now.filled.order in omega (arith, c.loop-b.invariant, count_elements (c.loop-b.b - 1) (commutes c.args.table.now c.args.a))

pub loop-b-preserved : goal.loop-b-preserved
loop-b-preserved c =
    let t = c.args.table.now in
    let a = c.args.a in
    let b = c.loop-b.b in
    elim c.if-times.branch [
      | then-times w ↦
          w.found-is ∙ ap (λ (k : ℕ). k + 1) c.loop-b.invariant
          ∙ sym
          (count_element_hit (commutes t a) b c.loop-b.auto.b
          (eq-eqb (times_of t a b) (times_of t b a) (sym c.times.ensures.answer ∙ w.if-times.true ∙ c.times-in-loop-b.ensures.answer)))
      | else-times w ↦
          w.found-is ∙ c.loop-b.invariant
          ∙ sym
          (count_element_miss (commutes t a) b c.loop-b.auto.b
          (ne_eqb (times_of t a b) (times_of t b a) (λ e. w.if-times.false (c.times.ensures.answer ∙ e ∙ sym c.times-in-loop-b.ensures.answer))))
    ]

pub returns : goal.returns
unfolding commuting
returns c =
    let t = c.args.table.now in
    let all : c.loop-b.b - 1 ≡ t.order = omega arith in
    record { answer = c.loop-b.invariant ∙ ap (λ (k : ℕ). count (commutes t c.args.a) (elements k)) all }
