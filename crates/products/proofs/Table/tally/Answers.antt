use Rattle.std.proofs.Common.{refl, ap, arith, ℕ, List, ◌+◌, ◌-◌, ◌*◌, ◌≡◌, ◌∙◌, get_or, set}
use Rattle.semigroups.specs.Tables.{Element}
use Rattle.products.specs.InnerCounting.{occurrences}
use Rattle.products.specs.InnerPerElement.{per_element}
use Rattle.products.proofs.Counting.{occurs_none, occurs, occurs_not, occurs_at_most}
use Rattle.products.proofs.PerElement.{per_element_at, zero_start, raise}
use Rattle.products.proofs.Table.tally.Goals as goal

-- The count so far of the element that a turn reads.
held : (n step i x : ℕ) (cells found : List ℕ) → found ≡ per_element n (λ a. occurrences a step i cells) → Element n x → get_or found (x - 1) 0 ≡ occurrences x step i cells
held n step i x cells found e h = ap (λ (f : List ℕ). get_or f (x - 1) 0) e ∙ per_element_at n (λ a. occurrences a step i cells) x h

pub loop-i-init : goal.loop-i-init
loop-i-init c =
    let a = c.args in
    zero_start a.self.now.order (λ x. occurrences x a.step 0 a.self.now.cells.now) a.self.now.filled.order.1 (λ x. occurs_none x a.step a.self.now.cells.now)

pub overflow_add-found : goal.overflow_add-found
overflow_add-found c =
    let a = c.args in
    let t = a.self.now in
    let i = c.loop-i.i in
    let x = get_or t.cells.now (i * a.step) 0 in
    let h = held t.order a.step i x t.cells.now c.loop-i.found c.loop-i.invariant (t.filled.in_range (i * a.step) (c.requires.inside i c.loop-i-test.true)) in
    omega (arith, occurs_at_most x a.step t.cells.now i)

pub loop-i-preserved : goal.loop-i-preserved
loop-i-preserved c =
    let a = c.args in
    let t = a.self.now in
    let i = c.loop-i.i in
    let x = get_or t.cells.now (i * a.step) 0 in
    let element : Element t.order x = t.filled.in_range (i * a.step) (c.requires.inside i c.loop-i-test.true) in
    let h = held t.order a.step i x t.cells.now c.loop-i.found c.loop-i.invariant element in
    let v = get_or c.loop-i.found (x - 1) 0 + 1 in
    ap (λ (f : List ℕ). set f (x - 1) v) c.loop-i.invariant
    ∙ raise t.order (λ b. occurrences b a.step i t.cells.now) (λ b. occurrences b a.step (i + 1) t.cells.now) x v element (ap (λ (y : ℕ). y + 1) h) (occurs x a.step t.cells.now i refl)
    (λ b ne. occurs_not b a.step t.cells.now i ne)
