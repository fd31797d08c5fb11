use Rattle.std.proofs.Common.{◌≡◌, ℕ, ◌+◌, ◌-◌, ◌*◌, ◌<◌, List, get_or, sym, ap, ◌∙◌, arith, slice_set}
use Rattle.semigroups.specs.Lists.{at}
use Rattle.products.specs.InnerPerElement.{per_element}
use Rattle.products.proofs.PerElement.{fill_start, fill_step}
use Rattle.candidates.specs.InnerKeys.{appended}
use Rattle.candidates.proofs.append.Goals as goal

before : (k : ℕ) → k + 1 - 1 ≡ k
before k = omega arith

appended_at : (values : ℕ) (keys numbers : List ℕ) (k : ℕ) → appended values keys numbers (k + 1) ≡ get_or keys k 0 * values + get_or numbers k 0
unfolding at
appended_at values keys numbers k = ap (λ (i : ℕ). get_or keys i 0 * values + get_or numbers i 0) (before k)

-- One more place is filled.
filled_more : (w : ℕ → ℕ) (k v : ℕ) (array : List ℕ) → array ≡ per_element k w → k < 120 → v ≡ w (k + 1) → slice_set array k v ≡ per_element (k + 1) w
filled_more w k v array e h q =
    ap (λ (i : ℕ). slice_set array i v) (sym (before k))
    ∙ fill_step w (k + 1) v array (e ∙ ap (λ (i : ℕ). per_element i w) (sym (before k))) (omega arith) q ∙ ap (λ (i : ℕ). per_element i w) (before (k + 1))

pub loop-place-init : goal.loop-place-init
loop-place-init c = fill_start (appended c.args.values c.args.keys.now c.args.numbers.now)

pub overflow_mul-longer : goal.overflow_mul-longer
overflow_mul-longer c =
    let fits = c.requires.1 (c.loop-place.place + 1) (omega arith) in omega (arith, appended_at c.args.values c.args.keys.now c.args.numbers.now c.loop-place.place)

pub overflow_add-longer : goal.overflow_add-longer
overflow_add-longer c =
    let fits = c.requires.1 (c.loop-place.place + 1) (omega arith) in omega (arith, appended_at c.args.values c.args.keys.now c.args.numbers.now c.loop-place.place)

pub loop-place-preserved : goal.loop-place-preserved
loop-place-preserved c =
    let a = c.args in
    filled_more (appended a.values a.keys.now a.numbers.now) c.loop-place.place _ c.loop-place.longer c.loop-place.invariant (omega arith) (sym (appended_at a.values a.keys.now a.numbers.now c.loop-place.place))
