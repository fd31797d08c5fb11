-- A quote mark is written twice, and any other byte once. Assumes nothing.
use Rattle.std.proofs.Common.{◌≡◌, Bool, true, false, List, ℕ, [], ◌∷◌, ◌+◌, ◌<◌, ◌≤◌, length, drop, get_or, eqb, refl, ap, sym, ◌∙◌, arith, length-set, add-one}
use borrow.Author.Tests.{eqb-true, eqb-false}
use Rattle.sheets.specs.Names.{doubled}
use Rattle.sheets.proofs.Memory.{doubled_pair, doubled_single, doubled_end}
use Rattle.rfc4180.proofs.Writing.{write_room, write_next, write_last}
use Rattle.names.proofs.put_doubled.Goals as goal
use Rattle.names.proofs.put_doubled.Goals.{then-b-eq34, else-b-eq34}

some_left : (s : List ℕ) (i : ℕ) → i < length s → 1 ≤ length (doubled (drop i s))
some_left s i h = go (eqb (get_or s i 0) 34) refl
  where
    go : (x : Bool) → eqb (get_or s i 0) 34 ≡ x → 1 ≤ length (doubled (drop i s))
    go true e = omega (arith, ap length (doubled_pair s i h (eqb-true (get_or s i 0) 34 e)))
    go false e = omega (arith, ap length (doubled_single s i h (eqb-false (get_or s i 0) 34 e)))

pub bounds-text-at : goal.bounds-text-at
bounds-text-at c =
    let some = some_left c.args.name.now c.loop-b.b-index c.loop-b-test.true in
    let room = write_room c.loop-b.invariant c.requires in
    omega arith

pub bounds-text-at-then-b-eq34 : goal.bounds-text-at-then-b-eq34
bounds-text-at-then-b-eq34 c =
    let pair = ap length (doubled_pair c.args.name.now c.loop-b.b-index c.loop-b-test.true c.if-b-eq34.true) in
    let room = write_room c.loop-b.invariant c.requires in
    rw length-set (omega arith)

pub loop-b-preserved : goal.loop-b-preserved
loop-b-preserved c = elim c.if-b-eq34.branch [
  | then-b-eq34 w ↦
      let b = get_or c.args.name.now c.loop-b.b-index 0 in
      let rest = doubled (drop (c.loop-b.b-index + 1) c.args.name.now) in
      let pair = doubled_pair c.args.name.now c.loop-b.b-index c.loop-b-test.true w.if-b-eq34.true ∙ ap (λ (x : ℕ). x ∷ 34 ∷ rest) (sym w.if-b-eq34.true) in
      let place : c.loop-b.at + 1 + 1 ≡ c.loop-b.at + 2 = omega arith in
      rw (w.text-is, w.at-is, place, add-one c.loop-b.at) (write_next c.loop-b.invariant (b ∷ 34 ∷ []) rest pair)
  | else-b-eq34 w ↦ rw (w.text-is, w.at-is) (write_next c.loop-b.invariant (_ ∷ []) _ (doubled_single _ _ c.loop-b-test.true w.if-b-eq34.false))
]

pub returns : goal.returns
returns c =
    let w = write_last c.loop-b.invariant (doubled_end _ _ c.loop-b-test.false) in
    record { answer = w.1; text = w.0 }
