-- The field ends at a comma, at CR, or with the text. Assumes nothing.
use Rattle.std.proofs.Common.{◌≡◌, inl, inr, List, [], ℕ, ◌+◌, ◌-◌, ◌<◌, length, take, drop, get_or, ap, sym, ◌∙◌, arith, add-zero}
use Rattle.std.proofs.lemmas.List.{take_rest, get_or-drop, length-drop}
use Rattle.sheets.proofs.Cursor.{bare_stops, bare_goes_on, nothing_bare}
use Rattle.sheets.specs.InnerCursor.{bare_value}
use Rattle.names.specs.InnerReading.{extended}
use Rattle.names.proofs.Values.{gathered_first, gathered_next, gathered_last}
use Rattle.names.proofs.read_bare.Goals as goal
use Rattle.names.proofs.read_bare.Goals.{then-b-eq44-via-then-b-eq44, then-b-eq44-via-else-b-eq44+then-b-eq13}

module _ (t : List ℕ) (at i : ℕ) where
  -- The bytes from `at` on, as a part of the text.
  abbrev rest : List ℕ
  rest = take (length t - at) (drop at t)

  byte_is : get_or rest i 0 ≡ get_or t (at + i) 0
  byte_is = ap (λ (l : List ℕ). get_or l i 0) (take_rest t at) ∙ get_or-drop at t i 0

  inside : i < length rest → at + i < length t
  inside h = omega (arith, ap length (take_rest t at), length-drop at t)

pub loop-i-init : goal.loop-i-init
loop-i-init c = rw add-zero (gathered_first _ _ _ _ _ c.requires c.empty-value.ensures.value)

pub returns-then-b-eq44 : goal.returns-then-b-eq44
returns-then-b-eq44 c =
    let t = c.args.text.now in
    let at = c.args.at in
    let b = byte_is t at c.loop-i.i in
    let h = inside t at c.loop-i.i c.loop-i-test.true in
    let stops : bare_value (drop (at + c.loop-i.i) t) ≡ [] = elim c.then-b-eq44.branch [
      | then-b-eq44-via-then-b-eq44 w ↦ bare_stops t (at + c.loop-i.i) h (inl (sym b ∙ w.if-b-eq44.true))
      | then-b-eq44-via-else-b-eq44+then-b-eq13 w ↦ bare_stops t (at + c.loop-i.i) h (inr (sym b ∙ w.if-b-eq13.true))
    ] in
    let last = gathered_last _ _ _ _ _ _ c.loop-i.invariant _ _ 0 (stops, ap length stops) (omega arith) c.ending.ensures.value in
    record { value = last.0; end = last.1 }

pub loop-i-preserved : goal.loop-i-preserved
loop-i-preserved c =
    let t = c.args.text.now in
    let at = c.args.at in
    let i = c.loop-i.i in
    let b = byte_is t at i in
    let h = inside t at i c.loop-i-test.true in
    let on : at + (i + 1) ≡ (at + i) + 1 = omega arith in
    rw on
    (gathered_next bare_value (λ s. length (bare_value s)) t at (at + i) c.loop-i.value c.loop-i.invariant
    c.with-value.result ((at + i) + 1) (get_or t (at + i) 0) (omega arith) (omega arith)
    (bare_goes_on t (at + i) h (λ e. c.if-b-eq13.false (b ∙ e)) (λ e. c.if-b-eq44.false (b ∙ e)))
    (c.with-value.ensures.value ∙ ap (extended c.loop-i.value) b))

pub returns : goal.returns
returns c =
    let t = c.args.text.now in
    let at = c.args.at in
    let whole = ap length (take_rest t at) in
    let size = length-drop at t in
    let within = c.loop-i.invariant.gathering.inside in
    let none = nothing_bare t (at + c.loop-i.i) (omega arith) in
    let last = gathered_last _ _ _ _ _ _ c.loop-i.invariant _ _ 0 (none, ap length none) (omega arith) c.ending-2.ensures.value in
    record { value = last.0; end = last.1 }
