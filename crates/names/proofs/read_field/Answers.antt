-- The first byte says how a field is written. Assumes nothing.
use Rattle.std.proofs.Common.{◌≡◌, List, ℕ, ◌+◌, length, drop, ap, subst, ◌∙◌}
use Rattle.sheets.specs.InnerCursor.{bare_value, value_at, size_at}
use Rattle.sheets.proofs.Cursor.{field_none, field_quoted, field_bare}
use Rattle.names.specs.InnerReading.{HoldsValue}
use Rattle.names.proofs.read_field.Goals as goal
use Rattle.names.proofs.read_field.Goals.{else-at-text-via-then-at-text+else-text-at-eq34, else-at-text-via-else-at-text}

pub returns-then-text-at-eq34 : goal.returns-then-text-at-eq34
returns-then-text-at-eq34 c =
    let f = field_quoted c.args.text.now c.args.at c.if-at-text.true c.if-text-at-eq34.true in
    record { value = subst (λ (l : List ℕ). HoldsValue l c.read_quoted.result) f.0 c.read_quoted.ensures.value; end = c.read_quoted.ensures.end ∙ f.1 }

pub returns-else-at-text : goal.returns-else-at-text
returns-else-at-text c =
    let t = c.args.text.now in
    let at = c.args.at in
    let f : (bare_value (drop at t) ≡ value_at (drop at t)) × (length (bare_value (drop at t)) ≡ size_at (drop at t)) = elim c.else-at-text.branch [
      | else-at-text-via-then-at-text+else-text-at-eq34 w ↦ field_bare t at w.if-at-text.true w.if-text-at-eq34.false
      | else-at-text-via-else-at-text w ↦ field_none t at w.if-at-text.false
    ] in
    record { value = subst (λ (l : List ℕ). HoldsValue l c.read_bare.result) f.0 c.read_bare.ensures.value; end = c.read_bare.ensures.end ∙ ap (λ (n : ℕ). at + n) f.1 }
