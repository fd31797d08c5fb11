-- What stands after a field that is read: the place of the next field, or the end of the text. Assumes nothing.
use Rattle.std.proofs.Common.{◌≡◌, ◌∙◌, ap, sym, refl, Bool, true, false, List, ℕ, ◌+◌, ◌≤◌, length, Some, None, arith}
use Rattle.std.specs.Bool.{then_some}
use Rattle.rfc4180.specs.InnerCursor.{field_end, comma_follows, next_field, field_follows}
use Rattle.rfc4180.proofs.Fields.{end_inside}
use Rattle.text.specs.declared.Field.{Field}
use Rattle.text.specs.InnerFields.{field_at}

-- A next field, and none.
given : (b : Bool) {x y : ℕ} → then_some b x ≡ Some y → (b ≡ true) × (x ≡ y)
given true e = (refl, cc)
given false e = absurd (cc)

lacking : (b : Bool) (x : ℕ) → then_some b x ≡ None → b ≡ false
lacking true x e = absurd (cc)
lacking false x e = refl

-- After a comma the next field begins at the next place.
after_comma : (t : List ℕ) (at : ℕ) → comma_follows t at ≡ true → (field_follows t at ≡ true) × (next_field t at ≡ field_end t at + 1)
unfolding next_field field_follows
after_comma t at c = (rw c, rw c)

module _ (t : List ℕ) (at : ℕ) {f : Field} (e : f ≡ field_at t at) where
  pub next_place : {next : ℕ} → f.next ≡ Some next → (field_follows t at ≡ true) × (next_field t at ≡ next)
  next_place n = given (field_follows t at) (sym (ap (λ (r : Field). r.next) e) ∙ n)

  pub no_place : f.next ≡ None → field_follows t at ≡ false
  no_place n = lacking (field_follows t at) (next_field t at) (sym (ap (λ (r : Field). r.next) e) ∙ n)

  pub same_record : {b : Bool} → f.comma ≡ b → comma_follows t at ≡ b
  same_record c = sym (ap (λ (r : Field). r.comma) e) ∙ c

  pub comma_place : f.comma ≡ true → (field_follows t at ≡ true) × (next_field t at ≡ f.end + 1)
  comma_place c =
      let a = after_comma t at (same_record c) in
      (a.0, a.1 ∙ ap (λ (r : Field). r.end + 1) (sym e))

  pub end_within : at ≤ length t → f.end ≤ length t
  end_within h = omega (arith, end_inside t at h, ap (λ (r : Field). r.end) e)
