-- The text ends after the field, or a comma stands there, or a line break. Assumes nothing.
use Rattle.std.proofs.Common.{◌≡◌, Bool, ℕ, List, arith}
use Rattle.std.specs.Bool.{then_some}
use Rattle.rfc4180.proofs.Fields.{Goes, end_inside, nothing_follows, comma_follows_law, break_follows}
use Rattle.text.specs.declared.Field.{Field}
use Rattle.text.specs.InnerFields.{field_at}
use Rattle.text.proofs.next_field.Goals as goal

goes : {t : List ℕ} {at end next : ℕ} {comma more : Bool} → Goes t at end next comma more
    → ◌≡◌ {A = Field} (record { end = end; comma = comma; next = then_some more next }) (field_at t at)
goes g = cc (g.ending, g.place, g.same_record, g.further)

pub overflow_add-end : goal.overflow_add-end
overflow_add-end c = omega (arith, end_inside c.args.text.now c.args.at c.requires)

pub returns-then-text-end : goal.returns-then-text-end
returns-then-text-end c = record { answer = goes (nothing_follows _ _ c.field_end-end.ensures.answer c.if-text-end.true) }

pub returns-then-text-end-eq44 : goal.returns-then-text-end-eq44
returns-then-text-end-eq44 c = record { answer = goes (comma_follows_law _ _ c.field_end-end.ensures.answer c.if-text-end-eq44.true) }

pub returns : goal.returns
returns c = record { answer = rw c.then_some.ensures (goes (break_follows _ _ c.field_end-end.ensures.answer c.if-text-end-eq44.false)) }
