-- The field of a text at a place, as the reading functions return it. Assumes nothing.
use Rattle.std.specs.Prelude.{List, ℕ}
use Rattle.std.specs.Bool.{then_some}
use Rattle.rfc4180.specs.InnerCursor.{field_end, next_field, comma_follows, field_follows}
use Rattle.text.specs.declared.Field.{Field}

-- The field that begins at this place.
abbrev pub field_at : List ℕ → ℕ → Field
field_at t at = record { end = field_end t at; comma = comma_follows t at; next = then_some (field_follows t at) (next_field t at) }
