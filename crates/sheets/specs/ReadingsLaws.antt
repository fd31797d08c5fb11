-- Every text has a reading, and a call says the same by each of its readings. Assumes nothing.
use Rattle.std.specs.Prelude.{◌≡◌, List, ℕ}
use Rattle.sheets.specs.Readings.{Reading, offence, read_rows}

-- Every text has a reading.
abbrev pub Readable : Type 0
Readable = (t : List ℕ) → Reading t

-- All readings of a text have the same offending place, or none, and the same values.
abbrev pub SameReading : Type 0
SameReading = (t : List ℕ) (v w : Reading t) → (offence v ≡ offence w) × (read_rows v ≡ read_rows w)
