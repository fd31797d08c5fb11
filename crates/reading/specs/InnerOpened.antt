-- Whether a file was opened (RULES 21.2, 22.1). Assumes nothing.
use Rattle.std.specs.Prelude.{Bool, not, ℤ, pos}
use Rattle.std.specs.Int.Signed.{lt_z}

-- Whether a descriptor is that of an opened file: it is not negative.
abbrev pub is_open : ℤ → Bool
is_open fd = not (lt_z fd (pos 0))
