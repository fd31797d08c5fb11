-- What a walk through the powers of an element finds (RULES 4), whether the table is associative or not. Assumes nothing.
use Rattle.std.specs.Prelude.{ℕ, ◌+◌, ◌-◌, ◌*◌, ◌/◌}
use Rattle.semigroups.specs.Tables.{Product}
use Rattle.semigroups.specs.Invariants as marks

-- The first multiple of the period r that is at least the index p.
unfoldable pub settling : ℕ → ℕ → ℕ
settling p r = (p + r - 1) / r * r

-- The index and the period of a, and the power of a with the exponent `settling` of the two. If the table is associative, that power is the idempotent one.
unfoldable pub settled : ℕ → Product → ℕ → marks.IndexPeriod
settled n s a = let p = marks.index n s a in let r = marks.period n s a in record { index = p; period = r; idempotent = marks.power s a (settling p r) }
