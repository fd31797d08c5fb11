-- The kinds of maps (RULES 5 and 10), and which orders they fit. Assumes nothing.
use Rattle.std.specs.Prelude.{Bool, ℕ, eqb, leb}
use Rattle.semigroups.specs.Maps as maps

-- Whether tables of orders m and n can have a map of the kind: m is at most n for embeddings, and equal for isomorphisms and reversed ones (RULES 5.6).
abbrev pub order_fits : maps.Kind → ℕ → ℕ → Bool
order_fits maps.embeddings m n = leb m n
order_fits maps.isomorphisms m n = eqb m n
order_fits maps.reversed m n = eqb m n
