-- What a call about the least degree says, and what it leaves in the position buffer (RULES 17).
-- Assumes nothing.
use Rattle.std.specs.Prelude.{List, ℕ, length}
use Rattle.std.proofs.Math.Option.{Option}
use Rattle.semigroups.specs.Tables.{product}
use Rattle.semigroups.specs.Calls.{Answer, given_unless, written_unless}
use Rattle.planning.specs.Degrees.{least_fit, least_degree, fit_positions, degree_refusal}

-- What a call says for a table and a position buffer of `size` bytes: a degree, or none of these.
unfoldable pub degree_says : ℕ → List ℕ → ℕ → Answer (Option ℕ)
degree_says m cells size = given_unless (degree_refusal m cells size) (least_degree m (product m cells))

-- The position buffer after the call: it begins with the landing positions, and later bytes are untouched; "none of these" and a refusal change no byte.
unfoldable pub positions_after : ℕ → List ℕ → List ℕ → List ℕ
positions_after m cells before = written_unless (degree_refusal m cells (length before)) (fit_positions m (least_fit m (product m cells))) before
