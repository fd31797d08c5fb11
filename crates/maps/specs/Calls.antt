-- What a call of the map check says (RULES 12 and 7).
-- Assumes nothing.
use Rattle.std.specs.Prelude.{List, ℕ, length}
use Rattle.semigroups.specs.Tables.{product}
use Rattle.semigroups.specs.Questions.{check_refusal}
use Rattle.semigroups.specs.Calls.{Answer, given_unless}
use Rattle.semigroups.specs.MapCheck.{Checked, check_map}

-- What a call answers about a map from the source, of order m, to the target, of order n: the result of the check.
unfoldable pub map_check : ℕ → List ℕ → ℕ → List ℕ → List ℕ → Answer Checked
map_check m source n target f = given_unless (check_refusal m source n target (length f)) (check_map m (product m source) n (product n target) f)
