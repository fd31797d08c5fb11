-- What a search among given pairs returns and leaves once every question has passed. Assumes nothing.
use Rattle.std.specs.Prelude.{List, ℕ}
use Rattle.std.proofs.Math.Option.{Option, none}
use Rattle.semigroups.specs.Questions.{Refusal}
use Rattle.semigroups.specs.Calls.{Answer}
use Rattle.semigroups.specs.Maps.{Ask, Sought, sought}
use Rattle.calls.specs.Calls.{Lent, Called, leaving}
use Rattle.calls.specs.Among.{answer_among, marks_among}

-- What a call says and leaves, from its refusal and the embedding asked for.
abbrev pub leaving_among : List ℕ → Lent → Option Refusal → Option (List ℕ) → Called (Answer Sought)
leaving_among pairs l refusal answer = leaving (marks_among pairs l) l refusal (sought answer) answer

-- What a call says and leaves once every question has passed.
unfoldable pub answered_among : Ask → List ℕ → Lent → Called (Answer Sought)
answered_among ask pairs l = leaving_among pairs l none (answer_among ask pairs l)
