-- A call of a search for embeddings among given pairs: from all that is lent to the answer and to every byte that is left. No byte of the pairs changes
-- (RULES 11).
-- Assumes nothing.
use Rattle.std.specs.Prelude.{List, [], ◌∷◌, ◌++◌, ℕ, leb, length}
use Rattle.std.proofs.Math.Option.{Option}
use Rattle.semigroups.specs.Tables.{product}
use Rattle.semigroups.specs.Scratch.{scratch_size, marks}
use Rattle.semigroups.specs.Questions.{Question, ask, Refusal, first_no, search_questions}
use Rattle.semigroups.specs.Calls.{Answer}
use Rattle.semigroups.specs.Maps.{Ask, earliest, Sought, sought}
use Rattle.calls.specs.Calls.{Lent, Called, leaving}
use Rattle.calls.specs.Allowed.{allowed, allowed_candidate}

-- The questions of a search among given pairs: those of a search; then 70, do the pairs have at least the bytes that m × n bits take?
abbrev pub among_questions : ℕ → List ℕ → ℕ → List ℕ → ℕ → ℕ → ℕ → List Question
among_questions m source n target mapLength scratchLength pairsLength = search_questions m source n target mapLength scratchLength ++ ask 70 (leb (scratch_size m n) pairsLength) ∷ []

-- The refusal of a call with these tables, and with map, scratch and pairs buffers of these lengths, if a question fails.
unfoldable pub among_refusal : ℕ → List ℕ → ℕ → List ℕ → ℕ → ℕ → ℕ → Option Refusal
among_refusal m source n target mapLength scratchLength pairsLength = first_no (among_questions m source n target mapLength scratchLength pairsLength)

-- The refusal of a call that lends all this, by the earliest failed question, if one fails.
abbrev pub refusal_among : List ℕ → Lent → Option Refusal
refusal_among pairs l = among_refusal l.m l.source l.n l.target (length l.map_bytes) (length l.scratch) (length pairs)

-- The allowed embedding asked for: the first one, or the next one after some bytes.
abbrev pub answer_among : Ask → List ℕ → Lent → Option (List ℕ)
answer_among ask pairs l = earliest ask (allowed l.m (product l.m l.source) l.n (product l.n l.target) pairs)

-- The marks of the candidates that the pairs allow.
abbrev pub marks_among : List ℕ → Lent → List ℕ
marks_among pairs l = marks l.m l.n (allowed_candidate l.m (product l.m l.source) l.n (product l.n l.target) pairs)

-- What a call of a search among given pairs says and leaves.
unfoldable pub call_among : Ask → List ℕ → Lent → Called (Answer Sought)
call_among ask pairs l = leaving (marks_among pairs l) l (refusal_among pairs l) (sought (answer_among ask pairs l)) (answer_among ask pairs l)
