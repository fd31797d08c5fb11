-- What a call of a search is asked for, and what it needs in order not to be refused, in plain words (RULES 6 and 7).
-- Assumes nothing.
use Rattle.std.specs.Prelude.{◌≡◌, true, List, ℕ, length}
use Rattle.semigroups.specs.Lists.{earlier}
use Rattle.semigroups.specs.Tables.{product}
use Rattle.semigroups.specs.Maps.{Kind, Ask, first, next}
use Rattle.semigroups.specs.MapsLaws.{IsMap}
use Rattle.semigroups.specs.PassingLaws.{SearchPasses}
use Rattle.calls.specs.Calls.{Lent, lend, call}

-- What passes the questions: two accepted tables, a map buffer of m bytes and a scratch buffer that is long enough.
abbrev pub Passes : Lent → Type 0
Passes l = SearchPasses l.m l.source l.n l.target (length l.map_bytes) (length l.scratch)

-- What is wanted. First: a map of the kind asked for between the two tables. Next: one that is later than these bytes.
abbrev pub Wanted : Kind → Lent → Ask → List ℕ → Type 0
Wanted kind l first f = IsMap kind l.m (product l.m l.source) l.n (product l.n l.target) f
Wanted kind l (next bytes) f = IsMap kind l.m (product l.m l.source) l.n (product l.n l.target) f × (earlier bytes f ≡ true)

-- The answer and the map that is left depend only on the tables and the map buffer (RULES 8.4): two calls that lend different scratch buffers, both long
-- enough, say the same and leave the same map. `LimitsTheorem` and `AmongLaws` say it of a search with a limit and of one among pairs.
abbrev pub ScratchApart : Type 0
ScratchApart =
    (kind : Kind) (ask : Ask) (source : List ℕ) (m : ℕ) (target : List ℕ) (n : ℕ) (bytes one other : List ℕ) → Passes (lend source m target n bytes one) → Passes (lend source m target n bytes other)
    → ((call kind ask (lend source m target n bytes one)).says ≡ (call kind ask (lend source m target n bytes other)).says)
    × ((call kind ask (lend source m target n bytes one)).map_bytes ≡ (call kind ask (lend source m target n bytes other)).map_bytes)
