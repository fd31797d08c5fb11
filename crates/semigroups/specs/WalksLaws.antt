-- Walks (RULES 13): lists of calls on one map buffer, each of which is refused or asks for the next entry of a list.
-- C is a call with all that it lends apart from the map buffer.
-- Assumes nothing.
use Rattle.std.specs.Prelude.{cond, List, [], ◌∷◌, ℕ, suc, min, leb, length, get_or}
use Rattle.std.proofs.Math.Option
use Rattle.std.proofs.Math.Option.{Option, none, some}
use Rattle.semigroups.specs.Questions.{Refusal}
use Rattle.semigroups.specs.Calls.{Answer, refused, gives, given_unless}
use Rattle.semigroups.specs.Maps.{next, earliest, Sought, found, nothing, sought}

-- What a call says, and the map buffer as it leaves it.
pub record Outcome : Type 0 where
  pub says : Answer Sought
  pub buffer : List ℕ

-- The buffer after k calls of a walk that were not refused: for 0 it is z, what the buffer held at first; then it is entry k; after the last entry it stays
-- the last one.
unfoldable pub held : List ℕ → List (List ℕ) → ℕ → List ℕ
held z l k = get_or (z ∷ l) (min k (length l)) z

-- What a "next" call says and leaves in the buffer b, from its refusal, if there is one, and the full list of the tables that it lends.
abbrev pub next_outcome : Option Refusal → List (List ℕ) → List ℕ → Outcome
next_outcome none l b = let f = earliest (next b) l in record { says = gives (sought f); buffer = Option.get_or f b }
next_outcome (some r) l b = record { says = refused r; buffer = b }

-- How many calls are not refused once one more call is made, which has this refusal or none, if k calls before it were not refused.
abbrev pub counted : ℕ → Option Refusal → ℕ
counted k (some r) = k
counted k none = suc k

-- What the claim says of a call before which k calls were not refused: if it is not refused either, it finds entry k + 1, or none if the list has no more.
abbrev pub claimed : List ℕ → List (List ℕ) → ℕ → Option Refusal → Outcome
claimed z l k o = record { says = given_unless o (cond (leb (suc k) (length l)) found nothing); buffer = held z l (counted k o) }

module _ {C : Type 0} where
  -- What each call of a walk says and leaves: each gets the buffer as the call before it left it.
  abbrev pub walk : (C → List ℕ → Outcome) → List C → List ℕ → List Outcome
  walk call [] b = []
  walk call (c ∷ cs) b = let o = call c b in o ∷ walk call cs o.buffer

  -- The claim about a whole walk on a buffer that held z at first, where k calls before it were not refused.
  abbrev pub claim : (C → Option Refusal) → List ℕ → List (List ℕ) → ℕ → List C → List Outcome
  claim refusal z l k [] = []
  claim refusal z l k (c ∷ cs) = claimed z l k (refusal c) ∷ claim refusal z l (counted k (refusal c)) cs

  -- How many calls were not refused once these calls are made, if there were k of them before.
  abbrev pub answered : (C → Option Refusal) → ℕ → List C → ℕ
  answered refusal k [] = k
  answered refusal k (c ∷ cs) = answered refusal (counted k (refusal c)) cs

-- The buffer after a walk on b.
abbrev pub finally : List ℕ → List Outcome → List ℕ
finally b [] = b
finally b (o ∷ os) = finally o.buffer os
