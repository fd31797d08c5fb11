-- What a call of a search among given pairs means, in plain words, at the call that its contract cites.
-- Assumes nothing.
use Rattle.std.specs.Prelude.{◌≡◌, true, ◌⊎◌, ◌↔◌, List, ℕ, ◌≤◌, length}
use Rattle.std.proofs.Math.Option.{some}
use Rattle.semigroups.specs.Lists.{at, earlier}
use Rattle.semigroups.specs.ListsLaws.{Earliest}
use Rattle.semigroups.specs.Tables.{product, Element}
use Rattle.semigroups.specs.Scratch.{scratch_size, marked}
use Rattle.semigroups.specs.Questions.{Refusal}
use Rattle.semigroups.specs.Calls.{refused, gives}
use Rattle.semigroups.specs.InnerMaps.{Embedding}
use Rattle.semigroups.specs.Maps.{embeddings, Ask, first, found, nothing}
use Rattle.calls.specs.Calls.{Lent, lend, call}
use Rattle.search.specs.WantedLaws.{Passes, Wanted}
use Rattle.calls.specs.Among.{refusal_among, call_among}

-- What passes the questions: what a search needs, and at least the bytes of pairs that m × n bits take.
pub record PassesAmong (pairs : List ℕ) (l : Lent) : Type 0 where
  pub search : Passes l
  pub pairs_room : scratch_size l.m l.n ≤ length pairs

-- The pair of each of m elements with its image under f is marked.
abbrev pub Allows : ℕ → ℕ → List ℕ → List ℕ → Type 0
Allows m n pairs f = (i : ℕ) → Element m i → marked n pairs i (at f i) ≡ true

-- An embedding that is asked for and that the pairs allow.
abbrev pub WantedAmong : List ℕ → Lent → Ask → List ℕ → Type 0
WantedAmong pairs l ask f = Wanted embeddings l ask f × Allows l.m l.n pairs f

-- Every pair of the two tables is marked.
abbrev pub AllMarked : List ℕ → Lent → Type 0
AllMarked pairs l = (i j : ℕ) → Element l.m i → Element l.n j → marked l.n pairs i j ≡ true

-- The pairs of f are marked, and no others.
abbrev pub OnlyOf : List ℕ → List ℕ → Lent → Type 0
OnlyOf f pairs l = (i j : ℕ) → Element l.m i → Element l.n j → (marked l.n pairs i j ≡ true) ↔ (at f i ≡ j)

-- Every pair that is marked in `few` is marked in `many`.
abbrev pub Fewer : List ℕ → List ℕ → Lent → Type 0
Fewer few many l = (i j : ℕ) → Element l.m i → Element l.n j → marked l.n few i j ≡ true → marked l.n many i j ≡ true

-- The same pairs are marked in both.
abbrev pub SamePairs : List ℕ → List ℕ → Lent → Type 0
SamePairs one other l = (i j : ℕ) → Element l.m i → Element l.n j → marked l.n one i j ≡ marked l.n other i j

-- What is claimed of a search among given pairs (RULES 11).
pub record AmongLaws : Type 0 where
  -- A call is refused exactly if a question fails, and it says the refusal by the earliest.
  pub refused_exactly : (ask : Ask) (pairs : List ℕ) (l : Lent) (r : Refusal) → ((call_among ask pairs l).says ≡ refused r) ↔ (refusal_among pairs l ≡ some r)
  -- A refused call changes no lent byte.
  pub refused_unchanged : (ask : Ask) (pairs : List ℕ) (l : Lent) (r : Refusal) → refusal_among pairs l ≡ some r
      → call_among ask pairs l ≡ record { says = refused r; map_bytes = l.map_bytes; scratch = l.scratch }
  -- An embedding is found exactly if it is the earliest that is wanted and allowed.
  pub found_exactly : (ask : Ask) (pairs : List ℕ) (l : Lent) → PassesAmong pairs l → (f : List ℕ)
      → (((call_among ask pairs l).says ≡ gives found) × ((call_among ask pairs l).map_bytes ≡ f)) ↔ Earliest (WantedAmong pairs l ask) f
  -- The answer is none exactly if no embedding is wanted and allowed.
  pub nothing_exactly : (ask : Ask) (pairs : List ℕ) (l : Lent) → PassesAmong pairs l
      → ((call_among ask pairs l).says ≡ gives nothing) ↔ ((f : List ℕ) → WantedAmong pairs l ask f → ⊥)
  -- "None" changes no byte of the map.
  pub none_keeps_map : (ask : Ask) (pairs : List ℕ) (l : Lent) → (call_among ask pairs l).says ≡ gives nothing → (call_among ask pairs l).map_bytes ≡ l.map_bytes
  -- Two calls that lend different scratch buffers, both long enough, say the same and leave the same map.
  pub scratch_apart : (ask : Ask) (pairs source : List ℕ) (m : ℕ) (target : List ℕ) (n : ℕ) (bytes one other : List ℕ)
      → PassesAmong pairs (lend source m target n bytes one) → PassesAmong pairs (lend source m target n bytes other)
      → ((call_among ask pairs (lend source m target n bytes one)).says ≡ (call_among ask pairs (lend source m target n bytes other)).says)
      × ((call_among ask pairs (lend source m target n bytes one)).map_bytes ≡ (call_among ask pairs (lend source m target n bytes other)).map_bytes)
  -- If all pairs are marked, the call is that of a search for embeddings, to the byte, whatever else is lent.
  pub all_pairs : (ask : Ask) (pairs : List ℕ) (l : Lent) → AllMarked pairs l → call_among ask pairs l ≡ call embeddings ask l
  -- If only the pairs of one embedding are marked, that embedding is found.
  pub one_embedding : (pairs : List ℕ) (l : Lent) → PassesAmong pairs l
      → (f : List ℕ) → Embedding l.m (product l.m l.source) l.n (product l.n l.target) f → OnlyOf f pairs l
      → ((call_among first pairs l).says ≡ gives found) × ((call_among first pairs l).map_bytes ≡ f)
  -- Fewer pairs never give an earlier embedding: if they give one, more pairs give that one or an earlier one.
  pub fewer_pairs : (ask : Ask) (few many : List ℕ) (l : Lent) → PassesAmong few l → PassesAmong many l → Fewer few many l → (call_among ask few l).says ≡ gives found
      → ((call_among ask many l).says ≡ gives found)
      × (((call_among ask many l).map_bytes ≡ (call_among ask few l).map_bytes) ⊎ (earlier (call_among ask many l).map_bytes (call_among ask few l).map_bytes ≡ true))
  -- Only which pairs are marked matters: no later byte and no unused bit does.
  pub same_pairs : (ask : Ask) (one other : List ℕ) (l : Lent) → scratch_size l.m l.n ≤ length one → scratch_size l.m l.n ≤ length other → SamePairs one other l
      → call_among ask one l ≡ call_among ask other l
