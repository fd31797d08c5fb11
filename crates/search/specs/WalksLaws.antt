-- Walks of "next" calls for isomorphisms, and demand 3 about them, at the call that the contract of `search::next` cites (RULES 13).
-- Assumes nothing.
use Rattle.std.specs.Prelude.{◌≡◌, ◌⊎◌, ◌↔◌, ℕ, length, replicate}
use mathlib.Core.List.{List, [], Memᴰ}
use Rattle.std.proofs.Math.Option.{Option, none, some}
use Rattle.semigroups.specs.ListsLaws.{Increasing}
use Rattle.semigroups.specs.Tables.{product, Accepted}
use Rattle.semigroups.specs.Questions.{Refusal, search_refusal}
use Rattle.semigroups.specs.Calls.{refused}
use Rattle.semigroups.specs.MapsLaws.{Isomorphism}
use Rattle.semigroups.specs.Maps.{isomorphisms, maps, next}
use Rattle.semigroups.specs.IsomorphismsLaws.{IsGroup, EachOnce}
use Rattle.semigroups.specs.WalksLaws.{Outcome, held, walk, claim, answered, finally}
use Rattle.calls.specs.Calls.{Lent, call}
use Rattle.search.specs.WantedLaws.{Passes}

-- What a call of a walk lends besides the map buffer.
pub record Beside : Type 0 where
  pub source : List ℕ
  pub m : ℕ
  pub target : List ℕ
  pub n : ℕ
  pub scratch : List ℕ

-- All that a call lends, with the map buffer as the call before it left it.
abbrev pub lent_on : Beside → List ℕ → Lent
lent_on c bytes = record { source = c.source; m = c.m; target = c.target; n = c.n; map_bytes = bytes; scratch = c.scratch }

-- What a "next" call for isomorphisms says, and the map buffer as it leaves it.
unfoldable pub next_isomorphism : Beside → List ℕ → Outcome
next_isomorphism c bytes = let r = call isomorphisms (next bytes) (lent_on c bytes) in record { says = r.says; buffer = r.map_bytes }

-- The earliest failed question of a call on a map buffer of k bytes.
unfoldable pub refusal : ℕ → Beside → Option Refusal
refusal k c = search_refusal c.m c.source c.n c.target k (length c.scratch)

-- The call lends these two tables of order m, in these roles.
pub record Lends (m : ℕ) (source target : List ℕ) (c : Beside) : Type 0 where
  pub source_cells : c.source ≡ source
  pub source_order : c.m ≡ m
  pub target_cells : c.target ≡ target
  pub target_order : c.n ≡ m

-- A walk between two tables of order m: every call lends them, and any scratch buffer; only a refused call may lend other cells or orders.
abbrev pub IsWalk : ℕ → List ℕ → List ℕ → List Beside → Type 0
IsWalk m source target cs = (c : Beside) → Memᴰ c cs → refusal m c ≡ none → Lends m source target c

-- The map buffer before the first call.
abbrev pub zeros : ℕ → List ℕ
zeros m = replicate m 0

-- The full list from a table of order m to another.
abbrev pub full_list : ℕ → List ℕ → List ℕ → List (List ℕ)
full_list m source target = maps isomorphisms m (product m source) m (product m target)

-- Demand 3 (RULES 1.3), for two tables of order m.
pub record Demand3 (m : ℕ) (source target : List ℕ) : Type 0 where
  -- The full list is every isomorphism once, earliest first.
  pub increasing : Increasing (full_list m source target)
  pub exactly : (f : List ℕ) → Memᴰ f (full_list m source target) ↔ Isomorphism m (product m source) m (product m target) f
  -- One claim covers every walk: the calls that are not refused find the entries in turn and then say "none" each time; a refused call says its refusal, is
  -- not counted and changes no byte.
  pub walks : (cs : List Beside) → IsWalk m source target cs → walk next_isomorphism cs (zeros m) ≡ claim (refusal m) (zeros m) (full_list m source target) 0 cs
  -- After a walk in which u calls were not refused, the buffer holds entry u, or the last entry if there are fewer; it holds the zeros if there is no entry.
  pub ends : (cs : List Beside) → IsWalk m source target cs
      → finally (zeros m) (walk next_isomorphism cs (zeros m)) ≡ held (zeros m) (full_list m source target) (answered (refusal m) 0 cs)
  -- A call is refused exactly if a question fails, and it says the refusal by the earliest.
  pub refused_exactly : (c : Beside) (bytes : List ℕ) → length bytes ≡ m → (r : Refusal) → ((next_isomorphism c bytes).says ≡ refused r) ↔ (refusal m c ≡ some r)
  -- A refused call changes no byte of the map buffer or of scratch.
  pub refused_unchanged : (c : Beside) (bytes : List ℕ) → length bytes ≡ m → (r : Refusal) → refusal m c ≡ some r
      → call isomorphisms (next bytes) (lent_on c bytes) ≡ record { says = refused r; map_bytes = bytes; scratch = c.scratch }
  -- Only a failed question refuses: a call is not refused exactly if both tables that it lends are accepted, the map buffer has a byte for each
  -- element of the source, and scratch has at least the bytes that its marks take.
  pub answered_exactly : (c : Beside) (bytes : List ℕ) → ((r : Refusal) → (next_isomorphism c bytes).says ≡ refused r → ⊥) ↔ Passes (lent_on c bytes)
  -- The full list is empty, or as long as that of the first table onto itself.
  pub empty_or_as_long : (full_list m source target ≡ []) ⊎ (length (full_list m source target) ≡ length (full_list m source source))
  -- Any entry done after each entry of that list gives every isomorphism exactly once, and nothing else.
  pub each_once : (f : List ℕ) → Memᴰ f (full_list m source target) → EachOnce f (full_list m source source) (full_list m source target)
  -- A table's full list onto itself has the identity, composites in either order, and inverses.
  pub onto_itself : IsGroup m (full_list m source source)

-- Demand 3 holds for any two accepted tables of one order.
abbrev pub Demand3Theorem : Type 0
Demand3Theorem = (m : ℕ) (source target : List ℕ) → Accepted m source → Accepted m target → Demand3 m source target
