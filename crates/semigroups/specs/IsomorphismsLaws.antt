-- What demand 3 says of full lists of isomorphisms, as records with named parts.
-- Assumes nothing.
use Rattle.std.specs.Prelude.{◌≡◌, ℕ, ◌<◌, length, get_or}
use mathlib.Core.List.{List, [], Memᴰ}
use Rattle.semigroups.specs.Lists.{at}
use Rattle.semigroups.specs.Tables.{Element}
use Rattle.semigroups.specs.MapsLaws.{identity, inverse}
use Rattle.semigroups.specs.Maps.{after}

-- A table's full list onto itself has the identity, the composite of any two entries in either order, and the inverse of each.
pub record IsGroup (n : ℕ) (own : List (List ℕ)) : Type 0 where
  pub has_identity : Memᴰ (identity n) own
  pub has_composites : (a b : List ℕ) → Memᴰ a own → Memᴰ b own → Memᴰ (after a b) own
  pub has_inverses : (a : List ℕ) → Memᴰ a own → Memᴰ (inverse n a) own
  -- The inverse is as RULES 5.8 has it: the byte at the place that a's byte i names is i.
  pub inverse_at : (a : List ℕ) → Memᴰ a own → (i : ℕ) → Element n i → at (inverse n a) (at a i) ≡ i

-- f done after each entry of `own` gives each entry of `every` exactly once and nothing else: every map made stands in `every`,
-- and each entry of `every` is made at exactly one place.
pub record EachOnce (f : List ℕ) (own every : List (List ℕ)) : Type 0 where
  pub as_long : length own ≡ length every
  pub nothing_else : (k : ℕ) → k < length own → Memᴰ (after f (get_or own k [])) every
  pub at_one_place : (g : List ℕ) → Memᴰ g every → (k : ℕ) × (k < length own) × (after f (get_or own k []) ≡ g) × ((j : ℕ) → j < length own → after f (get_or own j []) ≡ g → j ≡ k)
