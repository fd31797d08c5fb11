-- What is said of reversed isomorphisms (RULES 10), for accepted tables and at the full lists that the contracts cite. Assumes nothing.
use Rattle.std.specs.Prelude.{◌≡◌, ◌⊎◌, ◌↔◌, ℕ, length}
use mathlib.Core.List.{List, [], Memᴰ}
use Rattle.semigroups.specs.ListsLaws.{Increasing}
use Rattle.semigroups.specs.Tables.{product, Element, Accepted}
use Rattle.semigroups.specs.TablesLaws.{Commutative}
use Rattle.semigroups.specs.InnerTables.{turned_cells}
use Rattle.semigroups.specs.Invariants.{profile, exchanged}
use Rattle.semigroups.specs.MapsLaws.{ReversedIsomorphism}
use Rattle.semigroups.specs.Maps.{Kind, isomorphisms, reversed, maps, after}

-- The full list of a kind from one table to another.
abbrev pub between : Kind → ℕ → List ℕ → ℕ → List ℕ → List (List ℕ)
between kind m source n target = maps kind m (product m source) n (product n target)

-- ---- two tables

-- What is said of the reversed isomorphisms from one table to another.
pub record ReversedMaps (m : ℕ) (source : List ℕ) (n : ℕ) (target : List ℕ) : Type 0 where
  -- The full list is every reversed isomorphism once, earliest first.
  pub increasing : Increasing (between reversed m source n target)
  pub exactly : (f : List ℕ) → Memᴰ f (between reversed m source n target) ↔ ReversedIsomorphism m (product m source) n (product n target) f
  -- It is the full list of isomorphisms onto the table with rows and columns exchanged. That table is accepted too, and its product has the factors exchanged.
  pub turned_product : (i j : ℕ) → Element n i → Element n j → product n (turned_cells n target) i j ≡ product n target j i
  pub turned_accepted : Accepted n (turned_cells n target)
  pub turned_list : between reversed m source n target ≡ between isomorphisms m source n (turned_cells n target)
  -- That table's profiles have row and column counts exchanged.
  pub turned_profile : (a : ℕ) → Element n a → profile n (product n (turned_cells n target)) a ≡ exchanged (profile n (product n target) a)
  -- The list is empty, or as long as the full list of isomorphisms of the first table onto itself.
  pub empty_or_as_long : (between reversed m source n target ≡ []) ⊎ (length (between reversed m source n target) ≡ length (between isomorphisms m source m source))
  -- Between tables of different orders there is no reversed isomorphism.
  pub other_order : (m ≡ n → ⊥) → between reversed m source n target ≡ []
  -- Onto a commutative table the reversed maps are the plain ones.
  pub onto_commutative : Commutative n (product n target) → between reversed m source n target ≡ between isomorphisms m source n target

-- ---- three tables, with a map f from the first to the second and a map g from the second to the third

-- What is said of the composites of reversed and plain isomorphisms.
pub record ReversedComposites (k : ℕ) (first : List ℕ) (m : ℕ) (second : List ℕ) (n : ℕ) (third : List ℕ) (f g : List ℕ) : Type 0 where
  -- Two reversed maps, one after the other, make a plain isomorphism.
  pub both_reversed : Memᴰ f (between reversed k first m second) → Memᴰ g (between reversed m second n third) → Memᴰ (after g f) (between isomorphisms k first n third)
  -- A plain map after a reversed one makes a reversed one, and so does a reversed map after a plain one.
  pub reversed_before : Memᴰ f (between reversed k first m second) → Memᴰ g (between isomorphisms m second n third) → Memᴰ (after g f) (between reversed k first n third)
  pub reversed_after : Memᴰ f (between isomorphisms k first m second) → Memᴰ g (between reversed m second n third) → Memᴰ (after g f) (between reversed k first n third)

-- ---- for any accepted tables

-- What `ReversedMaps` and `ReversedComposites` claim holds for any accepted tables.
pub record ReversedTheorem : Type 0 where
  pub maps_between : (m : ℕ) (source : List ℕ) (n : ℕ) (target : List ℕ) → Accepted m source → Accepted n target → ReversedMaps m source n target
  pub composites : (k : ℕ) (first : List ℕ) (m : ℕ) (second : List ℕ) (n : ℕ) (third : List ℕ) → Accepted k first → Accepted m second → Accepted n third → (f g : List ℕ)
      → ReversedComposites k first m second n third f g
