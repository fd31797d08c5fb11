-- What a map of each kind is, in plain words (arXiv 1603.06204, section 2; RULES 5); the identity and the inverse of a map.
-- Assumes nothing.
use Rattle.std.specs.Prelude.{◌≡◌, List, map, ℕ, eqb, length}
use Rattle.semigroups.specs.Lists.{elements, at, least}
use Rattle.semigroups.specs.Tables.{Product, Element}
use Rattle.semigroups.specs.Maps.{Kind, embeddings, isomorphisms, reversed}
use Rattle.semigroups.specs.InnerMaps.{Embedding}

module _ (m : ℕ) (s : Product) (n : ℕ) (t : Product) where
  -- An isomorphism: an embedding with m = n.
  pub record Isomorphism (f : List ℕ) : Type 0 where
    pub same_order : m ≡ n
    pub embedding : Embedding m s n t f

  -- A reversed isomorphism: one to one, onto, and the image of i·j is the image of j times the image of i (RULES 5.5).
  pub record ReversedIsomorphism (f : List ℕ) : Type 0 where
    pub size : length f ≡ m
    pub within : (i : ℕ) → Element m i → Element n (at f i)
    pub one_to_one : (i j : ℕ) → Element m i → Element m j → at f i ≡ at f j → i ≡ j
    pub onto : (v : ℕ) → Element n v → (i : ℕ) × Element m i × (at f i ≡ v)
    pub reverses_product : (i j : ℕ) → Element m i → Element m j → at f (s i j) ≡ t (at f j) (at f i)

-- ---- the kinds of maps that a search is asked for

-- What a map of each kind is.
abbrev pub IsMap : Kind → ℕ → Product → ℕ → Product → List ℕ → Type 0
IsMap embeddings = Embedding
IsMap isomorphisms = Isomorphism
IsMap reversed = ReversedIsomorphism

-- ---- identity, composite, inverse (RULES 5.8)

-- The identity on n elements: byte i is i.
unfoldable pub identity : ℕ → List ℕ
identity n = elements n

-- The inverse, in demand 3 the reverse, of a map of n elements onto themselves (RULES 5.8): the byte at the place that a's byte i names is i.
unfoldable pub inverse : ℕ → List ℕ → List ℕ
inverse n a = map (λ j. least n (λ i. eqb (at a i) j)) (elements n)
