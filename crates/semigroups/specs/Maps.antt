-- Maps from a table of order m with product s to one of order n with product t (arXiv 1603.06204, section 2; RULES 5).
-- A map is the list of its m images. The full lists come from the products alone, and from nothing that a search found.
-- Assumes nothing.
use Rattle.std.specs.Prelude.{Bool, true, ◌&&◌, List, map, ℕ, eqb, length}
use Rattle.std.proofs.Math.Option.{Option, none, some}
use Rattle.semigroups.specs.Lists.{elements, at, all, find, keep, distinct, earlier, lists}
use Rattle.semigroups.specs.Tables.{Product, turned, is_element}

module _ (m : ℕ) (s : Product) (n : ℕ) (t : Product) where
  -- Whether f has m entries, each 1 to n, and the image of i·j is the image of i times the image of j, for all elements i and j (RULES 5.2).
  unfoldable pub is_homomorphism : List ℕ → Bool
  is_homomorphism f =
      let products = all (λ i. all (λ j. eqb (at f (s i j)) (t (at f i) (at f j))) (elements m)) (elements m) in
      let images = all (is_element n) f && products in
      eqb (length f) m && images

  -- Whether f is a homomorphism with no two images equal (RULES 5.3).
  unfoldable pub is_embedding : List ℕ → Bool
  is_embedding f = let h = is_homomorphism f in distinct f && h

  -- Whether f is an embedding between tables of equal orders (RULES 5.4).
  unfoldable pub is_isomorphism : List ℕ → Bool
  is_isomorphism f = let e = is_embedding f in eqb m n && e

-- ---- the kinds of maps that a search is asked for, and their full lists

-- The kinds of maps.
pub data Kind : Type 0 where
  embeddings : Kind
  isomorphisms : Kind
  reversed : Kind

-- Whether a list is a map of the kind. A reversed isomorphism is an isomorphism onto the turned product (RULES 5.5).
abbrev pub is_map : Kind → ℕ → Product → ℕ → Product → List ℕ → Bool
is_map embeddings = is_embedding
is_map isomorphisms = is_isomorphism
is_map reversed = λ m s n t. is_isomorphism m s n (turned t)

-- The full list of a kind: every map of that kind once, each earlier than the one that follows it (RULES 5.7).
unfoldable pub maps : Kind → ℕ → Product → ℕ → Product → List (List ℕ)
maps kind m s n t = keep (is_map kind m s n t) (lists m n)

-- ---- first and next

-- What is asked of a full list: its first entry, or the first that is later than a list of bytes, any bytes whatever (RULES 6.2 and 6.3).
pub data Ask : Type 0 where
  first : Ask
  next : List ℕ → Ask

-- Whether a list is late enough for what is asked: for the first entry every list is; for the next one it must be later than the bytes.
abbrev pub beyond : Ask → List ℕ → Bool
beyond first f = true
beyond (next b) f = earlier b f

-- The entry of a full list that is asked for, or none.
unfoldable pub earliest : Ask → List (List ℕ) → Option (List ℕ)
earliest ask l = find (beyond ask) l

-- What a search gives: a map is found; or there is none, which is `nothing` here because `none` is a name of the toolchain's library.
pub data Sought : Type 0 where
  found : Sought
  nothing : Sought

-- What a search gives, from the map that it found, if there is one.
abbrev pub sought : Option (List ℕ) → Sought
sought (some f) = found
sought none = nothing

-- ---- the composite (RULES 5.8)

-- The composite of a and b, which is a done after b: byte i is a's byte at the place that b's byte i names.
unfoldable pub after : List ℕ → List ℕ → List ℕ
after a b = map (at a) b
