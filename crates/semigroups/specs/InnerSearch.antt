-- The backtrack search of arXiv 1603.06204, section 3, as a function: elements are placed from 1 upward, images are tried in rising order, and each placing
-- is tested before the next. Any candidates may be given. What first and next mean does not rest on it; what it finds is proved. The paper prints φ(i)φ(k) for
-- the undefined product, and means φ(i)φ(j). Assumes nothing.
use Rattle.std.specs.Prelude.{Bool, true, false, ◌&&◌, not, cond, ℕ, zero, suc, length}
use mathlib.Core.List.{List, [], ◌∷◌, ◌++◌, Memᴰ}
use Rattle.std.proofs.Math.Option.{Option, none, some}
use Rattle.semigroups.specs.Lists.{elements, at, all, first_of, member}
use Rattle.semigroups.specs.InnerLists.{NoRepeats}
use Rattle.semigroups.specs.Tables.{Product, Element}
use Rattle.semigroups.specs.Maps.{is_embedding, Kind, embeddings, isomorphisms, Ask, beyond}
use Rattle.semigroups.specs.Trials.{passes}
use Rattle.semigroups.specs.InnerTrials.{not_before}

module _ (s t : Product) where
  module _ (candidate : ℕ → ℕ → Bool) (ask : Ask) where
    -- Whether x may be the image of the next element: it is a candidate, unused so far, and the list with it passes and is not too early.
    unfoldable pub admits : List ℕ → ℕ → Bool
    admits p x =
        let late = not_before ask (p ++ x ∷ []) in
        let passing = passes s t (p ++ x ∷ []) && late in
        let unused = not (member x p) && passing in
        candidate (suc (length p)) x && unused

    -- The earliest map asked for that begins with p, where d elements are left to place and images are 1 to n.
    unfoldable pub search : ℕ → ℕ → List ℕ → Option (List ℕ)
    search n zero p = cond (beyond ask p) (some p) none
    search n (suc d) p = first_of (λ x. let r = search n d (p ++ x ∷ []) in cond (admits p x) r none) (elements n)

-- ---- what a search finds, whatever its test

module _ (m : ℕ) (s : Product) (n : ℕ) (t : Product) (candidate : ℕ → ℕ → Bool) (ask : Ask) where
  -- Whether a list is a map asked for: an embedding, with its images among the candidates, and late enough.
  unfoldable pub is_wanted : List ℕ → Bool
  is_wanted f =
      let late = beyond ask f in
      let among = all (λ i. candidate i (at f i)) (elements m) && late in
      is_embedding m s n t f && among

-- The kind of maps for which the target is searched as it is: isomorphisms for true, embeddings for false.
abbrev pub plain_kind : Bool → Kind
plain_kind false = embeddings
plain_kind true = isomorphisms

-- What holds of the list placed so far: its entries are elements of the target, and no two are equal.
pub record Placed (n : ℕ) (p : List ℕ) : Type 0 where
  pub entries : (x : ℕ) → Memᴰ x p → Element n x
  pub apart : NoRepeats p
