-- What a search for the first map finds, and after how many trials (RULES 9): the search of arXiv 1603.06204, section 3, for any candidates.
-- Assumes nothing.
use Rattle.std.specs.Prelude.{Bool, not, cond, ◌&&◌, List, [], ◌∷◌, ◌++◌, ℕ, zero, suc, ◌+◌, eqb, leb, length}
use Rattle.std.proofs.Math.Option.{Option, none, some}
use Rattle.semigroups.specs.Lists.{elements, at, all, member}
use Rattle.semigroups.specs.Tables.{Product}
use Rattle.semigroups.specs.Maps.{Sought, sought}

module _ (s t : Product) where
  -- Whether the pair i, j of a list placed so far fits: if i·j is placed, its image is the product of the images of i and j; if i·j is not placed, the product
  -- of these images is not the image of an element placed (RULES 9.2).
  unfoldable pub fits : List ℕ → ℕ → ℕ → Bool
  fits p i j = let image = t (at p i) (at p j) in cond (leb (s i j) (length p)) (eqb (at p (s i j)) image) (not (member image p))

  -- Whether a list placed so far passes: every pair of it fits. Every pair is looked at again at each placing (RULES 9.2).
  unfoldable pub passes : List ℕ → Bool
  passes p = all (λ i. all (λ j. fits p i j) (elements (length p))) (elements (length p))

-- ---- the work of a search

-- The work of a search: what it finds, and after how many trials.
pub record Work : Type 0 where
  pub found : Option (List ℕ)
  pub trials : ℕ

-- The work that finds this after this many trials.
abbrev pub work : Option (List ℕ) → ℕ → Work
work found trials = record { found = found; trials = trials }

-- The work with these two parts; if it finds no map, the work w follows it, and the trials add up.
abbrev pub followed : Option (List ℕ) → ℕ → Work → Work
followed none trials w = work w.found (trials + w.trials)
followed (some f) trials w = work (some f) trials

-- The work at each entry in turn, up to the first at which a map is found.
unfoldable pub in_turn : (ℕ → Work) → List ℕ → Work
in_turn g [] = work none 0
in_turn g (x ∷ l) = let r = in_turn g l in followed (g x).found (g x).trials r

module _ (s t : Product) (candidate : ℕ → ℕ → Bool) where
  -- The work at x, given the work of the search that goes on from there: if x is a candidate for the next element and unused so far, that is a trial, counted
  -- before its test; the search goes on if the list with x passes (RULES 9.3).
  unfoldable pub trial_work : List ℕ → ℕ → Work → Work
  trial_work p x later =
      let tested = cond (passes s t (p ++ x ∷ [])) later (work none 0) in
      cond (candidate (suc (length p)) x && not (member x p)) (followed none 1 tested) (work none 0)

  -- The search for the first map that begins with p, where d elements are left to place and images are 1 to n.
  unfoldable pub search_work : ℕ → ℕ → List ℕ → Work
  search_work n zero p = work (some p) 0
  search_work n (suc d) p = in_turn (λ x. let later = search_work n d (p ++ x ∷ []) in trial_work p x later) (elements n)

-- ---- a limit

-- The result of a search with a limit (RULES 9.4): it is stopped; or it ends, with a map found or none, after exactly this number of trials.
pub data Limited : Type 0 where
  stopped : Limited
  ended : Sought → ℕ → Limited

-- The result of the work under a limit: it is stopped if it needs more trials than the limit.
unfoldable pub limited : ℕ → Work → Limited
limited limit w = cond (leb w.trials limit) (ended (sought w.found) w.trials) stopped

-- The map that the search finds within the limit; if it is stopped, it finds none.
unfoldable pub found_within : ℕ → Work → Option (List ℕ)
found_within limit w = cond (leb w.trials limit) w.found none
