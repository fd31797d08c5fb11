-- The search of Trials, for the first map or for the next one; for the next one, lists that are too early are not tried. No contract of an entry point cites
-- this. Assumes nothing.
use Rattle.std.specs.Prelude.{Bool, true, not, cond, ◌&&◌, List, [], ◌∷◌, ◌++◌, ℕ, zero, suc, length}
use Rattle.std.proofs.Math.Option.{none, some}
use Rattle.semigroups.specs.Lists.{elements, member, earlier}
use Rattle.semigroups.specs.Tables.{Product}
use Rattle.semigroups.specs.Maps.{Ask, first, next, beyond}
use Rattle.semigroups.specs.Trials.{passes, Work, work, followed, in_turn}

-- Whether p may begin a list that is late enough for what is asked.
abbrev pub not_before : Ask → List ℕ → Bool
not_before first p = true
not_before (next b) p = not (earlier p b)

-- The work v and, if it finds no map, the work w after it.
abbrev pub and_then : Work → Work → Work
and_then v w = followed v.found v.trials w

module _ (s t : Product) (candidate : ℕ → ℕ → Bool) (ask : Ask) where
  -- Whether x is tried as the image of the next element: it is a candidate, unused so far, and the list with it is not too early.
  unfoldable pub tried : List ℕ → ℕ → Bool
  tried p x =
      let late = not_before ask (p ++ x ∷ []) in
      let unused = not (member x p) && late in
      candidate (suc (length p)) x && unused

  -- The work at x, given the work of the search that goes on from there.
  unfoldable pub work_at : List ℕ → ℕ → Work → Work
  work_at p x later =
      let tested = cond (passes s t (p ++ x ∷ [])) later (work none 0) in
      cond (tried p x) (and_then (work none 1) tested) (work none 0)

  -- The search for the earliest map asked for that begins with p, where d elements are left to place and images are 1 to n.
  unfoldable pub counted : ℕ → ℕ → List ℕ → Work
  counted n zero p = work (cond (beyond ask p) (some p) none) 0
  counted n (suc d) p = in_turn (λ x. let later = counted n d (p ++ x ∷ []) in work_at p x later) (elements n)
