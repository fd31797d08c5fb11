-- The outcome of a search over the marks, from its work, with or without a limit. Assumes nothing.
use mathlib.Core.Path.{◌≡◌, refl, sym, ap, ap₂, ◌∙◌}
use mathlib.Core.Bool.{Bool, true, false, cond}
use mathlib.Core.Logic.{◌⊎◌, inl, inr}
use mathlib.Core.List.{List, []}
use mathlib.Core.Option.{Option, none, some, get_or, none-ne-some}
use Prim.Native.Nat.{ℕ, ◌-◌, ◌≤◌, ◌<◌}
use native.Mathlib.Omega.{arith}
use borrow.Author.Tests.{le-leb, lt-leb}
use lib.Dec.{leb}
use lib.ListN.{length, replicate}
use lib.Seq.{take_at}
use Rattle.semigroups.specs.Tables.{product, Filled}
use Rattle.semigroups.specs.Scratch.{marked}
use Rattle.semigroups.specs.Maps.{sought}
use Rattle.semigroups.specs.InnerSearch.{search}
use Rattle.semigroups.specs.Trials.{Work, work, Limited, stopped, ended, limited, found_within}
use Rattle.semigroups.proofs.Tables.{product_element}
use Rattle.semigroups.proofs.Search.{search_map}
use Rattle.semigroups.proofs.Booleans.{at_most_or_above}
use Rattle.semigroups.proofs.Trials.{counted_finds, limited_ends, limited_stops}
use Rattle.std.specs.Prelude.{Some, Option as Optional, None, Result, Ok, Err, is_some}
use Rattle.backtrack.specs.declared.Ended.{Ended}
use Rattle.backtrack.specs.declared.Stopped.{Stopped}
use Rattle.backtrack.specs.InnerState.{bounded, Remainder, exhausted, remaining, within, padded, ended_of}
use Rattle.backtrack.proofs.Limits.{within_nothing}
use Rattle.kinds.specs.Answers.{sought_if}
use Rattle.kinds.specs.InnerSearching.{trials_in, remainder_under, map_in, marked_work, image_in, put}

-- ---- what a search returns

-- There is a map exactly if the remainder has one.
found_in : (o : Option (List ℕ)) (r : Optional (List ℕ)) → r ≡ padded o → sought_if (is_some r) ≡ sought o
found_in none r e = ap (λ (z : Optional (List ℕ)). sought_if (is_some z)) e
found_in (some f) r e = ap (λ (z : Optional (List ℕ)). sought_if (is_some z)) e

image_is : (q : Remainder) (r : Result Ended Stopped) → r ≡ ended_of q → image_in r ≡ padded (map_in q)
unfolding ended_of
image_is exhausted r e = ap image_in e
image_is (remaining k o) r e = ap image_in e

-- What is written to the map buffer, if a map has m images.
written_in : (m : ℕ) (bytes : List ℕ) (o : Option (List ℕ)) → ((f : List ℕ) → o ≡ some f → length f ≡ m) → (r : Optional (List ℕ)) → r ≡ padded o → put m r bytes ≡ get_or o bytes
written_in m bytes none size r e = ap (λ (z : Optional (List ℕ)). put m z bytes) e
written_in m bytes (some f) size r e = ap (λ (z : Optional (List ℕ)). put m z bytes) e ∙ take_at f (replicate (120 - length f) 0) m (size f refl)

-- If no work is done, there is no map, whatever the limit.
pub no_work : (limit : Optional ℕ) → Ok (record { left = trials_in limit; map = None }) ≡ ended_of (remainder_under limit (work none 0))
unfolding ended_of
no_work None = refl
no_work (Some limit) = ap ended_of (sym (within_nothing limit none))

pub nothing_written : (limit : Optional ℕ) (bytes : List ℕ) → bytes ≡ get_or (map_in (remainder_under limit (work none 0))) bytes
nothing_written None bytes = refl
nothing_written (Some limit) bytes = ap (λ (q : Remainder). get_or (map_in q) bytes) (sym (within_nothing limit none))

-- ---- the work over the marks

module _ (next : Bool) (m : ℕ) (source : List ℕ) (n : ℕ) (target bytes scratch : List ℕ) where
  abbrev w : Work
  w = marked_work next m source n target bytes scratch

  -- A search without a limit finds what the counted search finds.
  pub marked_unlimited : padded (search (product m source) (product n target) (marked n scratch) (bounded next bytes) n m []) ≡ padded w.found
  marked_unlimited = ap padded (sym (counted_finds (product m source) (product n target) (marked n scratch) (bounded next bytes) n m []))

  module _ (filled : Filled m source) where
    -- The map found has an image for each element.
    size : (f : List ℕ) → w.found ≡ some f → length f ≡ m
    size f e =
        (search_map m (product m source) n (product n target) (marked n scratch) (bounded next bytes) (product_element m source filled.size filled.in_range) f
        (sym (counted_finds (product m source) (product n target) (marked n scratch) (bounded next bytes) n m []) ∙ e)
        ).homomorphism.size

    size_under : (limit : Optional ℕ) (f : List ℕ) → map_in (remainder_under limit w) ≡ some f → length f ≡ m
    unfolding within
    size_under None f e = size f e
    size_under (Some limit) f e = go (leb w.trials limit) e
      where
        go : (b : Bool) → map_in (cond b (remaining (limit - w.trials) w.found) exhausted) ≡ some f → length f ≡ m
        go true e = size f e
        go false e = absurd (none-ne-some f e)

    -- What is written to the map buffer, given the outcome.
    pub written : (limit : Optional ℕ) (r : Result Ended Stopped) → r ≡ ended_of (remainder_under limit w) → put m (image_in r) bytes ≡ get_or (map_in (remainder_under limit w)) bytes
    written limit r e = written_in m bytes (map_in (remainder_under limit w)) (size_under limit) (image_in r) (image_is (remainder_under limit w) r e)

    -- The same of a search without a limit, given its map.
    pub put_written : (r : Optional (List ℕ)) → r ≡ padded w.found → put m r bytes ≡ get_or w.found bytes
    put_written r e = written_in m bytes w.found size r e

-- ---- what is said

-- What a search without a limit says.
pub map_says : (w : Work) (r : Optional (List ℕ)) → r ≡ padded w.found → sought_if (is_some r) ≡ sought w.found
map_says w r e = found_in w.found r e

pub unlimited_says : (w : Work) (r : Result Ended Stopped) → r ≡ ended_of (remaining 0 w.found) → sought_if (is_some (image_in r)) ≡ sought w.found
unlimited_says w r e = found_in w.found (image_in r) (image_is (remaining 0 w.found) r e)

-- What a search with a limit says.
abbrev pub limited_by : ℕ → Result Ended Stopped → Limited
limited_by limit (Ok e) = ended (sought_if (is_some e.map)) (limit - e.left)
limited_by limit (Err e) = stopped

module _ (limit : ℕ) (w : Work) (r : Result Ended Stopped) (e : r ≡ ended_of (within limit w)) where
  -- The trials that are left are within the limit.
  pub left_of : (d : Ended) → r ≡ Ok d → d.left ≤ limit
  unfolding within ended_of
  left_of d i = go (leb w.trials limit) (sym i ∙ e)
    where
      go : (b : Bool) → Ok d ≡ ended_of (cond b (remaining (limit - w.trials) w.found) exhausted) → d.left ≤ limit
      go true k = let q : d ≡ record { left = limit - w.trials; map = padded w.found } = cc in let l : d.left ≡ limit - w.trials = ap (λ (x : Ended). x.left) q in omega arith
      go false k = cc

  -- The others were made.
  pub limited_says : (limited_by limit r ≡ limited limit w) × (map_in (within limit w) ≡ found_within limit w)
  unfolding within ended_of
  limited_says = go (at_most_or_above w.trials limit)
    where
      go : (w.trials ≤ limit) ⊎ (limit < w.trials) → (limited_by limit r ≡ limited limit w) × (map_in (within limit w) ≡ found_within limit w)
      go (inl h) =
          let ends = limited_ends w limit h in
          let here : within limit w ≡ remaining (limit - w.trials) w.found = rw (le-leb w.trials limit h) in
          let spent : limit - (limit - w.trials) ≡ w.trials = omega arith in (
            ap (limited_by limit) (e ∙ ap ended_of here)
                ∙ ap₂ ended (found_in w.found (padded w.found) refl) spent ∙ sym ends.0,
            ap map_in here ∙ sym ends.1,
          )
      go (inr h) =
          let stops = limited_stops w limit h in
          let here : within limit w ≡ exhausted = rw (lt-leb w.trials limit h) in
          (ap (limited_by limit) (e ∙ ap ended_of here) ∙ sym stops.0, ap map_in here ∙ sym stops.1)
