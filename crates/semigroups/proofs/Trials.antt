-- The counted search finds what the search finds, and depends on the candidates and products within the two tables only; a limit stops it exactly if it needs more
-- trials. Assumes nothing.
use mathlib.Core.Path.{◌≡◌, refl, sym, ap, ap₂, ◌∙◌, subst}
use mathlib.Core.Bool.{Bool, true, false, ◌&&◌, not, cond}
use mathlib.Core.Logic.{⊎_elim}
use mathlib.Core.List.Memᴰ
use mathlib.Core.List.{List, [], ◌∷◌, ◌++◌, flat_map, Memᴰ}
use mathlib.Core.Option.{Option, none, some, or_else}
use Prim.Native.Nat.{ℕ, zero, suc, ◌+◌, ◌-◌, ◌≤◌, ◌<◌}
use native.Mathlib.Nat.{add-sub_cancel}
use native.Mathlib.Numerals.{add-one}
use native.Mathlib.Omega.{arith}
use borrow.Author.Tests.{le-leb, lt-leb}
use lib.Dec.{eqb, leb}
use lib.ListN.{length}
use Rattle.semigroups.specs.Lists.{range, elements, at, all, find, first_of, sum, count, least, member, earlier, lists}
use Rattle.semigroups.specs.Tables.{Product, Element, product, grid}
use Rattle.semigroups.specs.Invariants.{power, period_from, index, period, idempotent_power, index_period, same_index_period}
use Rattle.semigroups.specs.Maps.{Ask, first, after, sought}
use Rattle.semigroups.specs.Candidates.{candidate}
use Rattle.semigroups.specs.Trials.{fits, passes, Work, work, followed, in_turn, trial_work, search_work, stopped, ended, limited, found_within}
use Rattle.semigroups.specs.InnerTrials.{not_before, and_then, tried, work_at, counted}
use Rattle.semigroups.specs.InnerSearch.{admits, search}
use Rattle.semigroups.specs.Transformations.{transformations, transformation_order, transformation, number_of, transformation_product, transformation_cells}
use Rattle.semigroups.specs.Cases.{two}
use Rattle.semigroups.specs.TrialsExamples.{OutsideExample, TrialsExamples}
use Rattle.semigroups.proofs.Booleans.{same_truth}
use Rattle.semigroups.proofs.Lists.{mem_elements, length_snoc, pairs_at, pairs_of}
use Rattle.semigroups.proofs.NoRepeats.{place_mem}

-- ---- works in turn

followed_finds : (o : Option (List ℕ)) (k : ℕ) (w : Work) → (followed o k w).found ≡ or_else o w.found
unfolding or_else
followed_finds none k w = refl
followed_finds (some f) k w = refl

-- Works in turn find the first map that one of them finds.
turns_find : (g : ℕ → Work) (h : ℕ → Option (List ℕ)) → ((x : ℕ) → (g x).found ≡ h x) → (l : List ℕ) → (in_turn g l).found ≡ first_of h l
unfolding in_turn first_of
turns_find g h e [] = refl
turns_find g h e (x ∷ l) = followed_finds (g x).found (g x).trials (in_turn g l) ∙ ap₂ or_else (e x) (turns_find g h e l)

pub turns_same : (g h : ℕ → Work) (l : List ℕ) → ((x : ℕ) → Memᴰ x l → g x ≡ h x) → in_turn g l ≡ in_turn h l
unfolding in_turn
turns_same g h [] e = refl
turns_same g h (x ∷ l) e = ap₂ and_then (e x (Memᴰ.head refl)) (turns_same g h l (λ y m. e y (Memᴰ.tail m)))

-- The works at x, x + 1, .., n in turn.
unfoldable pub turns_from : (ℕ → Work) → ℕ → ℕ → Work
turns_from g n x = in_turn g (range x (n + 1 - x))

module _ (g : ℕ → Work) (n : ℕ) where
  pub turns_start : in_turn g (elements n) ≡ turns_from g n 1
  unfolding turns_from elements
  turns_start = ap (λ (k : ℕ). in_turn g (range 1 k)) (sym (add-sub_cancel n 1))

  pub turns_step : (x : ℕ) → x ≤ n → turns_from g n x ≡ and_then (g x) (turns_from g n (x + 1))
  unfolding turns_from in_turn range
  turns_step x h =
      let e : n + 1 - x ≡ suc (n + 1 - (x + 1)) = omega arith in
      ap (λ (k : ℕ). in_turn g (range x k)) e ∙ ap (λ (y : ℕ). and_then (g x) (in_turn g (range y (n + 1 - (x + 1))))) (sym (add-one x))

  pub turns_end : (x : ℕ) → n < x → turns_from g n x ≡ work none 0
  unfolding turns_from in_turn range
  turns_end x h = ap (λ (k : ℕ). in_turn g (range x k)) (let e : n + 1 - x ≡ 0 = omega arith in e)

-- ---- the counted search

module _ (s t : Product) (candidate : ℕ → ℕ → Bool) (ask : Ask) where
  work_finds : (p : List ℕ) (x : ℕ) (following : Work) → (work_at s t candidate ask p x following).found ≡ cond (admits s t candidate ask p x) following.found none
  unfolding work_at tried admits
  work_finds p x following = go (candidate (suc (length p)) x) (not (member x p)) (passes s t (p ++ x ∷ [])) (not_before ask (p ++ x ∷ []))
    where
      go : (a b c d : Bool) → (cond (a && (b && d)) (and_then (work none 1) (cond c following (work none 0))) (work none 0)).found ≡ cond (a && (b && (c && d))) following.found none
      go true true true true = refl
      go true true true false = refl
      go true true false true = refl
      go true true false false = refl
      go true false c d = refl
      go false b c d = refl

  -- It finds what the search finds.
  pub counted_finds : (n d : ℕ) (p : List ℕ) → (counted s t candidate ask n d p).found ≡ search s t candidate ask n d p
  unfolding counted search
  counted_finds n zero p = refl
  counted_finds n (suc d) p =
      turns_find (λ x. work_at s t candidate ask p x (counted s t candidate ask n d (p ++ x ∷ []))) (λ x. cond (admits s t candidate ask p x) (search s t candidate ask n d (p ++ x ∷ [])) none)
      (λ x. work_finds p x (counted s t candidate ask n d (p ++ x ∷ [])) ∙ ap {B = Option (List ℕ)} (λ (o : Option (List ℕ)). cond (admits s t candidate ask p x) o none) (counted_finds n d (p ++ x ∷ [])))
      (elements n)

-- For the first map it is the search of Trials, in which no list is too early.
module _ (s t : Product) (candidate : ℕ → ℕ → Bool) where
  trial_first : (p : List ℕ) (x : ℕ) (later : Work) → trial_work s t candidate p x later ≡ work_at s t candidate first p x later
  unfolding trial_work work_at tried
  trial_first p x later = go (candidate (suc (length p)) x) (not (member x p))
    where
      go : (a b : Bool) → cond (a && b) (followed none 1 (cond (passes s t (p ++ x ∷ [])) later (work none 0))) (work none 0)
          ≡ cond (a && (b && true)) (followed none 1 (cond (passes s t (p ++ x ∷ [])) later (work none 0))) (work none 0)
      go true true = refl
      go true false = refl
      go false b = refl

  pub search_first : (n d : ℕ) (p : List ℕ) → search_work s t candidate n d p ≡ counted s t candidate first n d p
  unfolding search_work counted
  search_first n zero p = refl
  search_first n (suc d) p =
      turns_same (λ x. trial_work s t candidate p x (search_work s t candidate n d (p ++ x ∷ []))) (λ x. work_at s t candidate first p x (counted s t candidate first n d (p ++ x ∷ []))) (elements n)
      (λ x m. trial_first p x (search_work s t candidate n d (p ++ x ∷ [])) ∙ ap (work_at s t candidate first p x) (search_first n d (p ++ x ∷ [])))

-- Candidates that agree on the elements of both tables give the same search.
pub counted_same : (s t : Product) (m n : ℕ) (c k : ℕ → ℕ → Bool) → ((i x : ℕ) → Element m i → Element n x → c i x ≡ k i x) → (ask : Ask) (d : ℕ) (p : List ℕ) → length p + d ≡ m
    → counted s t c ask n d p ≡ counted s t k ask n d p
unfolding counted
counted_same s t m n c k same ask zero p e = refl
counted_same s t m n c k same ask (suc d) p e =
    turns_same (λ x. work_at s t c ask p x (counted s t c ask n d (p ++ x ∷ []))) (λ x. work_at s t k ask p x (counted s t k ask n d (p ++ x ∷ []))) (elements n) (λ x h.
    at_entry x (counted s t c ask n d (p ++ x ∷ [])) (same (suc (length p)) x (omega arith) (mem_elements n x h))
    ∙ ap (work_at s t k ask p x) (counted_same s t m n c k same ask d (p ++ x ∷ []) (omega (arith, length_snoc p x))))
  where
    at_entry : (x : ℕ) (following : Work) → c (suc (length p)) x ≡ k (suc (length p)) x → work_at s t c ask p x following ≡ work_at s t k ask p x following
    at_entry x following q =
        unfold work_at tried in
        ap {B = Work} (λ (b : Bool). cond (b && (not (member x p) && not_before ask (p ++ x ∷ []))) (and_then (work none 1) (cond (passes s t (p ++ x ∷ [])) following (work none 0))) (work none 0)) q

-- Products that agree on the elements of the target give the same search.
module _ (s t t' : Product) (n : ℕ) (agree : (i j : ℕ) → Element n i → Element n j → t i j ≡ t' i j) where
  abbrev Inside : List ℕ → Type 0
  Inside p = (x : ℕ) → Memᴰ x p → Element n x

  passes_agrees : (p : List ℕ) → Inside p → passes s t p ≡ passes s t' p
  unfolding passes fits at
  passes_agrees p h =
      same_truth (passes s t p) (passes s t' p)
      (λ e. pairs_of (length p) (fits s t' p) (λ i j hi hj. sym (pair i j hi hj) ∙ pairs_at (length p) (fits s t p) e i j hi hj))
      (λ e. pairs_of (length p) (fits s t p) (λ i j hi hj. pair i j hi hj ∙ pairs_at (length p) (fits s t' p) e i j hi hj))
    where
      image : (i : ℕ) → Element (length p) i → Element n (at p i)
      image i hi = h (at p i) (place_mem 0 p (i - 1) (omega arith))

      pair : (i j : ℕ) → Element (length p) i → Element (length p) j → fits s t p i j ≡ fits s t' p i j
      pair i j hi hj = ap (λ (x : ℕ). cond (leb (s i j) (length p)) (eqb (at p (s i j)) x) (not (member x p))) (agree (at p i) (at p j) (image i hi) (image j hj))

  pub counted_agrees : (c : ℕ → ℕ → Bool) (ask : Ask) (d : ℕ) (p : List ℕ) → Inside p → counted s t c ask n d p ≡ counted s t' c ask n d p
  unfolding counted
  counted_agrees c ask zero p h = refl
  counted_agrees c ask (suc d) p h =
      turns_same (λ x. work_at s t c ask p x (counted s t c ask n d (p ++ x ∷ []))) (λ x. work_at s t' c ask p x (counted s t' c ask n d (p ++ x ∷ []))) (elements n) (λ x k.
      let longer : Inside (p ++ x ∷ []) = (λ y m. ⊎_elim (h y) (λ z. subst (Element n) (sym (Memᴰ.eq_of_singleton z)) (mem_elements n x k)) (Memᴰ.append_cases p m)) in
      at_entry x (counted s t c ask n d (p ++ x ∷ [])) (passes_agrees (p ++ x ∷ []) longer) ∙ ap (work_at s t' c ask p x) (counted_agrees c ask d (p ++ x ∷ []) longer))
    where
      at_entry : (x : ℕ) (following : Work) → passes s t (p ++ x ∷ []) ≡ passes s t' (p ++ x ∷ []) → work_at s t c ask p x following ≡ work_at s t' c ask p x following
      at_entry x following q =
          unfold work_at tried in
          ap {B = Work} (λ (b : Bool). cond (c (suc (length p)) x && (not (member x p) && not_before ask (p ++ x ∷ []))) (and_then (work none 1) (cond b following (work none 0))) (work none 0)) q

-- ---- a limit

module _ (w : Work) (limit : ℕ) where
  pub limited_ends : w.trials ≤ limit → (limited limit w ≡ ended (sought w.found) w.trials) × (found_within limit w ≡ w.found)
  unfolding limited found_within
  limited_ends h = let e = le-leb w.trials limit h in (rw e, rw e)

  pub limited_stops : limit < w.trials → (limited limit w ≡ stopped) × (found_within limit w ≡ none)
  unfolding limited found_within
  limited_stops h = let e = lt-leb w.trials limit h in (rw e, rw e)

-- ---- examples

trials_examples : TrialsExamples
unfolding limited search_work trial_work in_turn candidate passes fits product two grid range elements at all find sum count least member earlier lists power period_from index period idempotent_power index_period same_index_period after transformations transformation_order transformation number_of transformation_product transformation_cells flat_map
trials_examples = (refl, refl, refl, refl, refl)

outside_example : OutsideExample
unfolding search_work trial_work in_turn candidate passes fits product range elements at all find least member power period_from index period idempotent_power index_period same_index_period
outside_example = refl
