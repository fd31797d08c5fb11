-- The steps of one call of the search, over the values that it holds: what is left at x is the work at x and then what is left at x + 1.
-- Assumes nothing.
use mathlib.Core.Path.{◌≡◌, refl, sym, ap, ap₂, ◌∙◌}
use mathlib.Core.Bool.{Bool, true, false, cond, not, ◌&&◌, and-true, and-false}
use mathlib.Core.Logic.{◌⊎◌, inl, inr}
use mathlib.Core.Option.{none, some}
use mathlib.Core.List.{List, [], ◌∷◌, ◌++◌, append_assoc}
use Prim.Native.Nat.{ℕ, zero, suc, ◌+◌, ◌≤◌, ◌<◌}
use native.Mathlib.Omega.{arith}
use borrow.Author.Tests.{eqb-true, eqb-false, ne_eqb, leb-true, le-leb, lt-leb}
use lib.Dec.{eqb, leb}
use lib.ListN.{length, get_or, take, drop}
use lib.Seq.{split_at, take-suc, take_all}
use Rattle.semigroups.specs.Lists.{elements, member, earlier}
use Rattle.semigroups.specs.Tables.{Product}
use Rattle.semigroups.specs.Maps.{Ask, first, next, beyond}
use Rattle.semigroups.specs.Trials.{passes, Work, work}
use Rattle.semigroups.specs.InnerTrials.{not_before, and_then, tried, work_at, counted}
use Rattle.semigroups.proofs.Booleans.{and_left, trichotomy}
use Rattle.semigroups.proofs.ListOrder.{earlier_skip, earlier_above, earlier_head, earlier_tail, earlier_irreflexive}
use Rattle.semigroups.proofs.Trials.{turns_from, turns_same, turns_start, turns_step, turns_end}
use Rattle.backtrack.specs.InnerState.{bounded}

-- The smallest next entry that is not too early.
abbrev pub lowest : Bool → List ℕ → ℕ → ℕ
lowest tight after i = cond tight (get_or after i 0) 0

-- ---- the bound

module _ (after p : List ℕ) (tight : Bool) (same : tight ≡ true → take (length p) after ≡ p) where
  -- A whole list is late enough unless it equals the bound.
  pub bound_itself : length after ≡ length p → beyond (bounded tight after) p ≡ not tight
  bound_itself l = go tight refl
    where
      go : (b : Bool) → tight ≡ b → beyond (bounded b after) p ≡ not b
      go false e = refl
      go true e =
          let eq : after ≡ p = sym (take_all (length p) after (omega arith)) ∙ same e in
          ap (λ (a : List ℕ). earlier a p) eq ∙ earlier_irreflexive p

  -- If x is the bound's own entry, the list with x is still the beginning of the bound.
  pub still_bound : length p < length after → (x : ℕ) → 1 ≤ x → eqb x (lowest tight after (length p)) ≡ true → take (suc (length p)) after ≡ p ++ x ∷ []
  still_bound room x lx q = go tight refl q
    where
      go : (b : Bool) → tight ≡ b → eqb x (lowest b after (length p)) ≡ true → take (suc (length p)) after ≡ p ++ x ∷ []
      go false e r = absurd (let w = eqb-true x 0 r in let z : ⊥ = omega arith in z)
      go true e r = take-suc after (length p) 0 room ∙ ap₂ {C = List ℕ} (λ (l : List ℕ) (v : ℕ). l ++ v ∷ []) (same e) (sym (eqb-true x (get_or after (length p) 0) r))

-- ---- what is left

-- The work at x of the search after p, where d elements are left to place after x.
abbrev search_at : Product → Product → (ℕ → ℕ → Bool) → Ask → ℕ → ℕ → List ℕ → ℕ → Work
search_at s t candidate ask n d p x = work_at s t candidate ask p x (counted s t candidate ask n d (p ++ x ∷ []))

-- The work that is left from x on.
unfoldable pub left_from : Product → Product → (ℕ → ℕ → Bool) → Ask → ℕ → ℕ → List ℕ → ℕ → Work
left_from s t candidate ask n d p x = turns_from (search_at s t candidate ask n d p) n x

regroup : (c u l : Bool) → (c && (u && l)) ≡ (l && (u && c))
regroup true true l = sym (and-true l)
regroup true false l = sym (and-false l)
regroup false true l = sym (and-false l)
regroup false false l = sym (and-false l)

module _ (s t : Product) (candidate : ℕ → ℕ → Bool) (n : ℕ) where
  -- ---- a list that is late already is bound no more

  loose : (pre : List ℕ) (y : ℕ) (rest : List ℕ) (x : ℕ) → y < x → (d : ℕ) (q : List ℕ) → counted s t candidate (next (pre ++ y ∷ rest)) n d (pre ++ x ∷ q) ≡ counted s t candidate first n d (pre ++ x ∷ q)
  unfolding counted
  loose pre y rest x h zero q = ap {B = Work} (λ (b : Bool). work (cond b (some (pre ++ x ∷ q)) none) 0) (earlier_skip pre (y ∷ rest) (x ∷ q) ∙ earlier_head y rest x q h)
  loose pre y rest x h (suc d) q =
      turns_same (search_at s t candidate (next (pre ++ y ∷ rest)) n d (pre ++ x ∷ q)) (search_at s t candidate first n d (pre ++ x ∷ q)) (elements n)
      (λ v k. same v (counted s t candidate (next (pre ++ y ∷ rest)) n d ((pre ++ x ∷ q) ++ v ∷ []))
      ∙ ap (work_at s t candidate first (pre ++ x ∷ q) v)
      (ap (counted s t candidate (next (pre ++ y ∷ rest)) n d) (append_assoc pre (x ∷ q) (v ∷ [])) ∙ loose pre y rest x h d (q ++ v ∷ []) ∙ ap (counted s t candidate first n d) (sym (append_assoc pre (x ∷ q) (v ∷ [])))))
    where
      same : (v : ℕ) (following : Work) → work_at s t candidate (next (pre ++ y ∷ rest)) (pre ++ x ∷ q) v following ≡ work_at s t candidate first (pre ++ x ∷ q) v following
      same v following =
          unfold work_at tried in
          ap {B = Work} (λ (b : Bool). cond (candidate (suc (length (pre ++ x ∷ q))) v && (not (member v (pre ++ x ∷ q)) && not b)) (and_then (work none 1) (cond (passes s t ((pre ++ x ∷ q) ++ v ∷ [])) following (work none 0))) (work none 0))
          (ap (λ (l : List ℕ). earlier l (pre ++ y ∷ rest)) (append_assoc pre (x ∷ q) (v ∷ [])) ∙ earlier_skip pre (x ∷ (q ++ v ∷ [])) (y ∷ rest) ∙ earlier_above x (q ++ v ∷ []) y rest h)

  -- ---- one call, where p is placed and `after` bounds it while `tight`

  module _ (after p : List ℕ) (tight : Bool) (same : tight ≡ true → take (length p) after ≡ p) where
    -- A whole list is found unless it equals the bound.
    pub whole : length after ≡ length p → work (cond (not tight) (some p) none) 0 ≡ counted s t candidate (bounded tight after) n 0 p
    unfolding counted
    whole l = ap {B = Work} (λ (b : Bool). work (cond b (some p) none) 0) (sym (bound_itself after p tight same l))

    module _ (d : ℕ) (room : length p < length after) where
      abbrev left : ℕ → Work
      left = left_from s t candidate (bounded tight after) n d p

      pub begin : counted s t candidate (bounded tight after) n (suc d) p ≡ left 1
      unfolding counted left_from
      begin = turns_start (search_at s t candidate (bounded tight after) n d p) n

      pub end : (x : ℕ) → n < x → left x ≡ work none 0
      unfolding left_from
      end x h = turns_end (search_at s t candidate (bounded tight after) n d p) n x h

      split : tight ≡ true → after ≡ p ++ get_or after (length p) 0 ∷ drop (suc (length p)) after
      split e = split_at after (length p) 0 room ∙ ap (λ (g : List ℕ). g ++ get_or after (length p) 0 ∷ drop (suc (length p)) after) (same e)

      module _ (x : ℕ) (lx : 1 ≤ x) where
        abbrev low : ℕ
        low = lowest tight after (length p)

        seen : tight ≡ true → earlier (p ++ x ∷ []) after ≡ earlier (x ∷ []) (get_or after (length p) 0 ∷ drop (suc (length p)) after)
        seen e = ap (earlier (p ++ x ∷ [])) (split e) ∙ earlier_skip p (x ∷ []) (get_or after (length p) 0 ∷ drop (suc (length p)) after)

        not_early : (y : ℕ) (rest : List ℕ) → not (earlier (x ∷ []) (y ∷ rest)) ≡ leb y x
        not_early y rest = go (trichotomy x y)
          where
            go : (x ≡ y) ⊎ ((x < y) ⊎ (y < x)) → not (earlier (x ∷ []) (y ∷ rest)) ≡ leb y x
            go (inl e) = ap (λ (b : Bool). not b) (ap (λ (v : ℕ). earlier (v ∷ []) (y ∷ rest)) e ∙ earlier_tail y [] rest) ∙ (unfold earlier in sym (le-leb y x (omega arith)))
            go (inr (inl h)) = ap (λ (b : Bool). not b) (earlier_head x [] y rest h) ∙ sym (lt-leb y x h)
            go (inr (inr h)) = ap (λ (b : Bool). not b) (earlier_above x [] y rest h) ∙ sym (le-leb y x (omega arith))

        -- x is late enough exactly if it is no smaller than the bound's entry.
        late : not_before (bounded tight after) (p ++ x ∷ []) ≡ leb low x
        late = go tight refl
          where
            go : (b : Bool) → tight ≡ b → not_before (bounded b after) (p ++ x ∷ []) ≡ leb (lowest b after (length p)) x
            go false e = sym (le-leb 0 x (omega arith))
            go true e = ap (λ (b : Bool). not b) (seen e) ∙ not_early (get_or after (length p) 0) (drop (suc (length p)) after)

        -- Whether x is late enough, unused and a candidate.
        abbrev pub is_open : Bool
        is_open = leb low x && (not (member x p) && candidate (suc (length p)) x)

        tried_open : tried s t candidate (bounded tight after) p x ≡ is_open
        unfolding tried
        tried_open =
            ap (λ (b : Bool). candidate (suc (length p)) x && (not (member x p) && b)) late
            ∙ regroup (candidate (suc (length p)) x) (not (member x p)) (leb low x)

        -- What is left at x is the work at x, and after it what is left at x + 1.
        abbrev pub following : Work → Work
        following w = and_then w (left (x + 1))

        step : x ≤ n → left x ≡ following (search_at s t candidate (bounded tight after) n d p x)
        unfolding left_from
        step h = turns_step (search_at s t candidate (bounded tight after) n d p) n x h

        -- The work after the trial of x; it depends on the test.
        abbrev pub tested : Work
        tested = cond (passes s t (p ++ x ∷ [])) (counted s t candidate (bounded tight after) n d (p ++ x ∷ [])) (work none 0)

        -- An image that is open makes a trial, and one that is not open makes none.
        decided : (b : Bool) → is_open ≡ b → x ≤ n → left x ≡ following (cond b (and_then (work none 1) tested) (work none 0))
        unfolding work_at
        decided b e h = step h ∙ ap (λ (c : Bool). following (cond c (and_then (work none 1) tested) (work none 0))) (tried_open ∙ e)

        pub shut : is_open ≡ false → x ≤ n → left x ≡ following (work none 0)
        shut e h = decided false e h

        pub opened : is_open ≡ true → x ≤ n → left x ≡ following (and_then (work none 1) tested)
        opened e h = decided true e h

        pub fails : is_open ≡ true → passes s t (p ++ x ∷ []) ≡ false → x ≤ n → left x ≡ following (and_then (work none 1) (work none 0))
        fails o e h = opened o h ∙ ap (λ (b : Bool). following (and_then (work none 1) (cond b (counted s t candidate (bounded tight after) n d (p ++ x ∷ [])) (work none 0)))) e

        -- The search after x must keep to the bound only if x is the bound's own entry.
        narrowed : low ≤ x → counted s t candidate (bounded tight after) n d (p ++ x ∷ []) ≡ counted s t candidate (bounded (eqb x low) after) n d (p ++ x ∷ [])
        narrowed h = go tight refl h
          where
            bound : tight ≡ true → (b : Bool) → eqb x (get_or after (length p) 0) ≡ b → get_or after (length p) 0 ≤ x → counted s t candidate (next after) n d (p ++ x ∷ []) ≡ counted s t candidate (bounded b after) n d (p ++ x ∷ [])
            bound e true q g = refl
            bound e false q g =
                let ne = eqb-false x (get_or after (length p) 0) q in
                ap (λ (a : List ℕ). counted s t candidate (next a) n d (p ++ x ∷ [])) (split e) ∙ loose p (get_or after (length p) 0) (drop (suc (length p)) after) x (omega arith) d []

            go : (b : Bool) → tight ≡ b → lowest b after (length p) ≤ x → counted s t candidate (bounded b after) n d (p ++ x ∷ []) ≡ counted s t candidate (bounded (eqb x (lowest b after (length p))) after) n d (p ++ x ∷ [])
            go false e g = ap (λ (b : Bool). counted s t candidate (bounded b after) n d (p ++ x ∷ [])) (sym (ne_eqb x 0 (λ q. let z : ⊥ = omega arith in z)))
            go true e g = bound e (eqb x (get_or after (length p) 0)) refl g

        -- If the list with x passes, the work after the trial is that of the call for the next element.
        pub goes : is_open ≡ true → passes s t (p ++ x ∷ []) ≡ true → x ≤ n → left x ≡ following (and_then (work none 1) (counted s t candidate (bounded (eqb x low) after) n d (p ++ x ∷ [])))
        goes o e h =
            opened o h
            ∙ ap (λ (b : Bool). following (and_then (work none 1) (cond b (counted s t candidate (bounded tight after) n d (p ++ x ∷ [])) (work none 0)))) e
            ∙ ap (λ (w : Work). following (and_then (work none 1) w)) (narrowed (leb-true low x (and_left (leb low x) (not (member x p) && candidate (suc (length p)) x) o)))
