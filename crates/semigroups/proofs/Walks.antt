-- Walks: calls that answer as "next" is defined, on one buffer of zeros, find the entries of the full list in turn and then say "none" each time. The idea:
-- after k calls that were not refused the buffer holds entry k, and the next map is entry k + 1. Assumes nothing.
use mathlib.Core.Path.{◌≡◌, refl, sym, ap, ◌∙◌}
use mathlib.Core.Bool.{Bool, true, false, cond}
use mathlib.Core.Logic.{◌⊎◌, inl, inr, ⊎_elim}
use mathlib.Core.Option
use mathlib.Core.Option.{Option, none, some}
use mathlib.Core.List.Memᴰ
use mathlib.Core.List.{List, [], ◌∷◌, Memᴰ}
use Prim.Native.Nat.{ℕ, zero, suc, ◌-◌, ◌≤◌, ◌<◌, min}
use native.Mathlib.Omega.{arith}
use borrow.Author.Tests.{leb-true, leb-false}
use lib.Dec.{leb}
use lib.ListN.{length, get_or, replicate, length-replicate}
use Rattle.semigroups.specs.Lists.{find, earlier}
use Rattle.semigroups.specs.ListsLaws.{Increasing}
use Rattle.semigroups.specs.Tables.{Product, Element}
use Rattle.semigroups.specs.InnerTables.{IsList}
use Rattle.semigroups.specs.Maps.{Kind, maps, next, earliest, found, nothing, sought}
use Rattle.semigroups.specs.Questions.{Refusal}
use Rattle.semigroups.specs.Calls.{gives}
use Rattle.semigroups.specs.WalksLaws.{Outcome, held, next_outcome, counted, claimed, walk, claim, answered, finally}
use Rattle.semigroups.proofs.Booleans.{trichotomy}
use Rattle.semigroups.proofs.Lists.{none_find}
use Rattle.semigroups.proofs.NoRepeats.{mem_place, place_mem, sorted_places}
use Rattle.semigroups.proofs.ListOrder.{earlier_head, earlier_irreflexive, earlier_asymmetric}
use Rattle.semigroups.proofs.Maps.{maps_increasing, mem_maps, map_list}

-- ---- what the buffer holds

pub held_start : (z : List ℕ) (l : List (List ℕ)) → held z l 0 ≡ z
unfolding held
held_start z l = ap (λ (i : ℕ). get_or (z ∷ l) i z) (let e : min 0 (length l) ≡ 0 = omega arith in e)

pub held_empty : (z : List ℕ) (k : ℕ) → held z [] k ≡ z
unfolding held
held_empty z k = ap (λ (i : ℕ). get_or (z ∷ []) i z) (let e : min k 0 ≡ 0 = omega arith in e)

held_at : (z : List ℕ) (l : List (List ℕ)) (k : ℕ) → k ≤ length l → held z l k ≡ get_or (z ∷ l) k z
unfolding held
held_at z l k h = ap (λ (i : ℕ). get_or (z ∷ l) i z) (let e : min k (length l) ≡ k = omega arith in e)

held_end : (z : List ℕ) (l : List (List ℕ)) (k : ℕ) → length l ≤ k → held z l k ≡ get_or (z ∷ l) (length l) z
unfolding held
held_end z l k h = ap (λ (i : ℕ). get_or (z ∷ l) i z) (let e : min k (length l) ≡ length l = omega arith in e)

-- After k calls the buffer holds entry k, counted from 1, if there is one; otherwise the last entry.
pub held_entry : (z : List ℕ) (l : List (List ℕ)) (k : ℕ) → Element (length l) k → held z l k ≡ get_or l (k - 1) z
held_entry z l (suc k) h = held_at z l (suc k) (omega arith) ∙ ap (λ (i : ℕ). get_or l i z) (let e : k ≡ suc k - 1 = omega arith in e)
held_entry z l zero h = absurd (let y : ⊥ = omega arith in y)

pub held_last : (z : List ℕ) (l : List (List ℕ)) (k : ℕ) → 1 ≤ length l → length l ≤ k → held z l k ≡ get_or l (length l - 1) z
held_last z l k h u = held_end z l k u ∙ sym (held_end z l (length l) (omega arith)) ∙ held_entry z l (length l) (omega arith)

-- ---- one call

find_at : (p : List ℕ → Bool) (d : List ℕ) (l : List (List ℕ)) (k : ℕ) → k < length l → ((i : ℕ) → i < k → p (get_or l i d) ≡ false) → p (get_or l k d) ≡ true → find p l ≡ some (get_or l k d)
unfolding find
find_at p d [] k h u t = absurd (let y : ⊥ = omega arith in y)
find_at p d (f ∷ l) zero h u t = rw t
find_at p d (f ∷ l) (suc k) h u t = rw (u zero (omega arith)) (find_at p d l k (omega arith) (λ i g. u (suc i) (omega arith)) t)

module _ (z : List ℕ) (l : List (List ℕ)) (s : Increasing (z ∷ l)) where
  abbrev entry : ℕ → List ℕ
  entry k = get_or (z ∷ l) k z

  not_later : (i k : ℕ) → i ≤ k → k ≤ length l → earlier (entry k) (entry i) ≡ false
  not_later i k h u = go (trichotomy i k)
    where
      go : (i ≡ k) ⊎ ((i < k) ⊎ (k < i)) → earlier (entry k) (entry i) ≡ false
      go (inl e) = ap (λ (x : ℕ). earlier (entry k) (entry x)) e ∙ earlier_irreflexive (entry k)
      go (inr (inl g)) = earlier_asymmetric (entry i) (entry k) (sorted_places (λ (a b : List ℕ). earlier a b ≡ true) z (z ∷ l) s i k g (omega arith))
      go (inr (inr g)) = absurd (let y : ⊥ = omega arith in y)

  -- The next entry after entry k is entry k + 1, while there is one.
  next_entry : (k : ℕ) → k < length l → earliest (next (entry k)) l ≡ some (get_or l k z)
  unfolding earliest
  next_entry k h =
      find_at (earlier (entry k)) z l k h (λ i g. not_later (suc i) k (omega arith) (omega arith))
      (sorted_places (λ (a b : List ℕ). earlier a b ≡ true) z (z ∷ l) s k (suc k) (omega arith) (omega arith))

  next_nothing : earliest (next (entry (length l))) l ≡ none
  unfolding earliest
  next_nothing =
      none_find (earlier (entry (length l))) l
      (λ f m.
      let r = mem_place z l m in
      let r1 = r.1 in
      ap (earlier (entry (length l))) (sym r.2) ∙ not_later (suc r.0) (length l) (omega arith) (omega arith))

  held_length : ((f : List ℕ) → Memᴰ f l → length f ≡ length z) → (k : ℕ) → length (held z l k) ≡ length z
  unfolding held
  held_length u k = ⊎_elim (λ e. ap length e) (λ m. u (held z l k) m) (Memᴰ.cases_cons (place_mem z (z ∷ l) (min k (length l)) (omega arith)))

  step : (k : ℕ) (o : Option Refusal) → next_outcome o l (held z l k) ≡ claimed z l k o
  step k (some r) = refl
  step k none = go (leb (suc k) (length l)) refl
    where
      left : Option (List ℕ) → List ℕ → Outcome
      left f b = record { says = gives (sought f); buffer = Option.get_or f b }

      go : (b : Bool) → leb (suc k) (length l) ≡ b → next_outcome none l (held z l k) ≡ record { says = gives (cond b found nothing); buffer = held z l (suc k) }
      go true e =
          let h = leb-true (suc k) (length l) e in
          let hn = held_at z l (suc k) h in
          ap (next_outcome none l) (held_at z l k (omega arith)) ∙ ap (λ (f : Option (List ℕ)). left f (entry k)) (next_entry k h)
          ∙ ap {B = Outcome} (λ (b : List ℕ). record { says = gives found; buffer = b }) (sym hn)
      go false e =
          let h = leb-false (suc k) (length l) e in
          let hn = held_end z l (suc k) (omega arith) in
          ap (next_outcome none l) (held_end z l k (omega arith)) ∙ ap (λ (f : Option (List ℕ)). left f (entry (length l))) next_nothing
          ∙ ap {B = Outcome} (λ (b : List ℕ). record { says = gives nothing; buffer = b }) (sym hn)

  -- ---- the whole walk

  module _ {C : Type 0} (call : C → List ℕ → Outcome) (refusal : C → Option Refusal) where
    -- The claim, for a walk before which k calls were not refused.
    walk_from : ((f : List ℕ) → Memᴰ f l → length f ≡ length z) → (cs : List C) → ((c : C) → Memᴰ c cs → (b : List ℕ) → length b ≡ length z → call c b ≡ next_outcome (refusal c) l b)
        → (k : ℕ) → walk call cs (held z l k) ≡ claim refusal z l k cs
    walk_from u [] h k = refl
    walk_from u (c ∷ cs) h k =
        let o = refusal c in
        let a : call c (held z l k) ≡ claimed z l k o = h c (Memᴰ.head refl) (held z l k) (held_length u k) ∙ step k o in
        ap {B = List Outcome} (λ (x : Outcome). x ∷ walk call cs x.buffer) a
        ∙ ap {B = List Outcome} (λ (r : List Outcome). claimed z l k o ∷ r) (walk_from u cs (λ d m. h d (Memᴰ.tail m)) (counted k o))

-- What the buffer holds once the calls of the claim are made.
pub claim_finally : {C : Type 0} (refusal : C → Option Refusal) (z : List ℕ) (l : List (List ℕ)) (cs : List C) (k : ℕ) → finally (held z l k) (claim refusal z l k cs) ≡ held z l (answered refusal k cs)
claim_finally refusal z l [] k = refl
claim_finally refusal z l (c ∷ cs) k = claim_finally refusal z l cs (counted k (refusal c))

-- ---- the full lists

-- Zeros are earlier than every list of one or more elements.
pub zeros_earlier : (m n : ℕ) (f : List ℕ) → 1 ≤ m → IsList m n f → earlier (replicate m 0) f ≡ true
zeros_earlier zero n f h e = absurd (let y : ⊥ = omega arith in y)
zeros_earlier (suc m) n [] h e = absurd (let w = e.size in let y : ⊥ = omega arith in y)
zeros_earlier (suc m) n (x ∷ f) h e = earlier_head 0 (replicate m 0) x f (let w = e.entries x (Memᴰ.head refl) in omega arith)

module _ (kind : Kind) (m : ℕ) (s : Product) (n : ℕ) (t : Product) (h : 1 ≤ m) where
  listed : (f : List ℕ) → Memᴰ f (maps kind m s n t) → IsList m n f
  listed f k = map_list m s n t f kind (mem_maps kind m s n t f k)

  -- One claim about a whole walk on a buffer of zeros, for calls that answer as "next" is defined or are refused.
  pub walks : {C : Type 0} (call : C → List ℕ → Outcome) (refusal : C → Option Refusal) (cs : List C)
      → ((c : C) → Memᴰ c cs → (b : List ℕ) → length b ≡ m → call c b ≡ next_outcome (refusal c) (maps kind m s n t) b)
      → walk call cs (replicate m 0) ≡ claim refusal (replicate m 0) (maps kind m s n t) 0 cs
  walks call refusal cs g =
      let l = maps kind m s n t in
      let long = length-replicate {A = ℕ} m 0 in
      let sorted : Increasing (replicate m 0 ∷ l) = ((λ f k. zeros_earlier m n f h (listed f k)), maps_increasing kind m s n t) in
      ap (walk call cs) (sym (held_start (replicate m 0) l))
      ∙ walk_from (replicate m 0) l sorted call refusal (λ f k. (listed f k).size ∙ sym long) cs (λ c k b e. g c k b (e ∙ long)) 0

  -- What the buffer holds at the end.
  pub walk_ends : {C : Type 0} (call : C → List ℕ → Outcome) (refusal : C → Option Refusal) (cs : List C)
      → ((c : C) → Memᴰ c cs → (b : List ℕ) → length b ≡ m → call c b ≡ next_outcome (refusal c) (maps kind m s n t) b)
      → finally (replicate m 0) (walk call cs (replicate m 0)) ≡ held (replicate m 0) (maps kind m s n t) (answered refusal 0 cs)
  walk_ends call refusal cs g =
      let l = maps kind m s n t in
      ap (finally (replicate m 0)) (walks call refusal cs g) ∙ ap (λ (b : List ℕ). finally b (claim refusal (replicate m 0) l 0 cs)) (sym (held_start (replicate m 0) l))
      ∙ claim_finally refusal (replicate m 0) l cs 0
