-- What a call among given pairs means, from its definition alone. Assumes nothing.
use mathlib.Core.Path.{◌≡◌, refl, sym, ap, ap₂, ◌∙◌, subst}
use mathlib.Core.Bool.{Bool, true, ◌&&◌, and-true, cond}
use mathlib.Core.Logic.{◌⊎◌, inl, inr, ⊎_elim, ◌↔◌}
use mathlib.Core.List.{List, [], ◌∷◌, Memᴰ}
use mathlib.Core.Option
use mathlib.Core.Option.{Option, none, some}
use Prim.Native.Nat.{ℕ, suc, ◌+◌, ◌-◌, ◌*◌, ◌/◌, ◌%◌, ◌^◌, ◌≤◌, ◌<◌}
use native.Mathlib.Nat.{suc-mul, zero-mul, mul-zero, zero-div}
use native.Mathlib.Omega.{arith}
use borrow.Author.Tests.{eqb-true}
use lib.ListN.{length, get_or, get_or-eq_default}
use Rattle.semigroups.specs.Lists.{at, keep, earlier}
use Rattle.semigroups.specs.ListsLaws.{Earliest}
use Rattle.semigroups.specs.InnerLists.{Sorted}
use Rattle.semigroups.specs.Tables.{Product, product, cell_place}
use Rattle.semigroups.specs.Scratch.{bit, scratch_size, marked}
use Rattle.semigroups.specs.Questions.{Refusal}
use Rattle.semigroups.specs.Calls.{refused, gives, overwritten, Answer}
use Rattle.semigroups.specs.InnerCalls.{scratch_after}
use Rattle.semigroups.specs.InnerMaps.{Embedding}
use Rattle.semigroups.specs.Maps.{embeddings, maps, Ask, first, next, beyond, earliest, Sought, found, nothing, sought}
use Rattle.semigroups.specs.Candidates.{candidate}
use Rattle.semigroups.proofs.Booleans.{clash, at_most_or_above}
use Rattle.semigroups.proofs.Lists.{ext_at, each_at, each_of, find_some, find_none, find_first, mem_keep, keep_mem, sorted_keep, keep_agree}
use Rattle.semigroups.proofs.ListOrder.{earliest_same, earliest_unique}
use Rattle.semigroups.proofs.Maps.{maps_increasing, mem_maps, maps_mem}
use Rattle.semigroups.proofs.Calls.{found_ne_nothing, gives_ne_refused}
use Rattle.candidates.proofs.Marks.{scratch_same}
use Rattle.calls.specs.Calls.{Lent, lend, Called, called, refusal_of, answer_of, marks_of, call}
use Rattle.search.specs.WantedLaws.{Wanted}
use Rattle.calls.specs.Allowed.{allows, allowed}
use Rattle.calls.specs.Among.{refusal_among, answer_among, marks_among, call_among}
use Rattle.kinds.specs.InnerAmong.{leaving_among}
use Rattle.search.specs.AmongLaws.{PassesAmong, Allows, WantedAmong, AllMarked, OnlyOf, Fewer, SamePairs, AmongLaws}
use Rattle.search.proofs.Calls as calls
use Rattle.kinds.proofs.Allowed.{allows_alike}
use Rattle.questions.proofs.Among.{search_refused, pairs_passed}
use Rattle.search.proofs.Among.{among_passes, refused_among, not_refused_among}

-- ---- the list of the allowed embeddings

module _ (m : ℕ) (s : Product) (n : ℕ) (t : Product) (pairs : List ℕ) where
  -- An allowed embedding that is late enough.
  abbrev Late : Ask → List ℕ → Type 0
  Late ask f = (Embedding m s n t f × (beyond ask f ≡ true)) × Allows m n pairs f

  mem_allowed : (f : List ℕ) → Memᴰ f (allowed m s n t pairs) → Embedding m s n t f × Allows m n pairs f
  unfolding allowed allows
  mem_allowed f k = let r = mem_keep (allows m n pairs) (maps embeddings m s n t) f k in (mem_maps embeddings m s n t f r.0, each_at m (λ i. marked n pairs i (at f i)) r.1)

  allowed_mem : (f : List ℕ) → Embedding m s n t f → Allows m n pairs f → Memᴰ f (allowed m s n t pairs)
  unfolding allowed allows
  allowed_mem f F a = keep_mem (allows m n pairs) (maps embeddings m s n t) f (maps_mem embeddings m s n t f F) (each_of m (λ i. marked n pairs i (at f i)) a)

  late_earliest : (ask : Ask) (f : List ℕ) → earliest ask (allowed m s n t pairs) ≡ some f → Earliest (Late ask) f
  unfolding earliest
  late_earliest ask f e =
      let l = allowed m s n t pairs in
      let r = find_some (beyond ask) l f e in
      let h = mem_allowed f r.0 in
      record {
        has = ((h.0, r.1), h.1);
        before_others = λ g w. find_first (λ (a b : List ℕ). earlier a b ≡ true) (beyond ask) l increasing f e g (allowed_mem g w.0.0 w.1) w.0.1;
      }
    where
      increasing : Sorted (λ (a b : List ℕ). earlier a b ≡ true) (allowed m s n t pairs)
      increasing = unfold allowed in sorted_keep (λ (a b : List ℕ). earlier a b ≡ true) (allows m n pairs) (maps embeddings m s n t) (maps_increasing embeddings m s n t)

  late_none : (ask : Ask) → earliest ask (allowed m s n t pairs) ≡ none → (g : List ℕ) → Late ask g → ⊥
  unfolding earliest
  late_none ask e g w = clash {b = beyond ask g} w.0.1 (find_none (beyond ask) (allowed m s n t pairs) e g (allowed_mem g w.0.0 w.1))

  late_found : (ask : Ask) (g : List ℕ) → Late ask g → (f : List ℕ) × (earliest ask (allowed m s n t pairs) ≡ some f)
  late_found ask g w = go (earliest ask (allowed m s n t pairs)) refl
    where
      go : (o : Option (List ℕ)) → earliest ask (allowed m s n t pairs) ≡ o → (f : List ℕ) × (o ≡ some f)
      go none e = absurd (late_none ask e g w)
      go (some f) e = (f, refl)

  late_exactly : (ask : Ask) (f : List ℕ) → Earliest (Late ask) f → earliest ask (allowed m s n t pairs) ≡ some f
  late_exactly ask f e =
      let r = late_found ask f e.has in
      r.1 ∙ ap {B = Option (List ℕ)} some (earliest_unique (late_earliest ask r.0 r.1) e)

-- ---- a call

module _ (ask : Ask) (pairs : List ℕ) (l : Lent) where
  abbrev s : Product
  s = product l.m l.source

  abbrev t : Product
  t = product l.n l.target

  refused_exactly : (r : Refusal) → ((call_among ask pairs l).says ≡ refused r) ↔ (refusal_among pairs l ≡ some r)
  unfolding call_among
  refused_exactly r = calls.leaving_refused (marks_among pairs l) l (sought (answer_among ask pairs l)) (answer_among ask pairs l) (refusal_among pairs l) r

  found_answer : (call_among ask pairs l).says ≡ gives found → answer_among ask pairs l ≡ some (call_among ask pairs l).map_bytes
  unfolding call_among
  found_answer = go (refusal_among pairs l) (answer_among ask pairs l)
    where
      go : (q : Option Refusal) (o : Option (List ℕ)) → (leaving_among pairs l q o).says ≡ gives found → o ≡ some (leaving_among pairs l q o).map_bytes
      go none (some f) e = refl
      go none none e = absurd (found_ne_nothing (sym e))
      go (some r) o e = absurd (gives_ne_refused found r (sym e))

  nothing_answer : (call_among ask pairs l).says ≡ gives nothing → (answer_among ask pairs l ≡ none) × ((call_among ask pairs l).map_bytes ≡ l.map_bytes)
  unfolding call_among
  nothing_answer = go (refusal_among pairs l) (answer_among ask pairs l)
    where
      go : (q : Option Refusal) (o : Option (List ℕ)) → (leaving_among pairs l q o).says ≡ gives nothing → (o ≡ none) × ((leaving_among pairs l q o).map_bytes ≡ l.map_bytes)
      go none none e = (refl, refl)
      go none (some f) e = absurd (found_ne_nothing e)
      go (some r) o e = absurd (gives_ne_refused nothing r (sym e))

  late_wanted : (f : List ℕ) → Late l.m s l.n t pairs ask f ↔ WantedAmong pairs l ask f
  late_wanted f = go ask
    where
      go : (q : Ask) → Late l.m s l.n t pairs q f ↔ WantedAmong pairs l q f
      go first = ((λ h. (h.0.0, h.1)), λ h. ((h.0, refl), h.1))
      go (next bytes) = ((λ h. h), λ h. h)

  answered : PassesAmong pairs l → (o : Option (List ℕ)) → answer_among ask pairs l ≡ o → call_among ask pairs l ≡ leaving_among pairs l none o
  answered p = not_refused_among ask pairs l ((among_passes pairs l).1 p)

  found_exactly : PassesAmong pairs l → (f : List ℕ) → (((call_among ask pairs l).says ≡ gives found) × ((call_among ask pairs l).map_bytes ≡ f)) ↔ Earliest (WantedAmong pairs l ask) f
  found_exactly p f = (to, from)
    where
      to : ((call_among ask pairs l).says ≡ gives found) × ((call_among ask pairs l).map_bytes ≡ f) → Earliest (WantedAmong pairs l ask) f
      to h = (earliest_same late_wanted).0 (late_earliest l.m s l.n t pairs ask f (found_answer h.0 ∙ ap {B = Option (List ℕ)} some h.1))

      from : Earliest (WantedAmong pairs l ask) f → ((call_among ask pairs l).says ≡ gives found) × ((call_among ask pairs l).map_bytes ≡ f)
      from h =
          let e = answered p (some f) (late_exactly l.m s l.n t pairs ask f ((earliest_same late_wanted).1 h)) in
          (ap (λ (c : Called (Answer Sought)). c.says) e, ap (λ (c : Called (Answer Sought)). c.map_bytes) e)

  nothing_exactly : PassesAmong pairs l → ((call_among ask pairs l).says ≡ gives nothing) ↔ ((f : List ℕ) → WantedAmong pairs l ask f → ⊥)
  nothing_exactly p = ((λ e f w. late_none l.m s l.n t pairs ask (nothing_answer e).0 f ((late_wanted f).1 w)), λ h. ap (λ (c : Called (Answer Sought)). c.says) (answered p none (without h (answer_among ask pairs l) refl)))
    where
      without : ((f : List ℕ) → WantedAmong pairs l ask f → ⊥) → (o : Option (List ℕ)) → answer_among ask pairs l ≡ o → answer_among ask pairs l ≡ none
      without h none e = e
      without h (some f) e = absurd (h f ((late_wanted f).0 (late_earliest l.m s l.n t pairs ask f e).has))

  -- If some map is wanted and allowed, one is found.
  wanted_found : PassesAmong pairs l → (f : List ℕ) → WantedAmong pairs l ask f → (call_among ask pairs l).says ≡ gives found
  wanted_found p f w = let r = late_found l.m s l.n t pairs ask f ((late_wanted f).1 w) in ap (λ (c : Called (Answer Sought)). c.says) (answered p (some r.0) r.1)

-- The map asked for does not depend on the scratch buffer.
scratch_apart : (ask : Ask) (pairs source : List ℕ) (m : ℕ) (target : List ℕ) (n : ℕ) (bytes one other : List ℕ) → PassesAmong pairs (lend source m target n bytes one) → PassesAmong pairs (lend source m target n bytes other)
    → ((call_among ask pairs (lend source m target n bytes one)).says ≡ (call_among ask pairs (lend source m target n bytes other)).says)
    × ((call_among ask pairs (lend source m target n bytes one)).map_bytes ≡ (call_among ask pairs (lend source m target n bytes other)).map_bytes)
scratch_apart ask pairs source m target n bytes one other p q =
    let a = lend source m target n bytes one in
    let b = lend source m target n bytes other in
    let e = answered ask pairs a p (answer_among ask pairs a) refl in
    let f = answered ask pairs b q (answer_among ask pairs b) refl in (
      ap (λ (c : Called (Answer Sought)). c.says) e ∙ sym (ap (λ (c : Called (Answer Sought)). c.says) f),
      ap (λ (c : Called (Answer Sought)). c.map_bytes) e ∙ sym (ap (λ (c : Called (Answer Sought)). c.map_bytes) f),
    )

-- A map that is wanted is an embedding.
wanted_embedding : (ask : Ask) (l : Lent) (f : List ℕ) → Wanted embeddings l ask f → Embedding l.m (product l.m l.source) l.n (product l.n l.target) f
wanted_embedding first l f w = w
wanted_embedding (next bytes) l f w = w.0

-- ---- fewer pairs

fewer_pairs : (ask : Ask) (few many : List ℕ) (l : Lent) → PassesAmong few l → PassesAmong many l → Fewer few many l → (call_among ask few l).says ≡ gives found
    → ((call_among ask many l).says ≡ gives found) × (((call_among ask many l).map_bytes ≡ (call_among ask few l).map_bytes) ⊎ (earlier (call_among ask many l).map_bytes (call_among ask few l).map_bytes ≡ true))
fewer_pairs ask few many l p q h e =
    let f = (call_among ask few l).map_bytes in
    let w = ((found_exactly ask few l p f).0 (e, refl)).has in
    let F = wanted_embedding ask l f w.0 in
    let v : WantedAmong many l ask f = (w.0, λ i hi. h i (at f i) hi (F.homomorphism.within i hi) (w.1 i hi)) in
    let says = wanted_found ask many l q f v in
    (says, ⊎_elim (λ z. inl (sym z)) (λ z. inr z) (((found_exactly ask many l q (call_among ask many l).map_bytes).0 (says, refl)).before_others f v))

-- ---- the pairs of one embedding

one_embedding : (pairs : List ℕ) (l : Lent) → PassesAmong pairs l → (f : List ℕ) → Embedding l.m (product l.m l.source) l.n (product l.n l.target) f → OnlyOf f pairs l
    → ((call_among first pairs l).says ≡ gives found) × ((call_among first pairs l).map_bytes ≡ f)
one_embedding pairs l p f F h =
    (found_exactly first pairs l p f).1
    (record {
      has = (F, λ i hi. (h i (at f i) hi (F.homomorphism.within i hi)).1 refl);
      before_others = λ g w. inl (same g w.0 w.1);
    })
  where
    same : (g : List ℕ) → Embedding l.m (product l.m l.source) l.n (product l.n l.target) g → Allows l.m l.n pairs g → g ≡ f
    same g G a =
        ext_at l.m g f G.homomorphism.size F.homomorphism.size
        (λ i hi. sym ((h i (at g i) hi (G.homomorphism.within i hi)).0 (a i hi)))

-- ---- all pairs

keep_all : {A : Type 0} (p : A → Bool) (l : List A) → ((x : A) → Memᴰ x l → p x ≡ true) → keep p l ≡ l
unfolding keep
keep_all p [] h = refl
keep_all {A} p (x ∷ l) h = ap₂ (λ (b : Bool) (r : List A). cond b (x ∷ r) r) (h x (Memᴰ.head refl)) (keep_all p l (λ y k. h y (Memᴰ.tail k)))

bit_none : (r : ℕ) → bit 0 r ≡ 0
unfolding bit
bit_none r = ap (λ (x : ℕ). x % 2) (zero-div (2 ^ r))

module _ (pairs : List ℕ) (l : Lent) (h : AllMarked pairs l) where
  -- The pairs have enough bytes, since the last pair is marked.
  room : scratch_size l.m l.n ≤ length pairs
  unfolding scratch_size marked
  room = go (at_most_or_above 1 l.m) (at_most_or_above 1 l.n)
    where
      go : (1 ≤ l.m) ⊎ (l.m < 1) → (1 ≤ l.n) ⊎ (l.n < 1) → (l.m * l.n + 7) / 8 ≤ length pairs
      go (inr a) b = let e : l.m ≡ 0 = omega arith in subst (λ (x : ℕ). (x * l.n + 7) / 8 ≤ length pairs) (sym e) (omega (arith, zero-mul l.n))
      go (inl a) (inr b) = let e : l.n ≡ 0 = omega arith in subst (λ (x : ℕ). (l.m * x + 7) / 8 ≤ length pairs) (sym e) (omega (arith, mul-zero l.m))
      go (inl a) (inl b) =
          let k = cell_place l.n l.m l.n in
          let last : k + 1 ≡ l.m * l.n = let z : l.m ≡ suc (l.m - 1) = omega arith in omega (arith, suc-mul (l.m - 1) l.n, ap (λ (x : ℕ). x * l.n) z) in
          let one = eqb-true (bit (get_or pairs (k / 8) 0) (k % 8)) 1 (h l.m l.n (omega arith, omega arith) (omega arith, omega arith)) in
          ⊎_elim (λ (u : length pairs ≤ k / 8).
          let e = ap (λ (x : ℕ). bit x (k % 8)) (get_or-eq_default pairs 0 u) ∙ bit_none (k % 8) in
          let z : ⊥ = omega arith in absurd z)
          (λ (u : k / 8 < length pairs). omega arith)
          (at_most_or_above (length pairs) (k / 8))

  same_answer : (ask : Ask) → answer_among ask pairs l ≡ answer_of embeddings ask l
  unfolding allowed allows
  same_answer ask =
      ap (earliest ask)
      (keep_all (allows l.m l.n pairs) (maps embeddings l.m (product l.m l.source) l.n (product l.n l.target))
      (λ f k.
      let F = mem_maps embeddings l.m (product l.m l.source) l.n (product l.n l.target) f k in
      each_of l.m (λ i. marked l.n pairs i (at f i)) (λ i hi. h i (at f i) hi (F.homomorphism.within i hi))))

  same_marks : overwritten (marks_among pairs l) l.scratch ≡ overwritten (marks_of embeddings l) l.scratch
  unfolding scratch_after
  same_marks =
      let c = candidate embeddings l.m (product l.m l.source) l.n (product l.n l.target) in
      scratch_same l.m l.n (λ i j. c i j && marked l.n pairs i j) c (λ i j hi hj. ap (λ (b : Bool). c i j && b) (h i j hi hj) ∙ and-true (c i j)) l.scratch

  all_pairs : (ask : Ask) → call_among ask pairs l ≡ call embeddings ask l
  all_pairs ask = go (refusal_of l) refl
    where
      go : (q : Option Refusal) → refusal_of l ≡ q → call_among ask pairs l ≡ call embeddings ask l
      go (some r) e =
          refused_among ask pairs l r (search_refused l.m l.source l.n l.target (length l.map_bytes) (length l.scratch) (length pairs) r e)
          ∙ sym (calls.refused_unchanged embeddings l ask r e)
      go none e =
          let o = answer_of embeddings ask l in
          not_refused_among ask pairs l (pairs_passed l.m l.source l.n l.target (length l.map_bytes) (length l.scratch) (length pairs) e room) o (same_answer ask)
          ∙ ap (λ (b : List ℕ). called (gives (sought o)) (Option.get_or o l.map_bytes) b) same_marks
          ∙ sym (calls.not_refused embeddings l ask e o refl)

-- ---- pairs that mark the same

module _ (ask : Ask) (one other : List ℕ) (l : Lent) (h : SamePairs one other l) where
  same_allowed : answer_among ask one l ≡ answer_among ask other l
  unfolding allowed allows
  same_allowed =
      ap (earliest ask)
      (keep_agree (allows l.m l.n one) (allows l.m l.n other) (maps embeddings l.m (product l.m l.source) l.n (product l.n l.target))
      (λ f k.
      let F = mem_maps embeddings l.m (product l.m l.source) l.n (product l.n l.target) f k in
      allows_alike l.m (marked l.n one) (marked l.n other) f (λ i hi. h i (at f i) hi (F.homomorphism.within i hi))))

  same_kept : overwritten (marks_among one l) l.scratch ≡ overwritten (marks_among other l) l.scratch
  unfolding scratch_after
  same_kept =
      let c = candidate embeddings l.m (product l.m l.source) l.n (product l.n l.target) in
      scratch_same l.m l.n (λ i j. c i j && marked l.n one i j) (λ i j. c i j && marked l.n other i j) (λ i j hi hj. ap (λ (b : Bool). c i j && b) (h i j hi hj)) l.scratch

  same_pairs : scratch_size l.m l.n ≤ length one → scratch_size l.m l.n ≤ length other → call_among ask one l ≡ call_among ask other l
  same_pairs u v = go (refusal_of l) refl
    where
      go : (q : Option Refusal) → refusal_of l ≡ q → call_among ask one l ≡ call_among ask other l
      go (some r) e =
          refused_among ask one l r (search_refused l.m l.source l.n l.target (length l.map_bytes) (length l.scratch) (length one) r e)
          ∙ sym (refused_among ask other l r (search_refused l.m l.source l.n l.target (length l.map_bytes) (length l.scratch) (length other) r e))
      go none e =
          let o = answer_among ask other l in
          not_refused_among ask one l (pairs_passed l.m l.source l.n l.target (length l.map_bytes) (length l.scratch) (length one) e u) o same_allowed
          ∙ ap (λ (b : List ℕ). called (gives (sought o)) (Option.get_or o l.map_bytes) b) same_kept
          ∙ sym (not_refused_among ask other l (pairs_passed l.m l.source l.n l.target (length l.map_bytes) (length l.scratch) (length other) e v) o refl)

-- ---- the laws

pub among_laws : AmongLaws
among_laws =
    record {
      refused_exactly = refused_exactly;
      refused_unchanged = refused_among;
      found_exactly = found_exactly;
      nothing_exactly = nothing_exactly;
      none_keeps_map = λ ask pairs l e. (nothing_answer ask pairs l e).1;
      scratch_apart = scratch_apart;
      all_pairs = λ ask pairs l h. all_pairs pairs l h ask;
      one_embedding = one_embedding;
      fewer_pairs = fewer_pairs;
      same_pairs = λ ask one other l u v h. same_pairs ask one other l h u v;
    }
