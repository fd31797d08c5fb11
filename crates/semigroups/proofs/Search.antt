-- The backtrack search with any sound candidates finds what first and next mean: the earliest map asked for. The idea: a placing that is not admitted
-- begins no map that is asked for, and a whole list that passes is an embedding. Assumes nothing.
use mathlib.Core.Path.{◌≡◌, refl, sym, ap, ap₂, ◌∙◌, subst}
use mathlib.Core.Bool.{Bool, true, false, ◌&&◌, not, cond}
use mathlib.Core.Logic.{◌⊎◌, inl, inr, ⊎_elim}
use mathlib.Core.Option.{Option, none, some}
use mathlib.Core.List.Memᴰ
use mathlib.Core.List.{List, [], ◌∷◌, ◌++◌, append_assoc}
use Prim.Native.Nat.{ℕ, zero, suc, ◌+◌, ◌-◌, ◌≤◌, ◌<◌}
use native.Mathlib.Nat.{eq-or-lt_of_le}
use native.Mathlib.Omega.{arith}
use borrow.Author.Tests.{eqb-true, eq-eqb, leb-true, leb-false, le-leb, not-true}
use lib.Dec.{eqb, leb}
use lib.ListN.{length, length-append}
use Rattle.semigroups.specs.Lists.{range, elements, at, all, member, earlier, lists}
use Rattle.semigroups.specs.Tables.{Product, Element}
use Rattle.semigroups.specs.TablesLaws.{Closed}
use Rattle.semigroups.specs.InnerMaps.{Embedding, Among}
use Rattle.semigroups.specs.Maps.{is_embedding, embeddings, maps, Ask, first, next, beyond, earliest}
use Rattle.semigroups.specs.Trials.{fits, passes}
use Rattle.semigroups.specs.InnerTrials.{not_before}
use Rattle.semigroups.specs.InnerSearch.{admits, search, is_wanted, Placed}
use Rattle.semigroups.proofs.Booleans.{clash, untrue, both, and_left, and_right, not_of_false}
use Rattle.semigroups.proofs.Lists.{mem_elements, at_suc, at_front, at_seam, length_snoc, each_at, each_of, pairs_at, pairs_of, find_some, none_find, find_same, find_keep, sorted_append, not_member, unmember}
use Rattle.semigroups.proofs.NoRepeats.{one_to_one, mem_place, place_mem}
use Rattle.semigroups.proofs.ListOrder.{earlier_irreflexive, earlier_transitive, earlier_longer}
use Rattle.semigroups.proofs.Completions.{extensions, find_extension, find_all, find_whole, find_entry, first_of_same}
use Rattle.semigroups.proofs.Maps.{is_embedding_law, embedding_is}

-- ---- a list placed so far

pub placed_none : (n : ℕ) → Placed n []
placed_none n = record { entries = λ x k. absurd (Memᴰ.not-nil k); apart = tt }

pub placed_more : (n : ℕ) (p : List ℕ) (x : ℕ) → Placed n p → Element n x → member x p ≡ false → Placed n (p ++ x ∷ [])
placed_more n p x P hx u =
    record {
      entries = λ y k. ⊎_elim (P.entries y) (λ m. subst (Element n) (sym (Memᴰ.eq_of_singleton m)) hx) (Memᴰ.append_cases p k);
      apart = sorted_append (λ (a b : ℕ). a ≡ b → ⊥) p (x ∷ []) P.apart ((λ y k. absurd (Memᴰ.not-nil k)), tt)
          (λ a b q r e. not_member x p u (Memᴰ.cast (sym (e ∙ Memᴰ.eq_of_singleton r)) q));
    }

-- ---- what passing means

module _ (m : ℕ) (s : Product) (n : ℕ) (t : Product) (closed : Closed m s) where
  -- Every beginning of an embedding passes.
  pub beginning_passes : (p q : List ℕ) → Embedding m s n t (p ++ q) → passes s t p ≡ true
  unfolding passes fits
  beginning_passes p q F = pairs_of (length p) (fits s t p) (λ i j hi hj. pair i j hi hj (leb (s i j) (length p)) refl)
    where
      size : length p + length q ≡ m
      size = sym (length-append p q) ∙ F.homomorphism.size

      -- In the whole map, the image of a product of placed elements is the product of their images.
      seen : (i j : ℕ) → Element (length p) i → Element (length p) j → at (p ++ q) (s i j) ≡ t (at p i) (at p j)
      seen i j hi hj = let z = size in F.homomorphism.keeps_product i j (omega arith) (omega arith) ∙ ap₂ t (at_front p q i hi) (at_front p q j hj)

      pair : (i j : ℕ) → Element (length p) i → Element (length p) j → (c : Bool) → leb (s i j) (length p) ≡ c → cond c (eqb (at p (s i j)) (t (at p i) (at p j))) (not (member (t (at p i) (at p j)) p)) ≡ true
      pair i j hi hj true e =
          let z = size in
          let k = s i j in
          let hk = closed i j (omega arith) (omega arith) in
          let u = leb-true k (length p) e in
          eq-eqb (at p k) (t (at p i) (at p j)) (sym (at_front p q k (omega arith)) ∙ seen i j hi hj)
      pair i j hi hj false e =
          let z = size in
          let k = s i j in
          let hk = closed i j (omega arith) (omega arith) in
          let u = leb-false k (length p) e in
          not_of_false (member (t (at p i) (at p j)) p) (unmember (t (at p i) (at p j)) p (λ w.
          let r = mem_place 0 p w in
          let r1 = r.1 in
          let same : at (p ++ q) k ≡ at (p ++ q) (suc r.0) = seen i j hi hj ∙ sym r.2 ∙ sym (at_suc p r.0) ∙ sym (at_front p q (suc r.0) (omega arith)) in
          let y = F.one_to_one k (suc r.0) (omega arith) (omega arith) same in
          let x : ⊥ = omega arith in x))

  -- A whole list that passes is an embedding.
  pub whole_embeds : (p : List ℕ) → length p ≡ m → Placed n p → passes s t p ≡ true → Embedding m s n t p
  unfolding passes fits at
  whole_embeds p e P h =
      record {
        homomorphism = record {
          size = e;
          within = λ i hi. P.entries (at p i) (place_mem 0 p (i - 1) (omega arith));
          keeps_product = λ i j hi hj.
              let k = closed i j hi hj in
              let f = pairs_at (length p) (fits s t p) h i j (omega arith) (omega arith) in
              eqb-true (at p (s i j)) (t (at p i) (at p j))
              (subst (λ (c : Bool). cond c (eqb (at p (s i j)) (t (at p i) (at p j))) (not (member (t (at p i) (at p j)) p)) ≡ true) (le-leb (s i j) (length p) (omega arith)) f);
        };
        one_to_one = one_to_one m p e P.apart;
      }

-- ---- what is found among the extensions of a list

-- The beginning of a list that is late enough is not too early.
late : (a : Ask) (p q : List ℕ) → beyond a (p ++ q) ≡ true → not_before a p ≡ true
late first p q e = refl
late (next b) p q e =
    not_of_false (earlier p b) (untrue (earlier p b) (λ h.
    clash {b = earlier b b} (earlier_transitive b (p ++ q) b e (earlier_longer p q b h)) (earlier_irreflexive b)))

module _ (m : ℕ) (s : Product) (n : ℕ) (t : Product) (candidate : ℕ → ℕ → Bool) (ask : Ask) where
  abbrev asked : List ℕ → Bool
  asked = is_wanted m s n t candidate ask

  wanted_parts : (f : List ℕ) → asked f ≡ true → Embedding m s n t f × Among m candidate f × (beyond ask f ≡ true)
  unfolding is_wanted
  wanted_parts f w =
      let a = is_embedding m s n t f in
      let b = all (λ i. candidate i (at f i)) (elements m) in
      let c = beyond ask f in
      let r = and_right a (b && c) w in
      (is_embedding_law m s n t f (and_left a (b && c) w), each_at m (λ i. candidate i (at f i)) (and_left b c r), and_right b c r)

  -- Nothing is found among the extensions of a list that no map asked for begins with.
  pub no_extension : (d : ℕ) (p : List ℕ) → ((q : List ℕ) → Embedding m s n t (p ++ q) → Among m candidate (p ++ q) → beyond ask (p ++ q) ≡ true → ⊥) → find_extension asked n d p ≡ none
  unfolding find_extension extensions
  no_extension d p h =
      none_find asked (extensions p (lists d n)) (λ f k.
      let r = Memᴰ.of_map {A = List ℕ} {B = List ℕ} (λ q. p ++ q) (lists d n) k in
      untrue (asked f) (λ w.
      let v = wanted_parts (p ++ r.0) (subst (λ (l : List ℕ). asked l ≡ true) (sym r.2) w) in
      h r.0 v.0 v.1 v.2))

  -- A whole list with its images among the candidates is found if it is an embedding and late enough.
  pub whole_extension : (p : List ℕ) → Among m candidate p → find_extension asked n 0 p ≡ cond (is_embedding m s n t p && beyond ask p) (some p) none
  unfolding is_wanted
  whole_extension p among =
      find_whole asked n p
      ∙ ap {B = Option (List ℕ)} (λ (b : Bool). cond (is_embedding m s n t p && (b && beyond ask p)) (some p) none) (each_of m (λ i. candidate i (at p i)) among)

  -- ---- the paper's search

  module _ (closed : Closed m s) where
    -- A placing that begins a map asked for is admitted.
    admitted : (p : List ℕ) (x : ℕ) (q : List ℕ) → Embedding m s n t ((p ++ x ∷ []) ++ q) → Among m candidate ((p ++ x ∷ []) ++ q) → beyond ask ((p ++ x ∷ []) ++ q) ≡ true → admits s t candidate ask p x ≡ true
    unfolding admits
    admitted p x q F among b =
        let f = (p ++ x ∷ []) ++ q in
        let same : f ≡ p ++ x ∷ q = append_assoc p (x ∷ []) q in
        let size : length p + suc (length q) ≡ m = sym (length-append p (x ∷ q)) ∙ ap length (sym same) ∙ F.homomorphism.size in
        let last : at f (suc (length p)) ≡ x = ap (λ (l : List ℕ). at l (suc (length p))) same ∙ at_seam p x q (suc (length p)) refl in
        let passing = passes s t (p ++ x ∷ []) in
        let late-enough = not_before ask (p ++ x ∷ []) in
        both (candidate (suc (length p)) x) (not (member x p) && (passing && late-enough)) (sym (ap (candidate (suc (length p))) last) ∙ among (suc (length p)) (omega arith))
        (both (not (member x p)) (passing && late-enough)
        (not_of_false (member x p) (unmember x p (λ k.
        let r = mem_place 0 p k in
        let r1 = r.1 in
        let y : at f (suc (length p)) ≡ at f (suc r.0) =
        last ∙ sym r.2 ∙ sym (at_suc p r.0) ∙ sym (at_front p (x ∷ q) (suc r.0) (omega arith)) ∙ sym (ap (λ (l : List ℕ). at l (suc r.0)) same) in
        let z = F.one_to_one (suc (length p)) (suc r.0) (omega arith) (omega arith) y in
        let o : ⊥ = omega arith in o)))
        (both passing late-enough (beginning_passes m s n t closed (p ++ x ∷ []) q F) (late ask (p ++ x ∷ []) q b)))

    not_admitted : (d : ℕ) (p : List ℕ) (x : ℕ) → admits s t candidate ask p x ≡ false → find_extension asked n d (p ++ x ∷ []) ≡ none
    not_admitted d p x e = no_extension d (p ++ x ∷ []) (λ q F among b. clash {b = admits s t candidate ask p x} (admitted p x q F among b) e)

    -- What holds of the list placed so far.
    record Good (p : List ℕ) : Type 0 where
      placed : Placed n p
      passed : passes s t p ≡ true
      among : Among (length p) candidate p

    good_more : (p : List ℕ) (x : ℕ) → Good p → Element n x → admits s t candidate ask p x ≡ true → Good (p ++ x ∷ [])
    unfolding admits
    good_more p x G hx a =
        let u = passes s t (p ++ x ∷ []) in
        let v = not_before ask (p ++ x ∷ []) in
        let a1 = and_right (candidate (suc (length p)) x) (not (member x p) && (u && v)) a in
        let mine = and_left (candidate (suc (length p)) x) (not (member x p) && (u && v)) a in
        record {
          placed = placed_more n p x G.placed hx (not-true (member x p) (and_left (not (member x p)) (u && v) a1));
          passed = and_left u v (and_right (not (member x p)) (u && v) a1);
          among = λ i hi. mark i hi mine (eq-or-lt_of_le (let z : i ≤ suc (length p) = omega (arith, length_snoc p x) in z));
        }
      where
        mark : (i : ℕ) → Element (length (p ++ x ∷ [])) i → candidate (suc (length p)) x ≡ true → (i ≡ suc (length p)) ⊎ (i < suc (length p)) → candidate i (at (p ++ x ∷ []) i) ≡ true
        mark i hi mine (inl e) = ap₂ candidate e (at_seam p x [] i e) ∙ mine
        mark i hi mine (inr l) = ap (candidate i) (at_front p (x ∷ []) i (omega arith)) ∙ G.among i (omega arith)

    -- From a list placed so far the search finds the earliest map that extends it.
    searches : (d : ℕ) (p : List ℕ) → length p + d ≡ m → Good p → search s t candidate ask n d p ≡ find_extension asked n d p
    unfolding search
    searches zero p e G =
        sym (whole_extension p (λ i hi. G.among i (omega arith))
        ∙ ap {B = Option (List ℕ)} (λ (c : Bool). cond (c && beyond ask p) (some p) none) (embedding_is m s n t p (whole_embeds m s n t closed p (omega arith) G.placed G.passed)))
    searches (suc d) p e G =
        first_of_same (λ x. cond (admits s t candidate ask p x) (search s t candidate ask n d (p ++ x ∷ [])) none) (λ x. find_extension asked n d (p ++ x ∷ [])) (elements n)
        (λ x k. one x (admits s t candidate ask p x) refl (λ a. searches d (p ++ x ∷ []) (omega (arith, length_snoc p x)) (good_more p x G (mem_elements n x k) a)))
        ∙ sym (find_entry asked n d p)
      where
        one : (x : ℕ) (c : Bool) → admits s t candidate ask p x ≡ c → (admits s t candidate ask p x ≡ true → search s t candidate ask n d (p ++ x ∷ []) ≡ find_extension asked n d (p ++ x ∷ [])) → cond c (search s t candidate ask n d (p ++ x ∷ [])) none ≡ find_extension asked n d (p ++ x ∷ [])
        one x true a below = below a
        one x false a below = sym (not_admitted d p x a)

    pub search_extension : search s t candidate ask n m [] ≡ find_extension asked n m []
    search_extension =
        searches m [] (let z : 0 + m ≡ m = omega arith in z)
        (record { placed = placed_none n; passed = unfold passes all elements range in refl; among = λ i hi. absurd (let z : ⊥ = omega arith in z) })

    -- Whatever the candidates, what it finds is a map.
    pub search_map : (f : List ℕ) → search s t candidate ask n m [] ≡ some f → Embedding m s n t f
    search_map f e = (wanted_parts f (find_some asked (lists m n) f (find_all asked n m ∙ sym search_extension ∙ e)).1).0

-- ---- sound candidates

module _ (m : ℕ) (s : Product) (n : ℕ) (t : Product) (closed : Closed m s) where
  -- Every embedding takes its images among the candidates.
  abbrev pub Sound : (ℕ → ℕ → Bool) → Type 0
  Sound candidate = (f : List ℕ) → Embedding m s n t f → Among m candidate f

  module _ (candidate : ℕ → ℕ → Bool) (sound : Sound candidate) (ask : Ask) where
    all_among : (f : List ℕ) → is_wanted m s n t candidate ask f ≡ (is_embedding m s n t f && beyond ask f)
    unfolding is_wanted
    all_among f = go (is_embedding m s n t f) refl
      where
        go : (b : Bool) → is_embedding m s n t f ≡ b → (b && (all (λ i. candidate i (at f i)) (elements m) && beyond ask f)) ≡ (b && beyond ask f)
        go true e = ap (λ (c : Bool). c && beyond ask f) (each_of m (λ i. candidate i (at f i)) (sound f (is_embedding_law m s n t f e)))
        go false e = refl

    -- From nothing placed the search finds the earliest map asked for.
    pub search_earliest : search s t candidate ask n m [] ≡ earliest ask (maps embeddings m s n t)
    unfolding earliest maps
    search_earliest =
        search_extension m s n t candidate ask closed ∙ sym (find_all (is_wanted m s n t candidate ask) n m)
        ∙ find_same (is_wanted m s n t candidate ask) (λ f. is_embedding m s n t f && beyond ask f) (lists m n) (λ f k. all_among f)
        ∙ sym (find_keep (is_embedding m s n t) (beyond ask) (lists m n))
