-- The constraints as pairs are noted and an element is placed, and what they decide of the next image. Assumes nothing.
use mathlib.Core.Path.{◌≡◌, refl, sym, ap, ap₂, subst, subst₂, ◌∙◌}
use mathlib.Core.Bool.{Bool, true, false, ◌&&◌, and-true, and_assoc, cond}
use mathlib.Core.Logic.{◌⊎◌, inl, inr}
use mathlib.Core.List.{List, [], ◌∷◌, ◌++◌}
use Prim.Native.Nat.{ℕ, zero, suc, ◌+◌, ◌-◌, ◌≤◌, ◌<◌}
use native.Mathlib.Numerals.{add-one}
use native.Mathlib.Omega.{arith}
use lib.ListN.{length, get_or, take, set, length-set, replicate, length-replicate, get_or-replicate, get_or-eq_default}
use lib.Seq.{length-take-le, get_or-take, get_or-set_same, get_or-set_other}
use Rattle.semigroups.specs.Lists.{range, elements, at, all, member}
use Rattle.semigroups.specs.Tables.{Product, Element}
use Rattle.semigroups.specs.TablesLaws.{Closed}
use Rattle.semigroups.specs.Trials.{passes}
use Rattle.semigroups.proofs.Booleans.{clash, untrue, both, and_left, and_right, equal_or_not, at_most_or_above}
use Rattle.semigroups.proofs.Lists.{length_snoc}
use Rattle.constraints.specs.InnerConstraints.{permits, merge, asked_at, image_product, asks, agree_on, cross, new_fits, near_fits, Written, Reads}
use Rattle.constraints.specs.InnerTracking.{Placing, Tracks}
use Rattle.constraints.proofs.Placing.{newest_prefix}
use Rattle.constraints.proofs.Constraints.{note_reads, each_more, agree_on_more, agree_on_forced, agree_on_owner, settle, near_of_new}

-- ---- what stands in an array of constraints

merge_value : (b : Bool) (y : ℕ) → y ≤ 120 → (cond b y 255 ≤ 120) ⊎ (cond b y 255 ≡ 255)
merge_value true y h = inl h
merge_value false y h = inr refl

written_more : (constraints : List ℕ) (place y : ℕ) → Element 120 place → Element 120 y → Written constraints → Written (asked_at constraints place y)
written_more constraints place y hp hy W =
    record {
      none = get_or-set_other constraints place 0 (merge (get_or constraints place 0) y) 0 (λ (e : 0 ≡ place). let z : ⊥ = omega arith in z) ∙ W.none;
      values = λ c. go c (equal_or_not c place) (at_most_or_above (length constraints) place);
    }
  where
    x : ℕ
    x = merge (get_or constraints place 0) y

    now : ℕ → ℕ
    now c = get_or (set constraints place x) c 0

    go : (c : ℕ) → (c ≡ place) ⊎ (c ≡ place → ⊥) → (length constraints ≤ place) ⊎ (place < length constraints) → (now c ≤ 120) ⊎ (now c ≡ 255)
    go c (inr ne) k = subst (λ (v : ℕ). (v ≤ 120) ⊎ (v ≡ 255)) (sym (get_or-set_other constraints place c x 0 ne)) (W.values c)
    go c (inl e) (inr room) =
        subst (λ (v : ℕ). (v ≤ 120) ⊎ (v ≡ 255)) (sym (ap now e ∙ get_or-set_same constraints place x 0 room)) (merge_value (permits (get_or constraints place 0) y) y hy.1)
    go c (inl e) (inl short) = inl (let z = get_or-eq_default (set constraints place x) 0 (let l = length-set constraints place x in let w : length (set constraints place x) ≤ c = omega arith in w) in omega arith)

nothing_written : Written (replicate 121 0)
nothing_written = record { none = refl; values = λ c. inl (zeros c (at_most_or_above 121 c)) }
  where
    free : List ℕ
    free = replicate 121 0

    zeros : (c : ℕ) → (121 ≤ c) ⊎ (c < 121) → get_or free c 0 ≤ 120
    zeros c (inl h) = let e = get_or-eq_default free 0 (let l = length-replicate {A = ℕ} 121 0 in let w : length free ≤ c = omega arith in w) in omega arith
    zeros c (inr h) = let e = get_or-replicate {A = ℕ} 121 c 0 0 h in omega arith

-- ---- the pairs of the newest element

-- What the constraints say of the pairs of the first k elements and of the first j pairs with the next element.
abbrev said : Product → Product → ℕ → ℕ → ℕ → ℕ → Bool
said u v k j c y = agree_on u v k c y && all (λ i. cross (asks u v c y) (suc k) i) (elements j)

-- What one array of constraints says once both pairs of elements j + 1 and k + 1 are noted.
both_noted : (u v : Product) (k j : ℕ) (constraints : List ℕ) → length constraints ≡ 121 → Element 120 (u (suc j) (suc k)) → Element 120 (v (suc j) (suc k)) → Element 120 (u (suc k) (suc j)) → Element 120 (v (suc k) (suc j))
    → Reads constraints (said u v k j)
    → Reads (asked_at (asked_at constraints (u (suc j) (suc k)) (v (suc j) (suc k))) (u (suc k) (suc j)) (v (suc k) (suc j))) (said u v k (suc j))
both_noted u v k j constraints l hu hv gu gv R c y hc hy =
    let once = note_reads constraints (said u v k j) (u (suc j) (suc k)) (v (suc j) (suc k)) l hu hv R in
    let twice = note_reads (asked_at constraints (u (suc j) (suc k)) (v (suc j) (suc k))) (λ c y. said u v k j c y && asks u v c y (suc j) (suc k)) (u (suc k) (suc j)) (v (suc k) (suc j))
    (length-set constraints (u (suc j) (suc k)) (merge (get_or constraints (u (suc j) (suc k)) 0) (v (suc j) (suc k))) ∙ l) gu gv once in
    let A = agree_on u v k c y in
    let J = all (λ i. cross (asks u v c y) (suc k) i) (elements j) in
    let P = asks u v c y (suc j) (suc k) in
    let Q = asks u v c y (suc k) (suc j) in
    twice c y hc hy ∙ and_assoc (A && J) P Q ∙ and_assoc A J (P && Q) ∙ ap (λ (b : Bool). A && b) (sym (each_more j (λ i. cross (asks u v c y) (suc k) i)))

module _ (s t : Product) (f : List ℕ) (k : ℕ) where
  abbrev v : Product
  v = image_product t f

  -- What the constraints track once both pairs of j and the newest element, k + 1, are noted.
  pub pairs_noted : (j : ℕ) → 1 ≤ j → (forced owner : List ℕ) → Element 120 (s j (suc k)) → Element 120 (v j (suc k)) → Element 120 (s (suc k) j) → Element 120 (v (suc k) j)
      → Tracks s t f k (j - 1) forced owner
      → Tracks s t f k j (asked_at (asked_at forced (s j (suc k)) (v j (suc k))) (s (suc k) j) (v (suc k) j)) (asked_at (asked_at owner (v j (suc k)) (s j (suc k))) (v (suc k) j) (s (suc k) j))
  pairs_noted zero h forced owner a b c d W = absurd (let z : ⊥ = omega arith in z)
  pairs_noted (suc j) h forced owner a b c d W' =
      let W = subst (λ (i : ℕ). Tracks s t f k i forced owner) (let z : suc j - 1 ≡ j = omega arith in z) W' in
      record {
        long = simp length-set W.long;
        wide = simp length-set W.wide;
        forced_written = written_more _ _ _ c d (written_more forced _ _ a b W.forced_written);
        owner_written = written_more _ _ _ d c (written_more owner _ _ b a W.owner_written);
        required = both_noted s v k j forced W.long a b c d W.required;
        reserved = both_noted v s k j owner W.wide b a d c W.reserved;
      }

  -- What they track once all pairs of the newest element are noted.
  pub all_noted : (forced owner : List ℕ) → Tracks s t f k (suc k) forced owner → Tracks s t f (suc k) 0 forced owner
  unfolding all elements range
  all_noted forced owner W =
      record {
        long = W.long;
        wide = W.wide;
        forced_written = W.forced_written;
        owner_written = W.owner_written;
        required = λ c y hc hy. W.required c y hc hy ∙ sym (and-true (agree_on s v (suc k) c y) ∙ agree_on_more s v k c y);
        reserved = λ c y hc hy. W.reserved c y hc hy ∙ sym (and-true (agree_on v s (suc k) c y) ∙ agree_on_more v s k c y);
      }

-- While nothing is placed, nothing is required.
pub nothing_noted : (s t : Product) → Tracks s t [] 0 0 (replicate 121 0) (replicate 121 0)
unfolding agree_on all elements range
nothing_noted s t =
    record {
      long = length-replicate {A = ℕ} 121 0;
      wide = length-replicate {A = ℕ} 121 0;
      forced_written = nothing_written;
      owner_written = nothing_written;
      required = λ c y hc hy. ap (λ (w : ℕ). permits w y) (get_or-replicate 121 c 0 0 (omega arith));
      reserved = λ c y hc hy. ap (λ (w : ℕ). permits w y) (get_or-replicate 121 c 0 0 (omega arith));
    }

module _ (m : ℕ) (s t : Product) (closed : Closed m s) (f : List ℕ) (x : ℕ) (short : length f < m) where
  -- An element is placed, and none of its pairs is noted yet.
  pub placed_tracks : (forced owner : List ℕ) → Tracks s t f (length f) 0 forced owner → Tracks s t (f ++ x ∷ []) (length f) 0 forced owner
  unfolding all elements range
  placed_tracks forced owner W =
      record {
        long = W.long;
        wide = W.wide;
        forced_written = W.forced_written;
        owner_written = W.owner_written;
        required = λ c y hc hy. W.required c y hc hy ∙ ap (λ (b : Bool). b && true) (agree_on_forced m s t closed f x short c y);
        reserved = λ c y hc hy. W.reserved c y hc hy ∙ ap (λ (b : Bool). b && true) (agree_on_owner m s t closed f x short c y);
      }

  -- What the constraints and the new pairs say of x as the next image is whether the list passes.
  pub decides : m ≤ 120 → (forced owner : List ℕ) → Tracks s t f (length f) 0 forced owner → passes s t f ≡ true → Element 120 x → member x f ≡ false
      → passes s t (f ++ x ∷ []) ≡ ((permits (get_or forced (length f + 1) 0) x && permits (get_or owner x 0) (length f + 1)) && new_fits s t (f ++ x ∷ []))
  unfolding all elements range
  decides hm forced owner W pass hx fresh =
      let k = length f in
      let F = W.required (k + 1) x (omega arith) hx ∙ and-true (agree_on s (image_product t f) k (k + 1) x) in
      let O = W.reserved x (k + 1) hx (omega arith) ∙ and-true (agree_on (image_product t f) s k x (k + 1)) in
      settle m s t closed f x short pass fresh
      ∙ ap (λ (b : Bool). b && new_fits s t (f ++ x ∷ []))
      (ap₂ ◌&&◌ (ap (λ (i : ℕ). agree_on s (image_product t f) k i x) (sym (add-one k)) ∙ sym F) (ap (λ (i : ℕ). agree_on (image_product t f) s k x i) (sym (add-one k)) ∙ sym O))

-- ---- one turn of the loop that notes the pairs of the newest element

module _ (m : ℕ) (s : Product) (n : ℕ) (t : Product) (source : Closed m s) (target : Closed n t) (hm : m ≤ 120) (hn : n ≤ 120)
    (image : List ℕ) (len : ℕ) (images : (a : ℕ) → Element len a → Element n (at image a)) (fit : len ≤ m) (j : ℕ) (hj : Element len j) where
  abbrev f : List ℕ
  f = take len image

  seen_at : (a : ℕ) → Element len a → at image a ≡ at f a
  unfolding at
  seen_at a h = sym (get_or-take len image (a - 1) 0 (omega arith))

  seen : (a b : ℕ) → Element len a → Element len b → image_product t image a b ≡ image_product t f a b
  seen a b ha hb = ap₂ t (seen_at a ha) (seen_at b hb)

  source_small : (a b : ℕ) → Element len a → Element len b → Element 120 (s a b)
  source_small a b ha hb = let e = source a b (omega arith) (omega arith) in omega arith

  target_small : (a b : ℕ) → Element len a → Element len b → Element 120 (image_product t f a b)
  target_small a b ha hb =
      let e = target (at f a) (at f b) (subst (Element n) (seen_at a ha) (images a ha)) (subst (Element n) (seen_at b hb) (images b hb)) in
      omega arith

  pub turn : (forced owner forced₁ owner₁ forced₂ owner₂ : List ℕ) → Tracks s t f (len - 1) (j - 1) forced owner
      → forced₁ ≡ asked_at forced (s j len) (image_product t image j len) → owner₁ ≡ asked_at owner (image_product t image j len) (s j len)
      → forced₂ ≡ asked_at forced₁ (s len j) (image_product t image len j) → owner₂ ≡ asked_at owner₁ (image_product t image len j) (s len j)
      → Tracks s t f (len - 1) (j + 1 - 1) forced₂ owner₂
  turn forced owner forced₁ owner₁ forced₂ owner₂ W ef eo gf go =
      let v = image_product t f in
      let hl : Element len len = omega arith in
      let last : suc (len - 1) ≡ len = omega arith in
      let at_last : (u : Product) → Element 120 (u j len) → Element 120 (u j (suc (len - 1))) = (λ u h. subst (λ (i : ℕ). Element 120 (u j i)) (sym last) h) in
      let last-at : (u : Product) → Element 120 (u len j) → Element 120 (u (suc (len - 1)) j) = (λ u h. subst (λ (i : ℕ). Element 120 (u i j)) (sym last) h) in
      let both = pairs_noted s t f (len - 1) j hj.0 forced owner (at_last s (source_small j len hj hl)) (at_last v (target_small j len hj hl)) (last-at s (source_small len j hl hj)) (last-at v (target_small len j hl hj)) W in
      let noted-both = subst (λ (i : ℕ). Tracks s t f (len - 1) j (asked_at (asked_at forced (s j i) (v j i)) (s i j) (v i j)) (asked_at (asked_at owner (v j i) (s j i)) (v i j) (s i j))) last both in
      rw (let z : j + 1 - 1 ≡ j = omega arith in z, gf, go, ef, eo, seen j len hj hl, seen len j hl hj) noted-both

-- All turns of the loop are done; if nothing is placed, there was none.
pub turns_done : (s t : Product) (f : List ℕ) (len i : ℕ) → i ≡ len + 1 → (forced owner : List ℕ) → Tracks s t f (len - 1) (i - 1) forced owner → Tracks s t f len 0 forced owner
turns_done s t f zero i e forced owner W = subst (λ (k : ℕ). Tracks s t f 0 k forced owner) (let z : i - 1 ≡ 0 = omega arith in z) W
turns_done s t f (suc len) i e forced owner W =
    all_noted s t f len forced owner
    (subst₂ (λ (k l : ℕ). Tracks s t f k l forced owner) (let z : suc len - 1 ≡ len = omega arith in z) (let z : i - 1 ≡ suc len = omega arith in z) W)

-- ---- what is placed, and x as the next image

module _ (m : ℕ) (s t : Product) (closed : Closed m s) (f : List ℕ) (len : ℕ) (long : length f ≡ len) (room : len < m) (x : ℕ) (forced owner : List ℕ) (W : Tracks s t f len 0 forced owner) where
  abbrev g : List ℕ
  g = f ++ x ∷ []

  abbrev allowed : Bool
  allowed = permits (get_or forced (len + 1) 0) x && permits (get_or owner x 0) (len + 1)

  tracked : Tracks s t f (length f) 0 forced owner
  tracked = subst (λ (k : ℕ). Tracks s t f k 0 forced owner) (sym long) W

  -- With x placed, none of its pairs is noted yet.
  pub next_tracks : Tracks s t g len 0 forced owner
  next_tracks = subst (λ (k : ℕ). Tracks s t g k 0 forced owner) long (placed_tracks m s t closed f x (omega arith) forced owner tracked)

  -- The constraints and the new pairs decide whether x passes as the next image.
  module _ (hm : m ≤ 120) (pass : passes s t f ≡ true) (hx : Element 120 x) (fresh : member x f ≡ false) where
    decided : passes s t g ≡ (allowed && new_fits s t g)
    decided =
        decides m s t closed f x (omega arith) hm forced owner tracked pass hx fresh
        ∙ ap (λ (k : ℕ). (permits (get_or forced (k + 1) 0) x && permits (get_or owner x 0) (k + 1)) && new_fits s t g) long

    pub constraints_refuse : allowed ≡ false → passes s t g ≡ false
    constraints_refuse e = decided ∙ ap (λ (b : Bool). b && new_fits s t g) e

    pub constraints_allow : allowed ≡ true → passes s t g ≡ new_fits s t g
    constraints_allow e = decided ∙ ap (λ (b : Bool). b && new_fits s t g) e

    -- If a look at x refuses it, the list with x does not pass.
    pub look_refuses : (allowed && near_fits s t g) ≡ false → passes s t g ≡ false
    look_refuses e =
        untrue (passes s t g) (λ h.
        let holds = sym decided ∙ h in
        let l = length_snoc f x in
        clash (both allowed (near_fits s t g) (and_left allowed (new_fits s t g) holds) (near_of_new s t g (omega arith) (and_right allowed (new_fits s t g) holds))) e)

-- The newest element, if there is one, is placed, and none of its pairs is noted yet.
pub newest_tracks : (m : ℕ) (s : Product) (n : ℕ) (t : Product) → Closed m s → (image used : List ℕ) (len : ℕ) → Placing n image used len → len ≤ m → (forced owner : List ℕ)
    → Tracks s t (take (len - 1) image) (len - 1) 0 forced owner → Tracks s t (take len image) (len - 1) 0 forced owner
newest_tracks m s n t closed image used zero P h forced owner W = W
newest_tracks m s n t closed image used (suc k) P h forced owner W =
    let l = P.long in
    let fit = P.fit in
    let len = suc k in
    let x = get_or image (len - 1) 0 in
    subst (λ (f : List ℕ). Tracks s t f (len - 1) 0 forced owner) (newest_prefix n image used len P (omega arith))
    (next_tracks m s t closed (take (len - 1) image) (len - 1) (length-take-le (len - 1) image (omega arith)) (omega arith) x forced owner W)
