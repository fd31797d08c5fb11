-- The images placed and the target elements used, as a pair is looked up and as an element is placed. Assumes nothing.
use mathlib.Core.Path.{◌≡◌, refl, sym, ap, subst, ◌∙◌}
use mathlib.Core.Bool.{Bool, true, false, cond, not, ◌||◌, or-true, or-false}
use mathlib.Core.List.{List, [], ◌∷◌, ◌++◌}
use Prim.Native.Nat.{ℕ, suc, ◌+◌, ◌-◌, ◌≤◌, ◌<◌}
use native.Mathlib.Numerals.{add-one}
use native.Mathlib.Omega.{arith}
use borrow.Author.Tests.{le-leb, lt-leb, eqb-true, eqb-false, eq-eqb, ne_eqb}
use lib.Dec.{eqb}
use lib.ListN.{length, get_or, take, drop, set, length-set, take-append-drop, replicate, length-replicate, get_or-replicate}
use lib.Seq.{length-take-le, get_or-take, take-suc, take-suc-set, take-set-le, drop-set-lt, drop-drop, get_or-set_same, get_or-set_other}
use Rattle.semigroups.specs.Lists.{at, member}
use Rattle.semigroups.specs.Tables.{Product, Element}
use Rattle.semigroups.specs.Trials.{fits}
use Rattle.semigroups.proofs.Lists.{at_front, at_seam, length_snoc, unmember}
use Rattle.semigroups.proofs.Search.{placed_none, placed_more}
use Rattle.semigroups.proofs.NoRepeats.{place_mem, mem_place, sorted_places}
use Rattle.constraints.specs.InnerTracking.{Placing, Trial}
use Rattle.constraints.proofs.Constraints.{member_snoc}

unused : (b : Bool) → eqb (cond b 1 0) 0 ≡ not b
unused true = refl
unused false = refl

-- The images followed by zeros: the whole array, and the array with one more image.
module _ (image : List ℕ) (len : ℕ) (padded : drop len image ≡ replicate (120 - len) 0) where
  pub padded_image : length (take len image) ≡ len → image ≡ take len image ++ replicate (120 - length (take len image)) 0
  padded_image l = sym (take-append-drop len image) ∙ ap (λ (l : List ℕ). take len image ++ l) (padded ∙ ap (λ (k : ℕ). replicate (120 - k) 0) (sym l))

  pub padded_more : (x : ℕ) → len < 120 → drop (len + 1) (set image len x) ≡ replicate (120 - (len + 1)) 0
  padded_more x room =
      drop-set-lt (len + 1) image len x (omega arith) ∙ sym (drop-drop 1 len image) ∙ ap (drop 1) padded
      ∙ ap (λ (k : ℕ). drop 1 (replicate k 0)) (let e : 120 - len ≡ suc (120 - (len + 1)) = omega arith in e)

module _ (n : ℕ) (image used : List ℕ) (len : ℕ) (P : Placing n image used len) where
  pub prefix_length : length (take len image) ≡ len
  prefix_length = let l = P.long in let f = P.fit in length-take-le len image (omega arith)

  pub prefix_at : (a : ℕ) → Element len a → at (take len image) a ≡ get_or image (a - 1) 0
  unfolding at
  prefix_at a h = get_or-take len image (a - 1) 0 (omega arith)

  pub image_element : (a : ℕ) → Element len a → Element n (get_or image (a - 1) 0)
  image_element a h =
      subst (Element n) (prefix_at a h) (P.placed.entries (at (take len image) a) (unfold at in place_mem 0 (take len image) (a - 1) (let l = prefix_length in omega arith)))

  -- An element is marked as used exactly if it is an image.
  pub used_image : (x : ℕ) → x ≤ 120 → eqb (get_or used x 0) 0 ≡ not (member x (take len image))
  used_image x h = ap (λ (v : ℕ). eqb v 0) (P.uses x h) ∙ unused (member x (take len image))

  -- The whole array is the images placed and then zeros.
  pub image_padded : image ≡ take len image ++ replicate (120 - length (take len image)) 0
  image_padded = padded_image image len P.padded prefix_length

  -- ---- one more image

  module _ (x : ℕ) (hx : Element n x) (hn : n ≤ 120) (room : len < 120) (fresh : member x (take len image) ≡ false) where
    pub more_prefix : take (len + 1) (set image len x) ≡ take len image ++ x ∷ []
    more_prefix = let l = P.long in ap (λ (k : ℕ). take k (set image len x)) (add-one len) ∙ take-suc-set image len x (omega arith)

    pub more_before : take len (set image len x) ≡ take len image
    more_before = take-set-le len image len x (omega arith)

    more_uses : (y : ℕ) → y ≤ 120 → get_or (set used x 1) y 0 ≡ cond (member y (take len image) || eqb y x) 1 0
    more_uses y hy =
        let w = P.wide in
        elim (eqb y x) as (λ b. eqb y x ≡ b → get_or (set used x 1) y 0 ≡ cond (member y (take len image) || b) 1 0) [
          | true ↦ (λ q.
              let e : y ≡ x = eqb-true y x q in
              ap (λ (i : ℕ). get_or (set used x 1) i 0) e ∙ get_or-set_same used x 1 0 (omega arith) ∙ sym (ap (λ (b : Bool). cond (b || true) 1 0) (ap (λ (i : ℕ). member i (take len image)) e ∙ fresh)))
          | false ↦ (λ q. get_or-set_other used x y 1 0 (eqb-false y x q) ∙ P.uses y hy ∙ ap (λ (b : Bool). cond b 1 0) (sym (or-false (member y (take len image)))))
        ] refl

    pub more_placing : Placing n (set image len x) (set used x 1) (len + 1)
    more_placing =
        record {
          long = length-set image len x ∙ P.long;
          wide = length-set used x 1 ∙ P.wide;
          fit = omega arith;
          padded = padded_more image len P.padded x room;
          placed = rw more_prefix (placed_more n (take len image) x P.placed hx fresh);
          uses = λ y hy. rw (more_prefix, member_snoc y (take len image) x) (more_uses y hy);
        }

-- ---- the images with x as that of the next element

module _ (image : List ℕ) (len x : ℕ) (room : len ≤ length image) where
  pub next_length : length (take len image ++ x ∷ []) ≡ len + 1
  next_length = length_snoc (take len image) x ∙ ap suc (length-take-le len image room) ∙ sym (add-one len)

  pub image_before : (a : ℕ) → Element len a → get_or image (a - 1) 0 ≡ at (take len image ++ x ∷ []) a
  unfolding at
  image_before a h =
      let l = length-take-le len image room in
      sym (at_front (take len image) (x ∷ []) a (omega arith) ∙ get_or-take len image (a - 1) 0 (omega arith))

  pub image_next : (a : ℕ) → a ≡ len + 1 → x ≡ at (take len image ++ x ∷ []) a
  image_next a e = sym (at_seam (take len image) x [] a (e ∙ add-one len ∙ ap suc (sym (length-take-le len image room))))

module _ (n : ℕ) (image used : List ℕ) (len x : ℕ) (X : Trial n image used len x) where
  abbrev f : List ℕ
  f = take len image

  abbrev g : List ℕ
  g = f ++ x ∷ []

  room : len ≤ length image
  room = let l = X.long in let r = X.room in omega arith

  pub trial_length : length f ≡ len
  trial_length = length-take-le len image room

  module _ (s t : Product) (a b c v : ℕ) (ec : c ≡ s a b) (ev : v ≡ t (at g a) (at g b)) where
    pub fits_inside : c ≤ len + 1 → eqb (at g c) v ≡ fits s t g a b
    unfolding fits
    fits_inside h = sym (rw (sym ec, sym ev, next_length image len x room, le-leb c (len + 1) h))

    outside : len + 1 < c → fits s t g a b ≡ not (member v f || eqb v x)
    unfolding fits
    outside h = rw (sym ec, sym ev, next_length image len x room, lt-leb c (len + 1) h, member_snoc v f x)

    pub fits_itself : len + 1 < c → v ≡ x → false ≡ fits s t g a b
    fits_itself h e = sym (outside h ∙ rw (eq-eqb v x e, or-true (member v f)))

    pub fits_outside : v ≤ 120 → len + 1 < c → (v ≡ x → ⊥) → eqb (get_or used v 0) 0 ≡ fits s t g a b
    fits_outside hv h e = ap (λ (w : ℕ). eqb w 0) (X.uses v hv e) ∙ unused (member v f) ∙ sym (outside h ∙ rw (ne_eqb v x e, or-false (member v f)))

-- ---- what is placed, and x as the next image or as the newest

module _ (n : ℕ) (image used : List ℕ) (len : ℕ) (P : Placing n image used len) where
  pub as_trial : (x : ℕ) → Element n x → len < 120 → Trial n image used len x
  unfolding at
  as_trial x hx room =
      record {
        long = P.long;
        wide = P.wide;
        room = room;
        placed = image_element n image used len P;
        element = hx;
        uses = λ y hy _. P.uses y hy;
      }

  module _ (some : 1 ≤ len) where
    abbrev x : ℕ
    x = get_or image (len - 1) 0

    pub newest_prefix : take (len - 1) image ++ x ∷ [] ≡ take len image
    newest_prefix =
        let l = P.long in
        let h = P.fit in
        sym (ap (λ (k : ℕ). take k image) (let e : len ≡ suc (len - 1) = omega arith in e) ∙ take-suc image (len - 1) 0 (omega arith))

    pub newest_fresh : member x (take (len - 1) image) ≡ false
    newest_fresh =
        let l = P.long in
        let h = P.fit in
        let before : length (take (len - 1) image) ≡ len - 1 = length-take-le (len - 1) image (omega arith) in
        let all = prefix_length n image used len P in
        unmember x (take (len - 1) image) (λ k.
        let w = mem_place 0 (take (len - 1) image) k in
        let i = w.0 in
        let below = w.1 in
        sorted_places (λ (a b : ℕ). a ≡ b → ⊥) 0 (take len image) P.placed.apart i (len - 1) (omega arith) (omega arith)
        (get_or-take len image i 0 (omega arith) ∙ sym (get_or-take (len - 1) image i 0 (omega arith)) ∙ w.2 ∙ sym (get_or-take len image (len - 1) 0 (omega arith))))

    earlier_used : (y : ℕ) → (y ≡ x → ⊥) → member y (take len image) ≡ member y (take (len - 1) image)
    earlier_used y e = ap (member y) (sym newest_prefix) ∙ member_snoc y (take (len - 1) image) x ∙ ap (λ (b : Bool). member y (take (len - 1) image) || b) (ne_eqb y x e) ∙ or-false (member y (take (len - 1) image))

    pub newest_trial : Trial n image used (len - 1) x
    unfolding at
    newest_trial =
        let h = P.fit in
        record {
          long = P.long;
          wide = P.wide;
          room = omega arith;
          placed = λ a w. image_element n image used len P a (omega arith);
          element = image_element n image used len P len (omega arith);
          uses = λ y hy e. P.uses y hy ∙ ap (λ (b : Bool). cond b 1 0) (earlier_used y e);
        }

-- The arrays while nothing is placed.
pub no_placing : (n : ℕ) → Placing n (replicate 120 0) (replicate 121 0) 0
unfolding member
no_placing n =
    record {
      long = length-replicate {A = ℕ} 120 0;
      wide = length-replicate {A = ℕ} 121 0;
      fit = omega arith;
      padded = refl;
      placed = placed_none n;
      uses = λ y hy. get_or-replicate 121 y 0 0 (omega arith);
    }
