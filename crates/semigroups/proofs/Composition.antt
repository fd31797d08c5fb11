-- Identity, composites and inverses of embeddings and isomorphisms. Assumes nothing.
use mathlib.Core.Path.{◌≡◌, sym, ap, ap₂, ◌∙◌, subst}
use mathlib.Core.Bool.{Bool}
use mathlib.Core.List.{List}
use Prim.Native.Nat.{ℕ}
use native.Mathlib.Omega.{arith}
use borrow.Author.Tests.{eqb-true, eq-eqb}
use lib.Dec.{eqb}
use lib.ListN.{length, length-map}
use Rattle.semigroups.specs.Lists.{elements, at, least}
use Rattle.semigroups.specs.Tables.{Product, Element}
use Rattle.semigroups.specs.TablesLaws.{Closed}
use Rattle.semigroups.specs.MapsLaws.{identity, inverse}
use Rattle.semigroups.specs.InnerMaps.{Embedding}
use Rattle.semigroups.specs.Maps.{after}
use Rattle.semigroups.proofs.Lists.{length_elements, at_map, at_elements, ext_at, least_first}
use Rattle.semigroups.proofs.NoRepeats.{onto}

-- ---- identity

pub identity_embeds : (n : ℕ) (s : Product) → Closed n s → Embedding n s n s (identity n)
unfolding identity
identity_embeds n s c =
    record {
      homomorphism = record {
        size = length_elements n;
        within = λ i h. subst (Element n) (sym (at_elements n i h)) h;
        keeps_product = λ i j hi hj. at_elements n (s i j) (c i j hi hj) ∙ ap₂ s (sym (at_elements n i hi)) (sym (at_elements n j hj));
      };
      one_to_one = λ i j hi hj e. sym (at_elements n i hi) ∙ e ∙ at_elements n j hj;
    }

-- ---- composites

pub at_after : (a b : List ℕ) (i : ℕ) → Element (length b) i → at (after a b) i ≡ at a (at b i)
unfolding after
at_after a b i h = at_map (at a) b i h

pub length_after : (a b : List ℕ) → length (after a b) ≡ length b
unfolding after
length_after a b = length-map b (at a)

-- Composition is associative: it makes no difference how three maps are bracketed.
pub after_assoc : (a b c : List ℕ) → ((x : ℕ) → Element (length c) x → Element (length b) (at c x)) → after (after a b) c ≡ after a (after b c)
after_assoc a b c w =
    let lc = length_after b c in
    ext_at (length c) (after (after a b) c) (after a (after b c)) (length_after (after a b) c) (length_after a (after b c) ∙ length_after b c)
    (λ i h. at_after (after a b) c i h ∙ at_after a b (at c i) (w i h) ∙ ap (at a) (sym (at_after b c i h)) ∙ sym (at_after a (after b c) i (omega arith)))

pub after_embeds : (k : ℕ) (r : Product) (m : ℕ) (s : Product) (n : ℕ) (t : Product) → Closed k r → (a b : List ℕ) → Embedding m s n t a → Embedding k r m s b → Embedding k r n t (after a b)
after_embeds k r m s n t c a b A B =
    let HA = A.homomorphism in
    let HB = B.homomorphism in
    let e = HB.size in
    let look : (i : ℕ) → Element k i → at (after a b) i ≡ at a (at b i) = (λ i h. at_after a b i (omega arith)) in
    record {
      homomorphism = record {
        size = length_after a b ∙ e;
        within = λ i h. subst (Element n) (sym (look i h)) (HA.within (at b i) (HB.within i h));
        keeps_product = λ i j hi hj.
            look (r i j) (c i j hi hj) ∙ ap (at a) (HB.keeps_product i j hi hj) ∙ HA.keeps_product (at b i) (at b j) (HB.within i hi) (HB.within j hj)
            ∙ ap₂ t (sym (look i hi)) (sym (look j hj));
      };
      one_to_one = λ i j hi hj q. B.one_to_one i j hi hj (A.one_to_one (at b i) (at b j) (HB.within i hi) (HB.within j hj) (sym (look i hi) ∙ q ∙ look j hj));
    }

-- ---- inverses

module _ (n : ℕ) (s t : Product) (f : List ℕ) (F : Embedding n s n t f) where
  -- The inverse gives the place of v in f.
  inverse_place : (v : ℕ) → Element n v → Element n (at (inverse n f) v) × (at f (at (inverse n f) v) ≡ v)
  unfolding inverse
  inverse_place v hv =
      let H = F.homomorphism in
      let o = onto n f H.size H.within F.one_to_one v hv in
      let p : ℕ → Bool = λ i. eqb (at f i) v in
      let r = least_first n p o.0 o.1 (eq-eqb (at f o.0) v o.2) in
      let look : at (inverse n f) v ≡ least n p =
      at_map (λ j. least n (λ i. eqb (at f i) j)) (elements n) v (omega (arith, length_elements n)) ∙ ap (λ (j : ℕ). least n (λ i. eqb (at f i) j)) (at_elements n v hv) in
      (subst (Element n) (sym look) r.0, ap (at f) look ∙ eqb-true (at f (least n p)) v r.2)

  -- The byte at the place that f's byte i names is i.
  pub inverse_at : (i : ℕ) → Element n i → at (inverse n f) (at f i) ≡ i
  inverse_at i h = let w = inverse_place (at f i) (F.homomorphism.within i h) in F.one_to_one (at (inverse n f) (at f i)) i w.0 h w.1

  length_inverse : length (inverse n f) ≡ n
  unfolding inverse
  length_inverse = length-map (elements n) (λ j. least n (λ i. eqb (at f i) j)) ∙ length_elements n

  pub inverse_embeds : Closed n s → Embedding n t n s (inverse n f)
  inverse_embeds c =
      record {
        homomorphism = record {
          size = length_inverse;
          within = λ v h. (inverse_place v h).0;
          keeps_product = λ v w hv hw.
              let i = at (inverse n f) v in
              let j = at (inverse n f) w in
              let a = inverse_place v hv in
              let b = inverse_place w hw in
              ap (at (inverse n f)) (ap₂ t (sym a.1) (sym b.1) ∙ sym (F.homomorphism.keeps_product i j a.0 b.0)) ∙ inverse_at (s i j) (c i j a.0 b.0);
        };
        one_to_one = λ v w hv hw e. sym (inverse_place v hv).1 ∙ ap (at f) e ∙ (inverse_place w hw).1;
      }

  -- The inverse of f done after g, and then f, is g again.
  pub after_inverse : (g : List ℕ) → Embedding n s n t g → after f (after (inverse n f) g) ≡ g
  after_inverse g G =
      let e = G.homomorphism.size in
      let e1 : length (after (inverse n f) g) ≡ n = length_after (inverse n f) g ∙ e in
      let e2 : length (after f (after (inverse n f) g)) ≡ n = length_after f (after (inverse n f) g) ∙ e1 in
      ext_at n (after f (after (inverse n f) g)) g e2 e
      (λ i h. at_after f (after (inverse n f) g) i (omega arith) ∙ ap (at f) (at_after (inverse n f) g i (omega arith)) ∙ (inverse_place (at g i) (G.homomorphism.within i h)).1)

  -- Two maps are equal if f done after each of them is the same.
  pub after_cancels : (a b : List ℕ) → Embedding n s n s a → Embedding n s n s b → after f a ≡ after f b → a ≡ b
  after_cancels a b A B e =
      let la = A.homomorphism.size in
      let lb = B.homomorphism.size in
      ext_at n a b la lb
      (λ i h. F.one_to_one (at a i) (at b i) (A.homomorphism.within i h) (B.homomorphism.within i h) (sym (at_after f a i (omega arith)) ∙ ap (λ (l : List ℕ). at l i) e ∙ at_after f b i (omega arith)))
