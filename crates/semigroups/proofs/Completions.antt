-- All lists that begin with p: what is found among them is found by trying the next entry from 1 upward. The loops over entries, pairs and triples
-- and the search itself go by these laws. Assumes nothing.
use mathlib.Core.Path.{◌≡◌, refl, sym, ap, ap₂, ◌∙◌}
use mathlib.Core.Bool.{Bool, true, false, ◌&&◌, cond}
use mathlib.Core.Logic.{⊎_elim}
use mathlib.Core.Option.{Option, none, some, or_else, none-ne-some, some-ne-none}
use mathlib.Core.List.Memᴰ
use mathlib.Core.List.{List, [], ◌∷◌, ◌++◌, map, flat_map, append_assoc, append-nil, Memᴰ}
use Prim.Native.Nat.{ℕ, suc, ◌+◌, ◌-◌, ◌≤◌, ◌<◌}
use native.Mathlib.Nat.{add-sub_cancel}
use native.Mathlib.Numerals.{add-one}
use native.Mathlib.Omega.{arith}
use Rattle.semigroups.specs.Lists.{range, elements, all, find, first_of, lists}
use Rattle.semigroups.specs.InnerLists.{Sorted}
use Rattle.semigroups.proofs.FlatMap.{find_flat_map}

-- The list p, extended by each of the given lists.
unfoldable pub extensions : List ℕ → List (List ℕ) → List (List ℕ)
extensions p l = map (λ q. p ++ q) l

-- The first list that passes among all that extend p by d entries from 1 to n.
unfoldable pub find_extension : (List ℕ → Bool) → ℕ → ℕ → List ℕ → Option (List ℕ)
find_extension test n d p = find test (extensions p (lists d n))

extensions_nil : (l : List (List ℕ)) → extensions [] l ≡ l
unfolding extensions
extensions_nil [] = refl
extensions_nil (q ∷ l) = ap {B = List (List ℕ)} (λ (r : List (List ℕ)). q ∷ r) (extensions_nil l)

extensions_append : (p : List ℕ) (l r : List (List ℕ)) → extensions p (l ++ r) ≡ extensions p l ++ extensions p r
unfolding extensions
extensions_append p [] r = refl
extensions_append p (q ∷ l) r = ap {B = List (List ℕ)} (λ (s : List (List ℕ)). (p ++ q) ∷ s) (extensions_append p l r)

extensions_beginning : (p : List ℕ) (x : ℕ) (l : List (List ℕ)) → extensions p (map (λ q. x ∷ q) l) ≡ extensions (p ++ x ∷ []) l
unfolding extensions
extensions_beginning p x [] = refl
extensions_beginning p x (q ∷ l) = ap₂ {C = List (List ℕ)} (λ (a : List ℕ) (r : List (List ℕ)). a ∷ r) (sym (append_assoc p (x ∷ []) q)) (extensions_beginning p x l)

extensions_flat_map : (p : List ℕ) (l : List (List ℕ)) (xs : List ℕ) → extensions p (flat_map (λ x. map (λ q. x ∷ q) l) xs) ≡ flat_map (λ x. extensions (p ++ x ∷ []) l) xs
unfolding flat_map
extensions_flat_map p l [] = unfold extensions in refl
extensions_flat_map p l (x ∷ xs) =
    extensions_append p (map (λ q. x ∷ q) l) (flat_map (λ x. map (λ q. x ∷ q) l) xs)
    ∙ ap₂ {C = List (List ℕ)} (λ (a b : List (List ℕ)). a ++ b) (extensions_beginning p x l) (extensions_flat_map p l xs)

module _ (test : List ℕ → Bool) (n : ℕ) where
  -- All lists of m entries are the extensions of the empty list.
  pub find_all : (m : ℕ) → find test (lists m n) ≡ find_extension test n m []
  unfolding find_extension
  find_all m = ap (find test) (sym (extensions_nil (lists m n)))

  -- If no entry is left to add, the list itself is tested.
  pub find_whole : (p : List ℕ) → find_extension test n 0 p ≡ cond (test p) (some p) none
  unfolding find_extension extensions lists find
  find_whole p = ap {B = Option (List ℕ)} (λ (q : List ℕ). cond (test q) (some q) none) (append-nil p)

  -- If entries are left to add, the values of the next one are tried from 1 upward.
  pub find_entry : (d : ℕ) (p : List ℕ) → find_extension test n (suc d) p ≡ first_of (λ x. find_extension test n d (p ++ x ∷ [])) (elements n)
  unfolding find_extension lists
  find_entry d p = ap (find test) (extensions_flat_map p (lists d n) (elements n)) ∙ find_flat_map (λ x. extensions (p ++ x ∷ []) (lists d n)) test (elements n)

-- To find the first entry that passes is to take the first value of the function that gives an entry back if it passes.
pub find_first_of : {A : Type 0} (p : A → Bool) (l : List A) → find p l ≡ first_of (λ x. cond (p x) (some x) none) l
unfolding find first_of or_else
find_first_of p [] = refl
find_first_of {A} p (x ∷ l) = elim (p x) as (λ b. cond b (some x) (find p l) ≡ or_else (cond b (some x) none) (first_of (λ y. cond (p y) (some y) none) l)) [ true ↦ refl | false ↦ find_first_of p l ]

-- ---- the first of two values, if there is one

module _ {A : Type 0} where
  pub or_else_assoc : (a b c : Option A) → or_else (or_else a b) c ≡ or_else a (or_else b c)
  unfolding or_else
  or_else_assoc none b c = refl
  or_else_assoc (some x) b c = refl

  pub or_else_nothing : (a : Option A) → or_else a none ≡ a
  unfolding or_else
  or_else_nothing none = refl
  or_else_nothing (some x) = refl

  pub or_else_none : (a b : Option A) → or_else a b ≡ none → (a ≡ none) × (b ≡ none)
  unfolding or_else
  or_else_none none b e = (refl, e)
  or_else_none (some x) b e = absurd (some-ne-none x e)

pub first_of_append : {A B : Type 0} (g : A → Option B) (l k : List A) → first_of g (l ++ k) ≡ or_else (first_of g l) (first_of g k)
unfolding first_of
first_of_append g [] k = unfold or_else in refl
first_of_append g (x ∷ l) k = ap (or_else (g x)) (first_of_append g l k) ∙ sym (or_else_assoc (g x) (first_of g l) (first_of g k))

-- ---- trying the values from x upward

module _ {B : Type 0} where
  -- The first value that g gives at x, x + 1, .., n.
  unfoldable pub first_from : (ℕ → Option B) → ℕ → ℕ → Option B
  first_from g n x = first_of g (range x (n + 1 - x))

  module _ (g : ℕ → Option B) (n : ℕ) where
    pub first_start : first_of g (elements n) ≡ first_from g n 1
    unfolding first_from elements
    first_start = ap (λ (k : ℕ). first_of g (range 1 k)) (sym (add-sub_cancel n 1))

    pub first_step : (x : ℕ) → x ≤ n → first_from g n x ≡ or_else (g x) (first_from g n (x + 1))
    unfolding first_from first_of range
    first_step x h =
        let e : n + 1 - x ≡ suc (n + 1 - (x + 1)) = omega arith in
        ap (λ (k : ℕ). first_of g (range x k)) e ∙ ap (λ (y : ℕ). or_else (g x) (first_of g (range y (n + 1 - (x + 1))))) (sym (add-one x))

    -- A number at which g gives no value is passed over; at the first other one its value is taken.
    pub first_skip : (x : ℕ) → x ≤ n → g x ≡ none → first_from g n x ≡ first_from g n (x + 1)
    first_skip x h e = first_step x h ∙ ap (λ (o : Option B). or_else o (first_from g n (x + 1))) e ∙ (unfold or_else in refl)

    pub first_hit : (x : ℕ) (b : B) → x ≤ n → g x ≡ some b → first_from g n x ≡ some b
    first_hit x b h e = first_step x h ∙ ap (λ (o : Option B). or_else o (first_from g n (x + 1))) e ∙ (unfold or_else in refl)

    pub first_end : (x : ℕ) → n < x → first_from g n x ≡ none
    unfolding first_from first_of range
    first_end x h = ap (λ (k : ℕ). first_of g (range x k)) (let e : n + 1 - x ≡ 0 = omega arith in e)

  pub first_of_same : {A : Type 0} (g h : A → Option B) (l : List A) → ((x : A) → Memᴰ x l → g x ≡ h x) → first_of g l ≡ first_of h l
  unfolding first_of
  first_of_same g h [] e = refl
  first_of_same g h (x ∷ l) e = ap₂ or_else (e x (Memᴰ.head refl)) (first_of_same g h l (λ y m. e y (Memᴰ.tail m)))

-- ---- testing the values from x upward

-- Whether p passes at each of x, .., n.
unfoldable pub all_from : (ℕ → Bool) → ℕ → ℕ → Bool
all_from p n x = all p (range x (n + 1 - x))

module _ (p : ℕ → Bool) (n : ℕ) where
  pub all_start : all p (elements n) ≡ all_from p n 1
  unfolding all_from elements
  all_start = ap (λ (k : ℕ). all p (range 1 k)) (sym (add-sub_cancel n 1))

  pub all_step : (x : ℕ) → x ≤ n → all_from p n x ≡ (p x && all_from p n (x + 1))
  unfolding all_from all range
  all_step x h =
      let e : n + 1 - x ≡ suc (n + 1 - (x + 1)) = omega arith in
      ap (λ (k : ℕ). all p (range x k)) e ∙ ap (λ (y : ℕ). p x && all p (range y (n + 1 - (x + 1)))) (sym (add-one x))

  pub all_end : (x : ℕ) → n < x → all_from p n x ≡ true
  unfolding all_from all range
  all_end x h = ap (λ (k : ℕ). all p (range x k)) (let e : n + 1 - x ≡ 0 = omega arith in e)

-- ---- the first value among rising numbers

module _ {B : Type 0} (g : ℕ → Option B) where
  -- The value b is the first that g gives: `number` of the list gives it, and no number before that one gives any.
  pub record FirstAnswer (l : List ℕ) (b : B) : Type 0 where
    pub number : ℕ
    pub listed : Memᴰ number l
    pub answers : g number ≡ some b
    pub least : (y : ℕ) → Memᴰ y l → (g y ≡ none → ⊥) → number ≤ y

  pub first_answer : (l : List ℕ) → Sorted ◌<◌ l → (b : B) → first_of g l ≡ some b → FirstAnswer l b
  unfolding first_of or_else
  first_answer [] s b e = absurd (none-ne-some b e)
  first_answer (x ∷ l) s b e = go (g x) refl e (λ r. first_answer l s.1 b r)
    where
      go : (o : Option B) → g x ≡ o → or_else o (first_of g l) ≡ some b → (first_of g l ≡ some b → FirstAnswer l b) → FirstAnswer (x ∷ l) b
      go none q r below =
          let w = below r in
          record {
            number = w.number;
            listed = Memᴰ.tail w.listed;
            answers = w.answers;
            least = λ y m h. ⊎_elim (λ (u : y ≡ x). absurd (h (ap g u ∙ q))) (λ k. w.least y k h) (Memᴰ.cases_cons m);
          }
      go (some c) q r below =
          record {
            number = x;
            listed = Memᴰ.head refl;
            answers = q ∙ r;
            least = λ y m h. ⊎_elim (λ (u : y ≡ x). omega arith) (λ k. let v = s.0 y k in omega arith) (Memᴰ.cases_cons m);
          }

  pub no_answer : (l : List ℕ) → first_of g l ≡ none → (x : ℕ) → Memᴰ x l → g x ≡ none
  unfolding first_of or_else
  no_answer [] e x m = absurd (Memᴰ.not-nil m)
  no_answer (y ∷ l) e x m = go (g y) refl e (λ r k. no_answer l r x k)
    where
      go : (o : Option B) → g y ≡ o → or_else o (first_of g l) ≡ none → (first_of g l ≡ none → Memᴰ x l → g x ≡ none) → g x ≡ none
      go none q r below = ⊎_elim (λ (u : x ≡ y). ap g u ∙ q) (λ k. below r k) (Memᴰ.cases_cons m)
      go (some c) q r below = absurd (some-ne-none c r)
