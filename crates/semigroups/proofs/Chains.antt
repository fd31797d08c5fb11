-- What the iterators of Rust answer over the elements of a table, in the words of the definitions: a chain over `1..n + 1` runs over the elements 1 to n.
-- Assumes nothing.
use Rattle.std.specs.Prelude.{Bool, true, false, ◌&&◌, cond, ℕ, zero, suc, ◌+◌, Option as Optional, None, Some}
use Rattle.std.specs.Option.{option_map}
use Rattle.std.specs.List.{list_all, range_with_len, filter, find as first}
use Rattle.std.proofs.Common.{◌≡◌, refl, ap, ◌∙◌, List, [], ◌∷◌, length, arith}
use Rattle.std.proofs.Math.Numerals.{add-one}
use Rattle.std.proofs.Math.Option.{Option, none, some}
use Rattle.semigroups.specs.Lists.{range, elements, all, find, sum, count}
use Rattle.semigroups.specs.Results.{optional}

-- Consecutive numbers, as Rust's ranges give them.
pub range_of : (i k : ℕ) → range_with_len i k ≡ range i k
unfolding range
range_of i zero = refl
range_of i (suc k) = ap (λ (l : List ℕ). i ∷ l) (range_of (i + 1) k ∙ ap (λ (j : ℕ). range j k) (add-one i))

module _ {A : Type 0} (p : A → Bool) where
  pub list_all_is : (l : List A) → list_all p l ≡ all p l
  unfolding all
  list_all_is [] = refl
  list_all_is (x ∷ l) = ap (λ (b : Bool). p x && b) (list_all_is l)

  pub count_is : (l : List A) → length (filter p l) ≡ count p l
  unfolding count sum
  count_is [] = refl
  count_is (x ∷ l) = by (p x) (count_is l)
    where
      by : (b : Bool) → length (filter p l) ≡ count p l → length (cond b (x ∷ filter p l) (filter p l)) ≡ cond b 1 0 + sum (λ y. cond (p y) 1 0) l
      by true e = ap suc (e ∙ (unfold count in refl)) ∙ omega arith
      by false e = e ∙ (unfold count in omega arith)

  pub find_is : (l : List A) → optional (first p l) ≡ find p l
  unfolding find
  find_is [] = refl
  find_is (x ∷ l) = by (p x) (find_is l)
    where
      by : (b : Bool) → optional (first p l) ≡ find p l → optional (cond b (Some x) (first p l)) ≡ cond b (some x) (find p l)
      by true e = refl
      by false e = e

-- A call of `all` over the elements.
pub all_elements : (p : ℕ → Bool) (n : ℕ) → list_all p (range_with_len 1 n) ≡ all p (elements n)
unfolding elements
all_elements p n = ap (list_all p) (range_of 1 n) ∙ list_all_is p (range 1 n)

-- A call of `find` over the elements.
pub find_elements : (p : ℕ → Bool) (n : ℕ) → optional (first p (range_with_len 1 n)) ≡ find p (elements n)
unfolding elements
find_elements p n = ap (λ (l : List ℕ). optional (first p l)) (range_of 1 n) ∙ find_is p (range 1 n)

-- What a call of `find` over the elements answered.
pub found_element : (p : ℕ → Bool) (n : ℕ) (r : Optional ℕ) → option_map (λ x. x) r ≡ first p (range_with_len 1 n) → optional r ≡ find p (elements n)
found_element p n r e = by r ∙ ap optional e ∙ find_elements p n
  where
    by : (o : Optional ℕ) → optional o ≡ optional (option_map (λ x. x) o)
    by None = refl
    by (Some x) = refl

-- A call of `count` behind one of `filter` over the elements.
pub count_elements : (p : ℕ → Bool) (n : ℕ) → length (filter p (range_with_len 1 n)) ≡ count p (elements n)
unfolding elements
count_elements p n = ap (λ (l : List ℕ). length (filter p l)) (range_of 1 n) ∙ count_is p (range 1 n)
