-- Lists by their numbers: the entries of list number k less one are the digits of k in base n; a search through the numbers finds the first list that
-- passes. Assumes nothing.
use mathlib.Core.Path.{◌≡◌, refl, sym, ap, ap₂, ◌∙◌}
use mathlib.Core.Bool.{Bool, true, false, ◌&&◌, cond}
use mathlib.Core.List.{List, [], ◌∷◌}
use mathlib.Core.Option
use mathlib.Core.Option.{Option, none, some}
use Prim.Native.Nat.{ℕ, zero, suc, ◌+◌, ◌-◌, ◌/◌, ◌%◌, ◌^◌, ◌≤◌, ◌<◌}
use native.Mathlib.Nat.{pow-le-pow_left, pow-le-pow_right}
use native.Mathlib.Omega.{arith}
use lib.ListN.{length, get_or, take, drop, set, length-set, drop_of_length-le}
use lib.Seq.{take_all, drop-cons, drop-set-lt, get_or-set_same}
use borrow.Author.Tests.{eqb-true, ltb-true}
use Rattle.std.specs.Prelude.{Option as Optional, None, Some, MatchOption, nat_lt, nat_eq}
use Rattle.std.specs.List.{list_all, range_with_len, find as first}
use Rattle.std.specs.declared.cmp.Ordering.TheVariants.{Less, Equal, Greater}
use Rattle.std.specs.Ordering.{nat_cmp, is_lt, is_some_and, partial_ordering_then}
use Rattle.std.specs.Cmp.Lexicographic.{slice_partial_cmp}
use Rattle.semigroups.specs.Lists.{at, all, find, earlier, lists}
use Rattle.semigroups.specs.Results.{optional}
use Rattle.semigroups.specs.Tables.{Element}
use Rattle.semigroups.specs.InnerTables.{IsList}
use Rattle.semigroups.proofs.NoRepeats.{place_mem, place_unique}
use Rattle.semigroups.proofs.ListOrder.{lists_increasing, increasing_no_repeats, mem_lists, length_lists}
use Rattle.semigroups.proofs.Tables.{list_at}
use Rattle.semigroups.proofs.Digits.{digits, list_place, drop_digit, last_digit}
use Rattle.plain.specs.InnerEnumeration.{numbered}

-- ---- how many lists there are

pub power_small : (m n : ℕ) → m ≤ 9 → n ≤ 120 → n ^ m ≤ 5159780352000000000
power_small m n hm hn =
    let a : n ^ m ≤ 120 ^ m = pow-le-pow_left hn m in
    let b : 120 ^ m ≤ 120 ^ 9 = pow-le-pow_right (let z : 1 ≤ 120 = omega arith in z) hm in
    let c : 120 ^ 9 ≡ 5159780352000000000 = refl in
    omega arith

-- ---- a list and its number

module _ (m n k : ℕ) (h : k < n ^ m) where
  place : k < length (lists m n)
  place = omega (arith, length_lists m n)

  pub numbered_list : IsList m n (numbered m n k)
  unfolding numbered
  numbered_list = mem_lists m n (get_or (lists m n) k []) (place_mem [] (lists m n) k place)

  pub number_digits : digits n 0 (numbered m n k) ≡ k
  unfolding numbered
  number_digits =
      let p = list_place n m (numbered m n k) numbered_list in
      let small = p.0 in
      place_unique [] (lists m n) (increasing_no_repeats (lists m n) (lists_increasing m n)) (digits n 0 (numbered m n k)) k (omega (arith, length_lists m n)) place p.1

-- ---- a search through the numbers

ahead : (m n k : ℕ) → k < n ^ m → drop k (lists m n) ≡ numbered m n k ∷ drop (k + 1) (lists m n)
unfolding numbered
ahead m n k h =
    drop-cons (lists m n) k [] (omega (arith, length_lists m n))
    ∙ ap (λ (q : ℕ). get_or (lists m n) k [] ∷ drop q (lists m n)) (let z : suc k ≡ k + 1 = omega arith in z)

module _ (p : List ℕ → Bool) (m n : ℕ) where
  -- What is found from number k on.
  unfoldable pub remaining : ℕ → Option (List ℕ)
  remaining k = find p (drop k (lists m n))

  pub search_begin : find p (lists m n) ≡ remaining 0
  unfolding remaining
  search_begin = refl

  module _ (k : ℕ) (h : k < n ^ m) where
    pub search_skip : p (numbered m n k) ≡ false → remaining k ≡ remaining (k + 1)
    unfolding remaining find
    search_skip e = ap (find p) (ahead m n k h) ∙ ap (λ (b : Bool). cond b (some (numbered m n k)) (find p (drop (k + 1) (lists m n)))) e

    pub search_hit : p (numbered m n k) ≡ true → remaining k ≡ some (numbered m n k)
    unfolding remaining find
    search_hit e = ap (find p) (ahead m n k h) ∙ ap (λ (b : Bool). cond b (some (numbered m n k)) (find p (drop (k + 1) (lists m n)))) e

  past : (l : List (List ℕ)) (k : ℕ) → length l ≤ k → find p (drop k l) ≡ none
  unfolding find
  past [] zero h = refl
  past [] (suc k) h = refl
  past (x ∷ l) zero h = absurd (let z : ⊥ = omega arith in z)
  past (x ∷ l) (suc k) h = past l k (omega arith)

  pub search_end : (k : ℕ) → n ^ m ≤ k → remaining k ≡ none
  unfolding remaining
  search_end k h = past (lists m n) k (omega (arith, length_lists m n))

-- ---- calls of `all` and `find` through the numbers

module _ (p : List ℕ → Bool) (m n : ℕ) where
  pub all_numbers : (d k : ℕ) → k + d ≡ n ^ m → list_all (λ j. p (numbered m n j)) (range_with_len k d) ≡ all p (drop k (lists m n))
  unfolding all
  all_numbers zero k e = sym (ap (all p) (drop_of_length-le (lists m n) (let z : length (lists m n) ≤ k = omega (arith, length_lists m n) in z)))
  all_numbers (suc d) k e =
      ap (λ (b : Bool). p (numbered m n k) && b) (all_numbers d (k + 1) (omega arith)) ∙ sym (ap (all p) (ahead m n k (omega arith)))

  numbers_from : (d k : ℕ) → k + d ≡ n ^ m → Option.map (numbered m n) (optional (first (λ j. p (numbered m n j)) (range_with_len k d))) ≡ find p (drop k (lists m n))
  unfolding find
  numbers_from zero k e = sym (ap (find p) (drop_of_length-le (lists m n) (let z : length (lists m n) ≤ k = omega (arith, length_lists m n) in z)))
  numbers_from (suc d) k e = by (p (numbered m n k)) (numbers_from d (k + 1) (omega arith)) ∙ sym (ap (find p) (ahead m n k (omega arith)))
    where
      by : (b : Bool)
          → Option.map (numbered m n) (optional (first (λ j. p (numbered m n j)) (range_with_len (k + 1) d))) ≡ find p (drop (k + 1) (lists m n))
          → Option.map (numbered m n) (optional (cond b (Some k) (first (λ j. p (numbered m n j)) (range_with_len (k + 1) d)))) ≡ cond b (some (numbered m n k)) (find p (drop (k + 1) (lists m n)))
      by true h = refl
      by false h = h

  pub find_numbers : (total : ℕ) → total ≡ n ^ m → Option.map (numbered m n) (optional (first (λ j. p (numbered m n j)) (range_with_len 0 total))) ≡ find p (lists m n)
  find_numbers total e = numbers_from total 0 (omega arith)

-- A number that is found is one of those that were looked at.
found_at : (p : ℕ → Bool) (d k x : ℕ) → first p (range_with_len k d) ≡ Some x → x < k + d
found_at p zero k x e = cc
found_at p (suc d) k x e = by (p k) (λ h. let z : x < k + 1 + d = found_at p d (k + 1) x h in let w : x < k + suc d = omega arith in w) e
  where
    by : (b : Bool) → (first p (range_with_len (k + 1) d) ≡ Some x → x < k + suc d) → cond b (Some k) (first p (range_with_len (k + 1) d)) ≡ Some x → x < k + suc d
    by true h q = let same : k ≡ x = cc in omega arith
    by false h q = h q

pub found_below : (p : ℕ → Bool) (d : ℕ) (r : Optional ℕ) → r ≡ first p (range_with_len 0 d) → MatchOption r (Unit {0}) (λ k. k < d)
found_below p d None e = tt
found_below p d (Some x) e = let b = found_at p d 0 x (sym e) in omega arith

-- ---- a list written from its last entry to its first

-- The entries from place i on are written; what is left of the number has the digits of the entries before.
pub record Written (n : ℕ) (f list : List ℕ) (rest i : ℕ) : Type 0 where
  pub size : length list ≡ length f
  pub within : i ≤ length f
  pub left : rest ≡ digits n 0 (take i f)
  pub done : drop i list ≡ drop i f

module _ (m n k : ℕ) (h : k < n ^ m) where
  abbrev f : List ℕ
  f = numbered m n k

  pub write_begin : (list : List ℕ) → length list ≡ m → Written n f list k m
  write_begin list e =
      let s : length f ≡ m = (numbered_list m n k h).size in
      record {
        size = omega arith;
        within = omega arith;
        left = sym (ap (digits n 0) (take_all m f (omega arith)) ∙ number_digits m n k h);
        done = drop_of_length-le list (let z : length list ≤ m = omega arith in z) ∙ sym (drop_of_length-le f (let z : length f ≤ m = omega arith in z));
      }

  module _ (list : List ℕ) (rest i : ℕ) (w : Written n f list rest i) where
    pub write_end : i ≡ 0 → list ≡ f
    write_end e = sym (ap (λ (q : ℕ). drop q list) e) ∙ w.done ∙ ap (λ (q : ℕ). drop q f) e

    module _ (low : 0 < i) where
      inside : Element (length f) i
      inside = let b = w.within in (omega arith, b)

      entry : Element n (at f i)
      entry = list_at m n f (numbered_list m n k h) i (let s = (numbered_list m n k h).size in let b = w.within in (omega arith, omega arith))

      digit : rest % n + 1 ≡ get_or f (i - 1) 0
      unfolding at
      digit =
          let d : rest % n ≡ at f i - 1 = ap (λ (q : ℕ). q % n) w.left ∙ last_digit n f i inside entry in
          let e = entry in
          omega arith

      back : {A : Type 0} (g : ℕ → A) → g (suc (i - 1)) ≡ g i
      back g = ap g (let z : suc (i - 1) ≡ i = omega arith in z)

      pub write_next : Written n f (set list (i - 1) (rest % n + 1)) (rest / n) (i - 1)
      write_next =
          let b = w.within in
          let s = w.size in
          record {
            size = length-set list (i - 1) (rest % n + 1) ∙ s;
            within = omega arith;
            left = ap (λ (q : ℕ). q / n) w.left ∙ drop_digit n f i inside entry;
            done =
                drop-cons (set list (i - 1) (rest % n + 1)) (i - 1) 0 (omega (arith, length-set list (i - 1) (rest % n + 1)))
                ∙ ap₂ (λ (x : ℕ) (l : List ℕ). x ∷ l) (get_or-set_same list (i - 1) (rest % n + 1) 0 (omega arith) ∙ digit)
                (drop-set-lt (suc (i - 1)) list (i - 1) (rest % n + 1) (omega arith) ∙ back (λ (q : ℕ). drop q list) ∙ w.done ∙ sym (back (λ (q : ℕ). drop q f)))
                ∙ sym (drop-cons f (i - 1) 0 (omega arith));
          }

-- ---- list order

-- Rust's order of lists of one length is list order.
pub order_is : (a b : List ℕ) → length a ≡ length b → is_some_and is_lt (slice_partial_cmp (λ x y. Some (nat_cmp x y)) a b) ≡ earlier a b
unfolding earlier
order_is [] [] e = refl
order_is [] (y ∷ b) e = absurd (let z : ⊥ = omega arith in z)
order_is (x ∷ a) [] e = absurd (let z : ⊥ = omega arith in z)
order_is (x ∷ a) (y ∷ b) e = by (order_is a b (omega arith)) (nat_lt x y) (nat_eq x y) refl refl
  where
    by : is_some_and is_lt (slice_partial_cmp (λ x y. Some (nat_cmp x y)) a b) ≡ earlier a b → (l q : Bool) → nat_lt x y ≡ l → nat_eq x y ≡ q
        → is_some_and is_lt (partial_ordering_then (Some (cond l Less (cond q Equal Greater))) (slice_partial_cmp (λ x y. Some (nat_cmp x y)) a b)) ≡ cond q (earlier a b) l
    by rest true true h k = absurd (let u = ltb-true _ _ h in let v = eqb-true _ _ k in let z : ⊥ = omega arith in z)
    by rest true false h k = refl
    by rest false true h k = rest
    by rest false false h k = refl

-- ---- entries

pub entry_element : (m n : ℕ) (l : List ℕ) → IsList m n l → (k : ℕ) → k < m → Element n (get_or l k 0)
entry_element m n l h k below = h.entries (get_or l k 0) (place_mem 0 l k (let s = h.size in let z : k < length l = omega arith in z))
