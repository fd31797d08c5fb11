-- The bits of a row, of a row that is replaced or masked, and of the row of one element. Assumes nothing.
use mathlib.Core.Path.{◌≡◌, refl, sym, ap, ap₂, ◌∙◌, subst}
use mathlib.Core.Bool.{Bool, true, false, ◌&&◌, cond, and-true, and-false}
use mathlib.Core.Logic.{◌⊎◌, inl, inr, ⊎_elim}
use mathlib.Core.List.{List, [], ◌∷◌}
use Prim.Native.Nat.{ℕ, zero, suc, ◌+◌, ◌-◌, ◌*◌, ◌/◌, ◌%◌, ◌^◌, ◌≤◌, ◌<◌, min}
use native.Mathlib.Nat.{zero-div, one-mul, pow-suc}
use native.Mathlib.Omega.{arith}
use borrow.Author.Tests.{le-leb, lt-leb, eqb-true, eq-eqb, ne_eqb}
use lib.Bits.{bit_and, and_zero_l, and_self}
use lib.Count.{ones, count_trailing_zeros, under}
use lib.Dec.{eqb, leb}
use lib.ListN.{get_or, set}
use lib.Pow.{shl_exact, pow_pos}
use lib.Seq.{get_or-set_other, set-get_or, set_comm}
use Rattle.semigroups.specs.Lists.{at}
use Rattle.semigroups.specs.Tables.{Element}
use Rattle.semigroups.proofs.Booleans.{both, clash, and_left, and_right, at_most_or_above, equal_or_not}
use Rattle.rows.specs.declared.Row.{Row}
use Rattle.rows.specs.InnerRows.{has_bit, in_row, is_empty, same_row, is_inside, row_of, has, word, packed_row, masked_word, masked, single_row, lowest_element, Alone, RowInside, Only, Shrinks, Forced}
use Rattle.rows.proofs.Words.{word_same, bit_of_word, bit_past, single_word, other_word}
use Rattle.rows.proofs.Masks.{and_bit, same_bits, inside_inside, inside_mask, inside_old, ones_zero, ones_power}
use Rattle.rows.proofs.Few.{inside_one}

abbrev pub row : ℕ → ℕ → Row
row a b = record { lo = a; hi = b }

-- ---- the two words of a row

module _ (row : Row) (y : ℕ) where
  pub row_low : y ≤ 60 → has_bit row.lo (y - 1) ≡ in_row row y
  unfolding in_row
  row_low h = sym (ap (λ (b : Bool). cond b (has_bit row.lo (y - 1)) (has_bit row.hi (y - 61))) (le-leb y 60 h))

  pub row_high : 60 < y → has_bit row.hi (y - 61) ≡ in_row row y
  unfolding in_row
  row_high h = sym (ap (λ (b : Bool). cond b (has_bit row.lo (y - 1)) (has_bit row.hi (y - 61))) (lt-leb y 60 h))

-- An element from 1 to n is in the packed row exactly if it passes the test.
pub in_packed_row : (n : ℕ) (p : ℕ → Bool) (y : ℕ) → Element n y → in_row (packed_row n p) y ≡ p y
unfolding packed_row
in_packed_row n p y hy =
    ⊎_elim
    (λ (h : y ≤ 60). sym (row_low (packed_row n p) y h) ∙ bit_of_word p 1 (min n 60) (y - 1) (omega arith) ∙ ap p (let z : 1 + (y - 1) ≡ y = omega arith in z))
    (λ (h : 60 < y). sym (row_high (packed_row n p) y h) ∙ bit_of_word p 61 (n - 60) (y - 61) (omega arith) ∙ ap p (let z : 61 + (y - 61) ≡ y = omega arith in z))
    (at_most_or_above y 60)

-- The packed row has no element after these.
pub all_packed_row : (n : ℕ) (p : ℕ → Bool) (y : ℕ) → Element 120 y → in_row (packed_row n p) y ≡ (leb y n && p y)
unfolding packed_row
all_packed_row n p y hy =
    ⊎_elim
    (λ (h : y ≤ n). in_packed_row n p y (hy.0, h) ∙ sym (ap (λ (b : Bool). b && p y) (le-leb y n h)))
    (λ (h : n < y).
    ⊎_elim
    (λ (l : y ≤ 60). sym (row_low (packed_row n p) y l) ∙ bit_past p 1 (min n 60) (y - 1) (omega arith))
    (λ (l : 60 < y). sym (row_high (packed_row n p) y l) ∙ bit_past p 61 (n - 60) (y - 61) (omega arith))
    (at_most_or_above y 60)
    ∙ sym (ap (λ (b : Bool). b && p y) (lt-leb y n h)))
    (at_most_or_above y n)

-- Rows are equal exactly if their words are.
pub same_row_law : (a b : Row) → same_row a b ≡ true → a ≡ b
unfolding same_row
same_row_law a b e = ap₂ {C = Row} row (eqb-true a.lo b.lo (and_left (eqb a.lo b.lo) (eqb a.hi b.hi) e)) (eqb-true a.hi b.hi (and_right (eqb a.lo b.lo) (eqb a.hi b.hi) e))

row_itself : (a b : Row) → a ≡ b → same_row a b ≡ true
unfolding same_row
row_itself a b e = both (eqb a.lo b.lo) (eqb a.hi b.hi) (eq-eqb a.lo b.lo (ap (λ (r : Row). r.lo) e)) (eq-eqb a.hi b.hi (ap (λ (r : Row). r.hi) e))

-- An empty row has no element.
pub none_in_empty : (row : Row) (y : ℕ) → is_empty row ≡ true → in_row row y ≡ false
unfolding is_empty in_row has_bit
none_in_empty row y h =
    let lo = eqb-true row.lo 0 (and_left (eqb row.lo 0) (eqb row.hi 0) h) in
    let hi = eqb-true row.hi 0 (and_right (eqb row.lo 0) (eqb row.hi 0) h) in
    rw (lo, hi, zero-div (2 ^ (y - 1)), zero-div (2 ^ (y - 61))) (either_way (leb y 60))
  where
    either_way : (b : Bool) → cond b false false ≡ false
    either_way true = refl
    either_way false = refl

-- ---- the row of one element

one_shifted : (k : ℕ) → k < 63 → 1 * 2 ^ k % 2 ^ 64 ≡ 2 ^ k
one_shifted k h = shl_exact 1 k 64 (omega arith) (omega arith) ∙ one-mul (2 ^ k)

module _ (v : ℕ) (hv : Element 120 v) where
  low_words : v ≤ 60 → ((single_row v).lo ≡ 2 ^ (v - 1)) × ((single_row v).hi ≡ 0)
  unfolding single_row packed_row
  low_words h = (single_word v 1 60 (v - 1) (omega arith) (omega arith), other_word v 61 60 (λ j l q. let z : ⊥ = omega arith in z))

  high_words : 60 < v → ((single_row v).lo ≡ 0) × ((single_row v).hi ≡ 2 ^ (v - 61))
  unfolding single_row packed_row
  high_words h = (other_word v 1 60 (λ j l q. let z : ⊥ = omega arith in z), single_word v 61 60 (v - 61) (omega arith) (omega arith))

  pub single_low : v ≤ 60 → row (1 * 2 ^ (v - 1) % 2 ^ 64) 0 ≡ single_row v
  single_low h = let w = low_words h in ap₂ row (one_shifted (v - 1) (omega arith) ∙ sym w.0) (sym w.1)

  pub single_high : 60 < v → row 0 (1 * 2 ^ (v - 61) % 2 ^ 64) ≡ single_row v
  single_high h = let w = high_words h in ap₂ row (sym w.0) (one_shifted (v - 61) (omega arith) ∙ sym w.1)

  -- The row of v has one bit.
  pub single_size : ones (single_row v).lo + ones (single_row v).hi ≡ 1
  single_size =
      ⊎_elim
      (λ (h : v ≤ 60). let w = low_words h in ap₂ ◌+◌ (ap ones w.0 ∙ ones_power (v - 1)) (ap ones w.1 ∙ ones_zero))
      (λ (h : 60 < v). let w = high_words h in ap₂ ◌+◌ (ap ones w.0 ∙ ones_zero) (ap ones w.1 ∙ ones_power (v - 61)))
      (at_most_or_above v 60)

  -- A row that is not empty and lies inside the row of v is the row of v.
  pub inside_single : (r : Row) → RowInside r (single_row v) → 1 ≤ ones r.lo + ones r.hi → r ≡ single_row v
  inside_single r i h = inside_one (single_row v) r single_size i h

  -- The row of v has v and no other element.
  pub in_single : (y : ℕ) → Element 120 y → in_row (single_row v) y ≡ eqb y v
  unfolding single_row
  in_single y hy = in_packed_row 120 (λ z. eqb z v) y hy

pub single_unique : (v w : ℕ) → Element 120 v → Element 120 w → single_row v ≡ single_row w → v ≡ w
single_unique v w hv hw e = eqb-true v w (sym (in_single w hw v hv) ∙ ap (λ (r : Row). in_row r v) (sym e) ∙ in_single v hv v hv ∙ eq-eqb v v refl)

-- ---- its lowest bit

-- A power of two has as many zeros at its low end as its exponent says.
power_zeros : (d k : ℕ) → k < d → count_trailing_zeros d (2 ^ k) ≡ k
unfolding count_trailing_zeros
power_zeros zero k h = let z : ⊥ = omega arith in absurd z
power_zeros (suc d) zero h = refl
power_zeros (suc d) (suc k) h =
    let p = pow-suc 2 k in
    let even : 2 ^ suc k % 2 ≡ 0 = omega arith in
    let half : 2 ^ suc k / 2 ≡ 2 ^ k = omega arith in
    ap₂ under even (ap (count_trailing_zeros d) half) ∙ ap suc (power_zeros d k (omega arith))

lowest_single : (v : ℕ) → Element 120 v → lowest_element (single_row v) ≡ v
unfolding lowest_element
lowest_single v hv = ⊎_elim low high (at_most_or_above v 60)
  where
    place : ℕ → ℕ → ℕ
    place a b = cond (eqb a 0) (count_trailing_zeros 64 b + 61) (count_trailing_zeros 64 a + 1)

    low : v ≤ 60 → place (single_row v).lo (single_row v).hi ≡ v
    low h =
        let w = low_words v hv h in
        let e = power_zeros 64 (v - 1) (omega arith) in
        let p = pow_pos (v - 1) in
        ap₂ place w.0 w.1 ∙ ap (λ (b : Bool). cond b (count_trailing_zeros 64 0 + 61) (count_trailing_zeros 64 (2 ^ (v - 1)) + 1)) (ne_eqb (2 ^ (v - 1)) 0 (λ q. let z : ⊥ = omega arith in z)) ∙ (let z : count_trailing_zeros 64 (2 ^ (v - 1)) + 1 ≡ v = omega arith in z)

    high : 60 < v → place (single_row v).lo (single_row v).hi ≡ v
    high h =
        let w = high_words v hv h in
        let e = power_zeros 64 (v - 61) (omega arith) in
        ap₂ place w.0 w.1 ∙ (let z : count_trailing_zeros 64 (2 ^ (v - 61)) + 61 ≡ v = omega arith in z)

module _ (row : Row) where
  only_lowest : (v : ℕ) → Element 120 v → row ≡ single_row v → lowest_element row ≡ v
  only_lowest v hv e = ap lowest_element e ∙ lowest_single v hv

  pub not_alone : (Element 120 (lowest_element row) → row ≡ single_row (lowest_element row) → ⊥) → Alone row 0
  not_alone h =
      record {
        most = omega arith;
        found = λ v hv e. let q = only_lowest v hv e in absurd (h (subst (Element 120) (sym q) hv) (e ∙ ap single_row (sym q)));
        holds = λ l. absurd (let z : ⊥ = omega arith in z);
      }

  pub is_alone : Element 120 (lowest_element row) → row ≡ single_row (lowest_element row) → Alone row (lowest_element row)
  is_alone h e = record { most = h.1; found = only_lowest; holds = λ l. e }

  -- The row is compared with the row of its lowest element.
  module _ (v : ℕ) (one : Row) (e : v ≡ lowest_element row) (s : one ≡ single_row v) where
    pub lone_found : 1 ≤ v → v ≤ 120 → (eqb row.lo one.lo && eqb row.hi one.hi) ≡ true → (1 ≤ v) × Alone row v
    lone_found l h q = (l, subst (Alone row) (sym e) (is_alone (omega arith) (same_row_law row one (unfold same_row in q) ∙ s ∙ ap single_row e)))

    pub lone_differs : (eqb row.lo one.lo && eqb row.hi one.hi) ≡ false → Alone row 0
    lone_differs q = not_alone (λ h d. clash (row_itself row one (d ∙ ap single_row (sym e) ∙ sym s)) (unfold same_row in q))

-- ---- a row masked

pub in_masked : (a b : Row) (y : ℕ) → in_row (row (bit_and a.lo b.lo) (bit_and a.hi b.hi)) y ≡ (in_row a y && in_row b y)
unfolding in_row
in_masked a b y =
    elim (leb y 60) as (λ c. cond c (has_bit (bit_and a.lo b.lo) (y - 1)) (has_bit (bit_and a.hi b.hi) (y - 61)) ≡ (cond c (has_bit a.lo (y - 1)) (has_bit a.hi (y - 61)) && cond c (has_bit b.lo (y - 1)) (has_bit b.hi (y - 61))))
    [ true ↦ and_bit a.lo b.lo (y - 1) | false ↦ and_bit a.hi b.hi (y - 61) ]

-- A row masked by a packed one is packed of what passes and is in the row.
and_packed : (w from k : ℕ) (p : ℕ → Bool) → bit_and w (word p from k) ≡ word (λ y. has_bit w (y - from) && p y) from k
and_packed w from k p = same_bits (bit_and w (word p from k)) (word both from k) (λ j. and_bit w (word p from k) j ∙ go j (at_most_or_above k j))
  where
    both : ℕ → Bool
    both y = has_bit w (y - from) && p y

    go : (j : ℕ) → (k ≤ j) ⊎ (j < k) → (has_bit w j && has_bit (word p from k) j) ≡ has_bit (word both from k) j
    go j (inl h) = ap (λ (b : Bool). has_bit w j && b) (bit_past p from k j h) ∙ and-false (has_bit w j) ∙ sym (bit_past both from k j h)
    go j (inr h) =
        ap (λ (b : Bool). has_bit w j && b) (bit_of_word p from k j h) ∙ ap (λ (i : ℕ). has_bit w i && p (from + j)) (let e : j ≡ from + j - from = omega arith in e)
        ∙ sym (bit_of_word both from k j h)

pub masked_packed : (r : Row) (n : ℕ) (p : ℕ → Bool) → row (bit_and r.lo (packed_row n p).lo) (bit_and r.hi (packed_row n p).hi) ≡ packed_row n (λ y. in_row r y && p y)
unfolding packed_row
masked_packed r n p =
    ap₂ row
    (and_packed r.lo 1 (min n 60) p ∙ word_same (λ y. has_bit r.lo (y - 1) && p y) (λ y. in_row r y && p y) 1 (min n 60) (λ j h. ap (λ (b : Bool). b && p (1 + j)) (row_low r (1 + j) (omega arith))))
    (and_packed r.hi 61 (n - 60) p ∙ word_same (λ y. has_bit r.hi (y - 61) && p y) (λ y. in_row r y && p y) 61 (n - 60) (λ j h. ap (λ (b : Bool). b && p (61 + j)) (row_high r (61 + j) (omega arith))))

-- The entry at i is masked; this holds after the end too, where both sides are 0.
masked_at : (l : List ℕ) (i w : ℕ) → get_or (set l i (bit_and (get_or l i 0) w)) i 0 ≡ bit_and (get_or l i 0) w
masked_at [] i w = sym (and_zero_l w)
masked_at (x ∷ l) zero w = refl
masked_at (x ∷ l) (suc i) w = masked_at l i w

masked_word_law : (l : List ℕ) (i w : ℕ) → at (masked_word l i w) i ≡ bit_and (at l i) w
unfolding at masked_word
masked_word_law l i w = masked_at l (i - 1) w

other_word_masked : (l : List ℕ) (i w j : ℕ) → 1 ≤ i → 1 ≤ j → (j ≡ i → ⊥) → at (masked_word l i w) j ≡ at l j
unfolding at masked_word
other_word_masked l i w j hi hj ne = get_or-set_other l (i - 1) (j - 1) (bit_and (get_or l (i - 1) 0) w) 0 (λ q. ne (omega arith))

-- It makes no difference in which sequence two words are masked.
words_swap : (l : List ℕ) (i j v w : ℕ) → 1 ≤ i → 1 ≤ j → (i ≡ j → ⊥) → masked_word (masked_word l i v) j w ≡ masked_word (masked_word l j w) i v
unfolding masked_word
words_swap l i j v w hi hj ne =
    ap (λ (x : ℕ). set (masked_word l i v) (j - 1) (bit_and x w)) (other_word_masked l i v j hi hj (λ q. ne (sym q)))
    ∙ set_comm l (i - 1) (j - 1) (bit_and (at l i) v) (bit_and (at l j) w) (λ q. ne (omega arith))
    ∙ sym (ap (λ (x : ℕ). set (masked_word l j w) (i - 1) (bit_and x v)) (other_word_masked l j w i hj hi ne))

-- The same holds of two rows.
pub masked_swap : (rows : List ℕ) (c d : ℕ) (r q : Row) → Element 120 c → Element 120 d → (c ≡ d → ⊥) → masked (masked rows c r) d q ≡ masked (masked rows d q) c r
unfolding masked
masked_swap rows c d r q hc hd ne =
    let low = masked_word rows c r.lo in
    let both = masked_word rows d q.lo in
    ap (λ (l : List ℕ). masked_word l (120 + d) q.hi) (words_swap low (120 + c) d r.hi q.lo (omega arith) (omega arith) (λ e. let z : ⊥ = omega arith in z))
    ∙ words_swap (masked_word low d q.lo) (120 + c) (120 + d) r.hi q.hi (omega arith) (omega arith) (λ e. ne (omega arith))
    ∙ ap (λ (l : List ℕ). masked_word (masked_word l (120 + d) q.hi) (120 + c) r.hi) (words_swap rows c d r.lo q.lo (omega arith) (omega arith) ne)
    ∙ ap (λ (l : List ℕ). masked_word l (120 + c) r.hi) (words_swap both c (120 + d) r.lo q.hi (omega arith) (omega arith) (λ e. let z : ⊥ = omega arith in z))

-- A word masked by itself stays as it is.
self_masked : (l : List ℕ) (i : ℕ) → masked_word l i (at l i) ≡ l
unfolding at masked_word
self_masked l i = ap (set l (i - 1)) (and_self (get_or l (i - 1) 0)) ∙ set-get_or l (i - 1) 0

-- Rows stay as they are if one of them is masked by itself.
pub masked_self : (rows : List ℕ) (c : ℕ) → masked rows c (row_of rows c) ≡ rows
unfolding masked
masked_self rows c = ap (λ (l : List ℕ). masked_word l (120 + c) (at rows (120 + c))) (self_masked rows c) ∙ self_masked rows (120 + c)

module _ (rows : List ℕ) (c : ℕ) (hc : Element 120 c) (r : Row) where
  -- What the masked row is.
  row_masked : row_of (masked rows c r) c ≡ row (bit_and (at rows c) r.lo) (bit_and (at rows (120 + c)) r.hi)
  unfolding masked
  row_masked =
      let low = masked_word rows c r.lo in
      ap₂ row (other_word_masked low (120 + c) r.hi c (omega arith) (omega arith) (λ q. let z : ⊥ = omega arith in z) ∙ masked_word_law rows c r.lo)
      (masked_word_law low (120 + c) r.hi ∙ ap (λ (w : ℕ). bit_and w r.hi) (other_word_masked rows c r.lo (120 + c) (omega arith) (omega arith) (λ q. let z : ⊥ = omega arith in z)))

  -- Any other row stays as it is.
  row_other : (d : ℕ) → Element 120 d → (d ≡ c → ⊥) → row_of (masked rows c r) d ≡ row_of rows d
  unfolding masked
  row_other d hd ne =
      let low = masked_word rows c r.lo in
      ap₂ row
      (other_word_masked low (120 + c) r.hi d (omega arith) (omega arith) (λ q. let z : ⊥ = omega arith in z) ∙ other_word_masked rows c r.lo d (omega arith) (omega arith) ne)
      (other_word_masked low (120 + c) r.hi (120 + d) (omega arith) (omega arith) (λ q. ne (omega arith)) ∙ other_word_masked rows c r.lo (120 + d) (omega arith) (omega arith) (λ q. let z : ⊥ = omega arith in z))

  pub has_masked : (y : ℕ) → has (masked rows c r) c y ≡ (has rows c y && in_row r y)
  unfolding has
  has_masked y = ap (λ (w : Row). in_row w y) row_masked ∙ in_masked (row_of rows c) r y

  pub other_masked : (y d : ℕ) → Element 120 d → (d ≡ c → ⊥) → has (masked rows c r) d y ≡ has rows d y
  unfolding has
  other_masked y d hd ne = ap (λ (w : Row). in_row w y) (row_other d hd ne)

-- The bits that mask a word need not be tested for being bits of that word.
own_word : (w from k : ℕ) (p q : ℕ → Bool) → ((j : ℕ) → j < k → p (from + j) ≡ (has_bit w j && q (from + j))) → bit_and w (word p from k) ≡ bit_and w (word q from k)
own_word w from k p q own = same_bits (bit_and w (word p from k)) (bit_and w (word q from k)) (λ j. and_bit w (word p from k) j ∙ go j (at_most_or_above k j) ∙ sym (and_bit w (word q from k) j))
  where
    twice : (a b : Bool) → (a && (a && b)) ≡ (a && b)
    twice true b = refl
    twice false b = refl

    go : (j : ℕ) → (k ≤ j) ⊎ (j < k) → (has_bit w j && has_bit (word p from k) j) ≡ (has_bit w j && has_bit (word q from k) j)
    go j (inl h) = ap (λ (b : Bool). has_bit w j && b) (bit_past p from k j h ∙ sym (bit_past q from k j h))
    go j (inr h) = ap (λ (b : Bool). has_bit w j && b) (bit_of_word p from k j h ∙ own j h) ∙ twice (has_bit w j) (q (from + j)) ∙ sym (ap (λ (b : Bool). has_bit w j && b) (bit_of_word q from k j h))

-- The same holds of a row.
pub masked_own : (rows : List ℕ) (c n : ℕ) (q : ℕ → Bool) → 1 ≤ c → n ≤ 120 → masked rows c (packed_row n (λ y. in_row (row_of rows c) y && q y)) ≡ masked rows c (packed_row n q)
unfolding masked masked_word packed_row
masked_own rows c n q hc hn =
    ap (λ (l : List ℕ). masked_word l (120 + c) (word own 61 (n - 60))) (ap (set rows (c - 1)) low)
    ∙ ap (set kept (120 + c - 1)) (ap (λ (w : ℕ). bit_and w (word own 61 (n - 60))) other ∙ high ∙ sym (ap (λ (w : ℕ). bit_and w (word q 61 (n - 60))) other))
  where
    own : ℕ → Bool
    own y = in_row (row_of rows c) y && q y

    kept : List ℕ
    kept = masked_word rows c (word q 1 (min n 60))

    other : at kept (120 + c) ≡ at rows (120 + c)
    other = other_word_masked rows c (word q 1 (min n 60)) (120 + c) hc (omega arith) (λ e. let z : ⊥ = omega arith in z)

    low : bit_and (at rows c) (word own 1 (min n 60)) ≡ bit_and (at rows c) (word q 1 (min n 60))
    low = own_word (at rows c) 1 (min n 60) own q (λ j h. ap (λ (b : Bool). b && q (1 + j)) (sym (row_low (row_of rows c) (1 + j) (omega arith)) ∙ ap (has_bit (at rows c)) (let z : 1 + j - 1 ≡ j = omega arith in z)))

    high : bit_and (at rows (120 + c)) (word own 61 (n - 60)) ≡ bit_and (at rows (120 + c)) (word q 61 (n - 60))
    high = own_word (at rows (120 + c)) 61 (n - 60) own q (λ j h. ap (λ (b : Bool). b && q (61 + j)) (sym (row_high (row_of rows c) (61 + j) (omega arith)) ∙ ap (has_bit (at rows (120 + c))) (let z : 61 + j - 61 ≡ j = omega arith in z)))

-- What is left once row c is masked by the row of v: of row c at most v, and the other rows as they were.
pub forced_has : (rows newRows : List ℕ) (c v : ℕ) → Element 120 c → Element 120 v → Forced c v rows newRows
    → (d y : ℕ) → Element 120 d → Element 120 y → has newRows d y ≡ (has rows d y && cond (eqb d c) (eqb y v) true)
forced_has rows newRows c v hc hv F d y hd hy = ap (λ (l : List ℕ). has l d y) F ∙ go (equal_or_not d c)
  where
    new : ℕ → ℕ → Bool
    new = has (masked rows c (single_row v))

    go : (d ≡ c) ⊎ (d ≡ c → ⊥) → new d y ≡ (has rows d y && cond (eqb d c) (eqb y v) true)
    go (inl q) =
        ap (λ (k : ℕ). new k y) q ∙ has_masked rows c hc (single_row v) y
        ∙ ap₂ ◌&&◌ (ap (λ (k : ℕ). has rows k y) (sym q)) (in_single v hv y hy ∙ sym (ap (λ (b : Bool). cond b (eqb y v) true) (eq-eqb d c q)))
    go (inr ne) = other_masked rows c hc (single_row v) y d hd ne ∙ sym (ap (λ (b : Bool). has rows d y && cond b (eqb y v) true) (ne_eqb d c ne) ∙ and-true (has rows d y))

-- ---- rows inside rows

pub is_inside_law : (a b : Row) → is_inside a b ≡ true → RowInside a b
unfolding is_inside
is_inside_law a b h =
    let low = eqb (bit_and a.lo b.lo) a.lo in
    let high = eqb (bit_and a.hi b.hi) a.hi in
    (eqb-true (bit_and a.lo b.lo) a.lo (and_left low high h), eqb-true (bit_and a.hi b.hi) a.hi (and_right low high h))

pub inside_in : (a b : Row) → RowInside a b → (y : ℕ) → in_row a y ≡ true → in_row b y ≡ true
inside_in a b i y e = and_right (in_row a y) (in_row b y) (sym (in_masked a b y) ∙ ap₂ (λ (u v : ℕ). in_row (row u v) y) i.0 i.1 ∙ e)

pub inside_trans : (a b c : Row) → RowInside a b → RowInside b c → RowInside a c
inside_trans a b c i j = (inside_inside a.lo b.lo c.lo i.0 j.0, inside_inside a.hi b.hi c.hi i.1 j.1)

pub inside_self : (a : Row) → RowInside a a
inside_self a = (and_self a.lo, and_self a.hi)

pub shrinks_none : (rows : List ℕ) → Shrinks rows rows
shrinks_none rows c hc = inside_self (row_of rows c)

module _ (rows : List ℕ) (c : ℕ) (hc : Element 120 c) (r : Row) where
  pub masked_inside : RowInside (row_of (masked rows c r) c) r
  masked_inside =
      subst (λ (w : Row). RowInside w r) (sym (row_masked rows c hc r))
      (inside_mask (at rows c) r.lo, inside_mask (at rows (120 + c)) r.hi)

  pub masked_shrinks : Shrinks rows (masked rows c r)
  masked_shrinks d hd = go (equal_or_not d c)
    where
      go : (d ≡ c) ⊎ (d ≡ c → ⊥) → RowInside (row_of (masked rows c r) d) (row_of rows d)
      go (inl q) =
          subst (λ (k : ℕ). RowInside (row_of (masked rows c r) k) (row_of rows k)) (sym q)
          (subst (λ (w : Row). RowInside w (row_of rows c)) (sym (row_masked rows c hc r)) (inside_old (at rows c) r.lo, inside_old (at rows (120 + c)) r.hi))
      go (inr ne) = subst (λ (w : Row). RowInside w (row_of rows d)) (sym (row_other rows c hc r d hd ne)) (inside_self (row_of rows d))

module _ (rows newRows : List ℕ) where
  pub shrinks_more : (rows₀ : List ℕ) → Shrinks rows₀ rows → Shrinks rows newRows → Shrinks rows₀ newRows
  shrinks_more rows₀ a b c hc = inside_trans (row_of newRows c) (row_of rows c) (row_of rows₀ c) (b c hc) (a c hc)

  -- If no row has gained a bit, an element that is left was there before.
  pub shrinks_has : Shrinks rows newRows → (c y : ℕ) → Element 120 c → has newRows c y ≡ true → has rows c y ≡ true
  unfolding has
  shrinks_has a c y hc e =
      let i = a c hc in
      let new = row_of newRows c in
      let old = row_of rows c in
      and_right (in_row new y) (in_row old y) (sym (in_masked new old y) ∙ ap₂ (λ (u v : ℕ). in_row (row u v) y) i.0 i.1 ∙ e)

  pub only_still : Shrinks rows newRows → (c v : ℕ) → Element 120 c → Only rows c v → Only newRows c v
  only_still a c v hc o = inside_trans (row_of newRows c) (row_of rows c) (single_row v) (a c hc) o

  module _ (c v : ℕ) (hc : Element 120 c) (F : Forced c v rows newRows) where
    pub forced_only : Only newRows c v
    forced_only = subst (λ (l : List ℕ). Only l c v) (sym F) (masked_inside rows c hc (single_row v))

    pub forced_shrinks : Shrinks rows newRows
    forced_shrinks = subst (Shrinks rows) (sym F) (masked_shrinks rows c hc (single_row v))
