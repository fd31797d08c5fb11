-- What the tests of a record say: a number field is the decimal number of its place, a name has 1 to 40 printable bytes; 41 bytes are enough to tell.
-- Assumes nothing.
use mathlib.Core.Path.{◌≡◌, refl, ap, sym, ◌∙◌}
use mathlib.Core.Bool.{Bool, true, false, ◌&&◌, not}
use mathlib.Core.Logic.{◌⊎◌, inl, inr, ◌↔◌}
use mathlib.Core.List.{List, [], ◌∷◌}
use Prim.Native.Nat.{ℕ, ◌+◌, ◌-◌, ◌*◌, ◌^◌, ◌≤◌, ◌<◌}
use native.Mathlib.Numerals.{add-one}
use native.Mathlib.Omega.{arith}
use lib.Dec.{eqb, leb}
use lib.ListN.{length, get_or, take, drop, length-drop}
use lib.Seq.{take_all, length-take-le, drop-cons}
use borrow.Author.Tests.{eqb-true, eqb-false, eq-eqb, ne_eqb, leb-true, le-leb, not-true}
use Rattle.semigroups.specs.Lists.{all}
use Rattle.semigroups.specs.Tables.{Element, is_element}
use Rattle.semigroups.proofs.Booleans.{clash, both, and_left, and_right, untrue, at_most_or_above, not_of_false}
use Rattle.semigroups.proofs.Lists.{is_element_law, element_is}
use Rattle.rfc4180.specs.Decimals.{is_digit, value_from, value, numeral}
use Rattle.rfc4180.specs.Every.{Every}
use Rattle.rfc4180.proofs.Every.{every_mem, mem_every}
use Rattle.rfc4180.proofs.Fields.{is_digit_law, empty, bound_more, bound_two}
use Rattle.rfc4180.proofs.Decimals.{numeral_digits, numeral_value, value_numeral, numeral_long, numeral_leading, digits_few}
use Rattle.sheets.specs.Grammar.{is_printable}
use Rattle.sheets.specs.Names.{is_name, is_number}
use Rattle.sheets.specs.PassingLaws.{Name}

-- ---- tests of every byte

module _ (p : ℕ → Bool) where
  pub all_every : (s : List ℕ) → all p s ≡ true → Every (λ b. p b ≡ true) s
  unfolding all
  all_every [] h = tt
  all_every (b ∷ s) h = (and_left (p b) (all p s) h, all_every s (and_right (p b) (all p s) h))

  pub every_all : (s : List ℕ) → Every (λ b. p b ≡ true) s → all p s ≡ true
  unfolding all
  every_all [] h = refl
  every_all (b ∷ s) h = both (p b) (all p s) h.0 (every_all s h.1)

-- ---- a name

printable_range : (b : ℕ) → (is_printable b ≡ true) ↔ ((32 ≤ b) × (b ≤ 126))
unfolding is_printable
printable_range b = (
  (λ e. (leb-true 32 b (and_left (leb 32 b) (leb b 126) e), leb-true b 126 (and_right (leb 32 b) (leb b 126) e))),
  λ h. both (leb 32 b) (leb b 126) (le-leb 32 b h.0) (le-leb b 126 h.1),
)

module _ (s : List ℕ) where
  pub name_printable : is_name s ≡ true → Every (λ b. is_printable b ≡ true) s
  unfolding is_name
  name_printable h = all_every is_printable s (and_right (is_element 40 (length s)) (all is_printable s) h)

  pub name_is : is_name s ≡ true → Name s
  unfolding is_name
  name_is h =
      let size = is_element_law 40 (length s) (and_left (is_element 40 (length s)) (all is_printable s) h) in
      record { some_byte = size.0; short = size.1; allowed = λ b m. (printable_range b).0 (every_mem (λ b. is_printable b ≡ true) s (name_printable h) b m) }

  is_name_law : Name s → is_name s ≡ true
  unfolding is_name
  is_name_law h =
      both (is_element 40 (length s)) (all is_printable s) (element_is 40 (length s) (h.some_byte, h.short))
      (every_all is_printable s (mem_every (λ b. is_printable b ≡ true) s (λ b m. (printable_range b).1 (h.allowed b m))))

  pub name_exactly : (is_name s ≡ true) ↔ Name s
  name_exactly = (name_is, is_name_law)

-- ---- a number

pub record NumberParts (k : ℕ) (f : List ℕ) : Type 0 where
  pub small : k ≤ 120
  pub digits : all is_digit f ≡ true
  pub size : Element 3 (length f)
  pub leading : get_or f 0 0 ≡ 48 → ⊥
  pub whole : value f ≡ k

module _ (k : ℕ) (f : List ℕ) where
  pub number_parts : is_number k f ≡ true → NumberParts k f
  unfolding is_number
  number_parts h =
      let last = eqb (value f) k in
      let leading = not (eqb (get_or f 0 0) 48) && last in
      let size = is_element 3 (length f) && leading in
      let digits = all is_digit f && size in
      let h1 = and_right (leb k 120) digits h in
      let h2 = and_right (all is_digit f) size h1 in
      let h3 = and_right (is_element 3 (length f)) leading h2 in
      record {
        small = leb-true k 120 (and_left (leb k 120) digits h);
        digits = and_left (all is_digit f) size h1;
        size = is_element_law 3 (length f) (and_left (is_element 3 (length f)) leading h2);
        leading = eqb-false (get_or f 0 0) 48 (not-true (eqb (get_or f 0 0) 48) (and_left (not (eqb (get_or f 0 0) 48)) last h3));
        whole = eqb-true (value f) k (and_right (not (eqb (get_or f 0 0) 48)) last h3);
      }

  pub number_is : is_number k f ≡ true → (k ≤ 120) × (f ≡ numeral k)
  number_is h =
      let p = number_parts h in
      (p.small, sym (numeral_value f (all_every is_digit f p.digits) p.size.0 p.size.1 p.leading) ∙ ap numeral p.whole)

  -- If all other tests pass, the last one decides.
  number_whole : k ≤ 120 → all is_digit f ≡ true → Element 3 (length f) → (get_or f 0 0 ≡ 48 → ⊥) → is_number k f ≡ eqb (value f) k
  unfolding is_number
  number_whole u d z l = rw (le-leb k 120 u, d, element_is 3 (length f) z, ne_eqb (get_or f 0 0) 48 l) refl

  -- ---- one law for each way out

  pub number_high : 120 < k → false ≡ is_number k f
  number_high h = sym (untrue (is_number k f) (λ e. let u = (number_parts e).small in omega arith))

  pub number_empty : length f < 1 → false ≡ is_number k f
  number_empty h = sym (untrue (is_number k f) (λ e. let u = (number_parts e).size.0 in omega arith))

  pub number_long : 3 < length f → false ≡ is_number k f
  number_long h = sym (untrue (is_number k f) (λ e. let u = (number_parts e).size.1 in omega arith))

  pub number_zero : get_or f 0 0 ≡ 48 → false ≡ is_number k f
  number_zero h = sym (untrue (is_number k f) (λ e. (number_parts e).leading h))

-- The digits before place i make the number v, and those that are left decide.
pub record Counting (f : List ℕ) (i v : ℕ) : Type 0 where
  pub inside : i ≤ length f
  pub digits : all is_digit f ≡ all is_digit (drop i f)
  pub whole : value f ≡ value_from v (drop i f)
  pub small : v < 10 ^ i

pub count_first : (f : List ℕ) → Counting f 0 0
unfolding value
count_first f = record { inside = omega arith; digits = refl; whole = refl; small = omega arith }

module _ (f : List ℕ) (i v : ℕ) (c : Counting f i v) (h : i < length f) where
  abbrev byte : ℕ
  byte = get_or f i 0

  abbrev here : drop i f ≡ byte ∷ drop (i + 1) f
  here = rw add-one (drop-cons f i 0 h)

  pub count_small : length f ≤ 3 → v < 100
  count_small u = let s = c.small in let t = bound_two i (omega arith) in omega arith

  pub count_next : 48 ≤ byte → byte ≤ 57 → Counting f (i + 1) (v * 10 + (byte - 48))
  unfolding all value_from
  count_next l u =
      record {
        inside = omega arith;
        digits = c.digits ∙ ap (all is_digit) here ∙ rw (is_digit_law byte l u) refl;
        whole = c.whole ∙ ap (value_from v) here;
        small = bound_more v (byte - 48) i c.small (omega arith);
      }

  pub count_other : (k : ℕ) → is_digit byte ≡ false → false ≡ is_number k f
  unfolding all
  count_other k e = sym (untrue (is_number k f) (λ g. clash (number_parts k f g).digits (c.digits ∙ ap (all is_digit) here ∙ rw e refl)))

pub count_done : (k : ℕ) (f : List ℕ) (i v : ℕ) → Counting f i v → length f ≤ i → k ≤ 120 → Element 3 (length f) → (get_or f 0 0 ≡ 48 → ⊥) → eqb v k ≡ is_number k f
unfolding all value_from
count_done k f i v c h u z l =
    let e : drop i f ≡ [] = empty (drop i f) (let d = length-drop i f in omega arith) in
    let w : value f ≡ v = c.whole ∙ ap (value_from v) e in
    sym (number_whole k f u (c.digits ∙ ap (all is_digit) e) z l ∙ ap (λ (x : ℕ). eqb x k) w)

pub is_number_law : (k : ℕ) → 1 ≤ k → k ≤ 120 → is_number k (numeral k) ≡ true
unfolding is_number numeral
is_number_law k l u =
    let f = numeral k in
    let last = eqb (value f) k in
    let leading = not (eqb (get_or f 0 0) 48) && last in
    let size = is_element 3 (length f) && leading in
    let digits = all is_digit f && size in
    both (leb k 120) digits (le-leb k 120 u)
    (both (all is_digit f) size (every_all is_digit f (numeral_digits 3 k))
    (both (is_element 3 (length f)) leading (element_is 3 (length f) (numeral_long k (omega arith), digits_few k))
    (both (not (eqb (get_or f 0 0) 48)) last (not_of_false (eqb (get_or f 0 0) 48) (ne_eqb (get_or f 0 0) 48 (numeral_leading k l (omega arith))))
    (eq-eqb (value f) k (value_numeral k (omega arith))))))

-- ---- a name, byte by byte

pub name_empty : (s : List ℕ) → length s < 1 → false ≡ is_name s
name_empty s h = sym (untrue (is_name s) (λ e. let u = (name_is s e).some_byte in omega arith))

pub name_long : (s : List ℕ) → 40 < length s → false ≡ is_name s
name_long s h = sym (untrue (is_name s) (λ e. let u = (name_is s e).short in omega arith))

-- ---- the first 41 bytes

pub cut_length : (s : List ℕ) → length (take 41 s) ≤ 41
cut_length s = go (at_most_or_above (length s) 41)
  where
    go : (length s ≤ 41) ⊎ (41 < length s) → length (take 41 s) ≤ 41
    go (inl h) = let e = ap length (take_all 41 s h) in omega arith
    go (inr h) = let e = length-take-le 41 s (omega arith) in omega arith

pub name_cut : (s : List ℕ) → is_name (take 41 s) ≡ is_name s
name_cut s = go (at_most_or_above (length s) 41)
  where
    go : (length s ≤ 41) ⊎ (41 < length s) → is_name (take 41 s) ≡ is_name s
    go (inl h) = ap is_name (take_all 41 s h)
    go (inr h) = let e = length-take-le 41 s (omega arith) in sym (name_long (take 41 s) (omega arith)) ∙ name_long s (omega arith)

pub number_cut : (k : ℕ) (s : List ℕ) → is_number k (take 41 s) ≡ is_number k s
number_cut k s = go (at_most_or_above (length s) 41)
  where
    go : (length s ≤ 41) ⊎ (41 < length s) → is_number k (take 41 s) ≡ is_number k s
    go (inl h) = ap (is_number k) (take_all 41 s h)
    go (inr h) = let e = length-take-le 41 s (omega arith) in sym (number_long k (take 41 s) (omega arith)) ∙ number_long k s (omega arith)
