-- Candidates lose no map: an embedding keeps the index-period, an isomorphism the profile. Scratch marks read back as the candidates. Assumes nothing.
use mathlib.Core.Path.{◌≡◌, refl, sym, ap, ◌∙◌, subst, subst₂}
use mathlib.Core.Bool.{Bool, true, false, cond, ◌&&◌}
use mathlib.Core.Logic.{◌⊎◌, inl, inr, ⊎_elim, ◌↔◌}
use mathlib.Core.List.{List, [], ◌++◌, flat_map, append-nil}
use Prim.Native.Nat.{ℕ, ◌+◌, ◌*◌, ◌/◌, ◌%◌, ◌≤◌, ◌<◌}
use native.Mathlib.Nat.{le_refl, mul-le-mul, mul-le-mul_right}
use native.Mathlib.Omega.{arith}
use borrow.Author.Tests.{eqb-true, eqb-false, eq-eqb, ne_eqb}
use lib.Dec.{eqb}
use lib.ListN.{length, get_or, drop, length-map, length-append, length-drop, get_or-append, get_or-eq_default}
use lib.Seq.{ext_get_or}
use Rattle.semigroups.specs.Lists.{range, elements, sum}
use Rattle.semigroups.specs.Tables.{Product, Element, cell_place, grid}
use Rattle.semigroups.specs.TablesLaws.{Closed}
use Rattle.semigroups.specs.Scratch.{packed_byte, bit, scratch_size, marks, marked}
use Rattle.semigroups.specs.InnerScratch.{pair_marks}
use Rattle.semigroups.specs.ScratchLaws.{AreMarks}
use Rattle.semigroups.specs.InnerCalls.{scratch_after}
use Rattle.semigroups.specs.CallsExamples.{ScratchExamples}
use Rattle.semigroups.specs.Invariants.{index, period, index_period, same_index_period}
use Rattle.semigroups.specs.Maps.{embeddings, isomorphisms}
use Rattle.semigroups.specs.Candidates.{candidate}
use Rattle.semigroups.proofs.Booleans.{at_most_or_above, equal_or_not}
use Rattle.semigroups.proofs.Lists.{length_range, get_d_range, get_d_map}
use Rattle.semigroups.proofs.Tables.{place_below, place_of, place_elements, length_grid, grid_at}
use Rattle.semigroups.proofs.IndexPeriod.{index_period_kept}
use Rattle.semigroups.proofs.Frequencies.{profile_kept}
use Rattle.semigroups.proofs.Packing.{packed_below, packed_bit, bit_small, bits_tell}
use Rattle.semigroups.proofs.Search.{Sound}

-- Candidates for embeddings have equal index and equal period; nothing else is compared.
pub embedding_candidate : (m : ℕ) (s : Product) (n : ℕ) (t : Product) (i j : ℕ) → candidate embeddings m s n t i j ≡ (eqb (index m s i) (index n t j) && eqb (period m s i) (period n t j))
unfolding candidate same_index_period index_period
embedding_candidate m s n t i j = refl

-- ---- no map is lost

module _ (m : ℕ) (s : Product) (n : ℕ) (t : Product) (source : Closed m s) (target : Closed n t) where
  pub index_period_sound : Sound m s n t source (candidate embeddings m s n t)
  unfolding candidate
  index_period_sound f F i h = index_period_kept m s n t f F source i h target

module _ (n : ℕ) (s t : Product) (source : Closed n s) (target : Closed n t) where
  pub profile_sound : Sound n s n t source (candidate isomorphisms n s n t)
  unfolding candidate
  profile_sound f F i h = profile_kept n s t f F source i h target

-- ---- the size of the marks

-- The marks take no more bytes than there are pairs.
pub size_most : (m n : ℕ) → scratch_size m n ≤ m * n
unfolding scratch_size
size_most m n = omega arith

-- The marks of two tables of at most the largest order take at most 1,800 bytes.
pub size_limit : (m n : ℕ) → m ≤ 120 → n ≤ 120 → scratch_size m n ≤ 1800
unfolding scratch_size
size_limit m n hm hn = let pairs : m * n ≤ 120 * 120 = mul-le-mul hm hn in omega arith

-- The marks of the first i source elements take no more bytes than those of all m.
pub size_rows : (m n i : ℕ) → i ≤ m → scratch_size i n ≤ scratch_size m n
unfolding scratch_size
size_rows m n i h = let rows : i * n ≤ m * n = mul-le-mul_right n h in omega arith

-- The marks of fewer target elements take no more bytes.
pub size_columns : (m n k : ℕ) → k ≤ n → scratch_size m k ≤ scratch_size m n
unfolding scratch_size
size_columns m n k h = let pairs : m * k ≤ m * n = mul-le-mul (le_refl m) h in omega arith

-- The byte of a pair lies within the marks.
pub byte_below : (m n i j : ℕ) → Element m i → Element n j → cell_place n i j / 8 < scratch_size m n
unfolding scratch_size
byte_below m n i j hi hj = let h = place_below m n i j hi hj in omega arith

-- ---- the marks

-- Two numbers of at most 1 are equal if both or neither of them are 1.
one_of_two : (x y : ℕ) → x ≤ 1 → y ≤ 1 → eqb x 1 ≡ eqb y 1 → x ≡ y
one_of_two x y hx hy e =
    ⊎_elim (λ (h : x ≡ 1). let z = eqb-true y 1 (sym e ∙ eq-eqb x 1 h) in omega arith) (λ (h : x ≡ 1 → ⊥). let z = eqb-false y 1 (sym e ∙ ne_eqb x 1 h) in omega arith) (equal_or_not x 1)

module _ (m n : ℕ) (p : ℕ → ℕ → Bool) where
  pub length_pairs : length (pair_marks m n p) ≡ m * n
  unfolding pair_marks
  length_pairs = length_grid m n (λ i j. cond (p i j) 1 0)

  -- At place k, the number of the pair i, j, stands 1 if j is a candidate for i, else 0.
  pub pair_at : (k i j : ℕ) → cell_place n i j ≡ k → Element m i → Element n j → get_or (pair_marks m n p) k 0 ≡ cond (p i j) 1 0
  unfolding pair_marks
  pair_at k i j e hi hj = ap (λ (x : ℕ). get_or (grid m n (λ i j. cond (p i j) 1 0)) x 0) (sym e) ∙ grid_at m n (λ i j. cond (p i j) 1 0) i j hi hj

  -- After the last pair there is no mark.
  pub pair_past : (k : ℕ) → m * n ≤ k → get_or (pair_marks m n p) k 0 ≡ 0
  pair_past k h = get_or-eq_default (pair_marks m n p) 0 (let l = length_pairs in omega arith)

  pub mark_small : (k : ℕ) → get_or (pair_marks m n p) k 0 ≤ 1
  mark_small k =
      ⊎_elim (λ (h : m * n ≤ k). let e = pair_past k h in omega arith)
      (λ (h : k < m * n).
      let w = place_elements m n k h in
      let e = pair_at k (k / n + 1) (k % n + 1) (place_of n k) w.0 w.1 in
      let one : cond (p (k / n + 1) (k % n + 1)) 1 0 ≤ 1 = elim (p (k / n + 1) (k % n + 1)) as (λ b. cond b 1 0 ≤ 1) [ true ↦ omega arith | false ↦ omega arith ] in
      omega arith)
      (at_most_or_above (m * n) k)

  pub length_marks : length (marks m n p) ≡ scratch_size m n
  unfolding marks pair_marks
  length_marks = length-map (range 0 (scratch_size m n)) (packed_byte (pair_marks m n p)) ∙ length_range 0 (scratch_size m n)

  -- Byte b of the marks packs eight of them.
  pub marks_byte : (b : ℕ) → b < scratch_size m n → get_or (marks m n p) b 0 ≡ packed_byte (pair_marks m n p) b
  unfolding marks pair_marks
  marks_byte b h =
      get_d_map (packed_byte (pair_marks m n p)) (range 0 (scratch_size m n)) 0 b (omega (arith, length_range 0 (scratch_size m n)))
      ∙ ap (packed_byte (pair_marks m n p)) (get_d_range 0 (scratch_size m n) b h ∙ (let z : 0 + b ≡ b = omega arith in z))

  marks_bit : (b r : ℕ) → b < scratch_size m n → r < 8 → bit (get_or (marks m n p) b 0) r ≡ get_or (pair_marks m n p) (8 * b + r) 0
  marks_bit b r hb hr = ap (λ (x : ℕ). bit x r) (marks_byte b hb) ∙ packed_bit (pair_marks m n p) mark_small b r hr

  -- A mark reads back as the candidate that it stands for, whatever bytes come after the marks.
  marked_front : (later : List ℕ) (i j : ℕ) → Element m i → Element n j → marked n (marks m n p ++ later) i j ≡ p i j
  unfolding marked
  marked_front later i j hi hj =
      let k = cell_place n i j in
      let h = byte_below m n i j hi hj in
      let l = length_marks in
      ap (λ (x : ℕ). eqb (bit x (k % 8)) 1) (get_or-append (marks m n p) later 0 (k / 8) (omega arith))
      ∙ ap (λ (x : ℕ). eqb x 1) (marks_bit (k / 8) (k % 8) h (omega arith) ∙ pair_at (8 * (k / 8) + k % 8) i j (omega arith) hi hj)
      ∙ (elim (p i j) as (λ b. eqb (cond b 1 0) 1 ≡ b) [ true ↦ refl | false ↦ refl ])

  pub are_marks : AreMarks m n p (marks m n p)
  are_marks =
      let l = length_marks in
      record {
        enough = unfold scratch_size in omega arith;
        no_more = unfold scratch_size in omega arith;
        byte = λ b h. subst (λ (x : ℕ). x < 256) (sym (marks_byte b (omega arith))) (packed_below (pair_marks m n p) mark_small b);
        mark = λ i j hi hj. subst (λ (l : List ℕ). marked n l i j ≡ p i j) (append-nil (marks m n p)) (marked_front [] i j hi hj);
        unused = λ b r hb hr h. marks_bit b r (omega arith) hr ∙ pair_past (8 * b + r) h;
      }

  -- No other bytes are the marks.
  module _ (l : List ℕ) (a : AreMarks m n p l) where
    same_size : length l ≡ length (marks m n p)
    unfolding scratch_size
    same_size = let low = a.enough in let high = a.no_more in let e = length_marks in omega arith

    same_mark : (k i j : ℕ) → cell_place n i j ≡ k → Element m i → Element n j → eqb (bit (get_or l (k / 8) 0) (k % 8)) 1 ≡ eqb (bit (get_or (marks m n p) (k / 8) 0) (k % 8)) 1
    unfolding marked
    same_mark k i j e hi hj =
        subst (λ (x : ℕ). eqb (bit (get_or l (x / 8) 0) (x % 8)) 1 ≡ eqb (bit (get_or (marks m n p) (x / 8) 0) (x % 8)) 1) e (a.mark i j hi hj ∙ sym (are_marks.mark i j hi hj))

    same_bit : (b r : ℕ) → b < length l → r < 8 → (m * n ≤ 8 * b + r) ⊎ (8 * b + r < m * n) → bit (get_or l b 0) r ≡ bit (get_or (marks m n p) b 0) r
    same_bit b r hb hr (inl h) = let e = same_size in a.unused b r hb hr h ∙ sym (are_marks.unused b r (omega arith) hr h)
    same_bit b r hb hr (inr h) =
        let k = 8 * b + r in
        let w = place_elements m n k h in
        let byte : k / 8 ≡ b = omega arith in
        let worth : k % 8 ≡ r = omega arith in
        one_of_two (bit (get_or l b 0) r) (bit (get_or (marks m n p) b 0) r) (bit_small (get_or l b 0) r) (bit_small (get_or (marks m n p) b 0) r)
        (subst₂ (λ (x y : ℕ). eqb (bit (get_or l x 0) y) 1 ≡ eqb (bit (get_or (marks m n p) x 0) y) 1) byte worth (same_mark k (k / n + 1) (k % n + 1) (place_of n k) w.0 w.1))

    only_marks : l ≡ marks m n p
    only_marks =
        ext_get_or 0 l (marks m n p) same_size
        (λ b h.
        let e = same_size in
        bits_tell 8 (get_or l b 0) (get_or (marks m n p) b 0) (a.byte b h) (are_marks.byte b (omega arith)) (λ r hr. same_bit b r h hr (at_most_or_above (m * n) (8 * b + r))))

  -- The bytes are the marks exactly if they are what `AreMarks` says in plain words.
  pub marks_exactly : (l : List ℕ) → (l ≡ marks m n p) ↔ AreMarks m n p l
  marks_exactly l = ((λ e. subst (AreMarks m n p) (sym e) are_marks), only_marks l)

  module _ (scratch : List ℕ) where
    -- The buffer keeps its length.
    pub length_scratch : scratch_size m n ≤ length scratch → length (scratch_after m n p scratch) ≡ length scratch
    unfolding scratch_after
    length_scratch h =
        let e = length-append (marks m n p) (drop (length (marks m n p)) scratch) in
        let d = length-drop (length (marks m n p)) scratch in
        let l = length_marks in
        omega arith

    -- The marks read back from the buffer are the candidates.
    pub marked_candidate : (i j : ℕ) → Element m i → Element n j → marked n (scratch_after m n p scratch) i j ≡ p i j
    unfolding scratch_after
    marked_candidate i j hi hj = marked_front (drop (length (marks m n p)) scratch) i j hi hj

-- ---- examples

scratch_examples : ScratchExamples
unfolding scratch_after marks marked packed_byte bit scratch_size grid range elements sum flat_map
scratch_examples = (refl, refl, refl, refl, refl, refl, refl, refl, refl)
