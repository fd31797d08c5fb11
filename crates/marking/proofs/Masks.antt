-- The marks of candidates, masked by pairs, are the marks of the candidates that the pairs allow; and whether a mask clears anything. Assumes nothing.
use mathlib.Core.Path.{◌≡◌, sym, ap, ap₂, ◌∙◌}
use mathlib.Core.Bool.{Bool, true, false, ◌&&◌}
use mathlib.Core.List.{List, ◌∷◌, ◌++◌}
use Prim.Native.Nat.{ℕ, suc, ◌+◌, ◌-◌, ◌*◌, ◌/◌, ◌%◌, ◌≤◌, ◌<◌}
use native.Mathlib.Omega.{arith}
use borrow.Author.Tests.{eqb-false}
use lib.Bits.{bit_and, and_le_l}
use lib.Dec.{eqb}
use lib.ListN.{length, take, drop, get_or, set, length-map, get_or-append}
use lib.Seq.{length-take-le, drop-cons, drop-append_seam, get_or-append_seam}
use Rattle.semigroups.specs.Lists.{range, all}
use Rattle.semigroups.specs.Tables.{Element, cell_place}
use Rattle.semigroups.specs.Scratch.{bit, scratch_size, marks, marked}
use Rattle.semigroups.specs.Calls.{overwritten}
use Rattle.semigroups.specs.InnerCalls.{scratch_after}
use Rattle.semigroups.proofs.Lists.{length_range, get_d_range, get_d_map}
use Rattle.semigroups.proofs.Writing.{written, written_none, written_all, write_next}
use Rattle.semigroups.proofs.Packing.{bit_small}
use Rattle.semigroups.proofs.Candidates.{byte_below, length_marks, are_marks, marks_exactly, marked_candidate}
use Rattle.rows.specs.InnerRows as rows
use Rattle.rows.proofs.Masks.{and_bit}
use Rattle.marking.specs.InnerMasks.{masked_bytes, clears_nothing}

-- A bit of a masked byte is set if it is set in both bytes.
and_bits : (a b r : ℕ) → eqb (bit (bit_and a b) r) 1 ≡ (eqb (bit a r) 1 && eqb (bit b r) 1)
unfolding bit rows.has_bit
and_bits a b r = and_bit a b r

module _ (size : ℕ) (pairs scratch : List ℕ) where
  pub length_masked : length (masked_bytes size pairs scratch) ≡ size
  unfolding masked_bytes
  length_masked = length-map (range 0 size) (λ b. bit_and (get_or scratch b 0) (get_or pairs b 0)) ∙ length_range 0 size

  pub masked_byte : (b : ℕ) → b < size → get_or (masked_bytes size pairs scratch) b 0 ≡ bit_and (get_or scratch b 0) (get_or pairs b 0)
  unfolding masked_bytes
  masked_byte b h =
      get_d_map (λ b. bit_and (get_or scratch b 0) (get_or pairs b 0)) (range 0 size) 0 b (omega (arith, length_range 0 size))
      ∙ ap (λ (k : ℕ). bit_and (get_or scratch k 0) (get_or pairs k 0)) (get_d_range 0 size b h ∙ (let z : 0 + b ≡ b = omega arith in z))

module _ (m n : ℕ) (p : ℕ → ℕ → Bool) (pairs before : List ℕ) where
  abbrev filled : List ℕ
  filled = scratch_after m n p before

  abbrev bytes : List ℕ
  bytes = masked_bytes (scratch_size m n) pairs filled

  abbrev kept : ℕ → ℕ → Bool
  kept i j = p i j && marked n pairs i j

  filled_byte : (b : ℕ) → b < scratch_size m n → get_or filled b 0 ≡ get_or (marks m n p) b 0
  unfolding scratch_after
  filled_byte b h = get_or-append (marks m n p) (drop (length (marks m n p)) before) 0 b (omega (arith, length_marks m n p))

  byte_here : (b : ℕ) → b < scratch_size m n → get_or bytes b 0 ≡ bit_and (get_or (marks m n p) b 0) (get_or pairs b 0)
  byte_here b h = masked_byte (scratch_size m n) pairs filled b h ∙ ap (λ (x : ℕ). bit_and x (get_or pairs b 0)) (filled_byte b h)

  small : (b : ℕ) → b < scratch_size m n → get_or bytes b 0 < 256
  small b h =
      let e = byte_here b h in
      let l = length_marks m n p in
      let u = (are_marks m n p).byte b (omega arith) in
      omega (arith, and_le_l (get_or (marks m n p) b 0) (get_or pairs b 0))

  mark_here : (i j : ℕ) → Element m i → Element n j → marked n bytes i j ≡ kept i j
  unfolding marked
  mark_here i j hi hj =
      let k = cell_place n i j in
      ap (λ (x : ℕ). eqb (bit x (k % 8)) 1) (masked_byte (scratch_size m n) pairs filled (k / 8) (byte_below m n i j hi hj))
      ∙ and_bits (get_or filled (k / 8) 0) (get_or pairs (k / 8) 0) (k % 8)
      ∙ ap (λ (b : Bool). b && eqb (bit (get_or pairs (k / 8) 0) (k % 8)) 1) (marked_candidate m n p before i j hi hj)

  -- A bit that is not 1 is 0.
  not_one : (x r : ℕ) → eqb (bit x r) 1 ≡ false → bit x r ≡ 0
  not_one x r e = let h = eqb-false (bit x r) 1 e in let s = bit_small x r in omega arith

  unused_here : (b r : ℕ) → b < scratch_size m n → r < 8 → m * n ≤ 8 * b + r → bit (get_or bytes b 0) r ≡ 0
  unused_here b r hb hr h =
      let l = length_marks m n p in
      not_one (get_or bytes b 0) r
      (ap (λ (x : ℕ). eqb (bit x r) 1) (byte_here b hb) ∙ and_bits (get_or (marks m n p) b 0) (get_or pairs b 0) r
      ∙ ap (λ (x : ℕ). eqb x 1 && eqb (bit (get_or pairs b 0) r) 1) ((are_marks m n p).unused b r (omega arith) hr h))

  pub masked_marks : bytes ≡ marks m n kept
  masked_marks =
      let l = length_masked (scratch_size m n) pairs filled in
      (marks_exactly m n kept bytes).1
      (record {
        enough = unfold scratch_size in omega arith;
        no_more = unfold scratch_size in omega arith;
        byte = λ b h. small b (omega arith);
        mark = mark_here;
        unused = λ b r hb hr h. unused_here b r (omega arith) hr h;
      })

  -- The scratch buffer once its marks are masked.
  pub masked_scratch : overwritten bytes filled ≡ scratch_after m n kept before
  unfolding scratch_after
  masked_scratch =
      let same : length bytes ≡ length (marks m n p) = length_masked (scratch_size m n) pairs filled ∙ sym (length_marks m n p) in
      let other : length (marks m n p) ≡ length (marks m n kept) = length_marks m n p ∙ sym (length_marks m n kept) in
      ap₂ (λ (x y : List ℕ). x ++ y) masked_marks
      (ap (λ (k : ℕ). drop k filled) same ∙ drop-append_seam (marks m n p) (drop (length (marks m n p)) before) ∙ ap (λ (k : ℕ). drop k before) other)

-- ---- byte by byte

module _ (size : ℕ) (pairs start : List ℕ) where
  -- The bytes before the place are masked, and those from it on are as they were.
  pub record Masking (place : ℕ) (buffer : List ℕ) : Type 0 where
    pub inside : place ≤ size
    pub so_far : buffer ≡ written (masked_bytes size pairs start) start place

  pub mask_begin : Masking 0 start
  mask_begin = record { inside = omega arith; so_far = sym (written_none (masked_bytes size pairs start) start) }

  module _ (room : size ≤ length start) {place : ℕ} {buffer : List ℕ} (a : Masking place buffer) where
    -- The byte at the place is not written yet.
    ahead : place < size → get_or buffer place 0 ≡ get_or start place 0
    unfolding written
    ahead h =
        let l = length_masked size pairs start in
        let front = take place (masked_bytes size pairs start) in
        let here : length front ≡ place = length-take-le place (masked_bytes size pairs start) (omega arith) in
        ap (λ (b : List ℕ). get_or b place 0) (a.so_far ∙ ap (λ (r : List ℕ). front ++ r) (drop-cons start place 0 (omega arith)))
        ∙ ap (λ (k : ℕ). get_or (front ++ get_or start place 0 ∷ drop (suc place) start) k 0) (sym here)
        ∙ get_or-append_seam front (get_or start place 0) (drop (suc place) start) 0

    pub mask_next : place < size → Masking (place + 1) (set buffer place (bit_and (get_or buffer place 0) (get_or pairs place 0)))
    mask_next h =
        let l = length_masked size pairs start in
        let v = bit_and (get_or buffer place 0) (get_or pairs place 0) in
        record {
          inside = omega arith;
          so_far = ap (λ (b : List ℕ). set b place v) a.so_far
              ∙ write_next (masked_bytes size pairs start) start place v (omega arith) (omega arith) (ap (λ (x : ℕ). bit_and x (get_or pairs place 0)) (ahead h) ∙ sym (masked_byte size pairs start place h));
        }

    pub mask_end : size ≤ place → buffer ≡ overwritten (masked_bytes size pairs start) start
    mask_end h =
        let i = a.inside in
        let end : place ≡ length (masked_bytes size pairs start) = let l = length_masked size pairs start in omega arith in
        a.so_far ∙ written_all (masked_bytes size pairs start) start place end ∙ ap (λ (k : ℕ). masked_bytes size pairs start ++ drop k start) end
