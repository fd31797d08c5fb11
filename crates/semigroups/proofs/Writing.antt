-- A list written into a buffer place by place, and a grid written row after row as two nested loops do. Assumes nothing.
use mathlib.Core.Path.{◌≡◌, refl, sym, ap, ◌∙◌}
use mathlib.Core.List.{List, [], ◌∷◌, ◌++◌, append_assoc}
use Prim.Native.Nat.{ℕ, suc, ◌+◌, ◌-◌, ◌*◌, ◌≤◌, ◌<◌}
use native.Mathlib.Nat.{zero-mul, suc-mul, mul-le-mul_right}
use native.Mathlib.Omega.{arith}
use lib.ListN.{length, take, drop, get_or, set, length-append, length-drop}
use lib.Seq.{length-take-le, take-suc, take-length, drop-cons, set_at, drop-append-add, drop-drop}
use Rattle.semigroups.specs.Tables.{grid, Element}
use Rattle.semigroups.proofs.Tables.{length_grid, grid_at, place_below}

module _ (l b : List ℕ) where
  -- The buffer b once the first p entries of l are written.
  unfoldable pub written : ℕ → List ℕ
  written p = take p l ++ drop p b

  pub written_none : written 0 ≡ b
  unfolding written
  written_none = refl

  pub written_all : (p : ℕ) → p ≡ length l → written p ≡ l ++ drop p b
  unfolding written
  written_all p e = ap (λ (q : List ℕ). q ++ drop p b) (ap (λ (q : ℕ). take q l) e ∙ take-length l)

  -- Writing the first q entries over a buffer that holds the first p of them gives the first q.
  written_again : (p q : ℕ) → p ≤ q → p ≤ length l → take q l ++ drop q (written p) ≡ written q
  unfolding written
  written_again p q h u =
      let e : length (take p l) + (q - p) ≡ q = let w = length-take-le p l u in omega arith in
      ap (λ (r : List ℕ). take q l ++ r)
      (ap (λ (k : ℕ). drop k (take p l ++ drop p b)) (sym e) ∙ drop-append-add (take p l) (drop p b) (q - p) ∙ drop-drop (q - p) p b ∙ ap (λ (k : ℕ). drop k b) (let z : p + (q - p) ≡ q = omega arith in z))

  module _ (p : ℕ) where
    pub length_written : p ≤ length l → p ≤ length b → length (written p) ≡ length b
    unfolding written
    length_written h u = let e = length-take-le p l h in let f = length-drop p b in let g = length-append (take p l) (drop p b) in omega arith

    pub write_next : (v : ℕ) → p < length l → p < length b → v ≡ get_or l p 0 → set (written p) p v ≡ written (p + 1)
    unfolding written
    write_next v h u e =
        let q : suc p ≡ p + 1 = omega arith in
        ap (λ (r : List ℕ). set (take p l ++ r) p v) (drop-cons b p 0 u)
        ∙ set_at (take p l) (get_or b p 0) (drop (suc p) b) v p (length-take-le p l (omega arith))
        ∙ ap (λ (x : ℕ). take p l ++ x ∷ drop (suc p) b) e
        ∙ sym (append_assoc (take p l) (get_or l p 0 ∷ []) (drop (suc p) b))
        ∙ ap (λ (r : List ℕ). r ++ drop (suc p) b) (sym (take-suc l p 0 h))
        ∙ ap (λ (k : ℕ). take k l ++ drop k b) q

-- ---- a grid written row after row

module _ (m n : ℕ) (f : ℕ → ℕ → ℕ) where
  -- Row i begins at `place` of the buffer, which was b at first; what comes before is written.
  pub record AtRow (b : List ℕ) (i place : ℕ) (buffer : List ℕ) : Type 0 where
    pub row_from_one : 1 ≤ i
    pub row_to_end : i ≤ m + 1
    pub at_place : place ≡ (i - 1) * n
    pub so_far : buffer ≡ written (grid m n f) b place

  -- Row i, column j stands at `place` of the buffer, which was r where the row began; what comes before is written.
  pub record AtCell (r : List ℕ) (i j place : ℕ) (buffer : List ℕ) : Type 0 where
    pub row : Element m i
    pub column_from_one : 1 ≤ j
    pub column_to_end : j ≤ n + 1
    pub at_place : place ≡ (i - 1) * n + (j - 1)
    pub so_far : buffer ≡ written (grid m n f) r place

  -- The place is the one that the row, or the row and the column, give.
  pub row_placed : (b : List ℕ) (i place : ℕ) (buffer : List ℕ) → AtRow b i place buffer → AtRow b i ((i - 1) * n) buffer
  row_placed b i place buffer a =
      record {
        row_from_one = a.row_from_one;
        row_to_end = a.row_to_end;
        at_place = refl;
        so_far = a.so_far ∙ ap (written (grid m n f) b) a.at_place;
      }

  pub cell_placed : (r : List ℕ) (i j place : ℕ) (buffer : List ℕ) → AtCell r i j place buffer → AtCell r i j ((i - 1) * n + (j - 1)) buffer
  cell_placed r i j place buffer a =
      record {
        row = a.row;
        column_from_one = a.column_from_one;
        column_to_end = a.column_to_end;
        at_place = refl;
        so_far = a.so_far ∙ ap (written (grid m n f) r) a.at_place;
      }

  -- ---- cells

  module _ (r : List ℕ) (i j place : ℕ) (buffer : List ℕ) (a : AtCell r i j place buffer) where
    pub place_inside : j ≤ n → place < m * n
    place_inside h = let e = a.at_place in omega (arith, place_below m n i j a.row (a.column_from_one, h))

    place_to_end : place ≤ m * n
    place_to_end =
        let at-cell = a.at_place in
        let low = a.column_from_one in
        let high = a.column_to_end in
        let row = a.row in
        let rows : suc (i - 1) * n ≤ m * n = mul-le-mul_right n (omega arith) in
        omega (arith, suc-mul (i - 1) n)

    -- The buffer keeps its length, and what is written at the place is the cell.
    module _ (room : m * n ≤ length r) where
      pub cell_length : length buffer ≡ length r
      cell_length = let e = length_grid m n f in let h = place_to_end in ap length a.so_far ∙ length_written (grid m n f) r place (omega arith) (omega arith)

      pub cell_next : (v : ℕ) → j ≤ n → v ≡ f i j → AtCell r i (j + 1) (place + 1) (set buffer place v)
      cell_next v h e =
          let size = length_grid m n f in
          let inside = place_inside h in
          let at-cell = a.at_place in
          let low = a.column_from_one in
          let cell : get_or (grid m n f) place 0 ≡ f i j = ap (λ (p : ℕ). get_or (grid m n f) p 0) at-cell ∙ grid_at m n f i j a.row (low, h) in
          record {
            row = a.row;
            column_from_one = omega arith;
            column_to_end = omega arith;
            at_place = omega arith;
            so_far = ap (λ (l : List ℕ). set l place v) a.so_far ∙ write_next (grid m n f) r place v (omega arith) (omega arith) (e ∙ sym cell);
          }

  -- ---- rows

  module _ (b : List ℕ) where
    pub grid_begin : AtRow b 1 0 b
    grid_begin =
        record {
          row_from_one = omega arith;
          row_to_end = omega arith;
          at_place = sym (zero-mul n);
          so_far = sym (written_none (grid m n f) b);
        }

    module _ (i place : ℕ) (r : List ℕ) (a : AtRow b i place r) where
      row_place : place ≤ m * n
      row_place =
          let at_row = a.at_place in
          let high = a.row_to_end in
          let rows : (i - 1) * n ≤ m * n = mul-le-mul_right n (omega arith) in
          omega arith

      pub row_length : m * n ≤ length b → length r ≡ length b
      row_length room = let e = length_grid m n f in let h = row_place in ap length a.so_far ∙ length_written (grid m n f) b place (omega arith) (omega arith)

      -- What is written over the buffer as the row found it is what is written over the buffer as it was at first.
      written_over : (q : ℕ) → place ≤ q → place ≤ length (grid m n f) → written (grid m n f) r q ≡ written (grid m n f) b q
      unfolding written
      written_over q h u = ap (λ (l : List ℕ). take q (grid m n f) ++ drop q l) a.so_far ∙ written_again (grid m n f) b place q h u

      pub row_begin : i ≤ m → AtCell r i 1 place r
      row_begin h =
          let at_row = a.at_place in
          let from_one = a.row_from_one in
          let size = length_grid m n f in
          let inside = row_place in
          record {
            row = omega arith;
            column_from_one = omega arith;
            column_to_end = omega arith;
            at_place = omega arith;
            so_far = a.so_far ∙ sym (written_over place (omega arith) (omega arith));
          }

      pub row_end : (j next : ℕ) (buffer : List ℕ) → AtCell r i j next buffer → n < j → AtRow b (i + 1) next buffer
      row_end j next buffer c h =
          let at_row = a.at_place in
          let at-cell = c.at_place in
          let low = c.column_from_one in
          let high = c.column_to_end in
          let row = c.row in
          let size = length_grid m n f in
          let inside = row_place in
          let following : (i + 1 - 1) * n ≡ suc (i - 1) * n = ap (λ (k : ℕ). k * n) (let z : i + 1 - 1 ≡ suc (i - 1) = omega arith in z) in
          record {
            row_from_one = omega arith;
            row_to_end = omega arith;
            at_place = omega (arith, suc-mul (i - 1) n);
            so_far = c.so_far ∙ written_over next (omega arith) (omega arith);
          }

      pub grid_end : m < i → r ≡ grid m n f ++ drop (m * n) b
      grid_end h =
          let high = a.row_to_end in
          let whole : place ≡ m * n = a.at_place ∙ ap (λ (k : ℕ). k * n) (let z : i - 1 ≡ m = omega arith in z) in
          a.so_far ∙ written_all (grid m n f) b place (whole ∙ sym (length_grid m n f)) ∙ ap (λ (p : ℕ). grid m n f ++ drop p b) whole
