-- Rows with fewer than two elements, gone through once: each has room exactly if no row is empty and no two rows hold the same element alone. Assumes
-- nothing.
use mathlib.Core.Path.{◌≡◌, sym, ap, ap₂, ◌∙◌, subst}
use mathlib.Core.Bool.{Bool, true, false, ◌||◌}
use mathlib.Core.Logic.{◌⊎◌, inl, inr, ⊎_elim}
use mathlib.Core.List.{List}
use Prim.Native.Nat.{ℕ, ◌+◌, ◌≤◌, ◌<◌}
use native.Mathlib.Omega.{arith}
use borrow.Author.Tests.{eqb-true, eq-eqb, le-leb, lt-leb}
use lib.Bits.{bit_or, and_zero_r}
use lib.Dec.{eqb, leb}
use Rattle.semigroups.specs.Lists.{elements, at, count}
use Rattle.semigroups.specs.Tables.{Element}
use Rattle.semigroups.proofs.Booleans.{clash, untrue, same_truth, at_most_or_above, equal_or_not, trichotomy}
use Rattle.semigroups.proofs.Lists.{each_at, each_of, mem_elements}
use Rattle.semigroups.proofs.Sums.{count_same, count_element}
use Rattle.rows.specs.declared.Row.{Row}
use Rattle.rows.specs.InnerRows.{row_of, RowInside}
use Rattle.rows.specs.InnerRoom.{lies_inside, inside_count, has_room, roomy, small_roomy}
use Rattle.rows.proofs.Few.{bits, Clear, inside_one, same_or_clear, not_clear, or_clear, clear_or}
use Rattle.rows.proofs.Room.{lies_in, same_inside, has_bit_law, no_other, room_at}

module _ (rows : List ℕ) where
  -- ---- what the small rows say of all

  module _ (m : ℕ) where
    pub small_room : small_roomy rows m ≡ true → (c : ℕ) → Element m c → bits (row_of rows c) < 2 → has_room rows m c ≡ true
    unfolding small_roomy
    small_room h c hc l = sym (ap (λ (b : Bool). b || has_room rows m c) (lt-leb 2 (bits (row_of rows c)) l)) ∙ each_at m (λ c. leb 2 (bits (row_of rows c)) || has_room rows m c) h c hc

    small_of : ((c : ℕ) → Element m c → bits (row_of rows c) < 2 → has_room rows m c ≡ true) → small_roomy rows m ≡ true
    unfolding small_roomy
    small_of h =
        each_of m (λ c. leb 2 (bits (row_of rows c)) || has_room rows m c) (λ c hc.
        ⊎_elim
        (λ (l : 2 ≤ bits (row_of rows c)). ap (λ (b : Bool). b || has_room rows m c) (le-leb 2 (bits (row_of rows c)) l))
        (λ (l : bits (row_of rows c) < 2). ap₂ ◌||◌ (lt-leb 2 (bits (row_of rows c)) l) (h c hc l))
        (at_most_or_above 2 (bits (row_of rows c))))

    pub small_fails : small_roomy rows m ≡ false → roomy rows m ≡ false
    small_fails e = untrue (roomy rows m) (λ r. clash {b = small_roomy rows m} (small_of (λ c hc l. room_at rows m r c hc)) e)

  -- ---- rows inside a row of one element

  -- A row of one element in which no other row lies has room.
  single_room : (m c : ℕ) → Element m c → bits (row_of rows c) ≡ 1 → ((b : ℕ) → Element m b → RowInside (row_of rows b) (row_of rows c) → b ≡ c) → has_room rows m c ≡ true
  unfolding has_room inside_count
  single_room m c hc one only =
      let test : ℕ → Bool = λ b. lies_inside rows b c in
      let same =
      count_same test (eqb c) (elements m)
      (λ b k. same_truth (test b) (eqb c b) (λ i. eq-eqb c b (sym (only b (mem_elements m b k) (lies_in rows b c i)))) (λ e. same_inside rows b c (ap (row_of rows) (sym (eqb-true c b e))))) in
      let once = count_element m c hc in
      le-leb (count test (elements m)) (bits (row_of rows c)) (omega arith)

  -- ---- rows gathered one after another

  -- Of the rows before c none is empty, no two hold the same element alone, and the two words have exactly the elements that are held alone.
  pub record Gathered (c lo hi : ℕ) : Type 0 where
    pub filled : (b : ℕ) → 1 ≤ b → b < c → 1 ≤ bits (row_of rows b)
    pub apart : (a b : ℕ) → 1 ≤ a → a < b → b < c → bits (row_of rows b) ≡ 1 → row_of rows a ≡ row_of rows b → ⊥
    pub told : (b : ℕ) → 1 ≤ b → b < c → bits (row_of rows b) ≡ 1 → Clear (row_of rows b) lo hi → ⊥
    pub held : (r : Row) → bits r ≡ 1 → Clear r lo hi ⊎ ((b : ℕ) × (1 ≤ b) × (b < c) × (row_of rows b ≡ r))

  pub gather_start : Gathered 1 0 0
  gather_start =
      record {
        filled = λ b h l. absurd (let z : ⊥ = omega arith in z);
        apart = λ a b h l k. absurd (let z : ⊥ = omega arith in z);
        told = λ b h l. absurd (let z : ⊥ = omega arith in z);
        held = λ r e. inl (and_zero_r r.lo, and_zero_r r.hi);
      }

  module _ (m c lo hi : ℕ) (hc : Element m c) where
    -- An empty row has no room.
    pub gather_empty : bits (row_of rows c) ≡ 0 → small_roomy rows m ≡ false
    gather_empty e =
        untrue (small_roomy rows m) (λ s. let h = has_bit_law rows m c hc (small_room m s c hc (omega arith)) in let z : ⊥ = omega arith in z)

    module _ (G : Gathered c lo hi) where
      -- If the one element of a row is gathered already, an earlier row holds it alone too.
      pub gather_again : bits (row_of rows c) ≡ 1 → (Clear (row_of rows c) lo hi → ⊥) → small_roomy rows m ≡ false
      gather_again one met = untrue (small_roomy rows m) (λ s. ⊎_elim met (again s) (G.held (row_of rows c) one))
        where
          again : small_roomy rows m ≡ true → (b : ℕ) × (1 ≤ b) × (b < c) × (row_of rows b ≡ row_of rows c) → ⊥
          again s w =
              let b1 = w.1 in
              let b2 = w.2 in
              let q = no_other rows m c hc (small_room m s c hc (omega arith)) w.0 (omega arith) w.3 one in
              omega arith

      -- Row c is looked at: if it has one element, this is not among those gathered before, and it is now.
      gather_row : (lo₂ hi₂ : ℕ) → 1 ≤ bits (row_of rows c) → (bits (row_of rows c) ≡ 1 → Clear (row_of rows c) lo hi) → (bits (row_of rows c) ≡ 1 → Clear (row_of rows c) lo₂ hi₂ → ⊥)
          → ((r : Row) → Clear r lo₂ hi₂ → Clear r lo hi) → ((r : Row) → bits r ≡ 1 → Clear r lo hi → Clear r lo₂ hi₂ ⊎ (row_of rows c ≡ r)) → Gathered (c + 1) lo₂ hi₂
      gather_row lo₂ hi₂ some fresh now-told more now-held =
          record {
            filled = λ b h l. ⊎_elim (λ (e : b ≡ c). subst (λ (k : ℕ). 1 ≤ bits (row_of rows k)) (sym e) some) (λ (ne : b ≡ c → ⊥). G.filled b h (omega arith)) (equal_or_not b c);
            apart = λ a b h l k one same.
                ⊎_elim
                (λ (e : b ≡ c).
                let one-c = subst (λ (i : ℕ). bits (row_of rows i) ≡ 1) e one in
                let same-c = subst (λ (i : ℕ). row_of rows a ≡ row_of rows i) e same in
                G.told a h (omega arith) (ap bits same-c ∙ one-c) (subst (λ (r : Row). Clear r lo hi) (sym same-c) (fresh one-c)))
                (λ (ne : b ≡ c → ⊥). G.apart a b h l (omega arith) one same) (equal_or_not b c);
            told = λ b h l one clear.
                ⊎_elim (λ (e : b ≡ c). now-told (subst (λ (i : ℕ). bits (row_of rows i) ≡ 1) e one) (subst (λ (i : ℕ). Clear (row_of rows i) lo₂ hi₂) e clear))
                (λ (ne : b ≡ c → ⊥). G.told b h (omega arith) one (more (row_of rows b) clear)) (equal_or_not b c);
            held = λ r one.
                ⊎_elim (λ (clear : Clear r lo hi). ⊎_elim inl (λ (e : row_of rows c ≡ r). inr (c, hc.0, omega arith, e)) (now-held r one clear))
                (λ (w : (b : ℕ) × (1 ≤ b) × (b < c) × (row_of rows b ≡ r)). let l = w.2 in inr (w.0, w.1, omega arith, w.3)) (G.held r one);
          }

      -- A row of several elements is passed over.
      pub gather_pass : 2 ≤ bits (row_of rows c) → Gathered (c + 1) lo hi
      gather_pass several =
          gather_row lo hi (omega arith) (λ one. absurd (let z : ⊥ = omega arith in z)) (λ one. absurd (let z : ⊥ = omega arith in z)) (λ r clear. clear) (λ r one clear. inl clear)

      -- A row of one element that is not gathered yet is added.
      pub gather_add : bits (row_of rows c) ≡ 1 → Clear (row_of rows c) lo hi → Gathered (c + 1) (bit_or lo (at rows c)) (bit_or hi (at rows (120 + c)))
      gather_add one fresh =
          gather_row (bit_or lo (at rows c)) (bit_or hi (at rows (120 + c))) (omega arith) (λ e. fresh) (λ e clear. not_clear (row_of rows c) (omega arith) (split (row_of rows c) clear).1)
          (λ r clear. (split r clear).0)
          (λ r e clear.
          ⊎_elim (λ (q : r ≡ row_of rows c). inr (sym q))
          (λ (k : Clear r (at rows c) (at rows (120 + c))). inl (or_clear r.lo lo (at rows c) clear.0 k.0, or_clear r.hi hi (at rows (120 + c)) clear.1 k.1))
          (same_or_clear r (row_of rows c) e one))
        where
          split : (r : Row) → Clear r (bit_or lo (at rows c)) (bit_or hi (at rows (120 + c))) → Clear r lo hi × Clear r (at rows c) (at rows (120 + c))
          split r clear =
              let l = clear_or r.lo lo (at rows c) clear.0 in
              let h = clear_or r.hi hi (at rows (120 + c)) clear.1 in
              ((l.0, h.0), (l.1, h.1))

  -- Once all rows are gathered, only the row itself lies inside a row of one element.
  pub gather_end : (m c lo hi : ℕ) → m < c → Gathered c lo hi → small_roomy rows m ≡ true
  gather_end m c lo hi all_done G = small_of m room
    where
      room : (d : ℕ) → Element m d → bits (row_of rows d) < 2 → has_room rows m d ≡ true
      room d hd l =
          let some = G.filled d hd.0 (omega arith) in
          single_room m d hd (omega arith) only
        where
          only : (b : ℕ) → Element m b → RowInside (row_of rows b) (row_of rows d) → b ≡ d
          only b hb i =
              let some = G.filled d hd.0 (omega arith) in
              let same = inside_one (row_of rows d) (row_of rows b) (omega arith) i (G.filled b hb.0 (omega arith)) in
              ⊎_elim (λ (e : b ≡ d). e)
              (λ (o : (b < d) ⊎ (d < b)).
              ⊎_elim (λ (k : b < d). absurd (G.apart b d hb.0 k (omega arith) (omega arith) same))
              (λ (k : d < b). absurd (G.apart d b hd.0 k (omega arith) (ap bits same ∙ omega arith) (sym same))) o)
              (trichotomy b d)
