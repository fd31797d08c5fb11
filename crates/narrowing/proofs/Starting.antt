-- The rows that a search starts with: every element at first, then the candidates, then those of the same colour. No embedding among the candidates is lost.
-- Assumes nothing.
use mathlib.Core.Path.{◌≡◌, refl, sym, ap, ap₂, subst, ◌∙◌}
use mathlib.Core.Bool.{Bool, true, cond, ◌&&◌}
use mathlib.Core.Logic.{◌⊎◌, inl, inr}
use mathlib.Core.List.{List}
use Prim.Native.Nat.{ℕ, ◌+◌, ◌-◌, ◌≤◌}
use native.Mathlib.Omega.{arith}
use borrow.Author.Tests.{eq-eqb, ne_eqb}
use lib.ListN.{get_or-replicate}
use Rattle.semigroups.specs.Lists.{at}
use Rattle.semigroups.specs.Tables.{Product, product, Element, Filled}
use Rattle.semigroups.specs.InnerMaps.{Embedding, Among}
use Rattle.semigroups.proofs.Booleans.{both, equal_or_not}
use Rattle.colours.specs.InnerColours.{same_colour}
use Rattle.colours.proofs.Colours.{colour_sound}
use Rattle.rows.specs.declared.Row.{Row}
use Rattle.rows.specs.InnerRows.{in_row, has, word, packed_row, kept_rows}
use Rattle.rows.proofs.Rows.{row, in_packed_row}
use Rattle.rows.proofs.Turns.{kept_within}
use Rattle.fitting.specs.declared.Partial.{Partial}
use Rattle.fitting.specs.InnerPartial.{rows_in, full_rows, blank}
use Rattle.narrowing.specs.InnerState.{start_rows}

-- ---- rows with every element

full_row : row 1152921504606846975 1152921504606846975 ≡ packed_row 120 (λ _. true)
unfolding packed_row word
full_row = refl

pub all_left : (c y : ℕ) → Element 120 c → Element 120 y → has full_rows c y ≡ true
unfolding has at
all_left c y hc hy =
    let low = get_or-replicate {A = ℕ} 240 (c - 1) 1152921504606846975 0 (omega arith) in
    let high = get_or-replicate {A = ℕ} 240 (120 + c - 1) 1152921504606846975 0 (omega arith) in
    ap₂ (λ (a b : ℕ). in_row (row a b) y) low high ∙ ap (λ (r : Row). in_row r y) full_row ∙ in_packed_row 120 (λ _. true) y hy

-- ---- the candidates

module _ (m n : ℕ) (lm : m ≤ 120) (ln : n ≤ 120) (candidate : ℕ → ℕ → Bool) where
  -- Rows that had every element have exactly the candidates.
  pub rows_marked : (c y : ℕ) → Element m c → Element n y → has (kept_rows m n candidate full_rows) c y ≡ candidate c y
  rows_marked c y hc hy = kept_within m n candidate lm ln full_rows c y hc hy ∙ ap (λ (b : Bool). b && candidate c y) (all_left c y (omega arith) (omega arith))

-- ---- the start

module _ (m : ℕ) (source : List ℕ) (n : ℕ) (target : List ℕ) (S : Filled m source) (T : Filled n target) (candidate : ℕ → ℕ → Bool) where
  abbrev s : Product
  s = product m source

  abbrev t : Product
  t = product n target

  abbrev kept : List ℕ
  kept = kept_rows m n candidate full_rows

  pub same_order : m ≡ n → kept_rows n n (same_colour n s t) kept ≡ start_rows m s n t candidate
  unfolding start_rows
  same_order e = sym (ap (λ (b : Bool). cond b (kept_rows n n (same_colour n s t) kept) kept) (eq-eqb m n e))

  pub other_order : (m ≡ n → ⊥) → kept ≡ start_rows m s n t candidate
  unfolding start_rows
  other_order ne = sym (ap (λ (b : Bool). cond b (kept_rows n n (same_colour n s t) kept) kept) (ne_eqb m n ne))

  marked_kept : (f : List ℕ) → Embedding m s n t f → Among m candidate f → Among m (has kept) f
  marked_kept f F among c hc = rows_marked m n S.order.1 T.order.1 candidate c (at f c) hc (F.homomorphism.within c hc) ∙ among c hc

  coloured_kept : m ≡ n → (f : List ℕ) → Embedding m s n t f → Among m candidate f → Among m (has (kept_rows n n (same_colour n s t) kept)) f
  coloured_kept e f F among c hc =
      let w = F.homomorphism.within c hc in
      let ln = T.order.1 in
      kept_within n n (same_colour n s t) ln ln kept c (at f c) (subst (λ (k : ℕ). Element k c) e hc) w
      ∙ both (has kept c (at f c)) (same_colour n s t c (at f c)) (marked_kept f F among c hc) (of_one_colour e c hc)
    where
      of_one_colour : m ≡ n → (c : ℕ) → Element m c → same_colour n s t c (at f c) ≡ true
      of_one_colour q =
          subst (λ (k : ℕ). Filled k source → Embedding k (product k source) n t f → (c : ℕ) → Element k c → same_colour n (product k source) t c (at f c) ≡ true) (sym q)
          (λ S' F' c hc. colour_sound n source target S' T f F' c hc) S F

  -- No embedding among the candidates is lost.
  pub start_covers : (p : Partial) → p ≡ blank (start_rows m s n t candidate) → (f : List ℕ) → Embedding m s n t f → Among m candidate f → Among m (rows_in p) f
  start_covers p e f F among = subst (λ (q : Partial). Among m (rows_in q) f) (sym e) (go (equal_or_not m n))
    where
      go : (m ≡ n) ⊎ (m ≡ n → ⊥) → Among m (has (start_rows m s n t candidate)) f
      go (inl q) = subst (λ (l : List ℕ). Among m (has l) f) (same_order q) (coloured_kept q f F among)
      go (inr ne) = subst (λ (l : List ℕ). Among m (has l) f) (other_order ne) (marked_kept f F among)
