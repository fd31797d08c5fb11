-- Rows changed in turn: what is left of each row, step by step. Assumes nothing.
use mathlib.Core.Path.{◌≡◌, refl, sym, ap, ap₂, ◌∙◌, subst}
use mathlib.Core.Bool.{Bool, true, false, ◌&&◌, cond}
use mathlib.Core.Logic.{◌⊎◌, inl, inr, ◌↔◌}
use mathlib.Core.List.{List}
use Prim.Native.Nat.{ℕ, zero, suc, ◌+◌, ◌-◌, ◌≤◌, ◌<◌, min}
use native.Mathlib.Omega.{arith}
use borrow.Author.Tests.{le-leb, leb-true}
use lib.Dec.{leb}
use Rattle.semigroups.specs.Tables.{Element}
use Rattle.semigroups.proofs.Booleans.{both, and_left, and_right, same_truth, either, clash, equal_or_not}
use Rattle.rows.specs.declared.Row.{Row}
use Rattle.rows.specs.InnerRows.{has, packed_row, masked, Shrinks, stepwise, kept_rows, cut_rows}
use Rattle.rows.proofs.Words.{word_same}
use Rattle.rows.proofs.Rows.{row, all_packed_row, shrinks_none, shrinks_more}
use Rattle.rows.proofs.Raising.{CutAt, row_cut}

-- ---- step by step, as in a loop

module _ (step : ℕ → List ℕ → List ℕ) (old : List ℕ) where
  -- The step for row c is made.
  pub turn_next : (c : ℕ) (rows new : List ℕ) → 1 ≤ c → rows ≡ stepwise step (c - 1) old → new ≡ step c rows → new ≡ stepwise step (c + 1 - 1) old
  unfolding stepwise
  turn_next c rows new h e s =
      s ∙ ap₂ step (let z : c ≡ suc (c - 1) = omega arith in z) e ∙ ap (λ (k : ℕ). stepwise step k old) (let z : suc (c - 1) ≡ c + 1 - 1 = omega arith in z)

  -- The steps for all m rows are made.
  pub turn_end : (m c : ℕ) (rows : List ℕ) → m < c → c ≤ m + 1 → rows ≡ stepwise step (c - 1) old → rows ≡ stepwise step m old
  turn_end m c rows h l e = e ∙ ap (λ (k : ℕ). stepwise step k old) (let z : c - 1 ≡ m = omega arith in z)

-- Before the first row nothing has changed.
pub turn_start : (step : ℕ → List ℕ → List ℕ) (old : List ℕ) → old ≡ stepwise step (1 - 1) old
unfolding stepwise
turn_start step old = refl

module _ (chosen : ℕ → Bool) (cut : List ℕ → ℕ → List ℕ) (old : List ℕ) (c : ℕ) (rows new : List ℕ) (h : 1 ≤ c) (e : rows ≡ cut_rows (c - 1) chosen cut old) where
  pub turn_cut : chosen c ≡ true → new ≡ cut rows c → new ≡ cut_rows (c + 1 - 1) chosen cut old
  turn_cut o s = turn_next (λ k l. cond (chosen k) (cut l k) l) old c rows new h e (s ∙ sym (ap (λ (b : Bool). cond b (cut rows c) rows) o))

  pub turn_skip : chosen c ≡ false → new ≡ rows → new ≡ cut_rows (c + 1 - 1) chosen cut old
  turn_skip o s = turn_next (λ k l. cond (chosen k) (cut l k) l) old c rows new h e (s ∙ sym (ap (λ (b : Bool). cond b (cut rows c) rows) o))

-- If no row is chosen, none is cut.
pub none_chosen : (m : ℕ) (chosen : ℕ → Bool) (cut : List ℕ → ℕ → List ℕ) → ((c : ℕ) → Element m c → chosen c ≡ false) → (rows : List ℕ) → cut_rows m chosen cut rows ≡ rows
unfolding stepwise
none_chosen zero chosen cut none rows = refl
none_chosen (suc m) chosen cut none rows =
    let before = cut_rows m chosen cut rows in
    ap (λ (b : Bool). cond b (cut before (suc m)) before) (none (suc m) (omega arith)) ∙ none_chosen m chosen cut (λ c h. none c (omega arith)) rows

-- ---- what is left

-- Of the elements 1 to 120, each of the first m rows keeps those of its own that pass, and no other row changes.
abbrev pub CutTo : ℕ → (ℕ → ℕ → Type 0) → (ℕ → ℕ → Bool) → (ℕ → ℕ → Bool) → Type 0
CutTo m Passes old new = (d y : ℕ) → Element 120 d → Element 120 y → (new d y ≡ true) ↔ ((old d y ≡ true) × (d ≤ m → Passes d y))

module _ (step : ℕ → List ℕ → List ℕ) where
  -- If each step cuts one row, all of them cut the first m rows.
  pub turns_cut : (Passes : ℕ → ℕ → Type 0) (m : ℕ) → ((c : ℕ) (rows : List ℕ) → Element m c → CutAt c (Passes c) (has rows) (has (step c rows))) → (rows : List ℕ) → CutTo m Passes (has rows) (has (stepwise step m rows))
  unfolding stepwise
  turns_cut Passes zero each rows d y hd hy = ((λ e. (e, λ h. absurd (let z : ⊥ = omega arith in z))), λ e. e.0)
  turns_cut Passes (suc m) each rows d y hd hy =
      let before = turns_cut Passes m (λ c l h. each c l (omega arith)) rows d y hd hy in
      let last = each (suc m) (stepwise step m rows) (omega arith) d y hd hy in (
        (λ e. ((before.0 (last.0 e).0).0, λ h. passes (last.0 e).1 (before.0 (last.0 e).0).1 h (equal_or_not d (suc m)))),
        λ e. last.1 (before.1 (e.0, λ h. e.1 (omega arith)), λ q. subst (λ (k : ℕ). Passes k y) q (e.1 (omega arith))),
      )
    where
      passes : (d ≡ suc m → Passes (suc m) y) → (d ≤ m → Passes d y) → d ≤ suc m → (d ≡ suc m) ⊎ (d ≡ suc m → ⊥) → Passes d y
      passes one others h (inl q) = subst (λ (k : ℕ). Passes k y) (sym q) (one q)
      passes one others h (inr ne) = others (omega arith)

  -- If no step adds a bit, all of them add none.
  turns_shrink : (m : ℕ) → ((c : ℕ) (rows : List ℕ) → Element m c → Shrinks rows (step c rows)) → (rows : List ℕ) → Shrinks rows (stepwise step m rows)
  unfolding stepwise
  turns_shrink zero each rows = shrinks_none rows
  turns_shrink (suc m) each rows =
      shrinks_more (stepwise step m rows) (step (suc m) (stepwise step m rows)) rows (turns_shrink m (λ c l h. each c l (omega arith)) rows) (each (suc m) (stepwise step m rows) (omega arith))

module _ (chosen : ℕ → Bool) (cut : List ℕ → ℕ → List ℕ) (m : ℕ) (lm : m ≤ 120) where
  -- Each chosen row keeps those of its elements that pass, and the other rows stay as they are.
  pub chosen_cut : (P : ℕ → ℕ → Type 0) → ((rows : List ℕ) (c : ℕ) → Element 120 c → CutAt c (P c) (has rows) (has (cut rows c))) → (rows : List ℕ) → CutTo m (λ d y. chosen d ≡ true → P d y) (has rows) (has (cut_rows m chosen cut rows))
  chosen_cut P each = turns_cut (λ c rows. cond (chosen c) (cut rows c) rows) (λ d y. chosen d ≡ true → P d y) m (λ c rows hc. one c rows hc (either (chosen c)))
    where
      one : (c : ℕ) (rows : List ℕ) → Element m c → (chosen c ≡ true) ⊎ (chosen c ≡ false) → CutAt c (λ y. chosen c ≡ true → P c y) (has rows) (has (cond (chosen c) (cut rows c) rows))
      one c rows hc (inl o) =
          subst (λ (l : List ℕ). CutAt c (λ y. chosen c ≡ true → P c y) (has rows) (has l)) (sym (ap (λ (b : Bool). cond b (cut rows c) rows) o))
          (λ d y hd hy. let E = each rows c (omega arith) d y hd hy in ((λ e. ((E.0 e).0, λ q _. (E.0 e).1 q)), λ e. E.1 (e.0, λ q. e.1 q o)))
      one c rows hc (inr o) =
          subst (λ (l : List ℕ). CutAt c (λ y. chosen c ≡ true → P c y) (has rows) (has l)) (sym (ap (λ (b : Bool). cond b (cut rows c) rows) o))
          (λ d y hd hy. ((λ e. (e, λ q t. absurd (clash t o))), λ e. e.0))

  pub chosen_shrink : ((rows : List ℕ) (c : ℕ) → Element 120 c → Shrinks rows (cut rows c)) → (rows : List ℕ) → Shrinks rows (cut_rows m chosen cut rows)
  chosen_shrink each = turns_shrink (λ c rows. cond (chosen c) (cut rows c) rows) m (λ c rows hc. one c rows hc (either (chosen c)))
    where
      one : (c : ℕ) (rows : List ℕ) → Element m c → (chosen c ≡ true) ⊎ (chosen c ≡ false) → Shrinks rows (cond (chosen c) (cut rows c) rows)
      one c rows hc (inl o) = subst (Shrinks rows) (sym (ap (λ (b : Bool). cond b (cut rows c) rows) o)) (each rows c (omega arith))
      one c rows hc (inr o) = subst (Shrinks rows) (sym (ap (λ (b : Bool). cond b (cut rows c) rows) o)) (shrinks_none rows)

-- ---- rows that keep what passes a test

-- Two tests that agree on n elements give the same row.
pub packed_same : (n : ℕ) (p q : ℕ → Bool) → ((y : ℕ) → Element n y → p y ≡ q y) → packed_row n p ≡ packed_row n q
unfolding packed_row
packed_same n p q same = ap₂ row (word_same p q 1 (min n 60) (λ j h. same (1 + j) (omega arith))) (word_same p q 61 (n - 60) (λ j h. same (61 + j) (omega arith)))

-- A row masked by a packed row keeps those of its elements that pass.
pub packed_cut : (n : ℕ) (p : ℕ → Bool) (rows : List ℕ) (c : ℕ) → Element 120 c → CutAt c (λ y. (leb y n && p y) ≡ true) (has rows) (has (masked rows c (packed_row n p)))
packed_cut n p rows c hc = row_cut rows c (λ y. (leb y n && p y) ≡ true) hc (packed_row n p) (λ y hy _. let same = all_packed_row n p y hy in ((λ e. sym same ∙ e), λ e. same ∙ e))

-- Two tests that agree on the first m rows and on n elements leave the same rows.
pub kept_same : (m n : ℕ) (p q : ℕ → ℕ → Bool) → ((c y : ℕ) → Element m c → Element n y → p c y ≡ q c y) → (rows : List ℕ) → kept_rows m n p rows ≡ kept_rows m n q rows
unfolding stepwise
kept_same zero n p q same rows = refl
kept_same (suc m) n p q same rows =
    ap₂ (λ (l : List ℕ) (r : Row). masked l (suc m) r) (kept_same m n p q (λ c y hc hy. same c y (omega arith) hy) rows) (packed_same n (p (suc m)) (q (suc m)) (λ y hy. same (suc m) y (omega arith) hy))

module _ (m n : ℕ) (p : ℕ → ℕ → Bool) where
  -- Of the elements 1 to 120, each of the first m rows has exactly those of its own that are at most n and pass; the rows above m have theirs.
  abbrev pub KeepsExactly : (ℕ → ℕ → Bool) → (ℕ → ℕ → Bool) → Type 0
  KeepsExactly old new = (c y : ℕ) → Element 120 c → Element 120 y → new c y ≡ (old c y && cond (leb c m) (leb y n && p c y) true)

  pub kept_exactly : m ≤ 120 → (rows : List ℕ) → KeepsExactly (has rows) (has (kept_rows m n p rows))
  kept_exactly lm rows c y hc hy =
      same_truth (has (kept_rows m n p rows) c y) (has rows c y && cond (leb c m) (leb y n && p c y) true)
      (λ e. let L = left.0 e in both (has rows c y) (cond (leb c m) (leb y n && p c y) true) L.0 (passes_if (leb c m) (λ t. L.1 (leb-true c m t))))
      (λ e. left.1 (and_left (has rows c y) (cond (leb c m) (leb y n && p c y) true) e, λ h. sym (ap (λ (b : Bool). cond b (leb y n && p c y) true) (le-leb c m h)) ∙ and_right (has rows c y) (cond (leb c m) (leb y n && p c y) true) e))
    where
      passes_if : (b : Bool) → (b ≡ true → (leb y n && p c y) ≡ true) → cond b (leb y n && p c y) true ≡ true
      passes_if true h = h refl
      passes_if false h = refl

      left : (has (kept_rows m n p rows) c y ≡ true) ↔ ((has rows c y ≡ true) × (c ≤ m → (leb y n && p c y) ≡ true))
      left = turns_cut (λ d l. masked l d (packed_row n (p d))) (λ d z. (leb z n && p d z) ≡ true) m (λ d l hd. packed_cut n (p d) l d (omega arith)) rows c y hc hy

  -- What is left in the first m rows of the elements 1 to n.
  pub kept_within : m ≤ 120 → n ≤ 120 → (rows : List ℕ) (c y : ℕ) → Element m c → Element n y → has (kept_rows m n p rows) c y ≡ (has rows c y && p c y)
  kept_within lm ln rows c y hc hy =
      kept_exactly lm rows c y (omega arith) (omega arith) ∙ ap₂ (λ (a b : Bool). has rows c y && cond a (b && p c y) true) (le-leb c m hc.1) (le-leb y n hy.1)
