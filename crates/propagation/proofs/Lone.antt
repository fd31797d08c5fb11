-- Narrowing by rows that hold one element alone: no embedding among the rows is lost, each row is used once, and what is left at the end is narrowed by each
-- of them. Assumes nothing.
use mathlib.Core.Path.{◌≡◌, refl, sym, ap, ap₂, ◌∙◌, subst}
use mathlib.Core.Bool.{Bool, true, false, false≢true, cond}
use mathlib.Core.Logic.{◌⊎◌, inl, inr}
use mathlib.Core.List.{List}
use Prim.Native.Nat.{ℕ, ◌+◌, ◌-◌, ◌≤◌, ◌<◌}
use native.Mathlib.Omega.{arith}
use borrow.Author.Tests.{eqb-true, eq-eqb, ne_eqb}
use lib.Count.{ones}
use lib.Dec.{eqb}
use lib.ListN.{length, set, length-set, replicate, get_or-replicate, length-replicate}
use lib.Seq.{get_or-set_same, get_or-set_other}
use Rattle.semigroups.specs.Lists.{elements, at, count}
use Rattle.semigroups.specs.Tables.{Product, Element}
use Rattle.semigroups.specs.TablesLaws.{Closed}
use Rattle.semigroups.specs.InnerMaps.{Embedding, Among}
use Rattle.semigroups.proofs.Booleans.{either, unfalse, equal_or_not, at_most_or_above}
use Rattle.semigroups.proofs.Lists.{mem_elements}
use Rattle.semigroups.proofs.Sums.{sum_same, sum_add, count_element}
use Rattle.rows.specs.declared.Row.{Row}
use Rattle.rows.specs.InnerRows.{in_row, row_of, has, single_row, RowInside, Only, Shrinks, Forced}
use Rattle.rows.specs.InnerRoom.{small_roomy}
use Rattle.rows.proofs.Rows.{in_single, single_size, inside_single, inside_self, single_unique, shrinks_has, shrinks_none, shrinks_more, only_still}
use Rattle.propagation.specs.InnerRows.{Narrows, KeptOrEmptied}
use Rattle.propagation.specs.InnerLone.{KeepsOrFails, Lone, NextLone, NarrowedWithRoom, KeptOrEmptiedFrom, PropagatedBy, begun, further, KeptOrEmptiedByAll}
use Rattle.propagation.proofs.Narrowed.{narrowed_wider, forced_kept}

-- ---- an embedding among the rows

module _ (m : ℕ) (s : Product) (n : ℕ) (t : Product) (f : List ℕ) (F : Embedding m s n t f) (lm : m ≤ 120) (ln : n ≤ 120) where
  -- It sends an element to what its row holds alone.
  pub lone_image : (rows : List ℕ) → Among m (has rows) f → (c x : ℕ) → Element m c → Element 120 x → row_of rows c ≡ single_row x → at f c ≡ x
  unfolding has
  lone_image rows among c x hc hx e =
      let w = F.homomorphism.within c hc in
      eqb-true (at f c) x (sym (in_single x hx (at f c) (omega arith)) ∙ ap (λ (r : Row). in_row r (at f c)) (sym e) ∙ among c hc)

  pub product_kept : Closed m s → (rows newRows : List ℕ) (a y b z : ℕ) → Element m a → Element m b → at f a ≡ y → at f b ≡ z → Forced (s a b) (t y z) rows newRows
      → Among m (has rows) f → Among m (has newRows) f
  product_kept closed rows newRows a y b z ha hb ea eb =
      forced_kept m s n t f F lm ln rows newRows (s a b) (t y z) (closed a b ha hb) (F.homomorphism.keeps_product a b ha hb ∙ ap₂ t ea eb)

-- ---- rows narrowed if they have room

module _ (m : ℕ) (s : Product) (n : ℕ) (t : Product) (l x : ℕ) (rows newRows : List ℕ) where
  -- With "yes" each row keeps an element.
  kept_with_room : NarrowedWithRoom m s n t l x rows true newRows → (c : ℕ) → Element m c → (y : ℕ) × Element n y × (has newRows c y ≡ true)
  kept_with_room N = (N.in_turn_law (unfalse (small_roomy rows m) (λ e. false≢true (sym (N.crowded e).0)))).1.kept refl

  -- With "no" narrowing leaves no element for some source element, or some row with fewer than two elements has no room.
  failed_with_room : NarrowedWithRoom m s n t l x rows false newRows → KeptOrEmptied m s n t l x false (has newRows) ⊎ (small_roomy newRows m ≡ false)
  failed_with_room N = go (either (small_roomy rows m))
    where
      go : (small_roomy rows m ≡ true) ⊎ (small_roomy rows m ≡ false) → KeptOrEmptied m s n t l x false (has newRows) ⊎ (small_roomy newRows m ≡ false)
      go (inl e) = inl (N.in_turn_law e).1
      go (inr e) = inr (ap (λ (u : List ℕ). small_roomy u m) (N.crowded e).1 ∙ e)

-- ---- marks of use, each a number that is not 0

-- How many of m elements have no mark.
abbrev pub unused : ℕ → List ℕ → ℕ
unused m used = count (λ c. eqb (at used c) 0) (elements m)

module _ (used : List ℕ) (l mark : ℕ) (first : 1 ≤ l) (fits : l ≤ length used) (some : 1 ≤ mark) where
  abbrev pub marked_now : List ℕ
  marked_now = set used (l - 1) mark

  marked_here : eqb (at marked_now l) 0 ≡ false
  unfolding at
  marked_here = ap (λ (k : ℕ). eqb k 0) (get_or-set_same used (l - 1) mark 0 (omega arith)) ∙ ne_eqb mark 0 (omega arith)

  pub marked_other : (c : ℕ) → 1 ≤ c → (c ≡ l → ⊥) → at marked_now c ≡ at used c
  unfolding at
  marked_other c h ne = get_or-set_other used (l - 1) (c - 1) mark 0 (λ (e : c - 1 ≡ l - 1). ne (omega arith))

  -- With one mark more, one element fewer has none.
  pub one_fewer : (m : ℕ) → Element m l → at used l ≡ 0 → unused m used ≡ unused m marked_now + 1
  unfolding count
  one_fewer m hl e =
      sum_same (λ c. cond (eqb (at used c) 0) 1 0) (λ c. cond (eqb (at marked_now c) 0) 1 0 + cond (eqb l c) 1 0) (elements m) (λ c k. each c (mem_elements m c k) (equal_or_not c l))
      ∙ sum_add (λ c. cond (eqb (at marked_now c) 0) 1 0) (λ c. cond (eqb l c) 1 0) (elements m)
      ∙ ap (λ (k : ℕ). unused m marked_now + k) (count_element m l hl)
    where
      bit : Bool → ℕ
      bit b = cond b 1 0

      each : (c : ℕ) → Element m c → (c ≡ l) ⊎ (c ≡ l → ⊥) → bit (eqb (at used c) 0) ≡ bit (eqb (at marked_now c) 0) + bit (eqb l c)
      each c hc (inl q) =
          ap (λ (k : ℕ). bit (eqb (at used k) 0)) q ∙ ap (λ (k : ℕ). bit (eqb k 0)) e
          ∙ sym (ap (λ (k : ℕ). bit (eqb (at marked_now k) 0) + bit (eqb l k)) q ∙ ap₂ (λ (a b : Bool). bit a + bit b) marked_here (eq-eqb l l refl))
      each c hc (inr ne) =
          (let z : bit (eqb (at used c) 0) ≡ bit (eqb (at used c) 0) + 0 = omega arith in z)
          ∙ sym (ap₂ (λ (k : ℕ) (b : Bool). bit (eqb k 0) + bit b) (marked_other c hc.0 ne) (ne_eqb l c (λ q. ne (sym q))))

-- ---- narrowed by what row c holds alone

module _ (m : ℕ) (s : Product) (n : ℕ) (t : Product) (rows₀ : List ℕ) where
  -- Row c was used: it has at most the image that it held alone then, and the rows are narrowed by it.
  pub record Used (rows : List ℕ) (c : ℕ) : Type 0 where
    pub image : ℕ
    pub element : Element 120 image
    pub only : Only rows c image
    pub narrows : Element n image → Narrows m s n t c image (has rows₀) (has rows)

  -- Some row held one of n elements alone.
  pub record SomeLone : Type 0 where
    pub place : ℕ
    pub image : ℕ
    pub within : Element m place
    pub element : Element n image
    pub row : row_of rows₀ place ≡ single_row image

  -- What narrowing by the rows that were used did: nothing, since none of them held one of n elements alone; or some did, and each row keeps an element.
  pub data Effect (rows used : List ℕ) : Type 0 where
    untouched : rows ≡ rows₀ → ((c x : ℕ) → Element m c → (at used c ≡ 0 → ⊥) → Element n x → row_of rows₀ c ≡ single_row x → ⊥) → Effect rows used
    all_kept : SomeLone → ((c : ℕ) → Element m c → (y : ℕ) × Element n y × (has rows c y ≡ true)) → Effect rows used

  -- What holds while rows are used.
  pub record Propagating (rows used : List ℕ) : Type 0 where
    pub long : length used ≡ 120
    pub keeps : (f : List ℕ) → Embedding m s n t f → Among m (has rows₀) f → Among m (has rows) f
    pub shrinks : Shrinks rows₀ rows
    pub done : (c : ℕ) → Element m c → (at used c ≡ 0 → ⊥) → Used rows c
    pub effect : Effect rows used
    pub steps : PropagatedBy m s n t rows₀ used rows

module _ (m : ℕ) (s : Product) (n : ℕ) (t : Product) (closed : Closed m s) (lm : m ≤ 120) where
  narrows_still : (old : ℕ → ℕ → Bool) (rows newRows : List ℕ) → Shrinks rows newRows → (l x : ℕ) → Narrows m s n t l x old (has rows) → Narrows m s n t l x old (has newRows)
  narrows_still old rows newRows less l x N c y hc hy e = N c y hc hy (shrinks_has rows newRows less c y (omega arith) e)

  pub narrows_wider : (rows₀ rows : List ℕ) → Shrinks rows₀ rows → (l x : ℕ) → Element m l → (new : ℕ → ℕ → Bool) → Narrows m s n t l x (has rows) new → Narrows m s n t l x (has rows₀) new
  narrows_wider rows₀ rows less l x hl new N c y hc hy e = narrowed_wider m s t closed lm rows₀ rows less l x c y hl hc (N c y hc hy e)

  module _ (rows₀ : List ℕ) where
    abbrev UsedNow : List ℕ → ℕ → Type 0
    UsedNow rows c = Used m s n t rows₀ rows c

    used_still : (rows newRows : List ℕ) → Shrinks rows newRows → (c : ℕ) → Element m c → UsedNow rows c → UsedNow newRows c
    used_still rows newRows less c hc u =
        record {
          image = u.image;
          element = u.element;
          only = only_still rows newRows less c u.image (omega arith) u.only;
          narrows = λ h. narrows_still (has rows₀) rows newRows less c u.image (u.narrows h);
        }

    used_now : (rows newRows : List ℕ) → Shrinks rows₀ rows → Shrinks rows newRows → (l : ℕ) → Element m l → (w : Lone rows l)
        → ((x : ℕ) → Element n x → row_of rows l ≡ single_row x → Narrows m s n t l x (has rows) (has newRows)) → UsedNow newRows l
    used_now rows newRows before less l hl w N =
        record {
          image = w.image;
          element = w.element;
          only = only_still rows newRows less l w.image (omega arith) (subst (RowInside (row_of rows l)) w.row (inside_self (row_of rows l)));
          narrows = λ h. narrows_wider rows₀ rows before l w.image hl (has newRows) (N w.image h w.row);
        }

    pub propagating_start : Propagating m s n t rows₀ rows₀ (replicate 120 0)
    unfolding at
    propagating_start =
        record {
          long = length-replicate {A = ℕ} 120 0;
          keeps = λ f F h. h;
          shrinks = shrinks_none rows₀;
          done = λ c hc ne. absurd (ne (get_or-replicate {A = ℕ} 120 (c - 1) 0 0 (omega arith)));
          effect = untouched refl (λ c x hc ne hx e. ne (get_or-replicate {A = ℕ} 120 (c - 1) 0 0 (omega arith)));
          steps = begun;
        }

    module _ (rows used : List ℕ) (P : Propagating m s n t rows₀ rows used) where
      -- Row l is the next to be used.
      module _ (l : ℕ) (more : 1 ≤ l) (next : NextLone rows used m l) where
        pub next_element : Element m l
        next_element = (more, next.most)

        pub fewer : unused m used ≡ unused m (set used (l - 1) 1) + 1
        fewer = let h = next_element in let e = P.long in one_fewer used l 1 h.0 (omega arith) (omega arith) m h (next.waits h.0).0

        -- Row l holds one of n elements alone, or it does not.
        held : ((x : ℕ) × Element n x × (row_of rows l ≡ single_row x)) ⊎ ((x : ℕ) → Element n x → row_of rows l ≡ single_row x → ⊥)
        held = go (at_most_or_above w.image n)
          where
            w : Lone rows l
            w = (next.waits next_element.0).1

            go : (w.image ≤ n) ⊎ (n < w.image) → ((x : ℕ) × Element n x × (row_of rows l ≡ single_row x)) ⊎ ((x : ℕ) → Element n x → row_of rows l ≡ single_row x → ⊥)
            go (inl h) = inl (w.image, (w.element.0, h), w.row)
            go (inr h) = inr (λ x hx e. let within = w.element in let same : w.image ≡ x = single_unique w.image x w.element (omega arith) (sym w.row ∙ e) in omega arith)

        some_lone : (x : ℕ) → Element n x → row_of rows l ≡ single_row x → Effect m s n t rows₀ rows used → SomeLone m s n t rows₀
        some_lone x hx e (untouched same none) = record { place = l; image = x; within = next_element; element = hx; row = ap (λ (u : List ℕ). row_of u l) (sym same) ∙ e }
        some_lone x hx e (all_kept some each) = some

        effect_more : (newRows : List ℕ) → KeptOrEmptiedFrom m s n t l rows true newRows → Effect m s n t rows₀ newRows (set used (l - 1) 1)
        effect_more newRows told = go held
          where
            go : ((x : ℕ) × Element n x × (row_of rows l ≡ single_row x)) ⊎ ((x : ℕ) → Element n x → row_of rows l ≡ single_row x → ⊥) → Effect m s n t rows₀ newRows (set used (l - 1) 1)
            go (inl h) =
                let w = told.alone h.0 h.1 h.2 in
                all_kept (some_lone h.0 h.1 h.2 P.effect) (kept_with_room m s n t l h.0 w.0 newRows w.2)
            go (inr none) = still P.effect
              where
                same : newRows ≡ rows
                same = (told.otherwise none).1

                still : Effect m s n t rows₀ rows used → Effect m s n t rows₀ newRows (set used (l - 1) 1)
                still (all_kept some each) = all_kept some (subst (λ (u : List ℕ). (c : ℕ) → Element m c → (y : ℕ) × Element n y × (has u c y ≡ true)) (sym same) each)
                still (untouched q before) = untouched (same ∙ q) (λ c x hc ne hx e. each c x hc ne hx e (equal_or_not c l))
                  where
                    each : (c x : ℕ) → Element m c → (at (set used (l - 1) 1) c ≡ 0 → ⊥) → Element n x → row_of rows₀ c ≡ single_row x → (c ≡ l) ⊎ (c ≡ l → ⊥) → ⊥
                    each c x hc ne hx e (inl p) = none x hx (ap₂ row_of q (sym p) ∙ e)
                    each c x hc ne hx e (inr apart) =
                        let h = next_element in
                        let long = P.long in
                        before c x hc (λ z. ne (marked_other used l 1 h.0 (omega arith) (omega arith) c hc.0 apart ∙ z)) hx e

        -- Narrowing by row l would have left some row without an element, or some row with fewer than two elements has no room.
        pub told_no : (newRows : List ℕ) → Shrinks rows newRows → KeptOrEmptiedFrom m s n t l rows false newRows → KeptOrEmptiedByAll m s n t rows₀ false newRows
        told_no newRows less told = go held
          where
            go : ((x : ℕ) × Element n x × (row_of rows l ≡ single_row x)) ⊎ ((x : ℕ) → Element n x → row_of rows l ≡ single_row x → ⊥) → KeptOrEmptiedByAll m s n t rows₀ false newRows
            go (inr none) = absurd (false≢true (told.otherwise none).0)
            go (inl h) =
                let hl = next_element in
                let some = some_lone h.0 h.1 h.2 P.effect in
                let w = told.alone h.0 h.1 h.2 in
                record {
                  kept = λ e. absurd (false≢true e);
                  emptied = λ _. (l, h.0, hl, h.1, only_still rows newRows less l h.0 (omega arith) (subst (RowInside (row_of rows l)) h.2 (inside_self (row_of rows l))), failed_with_room m s n t l h.0 w.0 newRows w.2);
                  otherwise = λ none. absurd (none some.place some.image some.within some.element some.row);
                  all = λ e. absurd (false≢true e);
                  until = λ _. (used, rows, l, next_element, P.steps, next, told);
                }

        pub propagating_more : (newRows : List ℕ) → KeepsOrFails m s n t (has rows) true (has newRows) → Shrinks rows newRows
            → ((x : ℕ) → Element n x → row_of rows l ≡ single_row x → Narrows m s n t l x (has rows) (has newRows)) → KeptOrEmptiedFrom m s n t l rows true newRows
            → Propagating m s n t rows₀ newRows (set used (l - 1) 1)
        propagating_more newRows kept less N told =
            record {
              long = length-set used (l - 1) 1 ∙ P.long;
              keeps = λ f F h. (kept f F (P.keeps f F h)).1;
              shrinks = shrinks_more rows newRows rows₀ P.shrinks less;
              done = λ c hc ne. go c hc ne (equal_or_not c l);
              effect = effect_more newRows told;
              steps = further used rows newRows l P.steps more next told;
            }
          where
            go : (c : ℕ) → Element m c → (at (set used (l - 1) 1) c ≡ 0 → ⊥) → (c ≡ l) ⊎ (c ≡ l → ⊥) → UsedNow newRows c
            go c hc ne (inl q) =
                let h = next_element in
                subst (UsedNow newRows) (sym q) (used_now rows newRows P.shrinks less l h (next.waits h.0).1 N)
            go c hc ne (inr apart) =
                let h = next_element in
                let e = P.long in
                used_still rows newRows less c hc (P.done c hc (λ z. ne (marked_other used l 1 h.0 (omega arith) (omega arith) c hc.0 apart ∙ z)))

      -- No row is left to be used.
      module _ (none : NextLone rows used m 0) (ln : n ≤ 120) where
        -- Each row that holds one element alone has narrowed the others.
        pub all_narrowed : (c x : ℕ) → Element m c → Element n x → row_of rows c ≡ single_row x → Narrows m s n t c x (has rows₀) (has rows)
        all_narrowed c x hc hx e = go (equal_or_not (at used c) 0)
          where
            inside : Element 120 x
            inside = omega arith

            go : (at used c ≡ 0) ⊎ (at used c ≡ 0 → ⊥) → Narrows m s n t c x (has rows₀) (has rows)
            go (inl z) = absurd (none.before c hc (λ h. absurd (let w : ⊥ = omega arith in w)) z (record { image = x; element = inside; row = e }))
            go (inr ne) =
                let u = P.done c hc ne in
                let size : ones (row_of rows c).lo + ones (row_of rows c).hi ≡ 1 = ap (λ (r : Row). ones r.lo + ones r.hi) e ∙ single_size x inside in
                let same : u.image ≡ x = single_unique u.image x u.element inside (sym (inside_single u.image u.element (row_of rows c) u.only (omega arith)) ∙ e) in
                subst (λ (v : ℕ). Narrows m s n t c v (has rows₀) (has rows)) same (u.narrows (subst (Element n) (sym same) hx))

        -- Each row keeps an element, if some row held one of n elements alone.
        pub told_yes : KeptOrEmptiedByAll m s n t rows₀ true rows
        told_yes = go P.effect
          where
            used_all : (u : List ℕ) × PropagatedBy m s n t rows₀ u rows × NextLone rows u m 0
            used_all = (used, P.steps, none)

            go : Effect m s n t rows₀ rows used → KeptOrEmptiedByAll m s n t rows₀ true rows
            go (all_kept some each) =
                record {
                  kept = λ _ c x hc hx e. each;
                  emptied = λ e. absurd (false≢true (sym e));
                  otherwise = λ never. absurd (never some.place some.image some.within some.element some.row);
                  all = λ _. used_all;
                  until = λ e. absurd (false≢true (sym e));
                }
            go (untouched same before) =
                record {
                  kept = λ _ c x hc hx e. absurd (alone c x hc hx e (equal_or_not (at used c) 0));
                  emptied = λ e. absurd (false≢true (sym e));
                  otherwise = λ _. (refl, same);
                  all = λ _. used_all;
                  until = λ e. absurd (false≢true (sym e));
                }
              where
                alone : (c x : ℕ) → Element m c → Element n x → row_of rows₀ c ≡ single_row x → (at used c ≡ 0) ⊎ (at used c ≡ 0 → ⊥) → ⊥
                alone c x hc hx e (inl z) = none.before c hc (λ h. absurd (let w : ⊥ = omega arith in w)) z (record { image = x; element = omega arith; row = ap (λ (u : List ℕ). row_of u c) same ∙ e })
                alone c x hc hx e (inr ne) = before c x hc ne hx e
