-- Rows that hold one element alone, and what narrowing by them must not lose. Assumes nothing.
use Rattle.std.specs.Prelude.{◌≡◌, Bool, true, false, ◌⊎◌, Option, None, Some, List, ℕ, ◌+◌, ◌-◌, ◌≤◌, ◌<◌, set, replicate}
use Rattle.semigroups.specs.Lists.{at}
use Rattle.semigroups.specs.Tables.{Product, Element}
use Rattle.semigroups.specs.InnerMaps.{Embedding, Among}
use Rattle.rows.specs.InnerRows.{row_of, has, masked, single_row, Only}
use Rattle.rows.specs.InnerRoom.{small_roomy}
use Rattle.propagation.specs.InnerRows.{KeptOrEmptied, NarrowedInTurn}

-- The new rows lose no embedding that sends l to x and is among the old rows.
abbrev pub KeepsSending : ℕ → Product → ℕ → Product → ℕ → ℕ → (ℕ → ℕ → Bool) → (ℕ → ℕ → Bool) → Type 0
KeepsSending m s n t l x old new = (f : List ℕ) → Embedding m s n t f → at f l ≡ x → Among m old f → Among m new f

-- The new rows lose no embedding that is among the old rows, and if there is one the answer is true.
abbrev pub KeepsOrFails : ℕ → Product → ℕ → Product → (ℕ → ℕ → Bool) → Bool → (ℕ → ℕ → Bool) → Type 0
KeepsOrFails m s n t old ok new = (f : List ℕ) → Embedding m s n t f → Among m old f → (ok ≡ true) × Among m new f

-- The element that row c holds alone.
pub record Lone (rows : List ℕ) (c : ℕ) : Type 0 where
  pub image : ℕ
  pub element : Element 120 image
  pub row : row_of rows c ≡ single_row image

-- The rows once row a·b keeps at most the product y·z, and then row b·a at most the product z·y.
abbrev pub forced_both : Product → Product → ℕ → ℕ → ℕ → ℕ → List ℕ → List ℕ
forced_both s t a y b z rows = masked (masked rows (s a b) (single_row (t y z))) (s b a) (single_row (t z y))

-- If row c holds one of n elements alone, the rows of its products with l, on both sides, keep at most the products of that element with x; otherwise no row
-- changes.
pub record ForcedWith (s : Product) (n : ℕ) (t : Product) (l x c : ℕ) (rows newRows : List ℕ) : Type 0 where
  pub alone : (y : ℕ) → Element n y → row_of rows c ≡ single_row y → newRows ≡ forced_both s t l x c y rows
  pub otherwise : ((y : ℕ) → Element n y → row_of rows c ≡ single_row y → ⊥) → newRows ≡ rows

-- The rows are those that `ForcedWith` leaves for each source element before c in turn.
pub data ForcedBefore (s : Product) (n : ℕ) (t : Product) (l x : ℕ) (rows : List ℕ) : ℕ → List ℕ → Type 0 where
  begun : ForcedBefore s n t l x rows 1 rows
  further : (c : ℕ) (mid newRows : List ℕ) → ForcedBefore s n t l x rows c mid → ForcedWith s n t l x c mid newRows → ForcedBefore s n t l x rows (c + 1) newRows

-- What placing x for l leaves of rows in which the products of x have been forced, and the answer. If each of the m rows with fewer than two elements has
-- room for the rows inside it, the rows are narrowed in turn, and the answer says what `KeptOrEmptied` says. Otherwise the answer is "no" and no row changes.
pub record NarrowedWithRoom (m : ℕ) (s : Product) (n : ℕ) (t : Product) (l x : ℕ) (rows : List ℕ) (ok : Bool) (newRows : List ℕ) : Type 0 where
  pub in_turn_law : small_roomy rows m ≡ true → NarrowedInTurn m s n t l x rows ok newRows × KeptOrEmptied m s n t l x ok (has newRows)
  pub crowded : small_roomy rows m ≡ false → (ok ≡ false) × (newRows ≡ rows)

-- What the answer of narrowing by row l says of the rows that it leaves. If the row holds one of n elements alone, the products are forced, and then
-- `NarrowedWithRoom` says what placing that element for l leaves, and with which answer. Otherwise the answer is "yes" and no row changes.
pub record KeptOrEmptiedFrom (m : ℕ) (s : Product) (n : ℕ) (t : Product) (l : ℕ) (rows : List ℕ) (ok : Bool) (newRows : List ℕ) : Type 0 where
  pub alone : (x : ℕ) → Element n x → row_of rows l ≡ single_row x → (mid : List ℕ) × ForcedBefore s n t l x rows (m + 1) mid × NarrowedWithRoom m s n t l x mid ok newRows
  pub otherwise : ((x : ℕ) → Element n x → row_of rows l ≡ single_row x → ⊥) → (ok ≡ true) × (newRows ≡ rows)

-- The answer is whether row c holds one element alone and its mark of use is 0.
pub record Waits (rows used : List ℕ) (c : ℕ) (r : Bool) : Type 0 where
  pub unused : r ≡ true → at used c ≡ 0
  pub lone : r ≡ true → Lone rows c
  pub none : r ≡ false → at used c ≡ 0 → Lone rows c → ⊥

-- The number is that of the first of m elements whose row holds one element alone and whose mark of use is 0, or 0 if there is none.
pub record NextLone (rows used : List ℕ) (m r : ℕ) : Type 0 where
  pub most : r ≤ m
  pub waits : 1 ≤ r → (at used r ≡ 0) × Lone rows r
  pub before : (c : ℕ) → Element m c → (1 ≤ r → c < r) → at used c ≡ 0 → Lone rows c → ⊥

-- The answer is that number, or none in place of 0.
abbrev pub NextIs : List ℕ → List ℕ → ℕ → Option ℕ → Type 0
NextIs rows used m None = NextLone rows used m 0
NextIs rows used m (Some c) = (1 ≤ c) × NextLone rows used m c

-- The rows after narrowing by rows that hold one element alone: each time by the first such row that is not used yet; `used` marks those that were used.
pub data PropagatedBy (m : ℕ) (s : Product) (n : ℕ) (t : Product) (rows : List ℕ) : List ℕ → List ℕ → Type 0 where
  begun : PropagatedBy m s n t rows (replicate 120 0) rows
  further : (used mid newRows : List ℕ) (l : ℕ) → PropagatedBy m s n t rows used mid → 1 ≤ l → NextLone mid used m l → KeptOrEmptiedFrom m s n t l mid true newRows
      → PropagatedBy m s n t rows (set used (l - 1) 1) newRows

-- What the answer of narrowing by each row that holds one element alone says of the rows that it leaves. Where no row held one of n elements alone, the
-- answer is "yes" and no row changes. Otherwise it is "yes" only if each of the first m rows has at least one of n elements. It is "no" only if some row has
-- at most one element, and either placing that one leaves no element for some source element, or some row with fewer than two elements has no room for the
-- rows inside it. The rows are narrowed by the rows that hold one element alone, one after another: with "yes" until each has been used, with "no" until
-- narrowing by one of them has the answer "no".
pub record KeptOrEmptiedByAll (m : ℕ) (s : Product) (n : ℕ) (t : Product) (rows : List ℕ) (ok : Bool) (newRows : List ℕ) : Type 0 where
  pub kept : ok ≡ true → (l x : ℕ) → Element m l → Element n x → row_of rows l ≡ single_row x → (c : ℕ) → Element m c → (y : ℕ) × Element n y × (has newRows c y ≡ true)
  pub emptied : ok ≡ false → (l : ℕ) × (x : ℕ) × Element m l × Element n x × Only newRows l x × (KeptOrEmptied m s n t l x false (has newRows) ⊎ (small_roomy newRows m ≡ false))
  pub otherwise : ((l x : ℕ) → Element m l → Element n x → row_of rows l ≡ single_row x → ⊥) → (ok ≡ true) × (newRows ≡ rows)
  pub all : ok ≡ true → (used : List ℕ) × PropagatedBy m s n t rows used newRows × NextLone newRows used m 0
  pub until : ok ≡ false → (used : List ℕ) × (mid : List ℕ) × (l : ℕ) × Element m l × PropagatedBy m s n t rows used mid × NextLone mid used m l × KeptOrEmptiedFrom m s n t l mid false newRows
