-- What a placing leaves of the rows, and what rows must not lose. A row holds the target elements that are left for a source element. Assumes nothing.
use Rattle.std.specs.Prelude.{◌≡◌, Bool, true, false, ◌&&◌, cond, List, ℕ, ◌+◌, eqb}
use Rattle.semigroups.specs.Lists.{at}
use Rattle.semigroups.specs.Tables.{Product, Element}
use Rattle.semigroups.specs.InnerMaps.{Embedding, Among}
use Rattle.rows.specs.InnerRows.{in_row, row_of, has, packed_row, same_row, is_inside, is_empty, masked, Only, Forced}
use Rattle.rows.specs.declared.Row.{Row}
use Rattle.propagation.specs.declared.Narrowing.{Narrowing}

-- The weight if the two are equal, else 0.
unfoldable pub digit : ℕ → ℕ → ℕ → ℕ
digit a b weight = cond (eqb a b) weight 0

-- Which of a, b and their products ab and ba are equal, as a number. Two pairs look alike if their numbers are equal.
unfoldable pub pattern : ℕ → ℕ → ℕ → ℕ → ℕ
pattern a b ab ba = (digit a b 1 + digit ab b 2) + (digit ba b 4 + digit ab ba 8) + (digit ab a 16 + digit ba a 32)

-- Whether placing x for l leaves y for c: the products of x and y, on both sides, are left for those of l and c, and the two pairs look alike.
unfoldable pub narrowed : Product → Product → (ℕ → ℕ → Bool) → ℕ → ℕ → ℕ → ℕ → Bool
narrowed s t rows l x c y =
    let alike = eqb (pattern x y (t x y) (t y x)) (pattern l c (s l c) (s c l)) in
    let products = rows (s l c) (t x y) && (rows (s c l) (t y x) && alike) in
    rows c y && products

-- The test of `narrowed` for y, where `left` and `right` are the rows of l·c and c·l, and `looks` is the pattern of l and c.
unfoldable pub stays : Product → ℕ → ℕ → Row → Row → ℕ → Bool
stays t x looks left right y = in_row left (t x y) && (in_row right (t y x) && eqb (pattern x y (t x y) (t y x)) looks)

-- What placing x leaves of a row: those of its n elements that pass `stays`.
unfoldable pub staying : ℕ → Product → ℕ → ℕ → Row → Row → Row → Row
staying n t x looks left right old = packed_row n (λ y. in_row old y && stays t x looks left right y)

-- The narrowing of a row without elements.
abbrev pub of_nothing : Narrowing
of_nothing = let none : Row = record { lo = 0; hi = 0 } in record { looks = 0; left = none; right = none; old = none; kept = none }

-- What a narrowing says that it kept is what placing x leaves.
abbrev pub Right : ℕ → Product → ℕ → Narrowing → Type 0
Right n t x last = last.kept ≡ staying n t x last.looks last.left last.right last.old

-- Whether the pattern and the two rows are those of a narrowing, and all elements of the row `old` were in the row that it narrowed.
unfoldable pub decides : Narrowing → ℕ → Row → Row → Row → Bool
decides last looks left right old =
    eqb looks last.looks && (same_row left last.left && (same_row right last.right && is_inside old last.old))

-- The narrowing of row c by placing x for l.
abbrev pub narrowing : Product → ℕ → Product → List ℕ → ℕ → ℕ → ℕ → Narrowing
narrowing s n t rows l x c =
    record {
      looks = pattern l c (s l c) (s c l);
      left = row_of rows (s l c);
      right = row_of rows (s c l);
      old = row_of rows c;
      kept = packed_row n (narrowed s t (has rows) l x c);
    }

-- The map f begins with the first `len` images.
abbrev pub Begins : List ℕ → List ℕ → ℕ → Type 0
Begins f image len = (i : ℕ) → Element len i → at f i ≡ at image i

-- The first `len` images are elements.
abbrev pub Images : ℕ → List ℕ → ℕ → Type 0
Images n image len = (i : ℕ) → Element len i → Element n (at image i)

-- The new rows lose no embedding that begins with the images and is among the old rows.
abbrev pub Keeps : ℕ → Product → ℕ → Product → List ℕ → ℕ → (ℕ → ℕ → Bool) → (ℕ → ℕ → Bool) → Type 0
Keeps m s n t image len old new = (f : List ℕ) → Embedding m s n t f → Begins f image len → Among m old f → Among m new f

-- The rows of the products of l with the first k elements, on both sides, have at most the products of their images.
abbrev pub Multiplied : Product → Product → List ℕ → ℕ → ℕ → List ℕ → Type 0
Multiplied s t image l k rows = (i : ℕ) → Element k i → Only rows (s i l) (t (at image i) (at image l)) × Only rows (s l i) (t (at image l) (at image i))

-- The rows once, for each element before j in turn, the rows of its products with l, on both sides, keep at most the products of the images.
pub data MultipliedBefore (s t : Product) (image : List ℕ) (l : ℕ) (rows : List ℕ) : ℕ → List ℕ → Type 0 where
  begun : MultipliedBefore s t image l rows 1 rows
  further : (j : ℕ) (mid one newRows : List ℕ) → MultipliedBefore s t image l rows j mid → Forced (s j l) (t (at image j) (at image l)) mid one → Forced (s l j) (t (at image l) (at image j)) one newRows
      → MultipliedBefore s t image l rows (j + 1) newRows

-- What is left after placing x for l passes `narrowed` over the old rows.
abbrev pub Narrows : ℕ → Product → ℕ → Product → ℕ → ℕ → (ℕ → ℕ → Bool) → (ℕ → ℕ → Bool) → Type 0
Narrows m s n t l x old new = (c y : ℕ) → Element m c → Element n y → new c y ≡ true → narrowed s t old l x c y ≡ true

-- What the answer of a narrowing by x for l says of the rows that are left: "yes" only if each of the first m rows has at least one of n elements, "no" only if
-- `narrowed` leaves no element for some source element.
pub record KeptOrEmptied (m : ℕ) (s : Product) (n : ℕ) (t : Product) (l x : ℕ) (ok : Bool) (rows : ℕ → ℕ → Bool) : Type 0 where
  pub kept : ok ≡ true → (c : ℕ) → Element m c → (y : ℕ) × Element n y × (rows c y ≡ true)
  pub emptied : ok ≡ false → (c : ℕ) × Element m c × ((y : ℕ) → Element n y → narrowed s t rows l x c y ≡ false)

-- The rows after those of the source elements before c have been narrowed, one after another, by placing x for l: each keeps its elements that pass `narrowed`
-- over the rows as they are at that time, and at least one passes.
pub data NarrowedBefore (s : Product) (n : ℕ) (t : Product) (l x : ℕ) (rows : List ℕ) : ℕ → List ℕ → Type 0 where
  begun : NarrowedBefore s n t l x rows 1 rows
  further : (c : ℕ) (mid : List ℕ) (row : Row) → NarrowedBefore s n t l x rows c mid → row ≡ packed_row n (narrowed s t (has mid) l x c) → is_empty row ≡ false
      → NarrowedBefore s n t l x rows (c + 1) (masked mid c row)

-- The rows that a narrowing by x for l leaves: with "yes" the rows of all m source elements were narrowed in turn, with "no" only those before the first one
-- that would be left without an element.
pub record NarrowedInTurn (m : ℕ) (s : Product) (n : ℕ) (t : Product) (l x : ℕ) (rows : List ℕ) (ok : Bool) (newRows : List ℕ) : Type 0 where
  pub all : ok ≡ true → NarrowedBefore s n t l x rows (m + 1) newRows
  pub until : ok ≡ false → (c : ℕ) × Element m c × NarrowedBefore s n t l x rows c newRows × (is_empty (packed_row n (narrowed s t (has newRows) l x c)) ≡ true)
