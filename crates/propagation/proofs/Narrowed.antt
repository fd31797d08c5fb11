-- A placing and a forced product lose no image of an embedding that begins so. The idea: an embedding keeps products, and which of some elements are
-- equal. Assumes nothing.
use mathlib.Core.Path.{◌≡◌, refl, sym, ap, ap₂, ◌∙◌, subst}
use mathlib.Core.Bool.{Bool, true, false, ◌&&◌, cond, true≢false}
use mathlib.Core.Logic.{◌⊎◌, inl, inr}
use mathlib.Core.List.{List}
use Prim.Native.Nat.{ℕ, zero, suc, ◌+◌, ◌-◌, ◌^◌, ◌≤◌, ◌<◌, min}
use native.Mathlib.Nat.{eq-or-lt_of_le}
use native.Mathlib.Omega.{arith}
use borrow.Author.Tests.{eqb-true, eq-eqb}
use lib.Bits.{bit_and}
use lib.Dec.{eqb}
use Rattle.semigroups.specs.Lists.{at}
use Rattle.semigroups.specs.Tables.{Product, Element}
use Rattle.semigroups.specs.TablesLaws.{Closed}
use Rattle.semigroups.specs.InnerMaps.{Embedding, Among}
use Rattle.semigroups.proofs.Booleans.{both, and_left, and_right, untrue, clash, equal_or_not}
use Rattle.semigroups.proofs.Tables.{product_element}
use Rattle.products.specs.declared.Table.{Table}
use Rattle.products.specs.Tables.{times_of}
use Rattle.rows.specs.declared.Row.{Row}
use Rattle.rows.specs.InnerRows.{has_bit, in_row, is_empty, same_row, is_inside, row_of, has, word, packed_row, masked, Only, Shrinks, Forced}
use Rattle.rows.proofs.Words.{word_same, word_jump}
use Rattle.rows.proofs.Rows.{row, row_low, row_high, same_row_law, is_inside_law, inside_in, masked_packed, in_packed_row, none_in_empty, has_masked, other_masked, shrinks_has, only_still, forced_has, forced_only, forced_shrinks}
use Rattle.rows.proofs.Turns.{packed_same}
use Rattle.propagation.specs.declared.Narrowing.{Narrowing}
use Rattle.propagation.specs.InnerRows.{digit, pattern, narrowed, stays, staying, of_nothing, Right, decides, Multiplied, Narrows}

-- Two tests of equality agree where the equalities do.
same_equality : (a b c d : ℕ) → (a ≡ b → c ≡ d) → (c ≡ d → a ≡ b) → eqb a b ≡ eqb c d
same_equality a b c d f g = go (eqb c d) refl
  where
    go : (e : Bool) → eqb c d ≡ e → eqb a b ≡ e
    go true q = eq-eqb a b (g (eqb-true c d q))
    go false q = untrue (eqb a b) (λ h. true≢false (sym (eq-eqb c d (f (eqb-true a b h))) ∙ q))

-- ---- a row that is not empty

-- A word that is not 0 has an element that passes.
some_in_word : (p : ℕ → Bool) (from k : ℕ) → (word p from k ≡ 0 → ⊥) → (j : ℕ) × (j < k) × (p (from + j) ≡ true)
unfolding word
some_in_word p from zero ne = absurd (ne refl)
some_in_word p from (suc k) ne = go (p (from + k)) refl (some_in_word p from k)
  where
    go : (b : Bool) → p (from + k) ≡ b → ((word p from k ≡ 0 → ⊥) → (j : ℕ) × (j < k) × (p (from + j) ≡ true)) → (j : ℕ) × (j < suc k) × (p (from + j) ≡ true)
    go true e below = (k, omega arith, e)
    go false e below =
        let r = below (λ z. ne (ap (λ (b : Bool). word p from k + cond b (2 ^ k) 0) e ∙ (let w : word p from k + 0 ≡ 0 = omega arith in w))) in
        let less = r.1 in
        (r.0, omega arith, r.2)

pub some_in_row : (n : ℕ) (p : ℕ → Bool) → is_empty (packed_row n p) ≡ false → (y : ℕ) × Element n y × (p y ≡ true)
unfolding is_empty packed_row
some_in_row n p e = go (equal_or_not (word p 1 (min n 60)) 0)
  where
    go : (word p 1 (min n 60) ≡ 0) ⊎ (word p 1 (min n 60) ≡ 0 → ⊥) → (y : ℕ) × Element n y × (p y ≡ true)
    go (inr some) =
        let r = some_in_word p 1 (min n 60) some in
        let less = r.1 in
        (1 + r.0, (omega arith, omega arith), r.2)
    go (inl none) =
        let high : word p 61 (n - 60) ≡ 0 → ⊥ = λ z. true≢false (sym (both (eqb (word p 1 (min n 60)) 0) (eqb (word p 61 (n - 60)) 0) (eq-eqb (word p 1 (min n 60)) 0 none) (eq-eqb (word p 61 (n - 60)) 0 z)) ∙ e) in
        let r = some_in_word p 61 (n - 60) high in
        let less = r.1 in
        (61 + r.0, (omega arith, omega arith), r.2)

-- ---- tables

-- The products of a table's elements are elements.
pub table_closed : (t : Table) → Closed t.order (times_of t)
table_closed t = product_element t.order t.cells.now t.filled.size t.filled.in_range

-- ---- what is left of a row

-- The words of what a placing leaves of a row.
module _ (t : Product) (x looks : ℕ) (left right old : Row) where
  pub low_staying : (k : ℕ) → k ≤ 60 → word (λ y. has_bit old.lo (y - 1) && stays t x looks left right y) 1 k ≡ word (λ y. in_row old y && stays t x looks left right y) 1 k
  low_staying k h =
      word_same (λ y. has_bit old.lo (y - 1) && stays t x looks left right y) (λ y. in_row old y && stays t x looks left right y) 1 k
      (λ j b. ap (λ (w : Bool). w && stays t x looks left right (1 + j)) (row_low old (1 + j) (omega arith)))

  pub high_staying : (k : ℕ) → word (λ y. has_bit old.hi (y - 61) && stays t x looks left right y) 61 k ≡ word (λ y. in_row old y && stays t x looks left right y) 61 k
  high_staying k =
      word_same (λ y. has_bit old.hi (y - 61) && stays t x looks left right y) (λ y. in_row old y && stays t x looks left right y) 61 k
      (λ j b. ap (λ (w : Bool). w && stays t x looks left right (61 + j)) (row_high old (61 + j) (omega arith)))

-- What a narrowing kept says what is left of every row inside the one that it narrowed, if the same decides.
module _ (n : ℕ) (t : Product) (x looks : ℕ) (left right old : Row) (last : Narrowing) (right-last : Right n t x last) (e : decides last looks left right old ≡ true) where
  pub kept_again : row (bit_and old.lo last.kept.lo) (bit_and old.hi last.kept.hi) ≡ staying n t x looks left right old
  unfolding decides staying
  kept_again =
      let second = same_row right last.right && is_inside old last.old in
      let first = same_row left last.left && second in
      let rest = and_right (eqb looks last.looks) first e in
      let rows = and_right (same_row left last.left) second rest in
      let same-looks = eqb-true looks last.looks (and_left (eqb looks last.looks) first e) in
      let same_left = same_row_law left last.left (and_left (same_row left last.left) second rest) in
      let same-right = same_row_law right last.right (and_left (same_row right last.right) (is_inside old last.old) rows) in
      let inside = is_inside_law old last.old (and_right (same_row right last.right) (is_inside old last.old) rows) in
      let test : ℕ → Bool = λ y. stays t x last.looks last.left last.right y in
      ap (λ (k : Row). row (bit_and old.lo k.lo) (bit_and old.hi k.hi)) right-last
      ∙ masked_packed old n (λ y. in_row last.old y && test y)
      ∙ packed_same n (λ y. in_row old y && (in_row last.old y && test y)) (λ y. in_row old y && stays t x looks left right y)
      (λ y hy. absorbed (in_row old y) (in_row last.old y) (test y) (inside_in old last.old inside y)
      ∙ ap (λ (b : Bool). in_row old y && b) (sym (ap (λ (k : ℕ). stays t x k left right y) same-looks ∙ ap₂ (λ (a b : Row). stays t x last.looks a b y) same_left same-right)))
    where
      absorbed : (a b c : Bool) → (a ≡ true → b ≡ true) → (a && (b && c)) ≡ (a && c)
      absorbed true b c h = ap (λ (d : Bool). d && c) (h refl)
      absorbed false b c h = refl

-- What is kept of a row, in the words of the rows.
pub narrowed_staying : (s : Product) (n : ℕ) (t : Product) (rows : List ℕ) (l x c : ℕ) → staying n t x (pattern l c (s l c) (s c l)) (row_of rows (s l c)) (row_of rows (s c l)) (row_of rows c) ≡ packed_row n (narrowed s t (has rows) l x c)
unfolding staying narrowed stays has
narrowed_staying s n t rows l x c = refl

pub nothing_right : (n : ℕ) (t : Product) (x : ℕ) → Right n t x of_nothing
unfolding staying packed_row
nothing_right n t x = ap₂ row (none 1 (min n 60)) (none 61 (n - 60))
  where
    out : (y : ℕ) → (in_row (row 0 0) y && stays t x 0 (row 0 0) (row 0 0) y) ≡ false
    out y = ap (λ (b : Bool). b && stays t x 0 (row 0 0) (row 0 0) y) (none_in_empty (row 0 0) y (unfold is_empty in refl))

    none : (from k : ℕ) → 0 ≡ word (λ y. in_row (row 0 0) y && stays t x 0 (row 0 0) (row 0 0) y) from k
    none from k = unfold word in word_jump (λ y. in_row (row 0 0) y && stays t x 0 (row 0 0) (row 0 0) y) from 0 k (omega arith) (λ j a b. out (from + j))

-- ---- rows narrowed one after another: those before c are done

-- What is left after a placing over rows that shrank is left over the rows before.
pub narrowed_wider : (m : ℕ) (s t : Product) → Closed m s → m ≤ 120 → (rows₀ rows : List ℕ) → Shrinks rows₀ rows → (l x c y : ℕ) → Element m l → Element m c → narrowed s t (has rows) l x c y ≡ true → narrowed s t (has rows₀) l x c y ≡ true
unfolding narrowed
narrowed_wider m s t closed lm rows₀ rows less l x c y hl hc e =
    let new : ℕ → ℕ → Bool = has rows in
    let old : ℕ → ℕ → Bool = has rows₀ in
    let alike = eqb (pattern x y (t x y) (t y x)) (pattern l c (s l c) (s c l)) in
    let right = new (s c l) (t y x) in
    let left = new (s l c) (t x y) in
    let lc = closed l c hl hc in
    let cl = closed c l hc hl in
    let rest = and_right (new c y) (left && (right && alike)) e in
    let last = and_right left (right && alike) rest in
    both (old c y) (old (s l c) (t x y) && (old (s c l) (t y x) && alike)) (shrinks_has rows₀ rows less c y (omega arith) (and_left (new c y) (left && (right && alike)) e))
    (both (old (s l c) (t x y)) (old (s c l) (t y x) && alike) (shrinks_has rows₀ rows less (s l c) (t x y) (omega arith) (and_left left (right && alike) rest))
    (both (old (s c l) (t y x)) alike (shrinks_has rows₀ rows less (s c l) (t y x) (omega arith) (and_left right alike last)) (and_right right alike last)))

pub narrows_more : (m : ℕ) (s : Product) (n : ℕ) (t : Product) → Closed m s → m ≤ 120 → (rows₀ rows : List ℕ) → Shrinks rows₀ rows → (l x c : ℕ) → Element m l → Element m c → (r : Row) → r ≡ packed_row n (narrowed s t (has rows) l x c)
    → Narrows (c - 1) s n t l x (has rows₀) (has rows) → Narrows (c + 1 - 1) s n t l x (has rows₀) (has (masked rows c r))
narrows_more m s n t closed lm rows₀ rows less l x c hl hc r is N d y hd hy = go (equal_or_not d c)
  where
    new : ℕ → ℕ → Bool
    new = has (masked rows c r)

    go : (d ≡ c) ⊎ (d ≡ c → ⊥) → new d y ≡ true → narrowed s t (has rows₀) l x d y ≡ true
    go (inl q) e =
        let here = and_right (has rows c y) (in_row r y) (sym (has_masked rows c (omega arith) r y) ∙ ap (λ (k : ℕ). new k y) (sym q) ∙ e) in
        ap (λ (k : ℕ). narrowed s t (has rows₀) l x k y) q
        ∙ narrowed_wider m s t closed lm rows₀ rows less l x c y hl hc (sym (ap (λ (w : Row). in_row w y) is ∙ in_packed_row n (narrowed s t (has rows) l x c) y hy) ∙ here)
    go (inr ne) e = N d y (omega arith) hy (sym (other_masked rows c (omega arith) r y d (omega arith) ne) ∙ e)

-- Row c keeps an element where narrowing leaves one, and the rows before it keep theirs.
pub kept_more : (m : ℕ) (s : Product) (n : ℕ) (t : Product) (rows : List ℕ) (l x c : ℕ) → m ≤ 120 → Element m c → (r : Row) → r ≡ packed_row n (narrowed s t (has rows) l x c) → is_empty r ≡ false
    → ((d : ℕ) → Element (c - 1) d → (y : ℕ) × Element n y × (has rows d y ≡ true)) → (d : ℕ) → Element (c + 1 - 1) d → (y : ℕ) × Element n y × (has (masked rows c r) d y ≡ true)
unfolding narrowed
kept_more m s n t rows l x c lm hc r is some before d hd = go (equal_or_not d c)
  where
    test : ℕ → Bool
    test = narrowed s t (has rows) l x c

    go : (d ≡ c) ⊎ (d ≡ c → ⊥) → (y : ℕ) × Element n y × (has (masked rows c r) d y ≡ true)
    go (inl q) =
        let w = some_in_row n test (ap is_empty (sym is) ∙ some) in
        let y = w.0 in
        let here : in_row r y ≡ true = ap (λ (u : Row). in_row u y) is ∙ in_packed_row n test y w.1 ∙ w.2 in
        let alike = eqb (pattern x y (t x y) (t y x)) (pattern l c (s l c) (s c l)) in
        (y, w.1, ap (λ (k : ℕ). has (masked rows c r) k y) q ∙ has_masked rows c (omega arith) r y ∙ both (has rows c y) (in_row r y) (and_left (has rows c y) (has rows (s l c) (t x y) && (has rows (s c l) (t y x) && alike)) w.2) here)
    go (inr ne) =
        let w = before d (omega arith) in
        (w.0, w.1, other_masked rows c (omega arith) r w.0 d (omega arith) ne ∙ w.2)

-- An empty row has none of the elements that narrowing might have left.
pub none_narrowed : (s : Product) (n : ℕ) (t : Product) (rows : List ℕ) (l x c : ℕ) (r : Row) → r ≡ packed_row n (narrowed s t (has rows) l x c) → is_empty r ≡ true → (y : ℕ) → Element n y → narrowed s t (has rows) l x c y ≡ false
none_narrowed s n t rows l x c r is empty y hy =
    sym (in_packed_row n (narrowed s t (has rows) l x c) y hy) ∙ ap (λ (u : Row). in_row u y) (sym is) ∙ none_in_empty r y empty

-- ---- a forced row

cond_of : (a b : Bool) → (a ≡ true → b ≡ true) → cond a b true ≡ true
cond_of true b h = h refl
cond_of false b h = refl

pub forced_kept : (m : ℕ) (s : Product) (n : ℕ) (t : Product) (f : List ℕ) → Embedding m s n t f → m ≤ 120 → n ≤ 120 → (rows newRows : List ℕ) (c v : ℕ) → Element m c → at f c ≡ v → Forced c v rows newRows
    → Among m (has rows) f → Among m (has newRows) f
forced_kept m s n t f F lm ln rows newRows c v hc e forced among d hd =
    let w = F.homomorphism.within d hd in
    let u : Element n v = subst (Element n) e (F.homomorphism.within c hc) in
    forced_has rows newRows c v (omega arith) (omega arith) forced d (at f d) (omega arith) (omega arith)
    ∙ both (has rows d (at f d)) (cond (eqb d c) (eqb (at f d) v) true) (among d hd) (cond_of (eqb d c) (eqb (at f d) v) (λ q. eq-eqb (at f d) v (ap (at f) (eqb-true d c q) ∙ e)))

-- ---- rows that an embedding is among

module _ (m : ℕ) (s : Product) (n : ℕ) (t : Product) (closed : Closed m s) (f : List ℕ) (F : Embedding m s n t f) where
  same_digit : (a b x y weight : ℕ) → Element m a → Element m b → x ≡ at f a → y ≡ at f b → digit x y weight ≡ digit a b weight
  unfolding digit
  same_digit a b x y weight ha hb p q = ap (λ (c : Bool). cond c weight 0) (same_equality x y a b (λ e. F.one_to_one a b ha hb (sym p ∙ e ∙ q)) (λ e. p ∙ ap (at f) e ∙ sym q))

  kept : (a b : ℕ) → Element m a → Element m b → t (at f a) (at f b) ≡ at f (s a b)
  kept a b ha hb = sym (F.homomorphism.keeps_product a b ha hb)

  -- The images of two elements look like them.
  pub same_pattern : (l c : ℕ) → Element m l → Element m c → pattern (at f l) (at f c) (t (at f l) (at f c)) (t (at f c) (at f l)) ≡ pattern l c (s l c) (s c l)
  unfolding pattern
  same_pattern l c hl hc =
      let lc = closed l c hl hc in
      let cl = closed c l hc hl in
      let one = kept l c hl hc in
      let two = kept c l hc hl in
      ap₂ ◌+◌
      (ap₂ ◌+◌ (ap₂ ◌+◌ (same_digit l c (at f l) (at f c) 1 hl hc refl refl) (same_digit (s l c) c (t (at f l) (at f c)) (at f c) 2 lc hc one refl))
      (ap₂ ◌+◌ (same_digit (s c l) c (t (at f c) (at f l)) (at f c) 4 cl hc two refl) (same_digit (s l c) (s c l) (t (at f l) (at f c)) (t (at f c) (at f l)) 8 lc cl one two)))
      (ap₂ ◌+◌ (same_digit (s l c) l (t (at f l) (at f c)) (at f l) 16 lc hl one refl) (same_digit (s c l) l (t (at f c) (at f l)) (at f l) 32 cl hl two refl))

  module _ (rows : ℕ → ℕ → Bool) (among : Among m rows f) where
    narrowed_at : (l c : ℕ) → Element m l → Element m c → narrowed s t rows l (at f l) c (at f c) ≡ true
    unfolding narrowed
    narrowed_at l c hl hc =
        let x = at f l in
        let y = at f c in
        let left = rows (s l c) (t x y) in
        let right = rows (s c l) (t y x) in
        let alike = eqb (pattern x y (t x y) (t y x)) (pattern l c (s l c) (s c l)) in
        both (rows c y) (left && (right && alike)) (among c hc)
        (both left (right && alike) (ap (rows (s l c)) (kept l c hl hc) ∙ among (s l c) (closed l c hl hc))
        (both right alike (ap (rows (s c l)) (kept c l hc hl) ∙ among (s c l) (closed c l hc hl))
        (eq-eqb (pattern x y (t x y) (t y x)) (pattern l c (s l c) (s c l)) (same_pattern l c hl hc))))

    pub narrowed_kept : (l x c : ℕ) → Element m l → Element m c → at f l ≡ x → narrowed s t rows l x c (at f c) ≡ true
    narrowed_kept l x c hl hc e = ap (λ (v : ℕ). narrowed s t rows l v c (at f c)) (sym e) ∙ narrowed_at l c hl hc

  -- ---- row c narrowed

  module _ (rows : List ℕ) (among : Among m (has rows) f) (l x c : ℕ) (hl : Element m l) (hc : Element m c) (e : at f l ≡ x) (r : Row) (is : r ≡ packed_row n (narrowed s t (has rows) l x c)) where
    image_stays : in_row r (at f c) ≡ true
    image_stays =
        ap (λ (w : Row). in_row w (at f c)) is ∙ in_packed_row n (narrowed s t (has rows) l x c) (at f c) (F.homomorphism.within c hc)
        ∙ narrowed_kept (has rows) among l x c hl hc e

    pub not_empty : is_empty r ≡ false
    not_empty = untrue (is_empty r) (λ h. clash {b = in_row r (at f c)} image_stays (none_in_empty r (at f c) h))

    pub mask_kept : m ≤ 120 → Among m (has (masked rows c r)) f
    mask_kept lm d hd = go (equal_or_not d c)
      where
        new : ℕ → ℕ → Bool
        new = has (masked rows c r)

        go : (d ≡ c) ⊎ (d ≡ c → ⊥) → new d (at f d) ≡ true
        go (inl q) = ap (λ (k : ℕ). new k (at f k)) q ∙ has_masked rows c (omega arith) r (at f c) ∙ both (has rows c (at f c)) (in_row r (at f c)) (among c hc) image_stays
        go (inr ne) = other_masked rows c (omega arith) r (at f d) d (omega arith) ne ∙ among d hd

  -- ---- the product of two elements whose images are placed

  pub pair_kept : m ≤ 120 → n ≤ 120 → (image rows newRows : List ℕ) (a b : ℕ) → Element m a → Element m b → at f a ≡ at image a → at f b ≡ at image b
      → Forced (s a b) (t (at image a) (at image b)) rows newRows → Among m (has rows) f → Among m (has newRows) f
  pair_kept lm ln image rows newRows a b ha hb ea eb = forced_kept m s n t f F lm ln rows newRows (s a b) (t (at image a) (at image b)) (closed a b ha hb) (sym (kept a b ha hb) ∙ ap₂ t ea eb)

-- ---- the products of the newest element

module _ (m : ℕ) (s : Product) (t : Product) (closed : Closed m s) (lm : m ≤ 120) (image : List ℕ) (len : ℕ) (hl : Element m len) where
  -- Once the products with j are forced, those with the elements up to j are.
  pub multiplied_more : (j : ℕ) → Element len j → (rows rows₁ rows₂ : List ℕ) → Forced (s j len) (t (at image j) (at image len)) rows rows₁ → Forced (s len j) (t (at image len) (at image j)) rows₁ rows₂
      → Multiplied s t image len (j - 1) rows → Multiplied s t image len (j + 1 - 1) rows₂
  multiplied_more j hj rows rows₁ rows₂ F G M i h = go (eq-or-lt_of_le (let z : i ≤ j = omega arith in z))
    where
      left : (a : ℕ) → Element len a → Element 120 (s a len)
      left a ha = let w = closed a len (omega arith) hl in omega arith

      right : (a : ℕ) → Element len a → Element 120 (s len a)
      right a ha = let w = closed len a hl (omega arith) in omega arith

      one : Shrinks rows rows₁
      one = forced_shrinks rows rows₁ (s j len) (t (at image j) (at image len)) (left j hj) F

      two : Shrinks rows₁ rows₂
      two = forced_shrinks rows₁ rows₂ (s len j) (t (at image len) (at image j)) (right j hj) G

      go : (i ≡ j) ⊎ (i < j) → Only rows₂ (s i len) (t (at image i) (at image len)) × Only rows₂ (s len i) (t (at image len) (at image i))
      go (inl q) =
          subst (λ (a : ℕ). Only rows₂ (s a len) (t (at image a) (at image len)) × Only rows₂ (s len a) (t (at image len) (at image a))) (sym q)
          (only_still rows₁ rows₂ two (s j len) (t (at image j) (at image len)) (left j hj) (forced_only rows rows₁ (s j len) (t (at image j) (at image len)) (left j hj) F), forced_only rows₁ rows₂ (s len j) (t (at image len) (at image j)) (right j hj) G)
      go (inr l) =
          let b = M i (omega arith) in
          let hi' : Element len i = omega arith in (
            only_still rows₁ rows₂ two (s i len) (t (at image i) (at image len)) (left i hi') (only_still rows rows₁ one (s i len) (t (at image i) (at image len)) (left i hi') b.0),
            only_still rows₁ rows₂ two (s len i) (t (at image len) (at image i)) (right i hi') (only_still rows rows₁ one (s len i) (t (at image len) (at image i)) (right i hi') b.1),
          )
