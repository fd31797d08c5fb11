-- Keys: their parts can be told apart, since each is below the number of its values; and the keys of all elements, with one more part at a time.
-- Assumes nothing.
use mathlib.Core.Path.{◌≡◌, refl, sym, ap, ap₂, ◌∙◌}
use mathlib.Core.Logic.{⊎_elim}
use mathlib.Core.Bool.{Bool, true, ◌&&◌, and-true, and_assoc}
use mathlib.Core.List.{List, [], ◌∷◌}
use Prim.Native.Nat.{ℕ, suc, ◌+◌, ◌-◌, ◌*◌, ◌≤◌, ◌<◌}
use native.Mathlib.Nat.{mul-le-mul_right, suc-mul, zero-mul}
use native.Mathlib.Omega.{arith}
use borrow.Author.Tests.{eqb-true, eq-eqb}
use lib.Dec.{eqb}
use lib.ListN.{get_or, take, replicate}
use Rattle.semigroups.specs.Lists.{at, all}
use Rattle.semigroups.specs.Tables.{Product, product, Element, Filled}
use Rattle.semigroups.specs.TablesLaws.{Closed}
use Rattle.semigroups.specs.Invariants.{IndexPeriod, Profile, index, period, index_period, same_index_period, frequency, diagonal_frequency, row_frequency, column_frequency, commuting, profile, same_profile}
use Rattle.semigroups.specs.Maps.{embeddings, isomorphisms}
use Rattle.semigroups.specs.Candidates.{candidate}
use Rattle.semigroups.specs.InnerCalls.{scratch_after}
use Rattle.semigroups.proofs.Booleans.{same_truth, both, and_left, and_right, trichotomy}
use Rattle.semigroups.proofs.Tables.{product_element}
use Rattle.counts.specs.declared.ElementCounts.{ElementCounts}
use Rattle.products.specs.InnerPerElement.{per_element}
use Rattle.counts.specs.InnerCounts.{AllCounts}
use Rattle.invariants.proofs.Powers.{index_at_most, period_at_most}
use Rattle.counts.proofs.Counts.{frequency_at_most, diagonal_at_most, row_at_most, column_at_most, commuting_at_most}
use Rattle.products.proofs.PerElement.{per_element_at, per_element_same, zero_start}
use Rattle.candidates.specs.InnerKeys.{KeyPart, packed, index_period_parts, count_parts, index_period_key, profile_key, appended, Room, same_key}
use Rattle.candidates.proofs.Marks.{scratch_same}

-- ---- digits

-- Of two numbers, the one with the lower high part is lower.
lower : (base a b x y : ℕ) → b < base → a < x → a * base + b < x * base + y
lower base a b x y hb h = let le : suc a * base ≤ x * base = mul-le-mul_right base h in omega (arith, suc-mul a base)

high_same : (base a b x y : ℕ) → b < base → y < base → a * base + b ≡ x * base + y → a ≡ x
high_same base a b x y hb hy e =
    ⊎_elim (λ (q : a ≡ x). q)
    (λ q. absurd
    (⊎_elim (λ (v : a < x). let l = lower base a b x y hb v in let z : ⊥ = omega arith in z)
    (λ (v : x < a). let l = lower base x y a b hy v in let z : ⊥ = omega arith in z) q))
    (trichotomy a x)

-- Two numbers, each with one more digit, are equal exactly if both their parts are.
digit : (base a b x y : ℕ) → b < base → y < base → eqb (a * base + b) (x * base + y) ≡ (eqb a x && eqb b y)
digit base a b x y hb hy = same_truth (eqb (a * base + b) (x * base + y)) (eqb a x && eqb b y) apart together
  where
    apart : eqb (a * base + b) (x * base + y) ≡ true → (eqb a x && eqb b y) ≡ true
    apart t =
        let e = eqb-true (a * base + b) (x * base + y) t in
        let high = high_same base a b x y hb hy e in
        let scaled = ap (λ (k : ℕ). k * base) high in
        both (eqb a x) (eqb b y) (eq-eqb a x high) (eq-eqb b y (omega arith))

    together : (eqb a x && eqb b y) ≡ true → eqb (a * base + b) (x * base + y) ≡ true
    together t =
        let high = eqb-true a x (and_left (eqb a x) (eqb b y) t) in
        let low = eqb-true b y (and_right (eqb a x) (eqb b y) t) in
        eq-eqb (a * base + b) (x * base + y) (ap₂ (λ (h l : ℕ). h * base + l) high low)

-- ---- keys

module _ {A : Type 0} where
  -- Each part is below the number of its values.
  abbrev pub Fits : List (KeyPart A) → A → Type 0
  Fits [] v = Unit {0}
  Fits (p ∷ parts) v = (p.number v < p.values) × Fits parts v

  -- Two keys with further parts are equal exactly if the keys and the parts are.
  packed_same : (parts : List (KeyPart A)) (u v : A) (x y : ℕ) → Fits parts u → Fits parts v → eqb (packed parts u x) (packed parts v y) ≡ (eqb x y && all (λ p. eqb (p.number u) (p.number v)) parts)
  unfolding packed all
  packed_same [] u v x y hu hv = sym (and-true (eqb x y))
  packed_same (p ∷ parts) u v x y hu hv =
      packed_same parts u v (x * p.values + p.number u) (y * p.values + p.number v) hu.1 hv.1
      ∙ ap (λ (b : Bool). b && all (λ q. eqb (q.number u) (q.number v)) parts) (digit p.values x (p.number u) y (p.number v) hu.0 hv.0)
      ∙ and_assoc (eqb x y) (eqb (p.number u) (p.number v)) (all (λ q. eqb (q.number u) (q.number v)) parts)

pub index_period_keys : (u v : IndexPeriod) → Fits index_period_parts u → Fits index_period_parts v → eqb (index_period_key u) (index_period_key v) ≡ same_index_period u v
unfolding index_period_key same_index_period all
index_period_keys u v hu hv = packed_same index_period_parts u v 0 0 hu hv ∙ simp and-true

-- Each part of a profile is below the number of its values.
abbrev pub ProfileFits : Profile → Type 0
ProfileFits v = Fits index_period_parts v.powers × Fits count_parts v

pub profile_keys : (u v : Profile) → ProfileFits u → ProfileFits v → eqb (profile_key u) (profile_key v) ≡ same_profile u v
unfolding profile_key same_profile all
profile_keys u v hu hv =
    packed_same count_parts u v (index_period_key u.powers) (index_period_key v.powers) hu.1 hv.1 ∙ rw (index_period_keys u.powers v.powers hu.0 hv.0) (simp and-true)

-- ---- the elements of a table: each number takes one of its values

module _ (n : ℕ) (cells : List ℕ) (t : Filled n cells) (a : ℕ) (h : Element n a) where
  abbrev s : Product
  s = product n cells

  closed : Closed n s
  closed = product_element n cells t.size t.in_range

  pub index_fits : index n s a < 256
  index_fits = let l = t.order in omega (arith, index_at_most n s a closed h)

  pub period_fits : period n s a < 256
  period_fits = let l = t.order in omega (arith, period_at_most n s a closed h)

  pub frequency_fits : frequency n s a < 65536
  frequency_fits = omega (arith, frequency_at_most n cells t a)

  pub diagonal_fits : diagonal_frequency n s a < 256
  diagonal_fits = let l = t.order in omega (arith, diagonal_at_most n cells a)

  pub row_fits : row_frequency n s a < 256
  row_fits = let l = t.order in omega (arith, row_at_most n cells a)

  pub column_fits : column_frequency n s a < 256
  column_fits = let l = t.order in omega (arith, column_at_most n cells a)

  pub commuting_fits : commuting n s a < 256
  commuting_fits = let l = t.order in omega (arith, commuting_at_most n cells a)

  pub index_period_key_fits : index_period_key (index_period n s a) < 65536
  unfolding index_period_key packed index_period
  index_period_key_fits = let i = index_fits in let p = period_fits in omega arith

  index_period_fits : Fits index_period_parts (index_period n s a)
  unfolding index_period
  index_period_fits = (index_fits, (period_fits, tt))

  pub profile_fits : ProfileFits (profile n s a)
  unfolding profile
  profile_fits = (index_period_fits, (frequency_fits, (diagonal_fits, (row_fits, (column_fits, (commuting_fits, tt))))))

-- ---- the keys of all elements

-- The array holds `key` of each element, and all keys are below the bound.
pub record AllKeys (n : ℕ) (key : ℕ → ℕ) (bound : ℕ) (keys : List ℕ) : Type 0 where
  pub each : keys ≡ per_element n key
  pub below : (a : ℕ) → Element n a → key a < bound

-- The keys have room for one more number of each element; with it they are `longer` of each, and below the bound.
abbrev pub Appends : ℕ → (ℕ → ℕ) → ℕ → ℕ → List ℕ → List ℕ → Type 0
Appends n longer bound values keys numbers = Room n values keys numbers × ((l : List ℕ) → l ≡ per_element n (appended values keys numbers) → AllKeys n longer bound l)

-- One more part, given for each element, is appended.
module _ (n : ℕ) (key : ℕ → ℕ) (bound : ℕ) (keys : List ℕ) (k : AllKeys n key bound keys)
    (values : ℕ) (number : ℕ → ℕ) (numbers : List ℕ) (e : numbers ≡ per_element n number) (fits : (a : ℕ) → Element n a → number a < values) where
  appended_at : (a : ℕ) → Element n a → appended values keys numbers a ≡ key a * values + number a
  unfolding at
  appended_at a h =
      ap₂ (λ (x y : ℕ). x * values + y) (ap (λ (l : List ℕ). get_or l (a - 1) 0) k.each ∙ per_element_at n key a h) (ap (λ (l : List ℕ). get_or l (a - 1) 0) e ∙ per_element_at n number a h)

  still_below : (a : ℕ) → Element n a → key a * values + number a < bound * values
  still_below a h = let z = zero-mul values in let f = fits a h in omega (arith, lower values (key a) (number a) bound 0 f (k.below a h))

  pub append_part : bound * values ≤ 18446744073709551616 → Appends n (λ a. key a * values + number a) (bound * values) values keys numbers
  append_part h = (
    λ a u. let b = still_below a u in omega (arith, appended_at a u),
    λ l q. record { each = q ∙ per_element_same n (appended values keys numbers) (λ a. key a * values + number a) appended_at; below = still_below },
  )

-- The keys with no part yet.
pub no_keys : (n : ℕ) → n ≤ 120 → AllKeys n (λ a. 0) 1 (replicate 120 0)
no_keys n h = record { each = zero_start n (λ a. 0) h (λ x. refl); below = λ a u. omega arith }

-- The parts of an index-period, one after the other.
module _ (n : ℕ) (cells : List ℕ) (t : Filled n cells) where
  pub append_index : (indices : List ℕ) → indices ≡ per_element n (index n (product n cells)) → Appends n (λ a. 0 * 256 + index n (product n cells) a) 256 256 (replicate 120 0) indices
  append_index indices e = append_part n (λ a. 0) 1 (replicate 120 0) (no_keys n t.order.1) 256 (index n (product n cells)) indices e (index_fits n cells t) (omega arith)

  pub append_period : (keys : List ℕ) → AllKeys n (λ a. 0 * 256 + index n (product n cells) a) 256 keys → (periods : List ℕ) → periods ≡ per_element n (period n (product n cells))
      → Appends n (λ a. (0 * 256 + index n (product n cells) a) * 256 + period n (product n cells) a) 65536 256 keys periods
  append_period keys k periods e = append_part n _ 256 keys k 256 (period n (product n cells)) periods e (period_fits n cells t) (omega arith)

-- The parts of a profile, one after another: 64 bits have room for each, and the keys get one more part.
module _ (n : ℕ) (cells : List ℕ) (t : Filled n cells) (r : ElementCounts) (e : AllCounts n (product n cells) r) where
  -- The key with the first k counts.
  abbrev pub key : ℕ → ℕ → ℕ
  key k a = packed (take k count_parts) (profile n (product n cells) a) (index_period_key (index_period n (product n cells) a))

  pub powers_keys : (keys : List ℕ) → keys ≡ per_element n (λ a. index_period_key (index_period n (product n cells) a)) → AllKeys n (key 0) 65536 keys
  unfolding packed
  powers_keys keys q = record { each = q; below = index_period_key_fits n cells t }

  pub append_frequency : (keys : List ℕ) → AllKeys n (key 0) 65536 keys → Appends n (key 1) 4294967296 65536 keys r.frequency
  unfolding packed profile
  append_frequency keys k = append_part n _ 65536 keys k 65536 (frequency n (product n cells)) r.frequency e.frequency (frequency_fits n cells t) (omega arith)

  pub append_diagonal : (keys : List ℕ) → AllKeys n (key 1) 4294967296 keys → Appends n (key 2) 1099511627776 256 keys r.diagonal
  unfolding packed profile
  append_diagonal keys k = append_part n _ 4294967296 keys k 256 (diagonal_frequency n (product n cells)) r.diagonal e.diagonal (diagonal_fits n cells t) (omega arith)

  pub append_row : (keys : List ℕ) → AllKeys n (key 2) 1099511627776 keys → Appends n (key 3) 281474976710656 256 keys r.row
  unfolding packed profile
  append_row keys k = append_part n _ 1099511627776 keys k 256 (row_frequency n (product n cells)) r.row e.row (row_fits n cells t) (omega arith)

  pub append_column : (keys : List ℕ) → AllKeys n (key 3) 281474976710656 keys → Appends n (key 4) 72057594037927936 256 keys r.column
  unfolding packed profile
  append_column keys k = append_part n _ 281474976710656 keys k 256 (column_frequency n (product n cells)) r.column e.column (column_fits n cells t) (omega arith)

  pub append_commuting : (keys : List ℕ) → AllKeys n (key 4) 72057594037927936 keys → Appends n (key 5) 18446744073709551616 256 keys r.commuting
  unfolding packed profile
  append_commuting keys k = append_part n _ 72057594037927936 keys k 256 (commuting n (product n cells)) r.commuting e.commuting (commuting_fits n cells t) (omega arith)

-- ---- candidates

key_at : (n : ℕ) (w : ℕ → ℕ) (l : List ℕ) (a : ℕ) → Element n a → l ≡ per_element n w → get_or l (a - 1) 0 ≡ w a
key_at n w l a h e = ap (λ (x : List ℕ). get_or x (a - 1) 0) e ∙ per_element_at n w a h

-- Equal keys mean equal index-periods, or equal profiles, so they mark the candidates of either kind.
module _ {m : ℕ} {source : List ℕ} {n : ℕ} {target : List ℕ} {sources targets : List ℕ} (scratch : List ℕ) (fs : Filled m source) (ft : Filled n target) where
  pub embedding_marks : sources ≡ per_element m (λ a. index_period_key (index_period m (product m source) a)) → targets ≡ per_element n (λ a. index_period_key (index_period n (product n target) a))
      → scratch_after m n (same_key sources targets) scratch ≡ scratch_after m n (candidate embeddings m (product m source) n (product n target)) scratch
  unfolding same_key at candidate
  embedding_marks es et =
      scratch_same m n (same_key sources targets) (candidate embeddings m (product m source) n (product n target))
      (λ i j hi hj.
      ap₂ eqb (key_at m (λ a. index_period_key (index_period m (product m source) a)) sources i hi es) (key_at n (λ a. index_period_key (index_period n (product n target) a)) targets j hj et)
      ∙ index_period_keys (index_period m (product m source) i) (index_period n (product n target) j) (index_period_fits m source fs i hi) (index_period_fits n target ft j hj)) scratch

  pub isomorphism_marks : sources ≡ per_element m (λ a. profile_key (profile m (product m source) a)) → targets ≡ per_element n (λ a. profile_key (profile n (product n target) a))
      → scratch_after m n (same_key sources targets) scratch ≡ scratch_after m n (candidate isomorphisms m (product m source) n (product n target)) scratch
  unfolding same_key at candidate
  isomorphism_marks es et =
      scratch_same m n (same_key sources targets) (candidate isomorphisms m (product m source) n (product n target))
      (λ i j hi hj.
      ap₂ eqb (key_at m (λ a. profile_key (profile m (product m source) a)) sources i hi es) (key_at n (λ a. profile_key (profile n (product n target) a)) targets j hj et)
      ∙ profile_keys (profile m (product m source) i) (profile n (product n target) j) (profile_fits m source fs i hi) (profile_fits n target ft j hj)) scratch
