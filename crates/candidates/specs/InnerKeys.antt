-- Keys: what is compared of an element (arXiv 1603.06204, definitions 3.3 and 4.1) as one number of 64 bits, one part after another. Elements of tables of
-- order at most 120 have equal keys exactly if these parts are equal. Assumes nothing.
use Rattle.std.specs.Prelude.{Bool, List, [], ◌∷◌, ℕ, ◌+◌, ◌*◌, ◌<◌, eqb}
use Rattle.semigroups.specs.Lists.{at}
use Rattle.semigroups.specs.Tables.{Element}
use Rattle.semigroups.specs.Invariants.{IndexPeriod, Profile}

-- A part of a key: a number that is compared, and how many values it may take.
pub record KeyPart (A : Type 0) : Type 0 where
  pub number : A → ℕ
  pub values : ℕ

-- A number that takes one byte of a key.
abbrev pub byte : {A : Type 0} → (A → ℕ) → KeyPart A
byte number = record { number = number; values = 256 }

-- A number that takes two bytes of a key.
abbrev two_bytes : {A : Type 0} → (A → ℕ) → KeyPart A
two_bytes number = record { number = number; values = 65536 }

-- A key with the parts of v appended to it.
unfoldable pub packed : {A : Type 0} → List (KeyPart A) → A → ℕ → ℕ
packed [] v key = key
packed (p ∷ parts) v key = packed parts v (key * p.values + p.number v)

-- The index and the period as parts of a key.
abbrev pub index_period_parts : List (KeyPart IndexPeriod)
index_period_parts = byte (λ v. v.index) ∷ byte (λ v. v.period) ∷ []

-- The counts of a profile as parts of a key. How often an element stands in its table may take two bytes; the other counts are at most 120.
abbrev pub count_parts : List (KeyPart Profile)
count_parts = two_bytes (λ v. v.frequency) ∷ byte (λ v. v.diagonal) ∷ byte (λ v. v.row) ∷ byte (λ v. v.column) ∷ byte (λ v. v.commuting) ∷ []

-- The key of an index-period.
unfoldable pub index_period_key : IndexPeriod → ℕ
index_period_key v = packed index_period_parts v 0

-- The key of a profile: the key of the index-period, then the counts.
unfoldable pub profile_key : Profile → ℕ
profile_key v = packed count_parts v (index_period_key v.powers)

-- ---- the keys of all elements, element a's at place a - 1

-- The key of element a with its number appended, which takes one of this many values.
abbrev pub appended : ℕ → List ℕ → List ℕ → ℕ → ℕ
appended values keys numbers a = at keys a * values + at numbers a

-- These keys fit in 64 bits.
abbrev pub Room : ℕ → ℕ → List ℕ → List ℕ → Type 0
Room n values keys numbers = (a : ℕ) → Element n a → appended values keys numbers a < 18446744073709551616

-- Whether source element i and target element j have the same key.
unfoldable pub same_key : List ℕ → List ℕ → ℕ → ℕ → Bool
same_key source target i j = eqb (at source i) (at target j)
