-- The rules about tables, invariants, maps and transformations (RULES 3 to 8, 12 and 14), as sentences about the definitions: a record for each subject, and
-- `TableRules` for all of them.
-- Assumes nothing.
use Rattle.std.specs.Prelude.{◌≡◌, true, ◌↔◌, ℕ, suc, ◌+◌, ◌*◌, ◌^◌, ◌≤◌, ◌<◌, length}
use mathlib.Core.List.{List, Memᴰ}
use Rattle.std.proofs.Math.Option.{some}
use Rattle.semigroups.specs.Lists.{elements, at, sum, member}
use Rattle.semigroups.specs.ListsLaws.{Increasing, Earliest}
use Rattle.semigroups.specs.Tables.{product, Element, Accepted}
use Rattle.semigroups.specs.InnerTables.{IsList}
use Rattle.semigroups.specs.Questions.{Question, Refusal, first_no, table_refusal}
use Rattle.semigroups.specs.QuestionsLaws.{numbers, Refused}
use Rattle.semigroups.specs.Invariants.{power, index, period, idempotent_power, frequency, diagonal_frequency, Profile, profile}
use Rattle.semigroups.specs.InvariantsLaws.{TheIdempotentPower, IsProfile}
use Rattle.semigroups.specs.MapsLaws.{Isomorphism, IsMap}
use Rattle.semigroups.specs.InnerMaps.{Embedding, Among}
use Rattle.semigroups.specs.Maps.{Kind, maps, Ask, beyond, earliest}
use Rattle.semigroups.specs.MapCheck.{Checked, check_map}
use Rattle.semigroups.specs.MapCheckLaws.{IsChecked}
use Rattle.semigroups.specs.Candidates.{candidate}
use Rattle.semigroups.specs.Scratch.{marks}
use Rattle.semigroups.specs.ScratchLaws.{AreMarks}
use Rattle.semigroups.specs.Transformations.{transformations, transformation_order, transformation, number_of, transformation_product, transformation_cells}

-- The invariants of an element (RULES 4) of an accepted table of order n with these cells.
pub record InvariantRules (n : ℕ) (cells : List ℕ) : Type 0 where
  -- RULES 4.1: "a to the first is a; each further power is the power before it times a."
  pub first_power : (a : ℕ) → power (product n cells) a 1 ≡ a
  pub next_power : (a k : ℕ) → 1 ≤ k → power (product n cells) a (suc k) ≡ product n cells (power (product n cells) a k) a
  -- The profile, with index, period and idempotent power: each number is what RULES 4 counts, and no other number is.
  pub counted : (a : ℕ) → Element n a → (v : Profile) → (profile n (product n cells) a ≡ v) ↔ IsProfile n cells a v
  -- RULES 4.2: "Always p + r ≤ n + 1."
  pub bound : (a : ℕ) → Element n a → index n (product n cells) a + period n (product n cells) a ≤ n + 1
  -- RULES 4.6: "The frequencies of all elements in the whole table sum to n × n, those on the diagonal to n."
  pub frequencies : sum (frequency n (product n cells)) (elements n) ≡ n * n
  pub diagonal_frequencies : sum (diagonal_frequency n (product n cells)) (elements n) ≡ n
  -- RULES 4.3: "The one power e of the element with e·e = e", one among all powers, whatever their exponents; and every power whose exponent is a
  -- multiple of the period, from the index on, is this one.
  pub one_idempotent : (a : ℕ) → Element n a → TheIdempotentPower (product n cells) a (idempotent_power n (product n cells) a)
  pub settles : (a : ℕ) → Element n a → (k t : ℕ) → index n (product n cells) a ≤ k → k ≡ t * period n (product n cells) a → power (product n cells) a k ≡ idempotent_power n (product n cells) a

-- Maps (RULES 5, 6, 8 and 12) from an accepted table of order m to one of order n.
pub record MapRules (m : ℕ) (source : List ℕ) (n : ℕ) (target : List ℕ) : Type 0 where
  -- RULES 5.7: the full list of a kind has every map of that kind once, earliest first.
  pub increasing : (kind : Kind) → Increasing (maps kind m (product m source) n (product n target))
  pub exactly : (kind : Kind) (f : List ℕ) → Memᴰ f (maps kind m (product m source) n (product n target)) ↔ IsMap kind m (product m source) n (product n target) f
  -- RULES 6.2 and 6.3: the earliest map of the kind asked for, or the earliest one later than the bytes of the map buffer, any bytes whatever.
  pub first_or_next : (kind : Kind) (ask : Ask) (f : List ℕ)
      → (earliest ask (maps kind m (product m source) n (product n target)) ≡ some f) ↔ Earliest (λ g. IsMap kind m (product m source) n (product n target) g × (beyond ask g ≡ true)) f
  -- RULES 5.6: for m > n there is no embedding, and for m ≠ n no isomorphism.
  pub no_embedding : n < m → (f : List ℕ) → Embedding m (product m source) n (product n target) f → ⊥
  pub no_isomorphism : (m ≡ n → ⊥) → (f : List ℕ) → Isomorphism m (product m source) n (product n target) f → ⊥
  -- RULES 8.4: the images of a map are among the candidates, so that no map is lost.
  pub none_lost : (kind : Kind) (f : List ℕ) → IsMap kind m (product m source) n (product n target) f → Among m (candidate kind m (product m source) n (product n target)) f
  -- RULES 8.2: where the mark of a pair stands, and that nothing else is marked. The bytes written are the marks, as `AreMarks` says in plain words, and no
  -- other bytes are.
  pub marks_stand : (kind : Kind) (bytes : List ℕ)
      → (bytes ≡ marks m n (candidate kind m (product m source) n (product n target))) ↔ AreMarks m n (candidate kind m (product m source) n (product n target)) bytes
  -- RULES 12.1: "holds" or the earliest fault; what each answer means, in both directions.
  pub checked : (f : List ℕ) → length f ≡ m → (c : Checked) → (check_map m (product m source) n (product n target) f ≡ c) ↔ IsChecked m (product m source) n (product n target) f c

-- The table of all transformations of d points (RULES 14), for any degree d.
pub record TransformationRules (d : ℕ) : Type 0 where
  -- RULES 14.1: "all d to the power d image lists are numbered from 1 in list order".
  pub in_order : Increasing (transformations d)
  pub as_many : length (transformations d) ≡ d ^ d
  pub number : (i : ℕ) → Element (transformation_order d) i → IsList d d (transformation d i) × (number_of d (transformation d i) ≡ i)
  pub numbered : (f : List ℕ) → IsList d d f → Element (transformation_order d) (number_of d f) × (transformation d (number_of d f) ≡ f)
  -- RULES 14.2: "The product s·t is s first, then t", and it stands in row s, column t.
  pub first_then : (s t : ℕ) → Element (transformation_order d) s → Element (transformation_order d) t → (x : ℕ) → Element d x
      → at (transformation d (transformation_product d s t)) x ≡ at (transformation d t) (at (transformation d s) x)
  pub stands : (s t : ℕ) → Element (transformation_order d) s → Element (transformation_order d) t
      → product (transformation_order d) (transformation_cells d) s t ≡ transformation_product d s t
  pub cells : length (transformation_cells d) ≡ transformation_order d * transformation_order d
  -- The tables of degrees 1 to 3 are accepted.
  pub accepted : Element 3 d → Accepted (transformation_order d) (transformation_cells d)

-- All of these rules, for any tables and any degree.
pub record TableRules : Type 0 where
  -- Questions 1 to 4: what a refusal means, in both directions.
  pub refused : (n : ℕ) (cells : List ℕ) (r : Refusal) → (table_refusal n cells ≡ some r) ↔ Refused n cells r
  -- RULES 7.2: "No other number occurs": the number of a refusal is that of one of the questions asked.
  pub number_listed : (qs : List Question) (r : Refusal) → first_no qs ≡ some r → member r.number (numbers qs) ≡ true
  pub invariants_of : (n : ℕ) (cells : List ℕ) → Accepted n cells → InvariantRules n cells
  pub maps_between : (m : ℕ) (source : List ℕ) (n : ℕ) (target : List ℕ) → Accepted m source → Accepted n target → MapRules m source n target
  pub transformation_tables : (d : ℕ) → TransformationRules d
