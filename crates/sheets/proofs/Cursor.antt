-- Reading field by field: byte by byte as the loops go, and what is read of a field of a sheet.
-- Assumes nothing.
use mathlib.Core.Path.{◌≡◌, refl, ap, sym, ◌∙◌}
use mathlib.Core.Bool.{true, false}
use mathlib.Core.Logic.{◌⊎◌, inl, inr}
use mathlib.Core.List.{List, [], ◌∷◌, ◌++◌, flat_map, append_assoc, append-nil, map}
use Prim.Native.Nat.{ℕ, suc, ◌+◌, ◌-◌, ◌≤◌, ◌<◌}
use native.Mathlib.Omega.{arith}
use native.Mathlib.Numerals.{add-one}
use lib.Dec.{eqb, leb}
use lib.ListN.{length, get_or, drop, length-append, length-drop}
use lib.Seq.{drop-cons}
use borrow.Author.Tests.{eqb-true, eq-eqb, ne_eqb, leb-true}
use Rattle.semigroups.proofs.Booleans.{and_left}
use Rattle.rfc4180.specs.Every.{Every}
use Rattle.rfc4180.proofs.Fields.{empty}
use Rattle.sheets.specs.Grammar.{is_printable, is_text_data, Item, single, twice, Field, non_escaped, escaped, ProperItem, ProperField, item_text, field_text, item_value, field_value}
use Rattle.sheets.specs.InnerCursor.{bare_value, quoted_value, quoted_size, value_at, size_at}
use Rattle.sheets.proofs.Bytes.{bare_text, bare_comma, bare_quote, inside_quote}

-- ---- one byte

bare_cr : (b : ℕ) → is_text_data b ≡ true → eqb b 13 ≡ false
unfolding is_printable
bare_cr b h = let l = leb-true 32 b (and_left (leb 32 b) (leb b 126) (bare_text b h)) in ne_eqb b 13 (λ e. omega arith)

module _ (b : ℕ) (u : List ℕ) where
  pub bare_more : eqb b 44 ≡ false → eqb b 13 ≡ false → bare_value (b ∷ u) ≡ b ∷ bare_value u
  unfolding bare_value
  bare_more e f = rw (e, f)

  pub bare_comma_ends : eqb b 44 ≡ true → bare_value (b ∷ u) ≡ []
  unfolding bare_value
  bare_comma_ends e = rw e

  pub bare_cr_ends : eqb b 13 ≡ true → bare_value (b ∷ u) ≡ []
  unfolding bare_value
  bare_cr_ends e = let z = eqb-true b 13 e in rw z refl

pub quoted_other : (b : ℕ) (u : List ℕ) → eqb b 34 ≡ false → (quoted_value (b ∷ u) ≡ b ∷ quoted_value u) × (quoted_size (b ∷ u) ≡ suc (quoted_size u))
unfolding quoted_value quoted_size
quoted_other b [] e = (rw e, refl)
quoted_other b (c ∷ u) e = (rw e, rw e)

pub quoted_twice : (b c : ℕ) (u : List ℕ) → b ≡ 34 → c ≡ 34 → (quoted_value (b ∷ c ∷ u) ≡ b ∷ quoted_value u) × (quoted_size (b ∷ c ∷ u) ≡ suc (suc (quoted_size u)))
unfolding quoted_value quoted_size
quoted_twice b c u e f = rw (e, f) (refl, refl)

pub quoted_last : (b : ℕ) → b ≡ 34 → (quoted_value (b ∷ []) ≡ []) × (quoted_size (b ∷ []) ≡ 1)
unfolding quoted_value quoted_size
quoted_last b e = rw e (refl, refl)

pub quoted_shut : (b c : ℕ) (u : List ℕ) → b ≡ 34 → eqb c 34 ≡ false → (quoted_value (b ∷ c ∷ u) ≡ []) × (quoted_size (b ∷ c ∷ u) ≡ 1)
unfolding quoted_value quoted_size
quoted_shut b c u e f = rw e (rw f refl, rw f refl)

-- ---- a field of a sheet

-- What may stand after a field.
pub data Tail : List ℕ → Type 0 where
  tail_end : Tail []
  tail_comma : (u : List ℕ) → Tail (44 ∷ u)
  tail_cr : (u : List ℕ) → Tail (13 ∷ u)

bare_value_law : (s u : List ℕ) → Every (λ b. is_text_data b ≡ true) s → Tail u → bare_value (s ++ u) ≡ s
unfolding bare_value
bare_value_law [] u h tail_end = refl
bare_value_law [] u h (tail_comma v) = refl
bare_value_law [] u h (tail_cr v) = refl
bare_value_law (b ∷ s) u h r = rw (bare_comma b h.0, bare_cr b h.0, bare_value_law s u h.1 r)

record Read (i : List Item) (t : List ℕ) : Type 0 where
  pub value : quoted_value t ≡ map item_value i
  pub size : quoted_size t ≡ suc (length (flat_map item_text i))

quoted_end : (u : List ℕ) → Tail u → Read [] (34 ∷ u)
unfolding quoted_value quoted_size flat_map
quoted_end u tail_end = record { value = refl; size = refl }
quoted_end u (tail_comma v) = record { value = refl; size = refl }
quoted_end u (tail_cr v) = record { value = refl; size = refl }

quoted_read : (i : List Item) (u : List ℕ) → Every ProperItem i → Tail u → Read i (flat_map item_text i ++ 34 ∷ u)
unfolding item_value flat_map item_text
quoted_read [] u h r = quoted_end u r
quoted_read (single b ∷ i) u h r =
    let rest = quoted_read i u h.1 r in
    let step = quoted_other b (flat_map item_text i ++ 34 ∷ u) (inside_quote b h.0) in
    record { value = step.0 ∙ ap (λ (l : List ℕ). b ∷ l) rest.value; size = step.1 ∙ ap suc rest.size }
quoted_read (twice ∷ i) u h r =
    let rest = quoted_read i u h.1 r in
    let step = quoted_twice 34 34 (flat_map item_text i ++ 34 ∷ u) refl refl in
    record { value = step.0 ∙ ap (λ (l : List ℕ). 34 ∷ l) rest.value; size = step.1 ∙ ap (λ (n : ℕ). suc (suc n)) rest.size }

pub record FieldRead (f : Field) (t : List ℕ) : Type 0 where
  pub value : value_at t ≡ field_value f
  pub size : size_at t ≡ length (field_text f)

no_bytes : (u : List ℕ) → Tail u → FieldRead (non_escaped []) u
unfolding value_at size_at bare_value field_value field_text
no_bytes u tail_end = record { value = refl; size = refl }
no_bytes u (tail_comma v) = record { value = refl; size = refl }
no_bytes u (tail_cr v) = record { value = refl; size = refl }

pub field_read : (f : Field) (u : List ℕ) → ProperField f → Tail u → FieldRead f (field_text f ++ u)
unfolding value_at size_at field_value field_text
field_read (non_escaped []) u h r = no_bytes u r
field_read (non_escaped (b ∷ s)) u h r =
    let e = bare_value_law (b ∷ s) u h r in
    record { value = rw (bare_quote b h.0) e; size = rw (bare_quote b h.0) (ap length e) }
field_read (escaped i) u h r =
    let same : (flat_map item_text i ++ 34 ∷ []) ++ u ≡ flat_map item_text i ++ 34 ∷ u = append_assoc (flat_map item_text i) (34 ∷ []) u in
    let inner = quoted_read i u h r in
    record {
      value = ap quoted_value same ∙ inner.value;
      size = ap (λ (l : List ℕ). suc (quoted_size l)) same ∙ ap suc inner.size ∙ simp length-append (omega arith);
    }

-- ---- the loops; a field is read from `start` on, and the reading stands at i

-- The bytes from i on begin with the byte at i.
pub from_here : (t : List ℕ) (i : ℕ) → i < length t → drop i t ≡ get_or t i 0 ∷ drop (i + 1) t
from_here t i h = rw add-one (drop-cons t i 0 h)

pub from_two : (t : List ℕ) (i : ℕ) → i + 1 < length t → drop i t ≡ get_or t i 0 ∷ get_or t (i + 1) 0 ∷ drop (i + 2) t
from_two t i h =
    let e : i + 2 ≡ (i + 1) + 1 = omega arith in
    from_here t i (omega arith) ∙ ap (λ (l : List ℕ). get_or t i 0 ∷ l) (rw e (from_here t (i + 1) h))

pub from_end : (t : List ℕ) (i : ℕ) → length t ≤ i → drop i t ≡ []
from_end t i h = empty (drop i t) (let e = length-drop i t in omega arith)

-- The value gathered so far and what is left to read make up the whole value, and so do the numbers of bytes.
pub record Gathering (value : List ℕ → List ℕ) (size : List ℕ → ℕ) (t : List ℕ) (start : ℕ) (so_far : List ℕ) (i : ℕ) : Type 0 where
  pub inside : i ≤ length t
  pub whole : so_far ++ value (drop i t) ≡ value (drop start t)
  pub place : i + size (drop i t) ≡ start + size (drop start t)

module _ (value : List ℕ → List ℕ) (size : List ℕ → ℕ) (t : List ℕ) where
  pub gather_first : (start : ℕ) → start ≤ length t → Gathering value size t start [] start
  gather_first start h = record { inside = h; whole = refl; place = refl }

  module _ (start : ℕ) (so_far : List ℕ) (i : ℕ) (g : Gathering value size t start so_far i) where
    pub gather_next : (j b : ℕ) → i ≤ j → j ≤ length t → (value (drop i t) ≡ b ∷ value (drop j t)) × (i + size (drop i t) ≡ j + size (drop j t)) → Gathering value size t start (so_far ++ b ∷ []) j
    gather_next j b l u h =
        record {
          inside = u;
          whole = append_assoc so_far (b ∷ []) (value (drop j t)) ∙ ap (λ (r : List ℕ). so_far ++ r) (sym h.0) ∙ g.whole;
          place = sym h.1 ∙ g.place;
        }

    pub gather_last : (k : ℕ) → value (drop i t) ≡ [] → size (drop i t) ≡ k → (so_far ≡ value (drop start t)) × (i + k ≡ start + size (drop start t))
    gather_last k e f = (sym (ap (λ (r : List ℕ). so_far ++ r) e ∙ append-nil so_far) ∙ g.whole, ap (λ (n : ℕ). i + n) (sym f) ∙ g.place)

-- ---- a byte at a time

module _ (t : List ℕ) (i : ℕ) (h : i < length t) where
  pub bare_stops : (get_or t i 0 ≡ 44) ⊎ (get_or t i 0 ≡ 13) → bare_value (drop i t) ≡ []
  bare_stops (inl e) = ap bare_value (from_here t i h) ∙ bare_comma_ends (get_or t i 0) (drop (i + 1) t) (eq-eqb (get_or t i 0) 44 e)
  bare_stops (inr e) = ap bare_value (from_here t i h) ∙ bare_cr_ends (get_or t i 0) (drop (i + 1) t) (eq-eqb (get_or t i 0) 13 e)

  pub bare_goes_on : (get_or t i 0 ≡ 13 → ⊥) → (get_or t i 0 ≡ 44 → ⊥)
      → (bare_value (drop i t) ≡ get_or t i 0 ∷ bare_value (drop (i + 1) t)) × (i + length (bare_value (drop i t)) ≡ (i + 1) + length (bare_value (drop (i + 1) t)))
  bare_goes_on n m =
      let e = ap bare_value (from_here t i h) ∙ bare_more (get_or t i 0) (drop (i + 1) t) (ne_eqb (get_or t i 0) 44 m) (ne_eqb (get_or t i 0) 13 n) in
      let z = ap length e in
      (e, omega arith)

  pub quoted_goes_on : (get_or t i 0 ≡ 34 → ⊥)
      → (quoted_value (drop i t) ≡ get_or t i 0 ∷ quoted_value (drop (i + 1) t)) × (i + quoted_size (drop i t) ≡ (i + 1) + quoted_size (drop (i + 1) t))
  quoted_goes_on n =
      let q = quoted_other (get_or t i 0) (drop (i + 1) t) (ne_eqb (get_or t i 0) 34 n) in
      let z = ap quoted_size (from_here t i h) ∙ q.1 in
      (ap quoted_value (from_here t i h) ∙ q.0, omega arith)

  pub quoted_ends : get_or t i 0 ≡ 34 → length t - i < 2 → (quoted_value (drop i t) ≡ []) × (quoted_size (drop i t) ≡ 1)
  quoted_ends e l =
      let last = from_here t i h ∙ ap (λ (u : List ℕ). get_or t i 0 ∷ u) (from_end t (i + 1) (omega arith)) in
      let q = quoted_last (get_or t i 0) e in
      (ap quoted_value last ∙ q.0, ap quoted_size last ∙ q.1)

  module _ (g : i + 1 < length t) (e : get_or t i 0 ≡ 34) where
    pub quoted_stops : (get_or t (i + 1) 0 ≡ 34 → ⊥) → (quoted_value (drop i t) ≡ []) × (quoted_size (drop i t) ≡ 1)
    quoted_stops n =
        let q = quoted_shut (get_or t i 0) (get_or t (i + 1) 0) (drop (i + 2) t) e (ne_eqb (get_or t (i + 1) 0) 34 n) in
        (ap quoted_value (from_two t i g) ∙ q.0, ap quoted_size (from_two t i g) ∙ q.1)

    pub quoted_pair : get_or t (i + 1) 0 ≡ 34 → (quoted_value (drop i t) ≡ get_or t i 0 ∷ quoted_value (drop (i + 2) t)) × (i + quoted_size (drop i t) ≡ (i + 2) + quoted_size (drop (i + 2) t))
    quoted_pair f =
        let q = quoted_twice (get_or t i 0) (get_or t (i + 1) 0) (drop (i + 2) t) e f in
        let z = ap quoted_size (from_two t i g) ∙ q.1 in
        (ap quoted_value (from_two t i g) ∙ q.0, omega arith)

-- ---- a field at a place

module _ (t : List ℕ) (at : ℕ) where
  pub field_none : length t ≤ at → (bare_value (drop at t) ≡ value_at (drop at t)) × (length (bare_value (drop at t)) ≡ size_at (drop at t))
  unfolding bare_value value_at size_at
  field_none h = rw (from_end t at h) (refl, refl)

  pub field_quoted : at < length t → get_or t at 0 ≡ 34 → (quoted_value (drop (at + 1) t) ≡ value_at (drop at t)) × ((at + 1) + quoted_size (drop (at + 1) t) ≡ at + size_at (drop at t))
  unfolding value_at size_at
  field_quoted h e =
      let here = from_here t at h in
      let b : eqb (get_or t at 0) 34 ≡ true = eq-eqb (get_or t at 0) 34 e in
      let v : value_at (get_or t at 0 ∷ drop (at + 1) t) ≡ quoted_value (drop (at + 1) t) = rw b refl in
      let s : size_at (get_or t at 0 ∷ drop (at + 1) t) ≡ suc (quoted_size (drop (at + 1) t)) = rw b refl in
      let z = ap size_at here ∙ s in
      (sym (ap value_at here ∙ v), omega arith)

  pub field_bare : at < length t → (get_or t at 0 ≡ 34 → ⊥) → (bare_value (drop at t) ≡ value_at (drop at t)) × (length (bare_value (drop at t)) ≡ size_at (drop at t))
  unfolding value_at size_at
  field_bare h n =
      let here = from_here t at h in
      let b : eqb (get_or t at 0) 34 ≡ false = ne_eqb (get_or t at 0) 34 n in
      let v : value_at (get_or t at 0 ∷ drop (at + 1) t) ≡ bare_value (get_or t at 0 ∷ drop (at + 1) t) = rw b refl in
      let s : size_at (get_or t at 0 ∷ drop (at + 1) t) ≡ length (bare_value (get_or t at 0 ∷ drop (at + 1) t)) = rw b refl in
      (ap bare_value here ∙ sym (ap value_at here ∙ v), ap (λ (l : List ℕ). length (bare_value l)) here ∙ sym (ap size_at here ∙ s))

-- At the end of the text nothing is left of a field.
pub nothing_bare : (t : List ℕ) (i : ℕ) → length t ≤ i → bare_value (drop i t) ≡ []
unfolding bare_value
nothing_bare t i h = ap bare_value (from_end t i h)

pub nothing_quoted : (t : List ℕ) (i : ℕ) → length t ≤ i → (quoted_value (drop i t) ≡ []) × (quoted_size (drop i t) ≡ 0)
unfolding quoted_value quoted_size
nothing_quoted t i h = (ap quoted_value (from_end t i h), ap quoted_size (from_end t i h))
