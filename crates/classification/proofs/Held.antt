-- What the code's arrays say of the notes. Assumes nothing.
use mathlib.Core.Path.{◌≡◌, ap, ap₂, ◌∙◌}
use mathlib.Core.List.{List, [], ◌∷◌, ◌++◌, map, map-append, Memᴰ}
use Prim.Native.Nat.{ℕ, ◌+◌, ◌-◌, ◌<◌}
use native.Mathlib.Numerals.{add-one}
use native.Mathlib.Omega.{arith}
use lib.ListN.{length, get_or, set}
use lib.Seq.{get_or-set_same, get_or-set_other}
use Rattle.semigroups.specs.Lists.{range, elements, at, count}
use Rattle.semigroups.specs.Tables.{Element}
use Rattle.semigroups.proofs.Lists.{mem_range, range_snoc}
use Rattle.semigroups.proofs.Sums.{count_map}
use Rattle.progress.specs.Classes.{Note, refused_by}
use Rattle.progress.specs.Output.{is_in, note, names, members}
use Rattle.progress.specs.Held.{note_from, notes_from}
use Rattle.classification.proofs.Lists.{map_within, get_d_map_range}

-- The note that stands at place k - 1 of the arrays.
abbrev pub held : List ℕ → List ℕ → ℕ → Note
held orders numbers k = note_from (get_or orders (k - 1) 0) (get_or numbers (k - 1) 0)

module _ (orders numbers : List ℕ) (c : ℕ) where
  pub note_from_law : (k : ℕ) → Element c k → note (notes_from orders numbers c) k ≡ held orders numbers k
  unfolding note notes_from elements at
  note_from_law k h = get_d_map_range (held orders numbers) (refused_by 0) 1 c (k - 1) (omega arith) ∙ ap (held orders numbers) (let z : 1 + (k - 1) ≡ k = omega arith in z)

  pub names_from : (k : ℕ) → Element c k → names (notes_from orders numbers c) k ≡ is_in k (held orders numbers k)
  unfolding names
  names_from k h = ap (is_in k) (note_from_law k h)

  pub members_from : (a : ℕ) → members (notes_from orders numbers c) a ≡ count (λ k. is_in a (held orders numbers k)) (elements c)
  unfolding members notes_from at
  members_from a = count_map (is_in a) (held orders numbers) (elements c)

  -- One more note is added.
  pub notes_more : (x y : ℕ) → c < length orders → c < length numbers → notes_from (set orders c x) (set numbers c y) (c + 1) ≡ notes_from orders numbers c ++ note_from x y ∷ []
  unfolding notes_from elements at
  notes_more x y ho hn =
      ap (λ (k : ℕ). map (held (set orders c x) (set numbers c y)) (range 1 k)) (add-one c) ∙ ap (map (held (set orders c x) (set numbers c y))) (range_snoc 1 c)
      ∙ map-append (held (set orders c x) (set numbers c y)) (range 1 c) ((1 + c) ∷ [])
      ∙ ap₂ {C = List Note} (λ (l : List Note) (z : Note). l ++ z ∷ []) (map_within (held (set orders c x) (set numbers c y)) (held orders numbers) (range 1 c) stays) last
    where
      stays : (k : ℕ) → Memᴰ k (range 1 c) → held (set orders c x) (set numbers c y) k ≡ held orders numbers k
      stays k m =
          let r = mem_range 1 c k m in
          ap₂ note_from (get_or-set_other orders c (k - 1) x 0 (λ e. let z : ⊥ = omega arith in z)) (get_or-set_other numbers c (k - 1) y 0 (λ e. let z : ⊥ = omega arith in z))

      place : 1 + c - 1 ≡ c
      place = omega arith

      last : held (set orders c x) (set numbers c y) (1 + c) ≡ note_from x y
      last =
          ap₂ note_from (ap (λ (i : ℕ). get_or (set orders c x) i 0) place ∙ get_or-set_same orders c x 0 ho) (ap (λ (i : ℕ). get_or (set numbers c y) i 0) place ∙ get_or-set_same numbers c y 0 hn)
