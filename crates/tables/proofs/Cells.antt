-- Whether all cells are elements, by the smallest and the largest one. Assumes nothing.
use mathlib.Core.Path.{◌≡◌, ap, sym, ◌∙◌}
use mathlib.Core.Bool.{Bool, true, ◌&&◌, and_assoc, and-true}
use mathlib.Core.List.{List}
use mathlib.Core.Option.{none}
use Prim.Native.Nat.{ℕ, suc, ◌+◌, ◌≤◌, ◌<◌, min, max}
use native.Mathlib.Numerals.{add-one}
use native.Mathlib.Omega.{arith}
use lib.Dec.{leb}
use lib.ListN.{length, get_or, drop, drop_of_length-le}
use lib.Seq.{drop-cons}
use borrow.Author.Tests.{leb-true, le-leb}
use Rattle.semigroups.specs.Lists.{all}
use Rattle.semigroups.specs.Tables.{Element, is_element, bad_cell}
use Rattle.semigroups.proofs.Booleans.{both, and_left, and_right, same_truth}
use Rattle.semigroups.proofs.Lists.{all_at, is_element_law, element_is}
use Rattle.semigroups.proofs.NoRepeats.{place_mem}
use Rattle.semigroups.proofs.Tables.{no_bad_cell}

module _ (n : ℕ) where
  -- Whether the numbers from `least` to `most` are elements.
  abbrev pub within : ℕ → ℕ → Bool
  within least most = leb 1 least && leb most n

  -- The bounds with one number more hold exactly if the old ones do and the number is an element.
  joined : (least most x : ℕ) → (within least most && is_element n x) ≡ within (min least x) (max most x)
  joined least most x =
      same_truth (within least most && is_element n x) (within (min least x) (max most x))
      (λ h.
      let w = and_left (within least most) (is_element n x) h in
      let low = leb-true 1 least (and_left (leb 1 least) (leb most n) w) in
      let high = leb-true most n (and_right (leb 1 least) (leb most n) w) in
      let e = is_element_law n x (and_right (within least most) (is_element n x) h) in
      let e0 = e.0 in
      let e1 = e.1 in
      both (leb 1 (min least x)) (leb (max most x) n) (le-leb 1 (min least x) (omega arith)) (le-leb (max most x) n (omega arith)))
      (λ h.
      let low = leb-true 1 (min least x) (and_left (leb 1 (min least x)) (leb (max most x) n) h) in
      let high = leb-true (max most x) n (and_right (leb 1 (min least x)) (leb (max most x) n) h) in
      both (within least most) (is_element n x) (both (leb 1 least) (leb most n) (le-leb 1 least (omega arith)) (le-leb most n (omega arith)))
      (element_is n x (let z : Element n x = omega arith in z)))

  module _ (cells : List ℕ) where
    -- All cells are elements exactly if the numbers from `least` to `most` and the cells from `place` on are.
    pub record Bounded (least most place : ℕ) : Type 0 where
      pub told : all (is_element n) cells ≡ (within least most && all (is_element n) (drop place cells))

    pub bounded_first : Bounded 255 0 0
    bounded_first = record { told = rw (le-leb 0 n (omega arith)) }

    module _ {least most place : ℕ} (b : Bounded least most place) where
      pub bounded_next : place < length cells → Bounded (min least (get_or cells place 0)) (max most (get_or cells place 0)) (place + 1)
      unfolding all
      bounded_next h = record {
        told =
            b.told ∙ ap (λ (l : List ℕ). within least most && all (is_element n) l) (drop-cons cells place 0 h) ∙ rw add-one
            (sym (and_assoc (within least most) (is_element n (get_or cells place 0)) (all (is_element n) (drop (suc place) cells)))
            ∙ ap (λ (b : Bool). b && all (is_element n) (drop (suc place) cells)) (joined least most (get_or cells place 0)));
      }

      pub bounded_last : length cells ≤ place → all (is_element n) cells ≡ within least most
      unfolding all
      bounded_last h = b.told ∙ ap (λ (l : List ℕ). within least most && all (is_element n) l) (drop_of_length-le cells h) ∙ and-true (within least most)

    pub none_outside : all (is_element n) cells ≡ true → bad_cell n cells ≡ none
    none_outside e = no_bad_cell n cells (λ k h. is_element_law n (get_or cells k 0) (all_at (is_element n) cells e (get_or cells k 0) (place_mem 0 cells k h)))
