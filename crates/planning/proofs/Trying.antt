-- The degrees are tried from 1 upward: those that are left decide the least fit. Assumes nothing.
use mathlib.Core.Path.{◌≡◌, refl, sym, ap, ◌∙◌}
use mathlib.Core.Bool.{Bool, true, false, cond}
use mathlib.Core.List.{List}
use mathlib.Core.Option.{Option, none, some, map, get_or}
use Prim.Native.Nat.{ℕ, ◌+◌, ◌≤◌, ◌<◌}
use native.Mathlib.Omega.{arith}
use Rattle.semigroups.specs.Tables.{Product}
use Rattle.semigroups.specs.Calls.{overwritten}
use Rattle.semigroups.proofs.Completions.{first_from, first_start, first_skip, first_hit, first_end}
use Rattle.planning.specs.Degrees.{Fit, fit, first_at, least_fit, least_degree, landings, fit_positions}
use Rattle.planning.specs.InnerDegrees.{least_embedding}

-- What is known of a degree: its first embedding, or that there is none.
module _ (told : Bool) (f : List ℕ) (o : Option (List ℕ)) (e : cond told (some f) none ≡ o) where
  pub told_found : told ≡ true → some f ≡ o
  told_found q = ap (λ (b : Bool). cond b (some f) none) (sym q) ∙ e

  pub told_none : told ≡ false → none ≡ o
  told_none q = ap (λ (b : Bool). cond b (some f) none) (sym q) ∙ e

module _ (m : ℕ) (s : Product) where
  abbrev fit_at : ℕ → Option Fit
  fit_at d = map (fit d) (first_at m s d)

  -- The invariant of the loop: the least fit is the first from `degree` on, and no byte of the image buffer or of the position buffer has changed.
  pub record Trying (image₀ positions₀ : List ℕ) (degree : ℕ) (image positions : List ℕ) : Type 0 where
    pub from_here : least_fit m s ≡ first_from fit_at 3 degree
    pub from_one : 1 ≤ degree
    pub to_end : degree ≤ 4
    pub image_kept : image ≡ image₀
    pub unwritten : positions ≡ positions₀

  -- What must be said, and left in the image and the position buffer.
  abbrev pub Placed : (image₀ positions₀ : List ℕ) (says : Option ℕ) (image' positions' : List ℕ) → Type 0
  Placed image₀ positions₀ says image' positions' =
      record {
        answer : says ≡ least_degree m s;
        image : image' ≡ get_or (least_embedding m s) image₀;
        positions : positions' ≡ overwritten (fit_positions m (least_fit m s)) positions₀;
      }

  pub try_begin : (image positions : List ℕ) → Trying image positions 1 image positions
  try_begin image positions = record { from_here = unfold least_fit in first_start fit_at 3; from_one = omega arith; to_end = omega arith; image_kept = refl; unwritten = refl }

  module _ (image₀ positions₀ : List ℕ) (degree : ℕ) (image positions : List ℕ) (t : Trying image₀ positions₀ degree image positions) where
    -- If there is no embedding at this degree, the next one is tried.
    pub try_next : degree ≤ 3 → none ≡ first_at m s degree → (left : List ℕ) → left ≡ get_or (first_at m s degree) image → Trying image₀ positions₀ (degree + 1) left positions
    try_next h e left w =
        record {
          from_here = t.from_here ∙ first_skip fit_at 3 degree h (ap (map (fit degree)) (sym e));
          from_one = omega arith;
          to_end = omega arith;
          image_kept = w ∙ ap (λ (o : Option (List ℕ)). get_or o image) (sym e) ∙ t.image_kept;
          unwritten = t.unwritten;
        }

    -- The first embedding at this degree decides.
    pub try_hit : degree ≤ 3 → (f : List ℕ) → some f ≡ first_at m s degree → (left : List ℕ) → left ≡ overwritten (landings m degree f) positions
        → Placed image₀ positions₀ (some degree) f left
    unfolding least_degree least_embedding
    try_hit h f e left w =
        let hit : least_fit m s ≡ some (fit degree f) = t.from_here ∙ first_hit fit_at 3 degree (fit degree f) h (ap (map (fit degree)) (sym e)) in
        record {
          answer = ap (map (λ (x : Fit). x.degree)) (sym hit);
          image = ap (λ (o : Option Fit). get_or (map (λ (x : Fit). x.embedding) o) image₀) (sym hit);
          positions = w ∙ ap (overwritten (landings m degree f)) t.unwritten ∙ ap (λ (o : Option Fit). overwritten (fit_positions m o) positions₀) (sym hit);
        }

    -- If all three degrees are tried, the answer is none of these.
    pub try_end : 3 < degree → Placed image₀ positions₀ none image positions
    unfolding least_degree least_embedding
    try_end h =
        let end : least_fit m s ≡ none = t.from_here ∙ first_end fit_at 3 degree h in
        record {
          answer = ap (map (λ (x : Fit). x.degree)) (sym end);
          image = t.image_kept ∙ ap (λ (o : Option Fit). get_or (map (λ (x : Fit). x.embedding) o) image₀) (sym end);
          positions = t.unwritten ∙ ap (λ (o : Option Fit). overwritten (fit_positions m o) positions₀) (sym end);
        }
