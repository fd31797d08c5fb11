-- The number of a transformation, less one, has the images of its points, less one, as its digits: division by the degree drops the last point, and the
-- remainder is its image. The landing positions of each element are written in this way. Assumes nothing.
use mathlib.Core.Path.{◌≡◌, sym, ap, ◌∙◌, subst}
use mathlib.Core.List.{List, [], ◌++◌}
use Prim.Native.Nat.{ℕ, ◌+◌, ◌-◌, ◌*◌, ◌/◌, ◌%◌, ◌≤◌, ◌<◌}
use native.Mathlib.Nat.{mul-le-mul_left, add-sub_cancel}
use native.Mathlib.Omega.{arith}
use lib.ListN.{length, take, drop, get_or}
use lib.Seq.{take-length}
use Rattle.semigroups.specs.Lists.{at, lists}
use Rattle.semigroups.specs.Tables.{grid, Element}
use Rattle.semigroups.specs.InnerTables.{IsList}
use Rattle.semigroups.specs.Calls.{overwritten}
use Rattle.semigroups.specs.Transformations.{transformations, transformation_order, transformation, number_of}
use Rattle.semigroups.proofs.Tables.{list_at, length_grid}
use Rattle.semigroups.proofs.Transformations.{transformation_list, number_transformation}
use Rattle.semigroups.proofs.Digits.{digits, list_place, drop_digit, last_digit}
use Rattle.planning.specs.Degrees.{position, landings}

module _ (d k : ℕ) (h : Element (transformation_order d) k) where
  images : IsList d d (transformation d k)
  images = transformation_list d k h

  number_digits : digits d 0 (transformation d k) ≡ k - 1
  number_digits =
      let f = transformation d k in
      let i = digits d 0 f + 1 in
      let r = list_place d d f images in
      let below : digits d 0 f < transformation_order d = (unfold transformation_order in r.0) in
      let same : transformation d i ≡ f =
      (unfold transformation transformations in ap (λ (p : ℕ). get_or (lists d d) p []) (let z : i - 1 ≡ digits d 0 f = omega arith in z) ∙ r.1) in
      let numbered : i ≡ k = sym (number_transformation d i (omega arith)) ∙ ap (number_of d) same ∙ number_transformation d k h in
      omega arith

  -- What is left of the number once the points after `point` are dropped, and x is none of these.
  pub record Left (x rest point : ℕ) : Type 0 where
    pub digits_left : rest ≡ digits d 0 (take point (transformation d k))
    pub not_dropped : x ≤ point
    pub points : point ≤ d

  pub left_begin : (x : ℕ) → Element d x → Left x (k - 1) d
  left_begin x hx =
      record {
        digits_left = sym (ap (λ (p : ℕ). digits d 0 (take p (transformation d k))) (sym images.size) ∙ ap (digits d 0) (take-length (transformation d k)) ∙ number_digits);
        not_dropped = hx.1;
        points = omega arith;
      }

  module _ (x rest point : ℕ) (hx : Element d x) (l : Left x rest point) where
    point_known : Element d point
    point_known = let a = l.not_dropped in let b = l.points in omega arith

    point_long : Element (length (transformation d k)) point
    point_long = let e = images.size in let p = point_known in omega arith

    pub left_next : x < point → Left x (rest / d) (point - 1)
    left_next less =
        let b = l.points in
        record {
          digits_left = ap (λ (q : ℕ). q / d) l.digits_left ∙ drop_digit d (transformation d k) point point_long (list_at d d (transformation d k) images point point_known);
          not_dropped = omega arith;
          points = omega arith;
        }

    pub left_image : point ≤ x → rest % d + 1 ≡ at (transformation d k) x
    left_image least =
        let a = l.not_dropped in
        let last : point ≡ x = omega arith in
        let image = list_at d d (transformation d k) images x hx in
        let digit : rest % d ≡ at (transformation d k) x - 1 =
        ap (λ (q : ℕ). q % d) l.digits_left ∙ last_digit d (transformation d k) point point_long (list_at d d (transformation d k) images point point_known)
        ∙ ap (λ (p : ℕ). at (transformation d k) p - 1) last in
        omega arith

-- ---- the positions of each element

-- A buffer with room for three positions of each of m elements has room for d.
pub room_enough : (m d size : ℕ) → Element 3 d → m * 3 ≤ size → m * d ≤ size
room_enough m d size h room = let b : m * d ≤ m * 3 = mul-le-mul_left m h.1 in omega arith

-- Rows and elements are counted from 0 and 1.
module _ (m d : ℕ) (f : List ℕ) (F : IsList m (transformation_order d) f) where
  image_at : (i : ℕ) → at f (i + 1) ≡ get_or f i 0
  unfolding at
  image_at i = ap (λ (k : ℕ). get_or f k 0) (add-sub_cancel i 1)

  pub image_number : (i : ℕ) → i < m → Element (transformation_order d) (get_or f i 0)
  image_number i h = subst (Element (transformation_order d)) (image_at i) (list_at m (transformation_order d) f F (i + 1) (omega arith))

  module _ (i x r : ℕ) (hi : i < m) (hx : Element d x) (e : r ≡ at (transformation d (get_or f i 0)) x) where
    pub image_small : Element 3 d → r ≤ 3
    image_small h =
        let b = list_at d d (transformation d (get_or f i 0)) (transformation_list d (get_or f i 0) (image_number i hi)) x hx in
        omega arith

    pub image_position : r ≡ position d f (i + 1) x
    unfolding position
    image_position = e ∙ ap (λ (k : ℕ). at (transformation d k) x) (sym (image_at i))

pub landings_written : (m d : ℕ) (f before : List ℕ) → grid m d (position d f) ++ drop (m * d) before ≡ overwritten (landings m d f) before
unfolding landings
landings_written m d f before = ap (λ (k : ℕ). grid m d (position d f) ++ drop k before) (sym (length_grid m d (position d f)))
