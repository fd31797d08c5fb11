-- Reading a text field by field: from the start of a field on, the text, with the line break that its last record may lack, is the text of the
-- rows that are left, the first of them without the fields read so far.
-- Assumes nothing.
use mathlib.Core.Path.{◌≡◌, refl, ap, sym, ◌∙◌}
use mathlib.Core.Bool.{Bool, true, false, cond}
use mathlib.Core.List.{List, [], ◌∷◌, ◌++◌, flat_map, flatten, append_assoc, append-nil}
use mathlib.Core.Option.{none}
use Prim.Native.Nat.{ℕ, zero, suc, ◌+◌, ◌-◌, ◌≤◌, ◌<◌}
use native.Mathlib.Omega.{arith}
use lib.Dec.{eqb, ltb}
use lib.ListN.{length, get_or, drop, length-append, length-drop, get_or-append}
use lib.Seq.{drop-drop, drop-append-le, drop-append_seam, get_or-drop, get_or-append_seam}
use borrow.Author.Tests.{lt-ltb, le-ltb, ltb-true, ltb-false, eqb-true, eq-eqb}
use Rattle.rfc4180.specs.Decimals.{is_digit}
use Rattle.rfc4180.specs.InnerCursor.{digits, field_end, comma_follows, next_field, field_follows}
use Rattle.rfc4180.specs.Records.{is_break, rows, record_text, rows_text}
use Rattle.rfc4180.specs.RoundsLaws.{ends_in_break}
use Rattle.rfc4180.specs.InnerQuestions.{bytes_refusal}
use Rattle.rfc4180.proofs.Records.{ends, closing, missing}
use Rattle.rfc4180.proofs.Bytes.{other_clean, no_other, ends_break}
use Rattle.rfc4180.proofs.Rows.{Digits, Rows, rows_text_cons, rows_text_rows, clean_rows, rows_some}
use Rattle.semigroups.proofs.Booleans.{impossible}

-- ---- a field and what follows it

digits_field : (f : List ℕ) (b : ℕ) (t : List ℕ) → Digits f → is_digit b ≡ false → digits (f ++ b ∷ t) ≡ f
unfolding digits
digits_field [] b t h e = simp e
digits_field (a ∷ f) b t h e = rw (h.0, digits_field f b t h.1 e)

pub rows_text_comma : (f g : List ℕ) (gs : List (List ℕ)) (rs : List (List (List ℕ))) → rows_text ((f ∷ g ∷ gs) ∷ rs) ≡ f ++ 44 ∷ rows_text ((g ∷ gs) ∷ rs)
unfolding record_text flat_map
rows_text_comma f g gs rs =
    rows_text_cons (f ∷ g ∷ gs) rs
    ∙ append_assoc f (44 ∷ (g ++ flat_map (λ k. 44 ∷ k) gs)) (13 ∷ 10 ∷ rows_text rs)
    ∙ ap (λ (l : List ℕ). f ++ 44 ∷ l) (sym (rows_text_cons (g ∷ gs) rs))

pub rows_text_break : (f : List ℕ) (rs : List (List (List ℕ))) → rows_text ((f ∷ []) ∷ rs) ≡ f ++ 13 ∷ 10 ∷ rows_text rs
unfolding record_text flat_map
rows_text_break f rs = rows_text_cons (f ∷ []) rs ∙ ap (λ (l : List ℕ). l ++ 13 ∷ 10 ∷ rows_text rs) (append-nil f)

-- ---- a part of a text that begins at a place

module _ (t : List ℕ) (at : ℕ) where
  part_after_law : (p q : List ℕ) → drop at t ≡ p ++ q → drop (at + length p) t ≡ q
  part_after_law p q h = sym (drop-drop (length p) at t) ∙ ap (drop (length p)) h ∙ drop-append_seam p q

  part_next : (p : List ℕ) (b : ℕ) (q : List ℕ) → drop at t ≡ p ++ b ∷ q → get_or t (at + length p) 0 ≡ b
  part_next p b q h = sym (get_or-drop at t (length p) 0) ∙ ap (λ (l : List ℕ). get_or l (length p) 0) h ∙ get_or-append_seam p b q 0

  part_length : (p q : List ℕ) → at ≤ length t → drop at t ≡ p ++ q → at + length p + length q ≡ length t
  part_length p q l h = omega (arith, length-drop at t, simp length-append at (ap length h))

-- ---- the text and the line break that it may lack

digits_open : (l : List ℕ) (e : Bool) → digits (l ++ closing e) ≡ digits l
unfolding digits is_digit
digits_open [] true = refl
digits_open [] false = refl
digits_open (b ∷ l) e = rw (digits_open l e)

-- A line break has no comma, so one that is added changes no comma.
comma_open : (t : List ℕ) (e : Bool) (i : ℕ) → eqb (get_or (t ++ closing e) i 0) 44 ≡ eqb (get_or t i 0) 44
comma_open [] true i = refl
comma_open [] false zero = refl
comma_open [] false (suc zero) = refl
comma_open [] false (suc (suc i)) = refl
comma_open (b ∷ t) e zero = refl
comma_open (b ∷ t) e (suc i) = comma_open t e i

ends_at : (t : List ℕ) (i : ℕ) → i + 2 ≡ length t → get_or t i 0 ≡ 13 → get_or t (i + 1) 0 ≡ 10 → ends t ≡ true
unfolding ends_in_break is_break
ends_at [] i h a b = let w : ⊥ = omega arith in absurd w
ends_at (x ∷ t) i h a b =
    let k : suc (length t) - 2 ≡ i = omega arith in
    let m : suc (length t) - 1 ≡ i + 1 = omega arith in
    ends_break x t ∙ rw (k, m) (simp (a, b))

-- If a row follows a line break, bytes of the text itself are left after it.
bytes_left : (t : List ℕ) (end k : ℕ) → get_or (t ++ missing t) end 0 ≡ 13 → get_or (t ++ missing t) (end + 1) 0 ≡ 10
    → end + 2 + k ≡ length (t ++ missing t) → 2 ≤ k → end + 2 < length t
unfolding missing
bytes_left t end k a b h l = go (ends t) refl a b (h ∙ length-append t (closing (ends t)))
  where
    inside : (m : List ℕ) → ends t ≡ false → get_or (t ++ m) end 0 ≡ 13 → get_or (t ++ m) (end + 1) 0 ≡ 10 → end + 2 ≤ length t
        → (e : Bool) → ltb (end + 2) (length t) ≡ e → end + 2 < length t
    inside m o x y i true e = ltb-true _ _ e
    inside m o x y i false e =
        let u : length t ≤ end + 2 = ltb-false _ _ e in
        let x' = sym (get_or-append t m 0 end (omega arith)) ∙ x in
        let y' = sym (get_or-append t m 0 (end + 1) (omega arith)) ∙ y in
        let c = ends_at t end (omega arith) x' y' in
        impossible (cc)

    go : (e : Bool) → ends t ≡ e → get_or (t ++ closing e) end 0 ≡ 13 → get_or (t ++ closing e) (end + 1) 0 ≡ 10
        → end + 2 + k ≡ length t + length (closing e) → end + 2 < length t
    go true e x y h = omega arith
    go false e x y h = inside (13 ∷ 10 ∷ []) e x y (omega arith) (ltb (end + 2) (length t)) refl

-- A place that holds a byte other than 0 lies inside the list.
in_list : (t : List ℕ) (i b : ℕ) → get_or t i 0 ≡ suc b → i < length t
in_list [] i b h = let z : ◌≡◌ {A = ℕ} 0 1 = omega arith in omega arith
in_list (x ∷ t) zero b h = omega arith
in_list (x ∷ t) (suc i) b h = let w = in_list t i b h in omega arith

-- ---- the rows that are left

-- The rows from the next field on, where `fs` are left of the first row and `rs` after it.
abbrev pub following : List (List ℕ) → List (List (List ℕ)) → List (List (List ℕ))
following [] rs = rs
following (g ∷ gs) rs = (g ∷ gs) ∷ rs

-- Whether a row goes on.
abbrev pub goes_on_with : List (List ℕ) → Bool
goes_on_with [] = false
goes_on_with (g ∷ gs) = true

pub flatten_after : (f : List ℕ) (fs : List (List ℕ)) (rs : List (List (List ℕ))) → flatten ((f ∷ fs) ∷ rs) ≡ f ∷ flatten (following fs rs)
unfolding flatten
flatten_after f [] rs = refl
flatten_after f (g ∷ gs) rs = refl

-- The rows that are left from a place on where a field begins; or none, where no field follows.
pub data Left (t : List ℕ) (at : ℕ) : Bool → List (List (List ℕ)) → Type 0 where
  done : Left t at false []
  begins : {f : List ℕ} {fs : List (List ℕ)} {rs : List (List (List ℕ))} → at ≤ length t → drop at (t ++ missing t) ≡ rows_text ((f ∷ fs) ∷ rs)
      → Rows ((f ∷ fs) ∷ rs) → Left t at true ((f ∷ fs) ∷ rs)

-- The field at a place is the first that is left; the cursor says whether its row goes on, and which rows are left from where.
pub record Turn (t : List ℕ) (at : ℕ) (rest : List (List (List ℕ))) : Type 0 where
  pub inside : at ≤ length t
  pub fields : List (List ℕ)
  pub later : List (List (List ℕ))
  pub here : rest ≡ (digits (drop at t) ∷ fields) ∷ later
  pub comma : comma_follows t at ≡ goes_on_with fields
  pub left : Left t (next_field t at) (field_follows t at) (following fields later)

module _ (t : List ℕ) (at : ℕ) (inside : at ≤ length t) where
  -- The digits at a place are the field that stands there.
  field_at : (f : List ℕ) (b : ℕ) (q : List ℕ) → Digits f → is_digit b ≡ false → drop at (t ++ missing t) ≡ f ++ b ∷ q → digits (drop at t) ≡ f
  unfolding missing
  field_at f b q h e r =
      sym (digits_open (drop at t) (ends t)) ∙ ap digits (sym (drop-append-le at t (missing t) inside) ∙ r) ∙ digits_field f b q h e

  comma_at_law : (i : ℕ) → get_or (t ++ missing t) i 0 ≡ 44 → get_or t i 0 ≡ 44
  unfolding missing
  comma_at_law i h = eqb-true _ _ (sym (comma_open t (ends t) i) ∙ eq-eqb _ _ h)

  comma_none : (i : ℕ) → get_or (t ++ missing t) i 0 ≡ 13 → eqb (get_or t i 0) 44 ≡ false
  unfolding missing
  comma_none i h = sym (comma_open t (ends t) i) ∙ rw h

  -- Which rows are left after a line break.
  rows_after : (f : List ℕ) (rs : List (List (List ℕ))) → drop at (t ++ missing t) ≡ f ++ 13 ∷ 10 ∷ rows_text rs → Rows rs
      → Left t (at + length f + 2) (ltb (at + length f + 2) (length t)) rs
  unfolding rows_text flat_map
  rows_after f rs r l =
      let u = t ++ missing t in
      let s : drop at u ≡ (f ++ 13 ∷ 10 ∷ []) ++ rows_text rs = r ∙ sym (append_assoc f (13 ∷ 10 ∷ []) (rows_text rs)) in
      let v : drop at u ≡ (f ++ 13 ∷ []) ++ 10 ∷ rows_text rs = r ∙ sym (append_assoc f (13 ∷ []) (10 ∷ rows_text rs)) in
      let n : at + length f + 2 ≡ at + length (f ++ 13 ∷ 10 ∷ []) = simp length-append (omega arith) in
      let m : at + length f + 1 ≡ at + length (f ++ 13 ∷ []) = simp length-append (omega arith) in
      let long = length-append t (missing t) in
      go rs (ap (λ (i : ℕ). drop i u) n ∙ part_after_law u at (f ++ 13 ∷ 10 ∷ []) (rows_text rs) s) l
      (part_next u at f 13 (10 ∷ rows_text rs) r)
      (rw m (part_next u at (f ++ 13 ∷ []) 10 (rows_text rs) v))
      (omega (arith, part_length u at (f ++ 13 ∷ 10 ∷ []) (rows_text rs) (omega arith) s))
    where
      go : (k : List (List (List ℕ))) → drop (at + length f + 2) (t ++ missing t) ≡ rows_text k → Rows k
          → get_or (t ++ missing t) (at + length f) 0 ≡ 13 → get_or (t ++ missing t) (at + length f + 1) 0 ≡ 10
          → at + length f + 2 + length (rows_text k) ≡ length (t ++ missing t) → Left t (at + length f + 2) (ltb (at + length f + 2) (length t)) k
      go [] e l x y h = rw (le-ltb (at + length f + 2) (length t) (omega (arith, length-append t (missing t)))) done
      go ([] ∷ k) e l x y h = absurd l.0
      go ((g ∷ gs) ∷ k) e l x y h =
          let two : 2 ≤ length (rows_text ((g ∷ gs) ∷ k)) = rw (rows_text_cons (g ∷ gs) k) (simp length-append (omega arith)) in
          let i = bytes_left t (at + length f) (length (rows_text ((g ∷ gs) ∷ k))) x y h two in
          rw (lt-ltb (at + length f + 2) (length t) i) (begins (omega arith) e l)

  comma_turn : (f g : List ℕ) (gs : List (List ℕ)) (rs : List (List (List ℕ))) → drop at (t ++ missing t) ≡ rows_text ((f ∷ g ∷ gs) ∷ rs)
      → Rows ((f ∷ g ∷ gs) ∷ rs) → Turn t at ((f ∷ g ∷ gs) ∷ rs)
  unfolding is_digit comma_follows next_field field_follows
  comma_turn f g gs rs e l =
      let q = rows_text ((g ∷ gs) ∷ rs) in
      let r = e ∙ rows_text_comma f g gs rs in
      let s : drop at (t ++ missing t) ≡ (f ++ 44 ∷ []) ++ q = r ∙ sym (append_assoc f (44 ∷ []) q) in
      let n : at + length f + 1 ≡ at + length (f ++ 44 ∷ []) = simp length-append (omega arith) in
      let d = field_at f 44 q l.0.0 refl r in
      let c = comma_at_law (at + length f) (part_next (t ++ missing t) at f 44 q r) in
      let b : comma_follows t at ≡ true = rw (d, c) in
      let p : next_field t at ≡ at + length f + 1 = rw (d, c) in
      let w : field_follows t at ≡ true = rw (d, c) in
      let k = in_list t (at + length f) 43 c in
      record {
        inside = inside;
        fields = g ∷ gs;
        later = rs;
        here = rw d;
        comma = b;
        left = rw (w, p) (begins (omega arith) (ap (λ (i : ℕ). drop i (t ++ missing t)) n ∙ part_after_law (t ++ missing t) at (f ++ 44 ∷ []) q s) (l.0.1, l.1));
      }

  break_turn : (f : List ℕ) (rs : List (List (List ℕ))) → drop at (t ++ missing t) ≡ rows_text ((f ∷ []) ∷ rs) → Rows ((f ∷ []) ∷ rs) → Turn t at ((f ∷ []) ∷ rs)
  unfolding is_digit comma_follows next_field field_follows
  break_turn f rs e l =
      let u = t ++ missing t in
      let r = e ∙ rows_text_break f rs in
      let d = field_at f 13 (10 ∷ rows_text rs) l.0.0 refl r in
      let x = part_next u at f 13 (10 ∷ rows_text rs) r in
      let c = comma_none (at + length f) x in
      let b : comma_follows t at ≡ false = rw (d, c) in
      let p : next_field t at ≡ at + length f + 2 = rw (d, c) in
      let w : field_follows t at ≡ ltb (at + length f + 2) (length t) = rw (d, c) in
      record { inside = inside; fields = []; later = rs; here = rw d; comma = b; left = rw (w, p) (rows_after f rs r l.1) }

pub turn : {t : List ℕ} {at : ℕ} {more : Bool} {rs : List (List (List ℕ))} → more ≡ true → Left t at more rs → Turn t at rs
turn e done = impossible (cc)
turn {t} {at} e (begins {f = f} {fs = []} {rs = rs} i r l) = break_turn t at i f rs r l
turn {t} {at} e (begins {f = f} {fs = g ∷ gs} {rs = rs} i r l) = comma_turn t at i f g gs rs r l

-- ---- the start and the end

pub all_left : {t : List ℕ} → 1 ≤ length t → bytes_refusal t ≡ none → Left t 0 true (rows t)
all_left {t} one b =
    let c = other_clean t (no_other t b) in
    let s = rows_some t one c in
    rw s.3 (begins (omega arith) (rw s.3 at (sym (rows_text_rows t))) (rw s.3 at (clean_rows t c)))

pub left_true : {t : List ℕ} {at : ℕ} {more : Bool} {r : List (List ℕ)} {rs : List (List (List ℕ))} → Left t at more (r ∷ rs) → more ≡ true
left_true (begins i r l) = refl

pub left_none : {t : List ℕ} {at : ℕ} {more : Bool} {rs : List (List (List ℕ))} → more ≡ false → Left t at more rs → rs ≡ []
left_none e done = refl
left_none e (begins i r l) = impossible (cc)

-- The cursor goes forward: the next field begins at a later place.
pub next_later : (t : List ℕ) (at : ℕ) → at + 1 ≤ next_field t at
unfolding next_field
next_later t at = elim (comma_follows t at) as (λ e. at + 1 ≤ cond e (field_end t at + 1) (field_end t at + 2)) [ true ↦ omega arith | false ↦ omega arith ]

pub turn_forward : {t : List ℕ} {at : ℕ} {rest : List (List (List ℕ))} → Turn t at rest → length t + 1 - next_field t at < length t + 1 - at
turn_forward {t} {at} x = let i = x.inside in omega (arith, next_later t at)
