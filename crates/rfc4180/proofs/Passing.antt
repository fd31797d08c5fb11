-- The questions about loading and saving pass exactly where what the call needs holds. Assumes nothing.
use mathlib.Core.Path.{◌≡◌, refl, ap, sym, ◌∙◌, subst}
use mathlib.Core.Bool.{true, ◌||◌, not, or-true}
use mathlib.Core.Logic.{⊎_elim, ◌↔◌}
use mathlib.Core.List.Memᴰ
use mathlib.Core.List.{List, [], ◌∷◌, ◌++◌, Memᴰ}
use mathlib.Core.Option.{none, or_else, map-eq-none_iff}
use Prim.Native.Nat.{ℕ, zero, suc, ◌*◌, ◌<◌}
use native.Mathlib.Omega.{arith}
use lib.Dec.{eqb, leb}
use lib.ListN.{length, get_or}
use borrow.Author.Tests.{eqb-true, eq-eqb, not-false}
use Rattle.semigroups.specs.Lists.{range, all}
use Rattle.semigroups.specs.Tables.{is_element}
use Rattle.semigroups.specs.Questions.{ask, first_no, cells_questions}
use Rattle.semigroups.specs.InnerQuestions.{cells_refusal}
use Rattle.semigroups.proofs.Booleans.{both, and_left, and_right, or_holds, not_of_true}
use Rattle.semigroups.proofs.Lists.{all_at, all_of, mem_range, range_mem, find_none, none_find}
use Rattle.semigroups.proofs.Questions.{all_passed}
use Rattle.semigroups.proofs.Passing.{asked, element_asked, room_asked, joined, cells_pass}
use Rattle.rfc4180.specs.Decimals.{is_digit}
use Rattle.rfc4180.specs.Records.{is_break, rows}
use Rattle.rfc4180.specs.Tables.{fields_of, order_of, table_text}
use Rattle.rfc4180.specs.Questions.{longest_text, break_at, in_break, is_allowed, first_other, bytes_question, fields_questions, is_square, grid_questions, size_questions, load_refusal, save_refusal}
use Rattle.rfc4180.specs.InnerQuestions.{fields_refusal}
use Rattle.rfc4180.specs.PassingLaws.{AllowedByte, a_digit, a_comma, a_cr, an_lf, Number, LoadPasses, SavePasses}
use Rattle.rfc4180.proofs.Records.{break_bytes}
use Rattle.rfc4180.proofs.Rows.{digit_range}
use Rattle.rfc4180.proofs.Fields.{is_digit_law, field_passes, field_passed, no_fields, fields_first, fields_passed}

-- ---- 21

module _ (t : List ℕ) (p : ℕ) where
  break_at_law : break_at t p ≡ true → (get_or t p 0 ≡ 13) × (get_or t (suc p) 0 ≡ 10)
  unfolding break_at
  break_at_law e = break_bytes (get_or t p 0) (get_or t (suc p) 0) e

  at_break : get_or t p 0 ≡ 13 → get_or t (suc p) 0 ≡ 10 → break_at t p ≡ true
  unfolding break_at is_break
  at_break e h = rw (e, h)

in_break_law : (t : List ℕ) (p : ℕ) → in_break t p ≡ true → AllowedByte t p
unfolding in_break
in_break_law t zero e = let b = break_at_law t 0 e in a_cr b.0 b.1
in_break_law t (suc p) e =
    ⊎_elim (λ (h : break_at t p ≡ true). let b = break_at_law t p h in an_lf p refl b.0 b.1) (λ (h : break_at t (suc p) ≡ true). let b = break_at_law t (suc p) h in a_cr b.0 b.1)
    (or_holds (break_at t p) (break_at t (suc p)) e)

is_allowed_law : (t : List ℕ) (p : ℕ) → is_allowed t p ≡ true → AllowedByte t p
unfolding is_allowed
is_allowed_law t p e =
    let b = get_or t p 0 in
    ⊎_elim (λ (h : is_digit b ≡ true). let d = digit_range b h in a_digit d.0 d.1)
    (λ (h : (eqb b 44 || in_break t p) ≡ true). ⊎_elim (λ (g : eqb b 44 ≡ true). a_comma (eqb-true b 44 g)) (λ (g : in_break t p ≡ true). in_break_law t p g) (or_holds (eqb b 44) (in_break t p) h))
    (or_holds (is_digit b) (eqb b 44 || in_break t p) e)

begins : (t : List ℕ) (p : ℕ) → break_at t p ≡ true → in_break t p ≡ true
unfolding in_break
begins t zero e = e
begins t (suc p) e = simp (e, or-true)

pub allowed_is : (t : List ℕ) (p : ℕ) → AllowedByte t p → is_allowed t p ≡ true
unfolding is_allowed in_break
allowed_is t p (a_digit lo hi) = rw (is_digit_law (get_or t p 0) lo hi)
allowed_is t p (a_comma e) = simp (eq-eqb (get_or t p 0) 44 e, or-true)
allowed_is t p (a_cr e h) = simp (begins t p (at_break t p e h), or-true)
allowed_is t (suc p) (an_lf q e h g) = simp (at_break t p (ap (λ (k : ℕ). get_or t k 0) (let z : p ≡ q = omega arith in z) ∙ h) g, or-true)
allowed_is t zero (an_lf q e h g) = absurd (let z : ⊥ = omega arith in z)

bytes_asked : (t : List ℕ) → (first_no (bytes_question t ∷ []) ≡ none) ↔ ((p : ℕ) → p < length t → AllowedByte t p)
unfolding first_other
bytes_asked t = (to, from)
  where
    to : first_no (bytes_question t ∷ []) ≡ none → (p : ℕ) → p < length t → AllowedByte t p
    to e p h =
        let n = (map-eq-none_iff (λ p. p ∷ []) (first_other t)).0 ((all_passed (bytes_question t ∷ [])).0 e).0 in
        is_allowed_law t p (not-false (is_allowed t p) (find_none (λ p. not (is_allowed t p)) (range 0 (length t)) n p (range_mem 0 (length t) p (omega arith) (omega arith))))

    from : ((p : ℕ) → p < length t → AllowedByte t p) → first_no (bytes_question t ∷ []) ≡ none
    from h =
        let n = none_find (λ p. not (is_allowed t p)) (range 0 (length t)) (λ p m. let l = mem_range 0 (length t) p m in not_of_true (is_allowed t p) (allowed_is t p (h p (omega arith)))) in
        (all_passed (bytes_question t ∷ [])).1 ((map-eq-none_iff (λ p. p ∷ []) (first_other t)).1 n, tt)

-- ---- 23 to 26

field_asked : (f : List ℕ) (fs : List (List ℕ)) → fields_refusal fs ≡ none → Number f → fields_refusal (f ∷ fs) ≡ none
unfolding or_else
field_asked f fs e n = fields_first f fs ∙ rw (sym (field_passes f n.leading n.some_byte n.short n.small)) e

fields_asked : (fs : List (List ℕ)) → (fields_refusal fs ≡ none) ↔ ((f : List ℕ) → Memᴰ f fs → Number f)
fields_asked [] = ((λ e f m. absurd (Memᴰ.not-nil m)), λ h. no_fields)
fields_asked (f ∷ fs) =
    let later = fields_asked fs in (
      (λ e g m. let p = fields_passed f fs e in ⊎_elim (λ (q : g ≡ f). subst Number (sym q) (field_passed f p.0)) (λ k. later.0 p.1 g k) (Memᴰ.cases_cons m)),
      λ h. field_asked f fs (later.1 (λ g m. h g (Memᴰ.tail m))) (h f (Memᴰ.head refl)),
    )

-- Question 26 passes exactly if there are n records, each with n fields.
square_asked : (n : ℕ) (t : List ℕ) → (first_no (ask 26 (is_square n (rows t)) ∷ []) ≡ none) ↔ ((length (rows t) ≡ n) × ((r : List (List ℕ)) → Memᴰ r (rows t) → length r ≡ n))
unfolding is_square
square_asked n t =
    let many = eqb (length (rows t)) n in
    let even = all (λ r. eqb (length r) n) (rows t) in
    asked 26 (is_square n (rows t))
    (λ e. (eqb-true (length (rows t)) n (and_left many even e), λ r m. eqb-true (length r) n (all_at (λ r. eqb (length r) n) (rows t) (and_right many even e) r m)))
    (λ h. both many even (eq-eqb (length (rows t)) n h.0) (all_of (λ r. eqb (length r) n) (rows t) (λ r m. eq-eqb (length r) n (h.1 r m))))

-- ---- the calls

pub load_passes : (t : List ℕ) (room : ℕ) → (load_refusal t room ≡ none) ↔ LoadPasses t room
unfolding load_refusal fields_refusal
load_passes t room =
    let n = order_of t in
    let grid = joined (fields_questions (fields_of t)) (ask 26 (is_square n (rows t)) ∷ []) (fields_asked (fields_of t)) (square_asked n t) in
    let from_Fields = joined (grid_questions n t) (size_questions t room) grid (joined (ask 1 (leb n 120) ∷ []) (ask 27 (leb (n * n) room) ∷ []) (room_asked 1 n 120) (room_asked 27 (n * n) room)) in
    let from_bytes = joined (bytes_question t ∷ []) (grid_questions n t ++ size_questions t room) (bytes_asked t) from_Fields in
    let w = joined (ask 20 (is_element longest_text (length t)) ∷ []) (bytes_question t ∷ (grid_questions n t ++ size_questions t room)) (element_asked 20 longest_text (length t)) from_bytes in (
      (λ e.
          let h = w.0 e in
          record {
            size = h.0;
            bytes = h.1.0;
            numbers = h.1.1.0.0;
            as_many_records = h.1.1.0.1.0;
            as_many_fields = h.1.1.0.1.1;
            order = h.1.1.1.0;
            cells_room = h.1.1.1.1;
          }),
      λ h. w.1 (h.size, (h.bytes, ((h.numbers, (h.as_many_records, h.as_many_fields)), (h.order, h.cells_room)))),
    )

pub save_passes : (n : ℕ) (cells : List ℕ) (room : ℕ) → (save_refusal n cells room ≡ none) ↔ SavePasses n cells room
unfolding save_refusal cells_refusal
save_passes n cells room =
    let w = joined (cells_questions n cells) (ask 28 (leb (length (table_text n cells)) room) ∷ []) (cells_pass n cells) (room_asked 28 (length (table_text n cells)) room) in
    ((λ e. let h = w.0 e in record { table = h.0; text_room = h.1 }), λ h. w.1 (h.table, h.text_room))
