-- A text loads exactly as if its last line break were there (RULES 19.2): the place that question 21 names, and the rows, are the same.
-- Assumes nothing.
use mathlib.Core.Path.{◌≡◌, refl, ap, ◌∙◌}
use mathlib.Core.Bool.{Bool, true, false, ◌&&◌, not, cond, and-false}
use mathlib.Core.List.{List, [], ◌∷◌, ◌++◌, map}
use mathlib.Core.Option.{Option, none, some, or_else}
use Prim.Native.Nat.{ℕ, zero, suc, ◌+◌, ◌≤◌, ◌<◌}
use native.Mathlib.Omega.{arith}
use lib.Dec.{eqb}
use lib.ListN.{length, get_or, length-append, get_or-append}
use lib.Seq.{get_or-append_seam}
use borrow.Author.Tests.{le-leb}
use mathlib.Core.Logic.{⊎_elim}
use Rattle.semigroups.specs.Lists.{range, find}
use Rattle.semigroups.proofs.Booleans.{not_of_true, equal_or_not}
use Rattle.semigroups.proofs.Lists.{range_append, mem_range, find_same, none_find, find_append}
use Rattle.semigroups.specs.Tables.{is_element}
use Rattle.rfc4180.specs.PassingLaws.{a_cr, an_lf, LoadPasses}
use Rattle.rfc4180.specs.Calls.{load_answer, cells_after}
use Rattle.rfc4180.specs.RoundsLaws.{LoadsClosed, closed}
use Rattle.rfc4180.specs.Tables.{fields_of, order_of, cells_of}
use Rattle.rfc4180.proofs.Loading.{load_passed}
use Rattle.rfc4180.proofs.Accepted.{closed_fits}
use Rattle.rfc4180.specs.Records.{is_break, onto, records, fields, rows}
use Rattle.rfc4180.specs.Questions.{longest_text, break_at, in_break, is_allowed, first_other, load_refusal}
use Rattle.rfc4180.proofs.Records.{ends, closing, missing}
use Rattle.rfc4180.proofs.Bytes.{closed_is}
use Rattle.rfc4180.proofs.Passing.{allowed_is, load_passes}

-- ---- the rows

records_open : (t : List ℕ) → records (t ++ missing t) ≡ records t
unfolding records missing ends is_break onto
records_open [] = refl
records_open (b ∷ []) = rw (and-false (eqb b 13))
records_open (b ∷ c ∷ t) = go (records_open t) (records_open (c ∷ t)) (is_break b c)
  where
    go : records (t ++ missing t) ≡ records t → records (c ∷ (t ++ missing (c ∷ t))) ≡ records (c ∷ t) → (e : Bool)
        → cond e ([] ∷ records (t ++ closing (cond e (ends t) (ends (c ∷ t))))) (onto b (records (c ∷ (t ++ closing (cond e (ends t) (ends (c ∷ t))))))) ≡ cond e ([] ∷ records t) (onto b (records (c ∷ t)))
    go past later true = ap (λ (l : List (List ℕ)). [] ∷ l) past
    go past later false = ap (onto b) later

pub rows_closed : (t : List ℕ) → rows (closed t) ≡ rows t
unfolding rows
rows_closed t = ap (λ (u : List ℕ). map fields (records u)) (closed_is t) ∙ ap (map fields) (records_open t)

-- ---- the bytes

module _ (e : Bool) where
  -- Up to the end of the text, line breaks begin at the same places with and without the last one.
  break_open : (t : List ℕ) (p : ℕ) → p < length t → break_at (t ++ closing e) p ≡ break_at t p
  unfolding break_at is_break
  break_open [] p h = let w : ⊥ = omega arith in absurd w
  break_open (b ∷ []) zero h = elim e as (λ d. (eqb b 13 && eqb (get_or (closing d) 0 0) 10) ≡ (eqb b 13 && eqb 0 10)) [ true ↦ refl | false ↦ refl ]
  break_open (b ∷ c ∷ t) zero h = refl
  break_open (b ∷ t) (suc p) h = break_open t p (omega arith)

  in_open : (t : List ℕ) (p : ℕ) → p < length t → in_break (t ++ closing e) p ≡ in_break t p
  unfolding in_break
  in_open t zero h = break_open t 0 h
  in_open t (suc p) h = rw (break_open t p (omega arith), break_open t (suc p) h)

  allowed_open : (t : List ℕ) (p : ℕ) → p < length t → is_allowed (t ++ closing e) p ≡ is_allowed t p
  unfolding is_allowed
  allowed_open t p h = rw (get_or-append t (closing e) 0 p h, in_open t p h)

-- The line break itself is allowed.
line_feed : (t : List ℕ) → get_or (t ++ 13 ∷ 10 ∷ []) (suc (length t)) 0 ≡ 10
line_feed [] = refl
line_feed (b ∷ t) = line_feed t

added : (e : Bool) (t : List ℕ) (p : ℕ) → length t ≤ p → p < length t + length (closing e) → is_allowed (t ++ closing e) p ≡ true
added true t p l h = let w : ⊥ = omega arith in absurd w
added false t p l h = ⊎_elim carriage_return (λ n. feed (let w : p ≡ suc (length t) = omega arith in w)) (equal_or_not p (length t))
  where
    carriage_return : p ≡ length t → is_allowed (t ++ 13 ∷ 10 ∷ []) p ≡ true
    carriage_return e = rw e (allowed_is (t ++ 13 ∷ 10 ∷ []) (length t) (a_cr (get_or-append_seam t 13 (10 ∷ []) 0) (line_feed t)))

    feed : p ≡ suc (length t) → is_allowed (t ++ 13 ∷ 10 ∷ []) p ≡ true
    feed e = rw e (allowed_is (t ++ 13 ∷ 10 ∷ []) (suc (length t)) (an_lf (length t) refl (get_or-append_seam t 13 (10 ∷ []) 0) (line_feed t)))

none_last : (o : Option ℕ) → or_else o none ≡ o
unfolding or_else
none_last none = refl
none_last (some x) = refl

other_open : (e : Bool) (t : List ℕ) → first_other (t ++ closing e) ≡ first_other t
unfolding first_other
other_open e t =
    let u = t ++ closing e in
    let k = length (closing e) in
    let q : ℕ → Bool = λ p. not (is_allowed u p) in
    let same = find_same q (λ p. not (is_allowed t p)) (range 0 (length t)) (λ p m. let l = mem_range 0 (length t) p m in ap not (allowed_open e t p (omega arith))) in
    let rest = none_find q (range (0 + length t) k) (λ p m. let l = mem_range (0 + length t) k p m in not_of_true (is_allowed u p) (added e t p (omega arith) (omega arith))) in
    ap (λ (n : ℕ). find q (range 0 n)) (length-append t (closing e))
    ∙ ap (find q) (range_append 0 (length t) k)
    ∙ find_append q (range 0 (length t)) (range (0 + length t) k)
    ∙ rw (same, rest) (none_last (find (λ p. not (is_allowed t p)) (range 0 (length t))))

pub other_closed : (t : List ℕ) → first_other (closed t) ≡ first_other t
unfolding missing
other_closed t = ap first_other (closed_is t) ∙ other_open (ends t) t

-- ---- the call

size_closed : (t : List ℕ) → length (closed t) ≤ longest_text → is_element longest_text (length (closed t)) ≡ is_element longest_text (length t)
unfolding is_element closed
size_closed [] h = refl
size_closed (b ∷ t) h =
    let long = ap length (closed_is (b ∷ t)) ∙ length-append (b ∷ t) (missing (b ∷ t)) in
    let one : 1 ≤ length (closed (b ∷ t)) = omega arith in
    let most : length (b ∷ t) ≤ longest_text = omega arith in
    let some : 1 ≤ length (b ∷ t) = omega arith in
    simp (le-leb 1 (length (closed (b ∷ t))) one, le-leb (length (closed (b ∷ t))) longest_text h, le-leb 1 (length (b ∷ t)) some, le-leb (length (b ∷ t)) longest_text most)

-- If the text passes question 20 with its last line break too, every question says of it then what it says of the text as it came.
refusal_closed : (t : List ℕ) (room : ℕ) → length (closed t) ≤ longest_text → load_refusal (closed t) room ≡ load_refusal t room
unfolding load_refusal fields_of order_of
refusal_closed t room h = rw (size_closed t h, other_closed t, rows_closed t)

pub loads_closed : (t cells : List ℕ) → length (closed t) ≤ longest_text → LoadsClosed t cells
unfolding load_answer cells_after cells_of fields_of order_of
loads_closed t cells h = record { answer = rw (refusal_closed t (length cells) h, rows_closed t); cells_same = rw (refusal_closed t (length cells) h, rows_closed t) }

-- So an accepted text loads as it does with its last line break, whatever its length.
pub accepted_loads_closed : (t cells : List ℕ) → LoadPasses t (length cells) → LoadsClosed t cells
accepted_loads_closed t cells p = loads_closed t cells (closed_fits t (length cells) (load_passed t (length cells) ((load_passes t (length cells)).1 p)))
