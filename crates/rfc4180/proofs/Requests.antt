-- RULES 19.2 and 19.6 hold. Shown here: what becomes of a text that only its last line break makes too long, which numbers never come, and the field after a
-- last comma. Assumes nothing.
use mathlib.Core.Path.{◌≡◌, refl, sym, ap, ◌∙◌}
use mathlib.Core.Bool.{Bool, true, false, cond, and-false}
use mathlib.Core.List.{List, [], ◌∷◌, ◌++◌, map, flatten, append_assoc, append-nil}
use mathlib.Core.Option.{Option, none, some, or_else}
use Prim.Native.Nat.{ℕ, zero, suc, ◌+◌, ◌≤◌, ◌<◌}
use native.Mathlib.Omega.{arith}
use borrow.Author.Tests.{le-leb}
use lib.Dec.{eqb}
use lib.ListN.{length, length-append, replicate, length-replicate}
use Rattle.semigroups.specs.Lists.{all, first_of, member}
use Rattle.semigroups.specs.Tables.{is_element}
use Rattle.semigroups.specs.Questions.{ask, Refusal, first_no}
use Rattle.semigroups.proofs.Booleans.{clash}
use Rattle.semigroups.proofs.Questions.{passed_before, listed}
use Rattle.rfc4180.specs.Records.{is_break, onto, records, fields, rows}
use Rattle.rfc4180.specs.RoundsLaws.{closed}
use Rattle.rfc4180.specs.Tables.{fields_of}
use Rattle.rfc4180.specs.Questions.{longest_text, bytes_question, size_questions, load_refusal}
use Rattle.rfc4180.specs.Requests.{TooLongClosed, TextRequests}
use Rattle.rfc4180.proofs.Records.{Cons, fields_cons, ends, closing, missing}
use Rattle.rfc4180.proofs.Bytes.{closed_is}
use Rattle.rfc4180.proofs.Fields.{field_zero, field_empty}
use Rattle.rfc4180.proofs.Loading.{from_fields, too_long, load_refused, load_passed, later_listed, load_listed}
use Rattle.rfc4180.proofs.Accepted.{closed_fits}
use Rattle.rfc4180.proofs.Closing.{other_closed, loads_closed, accepted_loads_closed}
use Rattle.rfc4180.proofs.RoundTrips.{loaded_saves, rounds_close}

-- ---- the numbers that can come

later_numbers : List ℕ
later_numbers = 21 ∷ 23 ∷ 24 ∷ 25 ∷ 26 ∷ 1 ∷ 27 ∷ []

-- A text of 1 to 57,720 bytes that is refused is refused by a question after 20.
after_20 : (t : List ℕ) (room : ℕ) (r : Refusal) → 1 ≤ length t → length t ≤ longest_text → load_refusal t room ≡ some r → member r.number later_numbers ≡ true
unfolding load_refusal all member later_numbers
after_20 t room r one most e =
    let size = ask 20 (is_element longest_text (length t)) in
    let passes : first_no (size ∷ []) ≡ none = unfold first_of or_else is_element in simp (le-leb 1 (length t) one, le-leb (length t) longest_text most) in
    later_listed later_numbers refl refl refl t room (listed later_numbers (size_questions t room) refl) r (sym (passed_before (size ∷ []) (bytes_question t ∷ from_fields t room) passes) ∙ e)

never_20 : (k : ℕ) → member k later_numbers ≡ true → k ≡ 20 → ⊥
unfolding member later_numbers
never_20 k m e = clash m (ap (λ (x : ℕ). member x later_numbers) e)

all_numbers : List ℕ
all_numbers = 20 ∷ 21 ∷ 23 ∷ 24 ∷ 25 ∷ 26 ∷ 1 ∷ 27 ∷ []

never_22 : (t : List ℕ) (room : ℕ) (r : Refusal) → load_refusal t room ≡ some r → r.number ≡ 22 → ⊥
unfolding load_refusal all member all_numbers
never_22 t room r e h =
    clash (load_listed all_numbers refl refl refl t room (listed all_numbers (size_questions t room) refl) r e) (ap (λ (x : ℕ). member x all_numbers) h)

-- ---- a text that only its last line break makes too long

some_byte : (t : List ℕ) → longest_text < length (closed t) → 1 ≤ length t
unfolding closed
some_byte [] h = absurd (let z : ⊥ = omega arith in z)
some_byte (b ∷ t) h = omega arith

too_long_closed : (t cells : List ℕ) → length t ≤ longest_text → longest_text < length (closed t) → TooLongClosed t cells
too_long_closed t cells most long = go (load_refusal t (length cells)) refl
  where
    go : (o : Option Refusal) → load_refusal t (length cells) ≡ o → TooLongClosed t cells
    go none e = let fits = closed_fits t (length cells) (load_passed t (length cells) e) in absurd (let z : ⊥ = omega arith in z)
    go (some r) e =
        let open-text = load_refused t cells e in
        let closed-text = load_refused (closed t) cells (too_long (closed t) (length cells) long) in
        record {
          by = r;
          refused_later = sym open-text.0;
          not_20 = never_20 r.number (after_20 t (length cells) r (some_byte t long) most e);
          closed_20 = sym closed-text.0;
          kept = sym open-text.1;
          closed_kept = sym closed-text.1;
        }

-- ---- a last comma

-- A comma at the end of a record gives it one more field, with no byte.
fields_comma_last : (r : List ℕ) → fields (r ++ 44 ∷ []) ≡ fields r ++ [] ∷ []
unfolding fields onto
fields_comma_last [] = refl
fields_comma_last (b ∷ r) = rw (fields_comma_last r) (go (eqb b 44) (fields r) (fields_cons r))
  where
    go : (e : Bool) (l : List (List ℕ)) → Cons l → cond e ([] ∷ (l ++ [] ∷ [])) (onto b (l ++ [] ∷ [])) ≡ cond e ([] ∷ l) (onto b l) ++ [] ∷ []
    go true l c = refl
    go false l c = rw c.2

-- The last record ends in a comma.
abbrev EndsInComma : List (List ℕ) → Type 0
EndsInComma l = (before : List (List ℕ)) × (r : List ℕ) × (l ≡ before ++ (r ++ 44 ∷ []) ∷ [])

onto_comma : (b : ℕ) (l : List (List ℕ)) → EndsInComma l → EndsInComma (onto b l)
unfolding onto
onto_comma b l ([], r, e) = ([], b ∷ r, rw e)
onto_comma b l (x ∷ before, r, e) = ((b ∷ x) ∷ before, r, rw e)

records_comma : (t : List ℕ) → EndsInComma (records (t ++ 44 ∷ []))
unfolding records is_break
records_comma [] = ([], [], refl)
records_comma (b ∷ []) = ([], b ∷ [], unfold onto in rw (and-false (eqb b 13)))
records_comma (b ∷ c ∷ t) = go (is_break b c) (records_comma t) (records_comma (c ∷ t))
  where
    go : (e : Bool) → EndsInComma (records (t ++ 44 ∷ [])) → EndsInComma (records (c ∷ (t ++ 44 ∷ []))) → EndsInComma (cond e ([] ∷ records (t ++ 44 ∷ [])) (onto b (records (c ∷ (t ++ 44 ∷ [])))))
    go true past later = ([] ∷ past.0, past.1, ap (λ (l : List (List ℕ)). [] ∷ l) past.2)
    go false past later = onto_comma b (records (c ∷ (t ++ 44 ∷ []))) later

flatten_last : (l : List (List ℕ)) (r : List ℕ) → flatten (map fields (l ++ r ∷ [])) ≡ flatten (map fields l) ++ fields r
unfolding flatten
flatten_last [] r = append-nil (fields r)
flatten_last (x ∷ l) r = ap (λ (k : List (List ℕ)). fields x ++ k) (flatten_last l r) ∙ sym (append_assoc (fields x) (flatten (map fields l)) (fields r))

comma_last : (t : List ℕ) → (before : List (List ℕ)) × (fields_of (t ++ 44 ∷ []) ≡ before ++ [] ∷ [])
unfolding fields_of rows
comma_last t =
    let c = records_comma t in (
      flatten (map fields c.0) ++ fields c.1,
      ap (λ (l : List (List ℕ)). flatten (map fields l)) c.2 ∙ flatten_last c.0 (c.1 ++ 44 ∷ []) ∙ ap (λ (k : List (List ℕ)). flatten (map fields c.0) ++ k) (fields_comma_last c.1)
          ∙ sym (append_assoc (flatten (map fields c.0)) (fields c.1) ([] ∷ [])),
    )

-- ---- all of them

pub text_requests : TextRequests
text_requests =
    record {
      as_closed = loads_closed;
      loaded_as_closed = accepted_loads_closed;
      too_long_closed = too_long_closed;
      same_other_byte = other_closed;
      comma_last = comma_last;
      loaded_saves = loaded_saves;
      loaded_stays = rounds_close;
      never_22 = never_22;
      leading_zero = λ f h. sym (field_zero f h);
      empty_field = sym (field_empty [] (omega arith));
    }

-- ---- an instance

ends_ones : (k : ℕ) → ends (replicate (suc k) 49) ≡ false
unfolding ends is_break
ends_ones zero = refl
ends_ones (suc k) = ends_ones k

closed_ones : (k : ℕ) → length (closed (replicate (suc k) 49)) ≡ suc k + 2
unfolding missing
closed_ones k =
    ap length (closed_is (replicate (suc k) 49)) ∙ ap (λ (e : Bool). length (replicate (suc k) 49 ++ closing e)) (ends_ones k)
    ∙ length-append (replicate (suc k) 49) (13 ∷ 10 ∷ []) ∙ ap (λ (n : ℕ). n + 2) (length-replicate (suc k) 49)

-- An instance: 57,719 digits with no line break are refused by a later question as they came, and by question 20 with the break.
ones : ℕ → List ℕ
ones k = replicate (suc k) 49

ones_long : TooLongClosed (ones 57718) []
unfolding ones
ones_long =
    text_requests.too_long_closed (ones 57718) [] (let e : length (ones 57718) ≡ 57719 = length-replicate {A = ℕ} (suc 57718) 49 in omega arith)
    (let e : length (closed (ones 57718)) ≡ 57721 = closed_ones 57718 in omega arith)
