-- Loading: which question refuses, from the first that fails; and the number of cells of a text that passes.
-- Assumes nothing.
use mathlib.Core.Path.{◌≡◌, refl, ap, ◌∙◌}
use mathlib.Core.Bool.{true, ◌&&◌, and-false}
use mathlib.Core.List.{List, [], ◌∷◌, ◌++◌, flat_map, flatten}
use mathlib.Core.Option.{none, some, or_else}
use Prim.Native.Nat.{ℕ, ◌*◌, ◌≤◌, ◌<◌}
use native.Mathlib.Nat.{suc-mul}
use native.Mathlib.Omega.{arith}
use lib.Dec.{eqb, leb}
use lib.ListN.{length, length-append, length-map}
use borrow.Author.Tests.{eqb-true, leb-true, le-leb, lt-leb}
use Rattle.semigroups.specs.Lists.{all, first_of, member}
use Rattle.semigroups.specs.Tables.{is_element}
use Rattle.semigroups.specs.Questions.{Question, ask, Refusal, first_no}
use Rattle.semigroups.specs.InnerQuestions.{no}
use Rattle.semigroups.proofs.Lists.{is_element_law}
use Rattle.semigroups.proofs.Booleans.{both, and_left, and_right}
use Rattle.semigroups.proofs.Questions.{ask_passed, all_passed, failed_before, passed_before, both_passed, Listed, listed, listed_append}
use Rattle.rfc4180.specs.Records.{rows}
use Rattle.rfc4180.specs.Tables.{fields_of, order_of, cells_of}
use Rattle.rfc4180.specs.Questions.{longest_text, bytes_question, field_questions, fields_questions, is_square, grid_questions, size_questions, load_questions, load_refusal}
use Rattle.rfc4180.specs.InnerQuestions.{bytes_refusal, fields_refusal, grid_refusal}
use Rattle.semigroups.specs.Calls.{refused, gives, overwritten}
use Rattle.rfc4180.specs.Calls.{load_answer, cells_after}

-- ---- a square

even_length : (n : ℕ) (rs : List (List (List ℕ))) → all (λ r. eqb (length r) n) rs ≡ true → length (flatten rs) ≡ length rs * n
unfolding all flatten
even_length n [] h = omega arith
even_length n (r ∷ rs) h =
    let here : length r ≡ n = eqb-true (length r) n (and_left (eqb (length r) n) (all (λ k. eqb (length k) n) rs) h) in
    let later = even_length n rs (and_right (eqb (length r) n) (all (λ k. eqb (length k) n) rs) h) in
    simp length-append (omega (arith, suc-mul (length rs) n))

pub square_length : (n : ℕ) (rs : List (List (List ℕ))) → is_square n rs ≡ true → length (flatten rs) ≡ n * n
unfolding is_square
square_length n rs h =
    let many = eqb-true (length rs) n (and_left (eqb (length rs) n) (all (λ r. eqb (length r) n) rs) h) in
    even_length n rs (and_right (eqb (length rs) n) (all (λ r. eqb (length r) n) rs) h) ∙ ap (λ (k : ℕ). k * n) many

-- ---- 23 to 26 passed

pub record Square (n : ℕ) (t : List ℕ) : Type 0 where
  pub numbers : fields_refusal (fields_of t) ≡ none
  pub square : is_square n (rows t) ≡ true

pub grid_passed : (n : ℕ) (t : List ℕ) → grid_refusal n t ≡ none → Square n t
unfolding grid_refusal fields_refusal
grid_passed n t h =
    let p = both_passed (fields_questions (fields_of t)) (ask 26 (is_square n (rows t)) ∷ []) h in
    record { numbers = p.0; square = ask_passed 26 (is_square n (rows t)) ((all_passed (ask 26 (is_square n (rows t)) ∷ [])).0 p.1).0 }

pub cells_length : (n : ℕ) (t : List ℕ) → Square n t → length (cells_of t) ≡ n * n
unfolding cells_of fields_of
cells_length n t s = simp length-map (square_length n (rows t) s.square)

-- ---- the earliest failed question

module _ (t : List ℕ) (room : ℕ) where
  -- The questions from 23 on.
  abbrev pub from_fields : List Question
  from_fields = grid_questions (order_of t) t ++ size_questions t room

  pub too_short : length t < 1 → load_refusal t room ≡ some (no 20 [])
  unfolding load_refusal first_of or_else is_element
  too_short h = simp (lt-leb _ _ h)

  pub too_long : 57720 < length t → load_refusal t room ≡ some (no 20 [])
  unfolding load_refusal first_of or_else is_element
  too_long h = simp (lt-leb _ _ h, and-false)

  module _ (one : 1 ≤ length t) (most : length t ≤ 57720) where
    bytes_left : load_refusal t room ≡ first_no (bytes_question t ∷ from_fields)
    unfolding load_refusal first_of or_else is_element
    bytes_left = rw (le-leb 1 (length t) one, le-leb (length t) longest_text most)

    pub bad_byte : {r : Refusal} → bytes_refusal t ≡ some r → load_refusal t room ≡ some r
    unfolding bytes_refusal
    bad_byte h = bytes_left ∙ failed_before (bytes_question t ∷ []) from_fields h

    module _ (bytes : bytes_refusal t ≡ none) where
      fields_left_law : load_refusal t room ≡ first_no from_fields
      unfolding bytes_refusal
      fields_left_law = bytes_left ∙ passed_before (bytes_question t ∷ []) from_fields bytes

      pub bad_grid : {n : ℕ} {r : Refusal} → n ≡ order_of t → grid_refusal n t ≡ some r → load_refusal t room ≡ some r
      unfolding grid_refusal
      bad_grid e h = fields_left_law ∙ failed_before (grid_questions (order_of t) t) (size_questions t room) (rw e at h)

      module _ {n : ℕ} (e : n ≡ order_of t) (grid : grid_refusal n t ≡ none) where
        left : load_refusal t room ≡ first_no (ask 1 (leb n 120) ∷ ask 27 (leb (n * n) room) ∷ [])
        unfolding grid_refusal
        left = fields_left_law ∙ passed_before (grid_questions (order_of t) t) (size_questions t room) (rw e at grid) ∙ rw e

        pub bad_order : 120 < n → load_refusal t room ≡ some (no 1 [])
        unfolding first_of or_else
        bad_order h = left ∙ simp (lt-leb _ _ h)

        pub bad_room : n ≤ 120 → room < n * n → load_refusal t room ≡ some (no 27 [])
        unfolding first_of or_else
        bad_room h g = left ∙ simp (le-leb _ _ h, lt-leb _ _ g)

        pub loads : n ≤ 120 → n * n ≤ room → load_refusal t room ≡ none
        unfolding first_of or_else
        loads h g = left ∙ simp (le-leb _ _ h, le-leb _ _ g)

-- ---- the call

module _ (t cells : List ℕ) where
  pub load_refused : {r : Refusal} → load_refusal t (length cells) ≡ some r → (refused r ≡ load_answer t cells) × (cells ≡ cells_after t cells)
  unfolding load_answer cells_after
  load_refused h = (rw h, rw h)

  pub load_given : load_refusal t (length cells) ≡ none → (gives (order_of t) ≡ load_answer t cells) × (overwritten (cells_of t) cells ≡ cells_after t cells)
  unfolding load_answer cells_after
  load_given h = (rw h, rw h)

-- ---- a text that passes

pub record Loadable (t : List ℕ) (size : ℕ) : Type 0 where
  pub some_byte : 1 ≤ length t
  pub bytes : bytes_refusal t ≡ none
  pub grid : Square (order_of t) t
  pub order : order_of t ≤ 120
  pub room : order_of t * order_of t ≤ size

pub load_passed : (t : List ℕ) (room : ℕ) → load_refusal t room ≡ none → Loadable t room
unfolding load_refusal bytes_refusal grid_refusal
load_passed t room h =
    let first = ask 20 (is_element longest_text (length t)) ∷ bytes_question t ∷ [] in
    let p = both_passed first (from_fields t room) h in
    let q = both_passed (grid_questions (order_of t) t) (size_questions t room) p.1 in
    let begin = (all_passed first).0 p.0 in
    let end = (all_passed (size_questions t room)).0 q.1 in
    record {
      some_byte = (is_element_law longest_text (length t) (ask_passed 20 (is_element longest_text (length t)) begin.0)).0;
      bytes = (all_passed (bytes_question t ∷ [])).1 begin.1;
      grid = grid_passed (order_of t) t q.0;
      order = leb-true (order_of t) 120 (ask_passed 1 (leb (order_of t) 120) end.0);
      room = leb-true (order_of t * order_of t) room (ask_passed 27 (leb (order_of t * order_of t) room) end.1.0);
    }

-- ---- which numbers can come

fields_listed : (ns : List ℕ) → all (λ k. member k ns) (24 ∷ 23 ∷ 25 ∷ []) ≡ true → (fs : List (List ℕ)) → Listed ns (fields_questions fs)
unfolding fields_questions flat_map
fields_listed ns h [] = listed ns [] (unfold all in refl)
fields_listed ns h (f ∷ fs) = listed_append ns (field_questions f) (fields_questions fs) (listed ns (field_questions f) h) (fields_listed ns h fs)

-- The numbers that may come after question 20 are 21 to 26 and those of the last two questions.
pub later_listed : (ns : List ℕ) → all (λ k. member k ns) (21 ∷ []) ≡ true → all (λ k. member k ns) (24 ∷ 23 ∷ 25 ∷ []) ≡ true → all (λ k. member k ns) (26 ∷ []) ≡ true
    → (t : List ℕ) (room : ℕ) → Listed ns (size_questions t room) → Listed ns (bytes_question t ∷ from_fields t room)
later_listed ns a b c t room h =
    listed_append ns (bytes_question t ∷ []) (from_fields t room) (listed ns (bytes_question t ∷ []) a)
    (listed_append ns (grid_questions (order_of t) t) (size_questions t room)
    (listed_append ns (fields_questions (fields_of t)) (ask 26 (is_square (order_of t) (rows t)) ∷ []) (fields_listed ns b (fields_of t)) (listed ns (ask 26 (is_square (order_of t) (rows t)) ∷ []) c)) h)

-- The numbers that may come are 20 to 26 and those of the last two questions.
pub load_listed : (ns : List ℕ) → all (λ k. member k ns) (20 ∷ 21 ∷ []) ≡ true → all (λ k. member k ns) (24 ∷ 23 ∷ 25 ∷ []) ≡ true → all (λ k. member k ns) (26 ∷ []) ≡ true
    → (t : List ℕ) (room : ℕ) → Listed ns (size_questions t room) → Listed ns (load_questions t room)
unfolding all
load_listed ns a b c t room h =
    let size = ask 20 (is_element longest_text (length t)) in
    listed_append ns (size ∷ []) (bytes_question t ∷ from_fields t room) (listed ns (size ∷ []) (both (member 20 ns) true (and_left (member 20 ns) (member 21 ns && true) a) refl))
    (later_listed ns (and_right (member 20 ns) (member 21 ns && true) a) b c t room h)
