-- Which numbers a refused file can get if there is room for every table; whatever the room, no number has more than two digits. Assumes nothing.
use mathlib.Core.Path.{◌≡◌, refl, sym, ap, subst, ◌∙◌}
use mathlib.Core.Bool.{Bool, true, false}
use mathlib.Core.List.{List, [], ◌∷◌}
use mathlib.Core.Option.{Option, none, some, or_else}
use Rattle.std.specs.Prelude.{Result}
use Prim.Native.Nat.{ℕ, ◌*◌, ◌<◌}
use native.Mathlib.Omega.{arith}
use borrow.Author.Tests.{leb-true, le-leb}
use lib.Dec.{leb}
use lib.ListN.{length}
use Rattle.semigroups.specs.Lists.{all, first_of, member}
use Rattle.semigroups.specs.Questions.{ask, Refusal, first_no}
use Rattle.semigroups.specs.Calls.{given_unless}
use Rattle.semigroups.proofs.Lists.{all_at, member_mem}
use Rattle.semigroups.proofs.Questions.{Listed, listed, listed_append}
use Rattle.answers.specs.Answers.{numbered_says}
use Rattle.answers.specs.declared.No.{No}
use Rattle.products.proofs.Products.{square_small}
use Rattle.rfc4180.specs.Tables.{order_of}
use Rattle.rfc4180.specs.Questions.{size_questions, load_questions}
use Rattle.rfc4180.proofs.Loading.{load_listed}
use Rattle.files.specs.Files.{loaded_questions, file_questions, file_refusal, room}
use Rattle.files.specs.Answers.{file_answer, failed_number}
use Rattle.files.specs.Rules.{file_numbers}

-- If the order passes, there is room, so question 27 makes no difference.
order_alone : (n : ℕ) → first_no (ask 1 (leb n 120) ∷ ask 27 (leb (n * n) room) ∷ []) ≡ first_no (ask 1 (leb n 120) ∷ [])
unfolding first_of or_else
order_alone n = go (leb n 120) refl
  where
    go : (b : Bool) → leb n 120 ≡ b → first_no (ask 1 b ∷ ask 27 (leb (n * n) room) ∷ []) ≡ first_no (ask 1 b ∷ [])
    go true e = rw (le-leb (n * n) room (square_small n (leb-true n 120 e)))
    go false e = refl

pub file_numbers_law : (t : List ℕ) (r : Refusal) → file_refusal t room ≡ some r → member r.number file_numbers ≡ true
unfolding file_refusal all member
file_numbers_law t =
    let order : Listed file_numbers (size_questions t room) = λ r e. listed file_numbers (ask 1 (leb (order_of t) 120) ∷ []) refl r (sym (order_alone (order_of t)) ∙ e) in
    listed_append file_numbers (load_questions t room) (loaded_questions t) (load_listed file_numbers refl refl refl t room order) (listed file_numbers (loaded_questions t) refl)

-- ---- whatever the room

file_small : (t cells : List ℕ) → failed_number (file_answer t cells) < 100
unfolding file_answer file_refusal all member
file_small t cells = go (file_refusal t (length cells)) refl
  where
    all_numbers : List ℕ
    all_numbers = 27 ∷ file_numbers

    known : Listed all_numbers (file_questions t (length cells))
    known =
        listed_append all_numbers (load_questions t (length cells)) (loaded_questions t)
        (load_listed all_numbers refl refl refl t (length cells) (listed all_numbers (size_questions t (length cells)) refl)) (listed all_numbers (loaded_questions t) refl)

    go : (q : Option Refusal) → file_refusal t (length cells) ≡ q → failed_number (given_unless q (order_of t)) < 100
    go none e = omega arith
    go (some r) e = let h = leb-true r.number 99 (all_at (λ k. leb k 99) all_numbers refl r.number (member_mem r.number all_numbers (known r e))) in omega arith

-- The number of the question that a file fails has at most two digits.
pub failed_small : (t cells : List ℕ) (v : Result ℕ No) {k : ℕ} → numbered_says v ≡ file_answer t cells → k ≡ failed_number (numbered_says v) → k < 100
failed_small t cells v e q = subst (λ (x : ℕ). x < 100) (sym (q ∙ ap failed_number e)) (file_small t cells)
