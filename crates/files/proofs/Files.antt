-- The questions about a file in the code's order: those about loading, then the table's four, of which a loaded table passes 1 and 2.
-- Assumes nothing.
use mathlib.Core.Path.{◌≡◌, ap, ap₂, sym, ◌∙◌, subst₂}
use mathlib.Core.Logic.{◌↔◌}
use mathlib.Core.List.{List, [], ◌∷◌}
use mathlib.Core.Option.{Option, none, some}
use Prim.Native.Nat.{ℕ, ◌*◌, ◌≤◌}
use native.Mathlib.Omega.{arith}
use borrow.Author.Tests.{eq-eqb}
use lib.Dec.{eqb}
use lib.ListN.{length, take}
use Rattle.semigroups.specs.Tables.{Accepted, is_element}
use Rattle.semigroups.specs.Questions.{ask, Refusal, table_refusal}
use Rattle.semigroups.proofs.Lists.{element_is}
use Rattle.semigroups.proofs.Tables.{accepted}
use Rattle.semigroups.proofs.Passing.{table_passes}
use Rattle.semigroups.proofs.Questions.{all_passed, failed_before, passed_before, both_passed}
use Rattle.rfc4180.specs.Tables.{order_of, cells_of}
use Rattle.rfc4180.specs.Questions.{load_questions, load_refusal}
use Rattle.semigroups.specs.Calls.{Answer, refused, gives, given_unless}
use Rattle.semigroups.proofs.Calls.{gives_ne_refused}
use Rattle.rfc4180.specs.Calls.{load_answer, cells_after}
use Rattle.rfc4180.proofs.Passing.{load_passes}
use Rattle.rfc4180.proofs.Loading.{cells_length, load_passed}
use Rattle.rfc4180.proofs.Accepted.{first_row}
use Rattle.rfc4180.proofs.RoundTrips.{given_passed, loads_given}
use Rattle.files.specs.Files.{loaded_questions, file_refusal}
use Rattle.files.specs.FilesLaws.{FilePasses}
use Rattle.files.specs.Answers.{file_answer}

module _ (t : List ℕ) (room : ℕ) where
  pub loading_refused : {r : Refusal} → load_refusal t room ≡ some r → file_refusal t room ≡ some r
  unfolding file_refusal load_refusal
  loading_refused e = failed_before (load_questions t room) (loaded_questions t) e

  -- A loaded table has an order of 1 to 120 and as many cells as such a table has.
  pub loaded_table : load_refusal t room ≡ none → file_refusal t room ≡ table_refusal (order_of t) (cells_of t)
  unfolding file_refusal load_refusal table_refusal
  loaded_table e =
      let l = load_passed t room e in
      let size = cells_length (order_of t) t l.grid in
      let begin = ask 1 (is_element 120 (order_of t)) ∷ ask 2 (eqb (length (cells_of t)) (order_of t * order_of t)) ∷ [] in
      passed_before (load_questions t room) (loaded_questions t) e
      ∙ sym (passed_before begin (loaded_questions t) ((all_passed begin).1 (rw (element_is 120 (order_of t) (first_row t room l, l.order)), (rw (eq-eqb (length (cells_of t)) (order_of t * order_of t) size), tt))))

  -- An accepted file loads.
  pub refusal_none : file_refusal t room ≡ none → load_refusal t room ≡ none
  unfolding file_refusal load_refusal
  refusal_none e = (both_passed (load_questions t room) (loaded_questions t) e).0

  -- No question fails exactly if what the file needs holds.
  pub file_passes : (file_refusal t room ≡ none) ↔ FilePasses t room
  file_passes =
      let w = table_passes (order_of t) (cells_of t) in (
        (λ e. let l = refusal_none e in record { loads = (load_passes t room).0 l; table = w.0 (sym (loaded_table l) ∙ e) }),
        λ h. loaded_table ((load_passes t room).1 h.loads) ∙ w.1 h.table,
      )

-- ---- what is said of a file

refusal_given : (q : Option Refusal) (n : ℕ) {r : Refusal} → refused r ≡ given_unless q n → q ≡ some r
refusal_given none n e = absurd (gives_ne_refused n _ (sym e))
refusal_given (some r) n e = cc

module _ (t cells : List ℕ) where
  pub judged_text : {r : Refusal} → refused r ≡ load_answer t cells → refused r ≡ file_answer t cells
  unfolding load_answer file_answer
  judged_text e = rw (loading_refused t (length cells) (refusal_given (load_refusal t (length cells)) (order_of t) e))

  module _ (n : ℕ) (e : load_answer t cells ≡ gives n) where
    loads : load_refusal t (length cells) ≡ none
    unfolding load_answer
    loads = (given_passed (load_refusal t (length cells)) (order_of t) n e).0

    pub judged_table : {after : List ℕ} {q : Option Refusal} → after ≡ cells_after t cells → q ≡ table_refusal n (take (n * n) after) → given_unless q n ≡ file_answer t cells
    unfolding file_answer
    judged_table {after} {q} same asked =
        let l = loads_given t cells n e in
        let whole : file_refusal t (length cells) ≡ q =
        loaded_table t (length cells) loads ∙ ap₂ table_refusal l.order (sym l.cells) ∙ ap (λ (c : List ℕ). table_refusal n (take (n * n) c)) (sym same) ∙ sym asked in
        ap₂ given_unless (sym whole) (sym l.order)

    pub loaded_order_law : n ≤ 120
    loaded_order_law = let l = loads_given t cells n e in let p = l.passes.order in rw l.order at p

    pub loaded_room : {after : List ℕ} → after ≡ cells_after t cells → length after ≡ length cells → n * n ≤ length after
    loaded_room same kept = let l = loads_given t cells n e in let p = l.passes.room in let q = rw l.order at p in omega arith

-- ---- an accepted file

-- The table of order n that the text holds stands at the start of these cells.
pub record Holds (t cells : List ℕ) (n : ℕ) : Type 0 where
  pub order : order_of t ≡ n
  pub small : n ≤ 120
  pub room : n * n ≤ length cells
  pub table : Accepted n (take (n * n) cells)
  pub cells_are : take (n * n) cells ≡ cells_of t

pub accepted_file : (t cells : List ℕ) (n : ℕ) → file_answer t cells ≡ gives n → file_refusal t (length cells) ≡ none
unfolding file_answer
accepted_file t cells n e = (given_passed (file_refusal t (length cells)) (order_of t) n e).0

pub refused_file : (t cells : List ℕ) (r : Refusal) → file_answer t cells ≡ refused r → file_refusal t (length cells) ≡ some r
unfolding file_answer
refused_file t cells r e = refusal_given (file_refusal t (length cells)) (order_of t) (sym e)

pub holds : (t cells : List ℕ) (n : ℕ) → file_answer t cells ≡ gives n → {after : List ℕ} → after ≡ cells_after t cells → length after ≡ length cells → Holds t after n
unfolding file_answer load_answer
holds t cells n e same kept =
    let p = given_passed (file_refusal t (length cells)) (order_of t) n e in
    let loads = refusal_none t (length cells) p.0 in
    let given : given_unless (load_refusal t (length cells)) (order_of t) ≡ gives n = rw loads (ap {B = Answer ℕ} gives p.1) in
    let l = loads_given t cells n given in
    let small = l.passes.order in
    let room = l.passes.room in
    let table = accepted (order_of t) (cells_of t) (sym (loaded_table t (length cells) loads) ∙ p.0) in
    let front = ap (take (n * n)) same ∙ l.cells in
    record {
      order = p.1;
      small = rw p.1 at small;
      room = rw (← kept) at (rw p.1 at room);
      table = subst₂ Accepted p.1 (sym front) table;
      cells_are = front;
    }
