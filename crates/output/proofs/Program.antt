-- What the definition of the whole output says: which file decides it, how much of a file counts, which numbers can come, and the example of RULES 21.4.
-- Assumes nothing.
use mathlib.Core.Path.{◌≡◌, refl, ap, ap₂, sym, ◌∙◌}
use mathlib.Core.List.{List, [], flat_map, flatten}
use mathlib.Core.Option.{none, some, or_else}
use Prim.Native.Nat.{ℕ, ◌*◌, ◌≤◌}
use native.Mathlib.Omega.{arith}
use lib.ListN.{length, take, drop, length-append}
use Rattle.semigroups.specs.Lists.{range, elements, at, all, find, keep, first_of, member, distinct, lists}
use Rattle.semigroups.specs.Tables.{product, is_element, associates, bad_cell, bad_triple}
use Rattle.semigroups.specs.Questions.{Refusal}
use Rattle.semigroups.specs.InnerQuestions.{no}
use Rattle.semigroups.specs.Maps.{is_homomorphism, is_embedding, maps, earliest}
use Rattle.rfc4180.specs.Decimals.{is_digit, value, value_from, numeral_within, numeral}
use Rattle.rfc4180.specs.Records.{is_break, onto, records, fields, rows, record_text, line_text, rows_text}
use Rattle.rfc4180.specs.Tables.{fields_of, order_of, cells_of}
use Rattle.rfc4180.specs.Questions.{break_at, in_break, is_allowed, first_other, fields_questions, is_square}
use Rattle.semigroups.specs.Calls.{refused, overwritten}
use Rattle.output.specs.Records.{first_record, pair_record, pair_records, found_records, refused_records}
use Rattle.files.specs.Files.{file_refusal, room}
use Rattle.files.specs.Answers.{file_answer}
use Rattle.files.proofs.Files.{Holds, refused_file}
use Rattle.files.proofs.Length.{Cut, whole, too_much, cut}
use Rattle.output.specs.Program.{answer_records, recue_records, recue_output}
use Rattle.output.specs.ProgramLaws.{FirstBytesDecide}
use Rattle.output.specs.Examples.{source_file, target_file, recue_printed, RecueExample}

-- ---- which file decides the output

module _ (source target : List ℕ) where
  -- If the source is refused, the target makes no difference.
  pub source_refused : (r : Refusal) → file_refusal source room ≡ some r → recue_output source target ≡ rows_text (refused_records 1 r)
  unfolding recue_output recue_records
  source_refused r e = rw e

  pub target_refused : (r : Refusal) → file_refusal source room ≡ none → file_refusal target room ≡ some r → recue_output source target ≡ rows_text (refused_records 2 r)
  unfolding recue_output recue_records
  target_refused r e f = rw (e, f)

  pub both_accepted : file_refusal source room ≡ none → file_refusal target room ≡ none
      → recue_output source target ≡ rows_text (answer_records (order_of source) (cells_of source) (order_of target) (cells_of target))
  unfolding recue_output recue_records
  both_accepted e f = rw (e, f)

-- ---- what is written, once the files are loaded into buffers of the program's size

-- The record of a file that is refused is the whole output.
module _ (source target cells : List ℕ) (size : length cells ≡ room) (r : Refusal) where
  pub prints_source : file_answer source cells ≡ refused r → rows_text (refused_records 1 r) ≡ recue_output source target
  prints_source e = sym (source_refused source target r (ap (file_refusal source) (sym size) ∙ refused_file source cells r e))

  pub prints_target : file_refusal source room ≡ none → file_answer target cells ≡ refused r → rows_text (refused_records 2 r) ≡ recue_output source target
  prints_target passes e = sym (target_refused source target r passes (ap (file_refusal target) (sym size) ∙ refused_file target cells r e))

-- If both files are accepted, the output is what is found between their tables.
pub prints_answer : (source target : List ℕ) → file_refusal source room ≡ none → file_refusal target room ≡ none → {m n : ℕ} {first second : List ℕ} → Holds source first m → Holds target second n
    → rows_text (answer_records m (take (m * m) first) n (take (n * n) second)) ≡ recue_output source target
prints_answer source target e f {m} {n} a b =
    ap₂ (λ (c d : List ℕ). rows_text (answer_records m c n d)) a.cells_are b.cells_are
    ∙ ap₂ (λ (i j : ℕ). rows_text (answer_records i (cells_of source) j (cells_of target))) (sym a.order) (sym b.order)
    ∙ sym (both_accepted source target e f)

-- What is written lies within the buffer.
pub output_within : (source target before : List ℕ) {p : ℕ} {out : List ℕ} → p ≡ length (recue_output source target) → out ≡ overwritten (recue_output source target) before → p ≤ length out
output_within source target before q e =
    let text = recue_output source target in
    omega (arith, ap length e ∙ length-append text (drop (length text) before))

-- ---- how much of a file decides

by_target : (source : List ℕ) {target : List ℕ} → Cut target → recue_output source (take 57721 target) ≡ recue_output source target
unfolding recue_output recue_records
by_target source (whole e) = rw e
by_target source (too_much e f) = rw (e, f)

-- The first 57,721 bytes of each file decide the output.
pub first_bytes_decide : FirstBytesDecide
first_bytes_decide source target = by_source (cut source)
  where
    by_source : Cut source → recue_output (take 57721 source) (take 57721 target) ≡ recue_output source target
    by_source (whole e) = ap (λ (s : List ℕ). recue_output s (take 57721 target)) e ∙ by_target source (cut target)
    by_source (too_much e f) = source_refused (take 57721 source) (take 57721 target) (no 20 []) e ∙ sym (source_refused source target (no 20 []) f)

-- ---- the example of RULES 21.4

pub example : RecueExample
unfolding recue_output recue_records answer_records source_file target_file recue_printed file_refusal first_record pair_record pair_records found_records refused_records is_digit value value_from numeral_within numeral is_break onto records fields rows record_text line_text rows_text fields_of order_of cells_of break_at in_break is_allowed first_other fields_questions is_square range elements at all find keep member distinct lists product is_element associates bad_cell bad_triple first_of is_homomorphism is_embedding maps earliest or_else flat_map flatten
example = refl
