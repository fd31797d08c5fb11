-- `recue` prints the record of the first file that is refused, or what the search finds between the two tables. Assumes nothing.
use mathlib.Core.Path.{◌≡◌, refl, ap, sym, ◌∙◌}
use mathlib.Core.List.{List}
use mathlib.Core.Option.{none}
use Prim.Native.Nat.{ℕ}
use native.Mathlib.Omega.{arith}
use lib.ListN.{length, replicate}
use lib.Seq.{length-take-le}
use Rattle.semigroups.specs.Calls.{gives, overwritten}
use Rattle.products.proofs.Products.{square_small}
use Rattle.files.specs.Files.{file_refusal, room}
use Rattle.files.specs.Answers.{file_answer, failed_number}
use Rattle.rfc4180.specs.Calls.{cells_after}
use Rattle.answers.specs.Answers.{no_refusal, numbered_says}
use Rattle.std.specs.Prelude.{Result, Ok}
use Rattle.answers.specs.declared.No.{No}
use Rattle.files.proofs.Files.{Holds, holds, accepted_file}
use Rattle.files.proofs.Numbers.{failed_small}
use Rattle.output.proofs.Records.{refused_written}
use Rattle.output.proofs.Program.{prints_source, prints_target, prints_answer}
use Rattle.output.proofs.recue.Goals as goal

-- What is written is the whole output.
record Printed (before whole : List ℕ) (p : ℕ) (out : List ℕ) : Type 0 where
  size : p ≡ length whole
  bytes : out ≡ overwritten whole before

printed : (before : List ℕ) {text whole : List ℕ} → text ≡ whole → {p : ℕ} {out : List ℕ} → p ≡ length text → out ≡ overwritten text before → Printed before whole p out
printed before e q w = record { size = q ∙ ap length e; bytes = w ∙ ap (λ (l : List ℕ). overwritten l before) e }

-- What is known of a file that is accepted: its text t, the verdict v, its order n.
module _ (t : List ℕ) {v : Result ℕ No} {n : ℕ} (said : numbered_says v ≡ file_answer t (replicate 14400 0)) (is : v ≡ Ok n) where
  given_order : file_answer t (replicate 14400 0) ≡ gives n
  given_order = sym said ∙ ap numbered_says is

  passes : file_refusal t room ≡ none
  passes = accepted_file _ _ _ given_order

  loaded : {after : List ℕ} → after ≡ cells_after t (replicate 14400 0) → length after ≡ 14400 → Holds t after n
  loaded same kept = holds _ _ _ given_order same kept

pub put_first-requires-clause-small : goal.put_first-requires-clause-small
put_first-requires-clause-small c =
    let small = failed_small _ _ c.load_then_check-first.result c.load_then_check-first.ensures.answer c.failed_question.ensures.answer in
    (omega arith, omega arith)

pub returns-in_default : goal.returns-in_default
returns-in_default c =
    let says = ap numbered_says c.in_default.is in
    let by = no_refusal c.in_default.field-0 in
    let w = refused_written _ 1 _ by (c.failed_question.ensures.answer ∙ ap failed_number says) (omega (arith, c.told-out)) c.put_first.ensures.answer c.put_first.ensures.out in
    let all = printed c.args.out.now (prints_source c.args.source.now c.args.target.now (replicate 14400 0) refl by (sym c.load_then_check-first.ensures.answer ∙ says)) w.size w.text in
    record { answer = all.size; out = all.bytes }

pub put_first-requires-in_default-second-clause-small : goal.put_first-requires-in_default-second-clause-small
put_first-requires-in_default-second-clause-small c =
    let small = failed_small _ _ c.load_then_check-second.result c.load_then_check-second.ensures.answer c.failed_question-in_default-second.ensures.answer in
    (omega arith, omega arith)

pub returns-in_default-second : goal.returns-in_default-second
returns-in_default-second c =
    let says = ap numbered_says c.in_default-second.is in
    let by = no_refusal c.in_default-second.field-0 in
    let w = refused_written _ 2 _ by (c.failed_question-in_default-second.ensures.answer ∙ ap failed_number says) (omega (arith, c.told-out)) c.put_first-in_default-second.ensures.answer c.put_first-in_default-second.ensures.out in
    let all = printed c.args.out.now (prints_target c.args.source.now c.args.target.now (replicate 14400 0) refl by (passes c.args.source.now c.load_then_check-first.ensures.answer c.in-Ok.is) (sym c.load_then_check-second.ensures.answer ∙ says)) w.size w.text in
    record { answer = all.size; out = all.bytes }

pub overflow_mul-source_size : goal.overflow_mul-source_size
overflow_mul-source_size c = omega (arith, square_small _ (loaded c.args.source.now c.load_then_check-first.ensures.answer c.in-Ok.is c.load_then_check-first.ensures.cells c.load_then_check-first.auto.cells).small)

pub overflow_mul-target_size : goal.overflow_mul-target_size
overflow_mul-target_size c = omega (arith, square_small _ (loaded c.args.target.now c.load_then_check-second.ensures.answer c.in-Ok-second.is c.load_then_check-second.ensures.cells c.load_then_check-second.auto.cells).small)

pub slice_bounds-source_cells-end : goal.slice_bounds-source_cells-end
slice_bounds-source_cells-end c = (loaded c.args.source.now c.load_then_check-first.ensures.answer c.in-Ok.is c.load_then_check-first.ensures.cells c.load_then_check-first.auto.cells).room

pub slice_bounds-put_answer-end : goal.slice_bounds-put_answer-end
slice_bounds-put_answer-end c = sym (length-take-le _ _ (loaded c.args.source.now c.load_then_check-first.ensures.answer c.in-Ok.is c.load_then_check-first.ensures.cells c.load_then_check-first.auto.cells).room)

pub slice_bounds-target_cells-end : goal.slice_bounds-target_cells-end
slice_bounds-target_cells-end c = (loaded c.args.target.now c.load_then_check-second.ensures.answer c.in-Ok-second.is c.load_then_check-second.ensures.cells c.load_then_check-second.auto.cells).room

pub slice_bounds-put_answer-end-2 : goal.slice_bounds-put_answer-end-2
slice_bounds-put_answer-end-2 c = sym (length-take-le _ _ (loaded c.args.target.now c.load_then_check-second.ensures.answer c.in-Ok-second.is c.load_then_check-second.ensures.cells c.load_then_check-second.auto.cells).room)

pub put_answer-requires : goal.put_answer-requires
put_answer-requires c =
    let source = loaded c.args.source.now c.load_then_check-first.ensures.answer c.in-Ok.is c.load_then_check-first.ensures.cells c.load_then_check-first.auto.cells in
    let target = loaded c.args.target.now c.load_then_check-second.ensures.answer c.in-Ok-second.is c.load_then_check-second.ensures.cells c.load_then_check-second.auto.cells in
    record { tables = (source.table, target.table) }

pub returns : goal.returns
returns c =
    let source = loaded c.args.source.now c.load_then_check-first.ensures.answer c.in-Ok.is c.load_then_check-first.ensures.cells c.load_then_check-first.auto.cells in
    let target = loaded c.args.target.now c.load_then_check-second.ensures.answer c.in-Ok-second.is c.load_then_check-second.ensures.cells c.load_then_check-second.auto.cells in
    let all = printed c.args.out.now (prints_answer c.args.source.now c.args.target.now (passes c.args.source.now c.load_then_check-first.ensures.answer c.in-Ok.is) (passes c.args.target.now c.load_then_check-second.ensures.answer c.in-Ok-second.is) source target) c.put_answer.ensures.answer c.put_answer.ensures.out in
    record { answer = all.size; out = all.bytes }
