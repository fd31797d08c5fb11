-- One law for each way out. Assumes nothing.
use Rattle.std.proofs.Common.{inl, inr, [], sym, arith}
use Rattle.semigroups.specs.Calls.{refused}
use Rattle.semigroups.specs.InnerQuestions.{no}
use Rattle.sheets.proofs.Soundness.{accepted_passes}
use Rattle.sheets.proofs.Scan.{scanned_sheet, scanned_offence}
use Rattle.sheets.proofs.Loading.{Says, bad_form, bad_record, names_short, lengths_short, loads}
use Rattle.names.proofs.load.Goals as goal

pub returns-in-Err : goal.returns-in-Err
returns-in-Err c =
    let said = bad_form _ _ _ _ (scanned_offence _ _ (sym c.in-Err.ensures.answer)) in
    record { answer = said.0; names = said.1.0; lengths = said.1.1 }

pub judge_records-requires : goal.judge_records-requires
judge_records-requires c = accepted_passes _ (scanned_sheet _ (sym c.in_default.ensures.answer))

pub returns-in-Err-judge_records : goal.returns-in-Err-judge_records
returns-in-Err-judge_records c =
    let said = bad_record _ _ _ (scanned_sheet _ (sym c.in_default.ensures.answer)) _ c.in-Err-judge_records.ensures.answer in
    record { answer = said.0; names = said.1.0; lengths = said.1.1 }

pub returns-then-names-total : goal.returns-then-names-total
returns-then-names-total c =
    let accepted = scanned_sheet _ (sym c.in_default.ensures.answer) in
    let said : Says c.args.text.now c.args.names.now c.args.lengths.now (refused (no 27 [])) c.args.names.now c.args.lengths.now = elim c.then-names-total.either [
      | inl h ↦ names_short _ _ _ accepted _ _ c.in-Ok.ensures.answer h
      | inr h ↦ lengths_short _ _ _ accepted _ _ c.in-Ok.ensures.answer h.0 h.1
    ] in
    record { answer = said.0; names = said.1.0; lengths = said.1.1 }

pub write_names-requires : goal.write_names-requires
write_names-requires c = record {
  form = accepted_passes _ (scanned_sheet _ (sym c.in_default.ensures.answer));
  fits = λ p.
      let j = c.in-Ok.ensures.answer p in
      let j1 = j.1 in
      let j2 = j.2 in
      record { passed = j.0; names = omega arith; lengths = omega arith };
}

pub returns-else-lengths-count : goal.returns-else-lengths-count
returns-else-lengths-count c =
    let accepted = scanned_sheet _ (sym c.in_default.ensures.answer) in
    let said = loads _ _ _ accepted _ _ c.in-Ok.ensures.answer c.if-names-total.false c.if-lengths-count.false _ _ c.write_names.ensures.names c.write_names.ensures.lengths in
    record { answer = said.0; names = said.1.0; lengths = said.1.1 }
