-- One law for each way out. Assumes nothing.
use Rattle.std.proofs.Common.{◌≡◌, inl, inr, Bool, false, ℕ, ◌≤◌, [], length, eqb, sym, ◌∙◌, arith}
use borrow.Author.Tests.{eqb-true, eqb-false}
use Rattle.sheets.proofs.Saves.{Says, no_lengths, many_lengths, bad_name, short_text, saves_text}
use Rattle.semigroups.specs.Calls.{refused}
use Rattle.semigroups.specs.InnerQuestions.{no}
use Rattle.semigroups.specs.Tables.{Element}
use Rattle.names.proofs.save.Goals as goal

-- How many lengths there are passes question 42.
passes : (n : ℕ) (empty : Bool) → empty ≡ eqb n 0 → empty ≡ false → n ≤ 120 → Element 120 n
passes n empty e f u = (let some = eqb-false n 0 (sym e ∙ f) in omega arith, u)

pub returns-then-is_empty : goal.returns-then-is_empty
returns-then-is_empty c =
    let said : Says c.args.names.now c.args.lengths.now c.args.text.now (refused (no 42 [])) c.args.text.now = elim c.then-is_empty.either [
      | inl e ↦ no_lengths _ _ _ (omega (arith, eqb-true (length c.args.lengths.now) 0 (sym c.is_empty.ensures ∙ e)))
      | inr h ↦ many_lengths _ _ _ h.1
    ] in
    record { answer = said.0; text = said.1 }

pub returns-in-Err : goal.returns-in-Err
returns-in-Err c =
    let said = bad_name _ _ _ _ (passes _ _ c.is_empty.ensures c.if-is_empty.false c.if-lengths-gt-ORDER.false) c.in-Err.ensures.answer in
    record { answer = said.0; text = said.1 }

pub returns-then-text-total : goal.returns-then-text-total
returns-then-text-total c =
    let few = passes _ _ c.is_empty.ensures c.if-is_empty.false c.if-lengths-gt-ORDER.false in
    let said = short_text _ _ _ _ few c.in-Ok.ensures.answer c.if-text-total.true in
    record { answer = said.0; text = said.1 }

pub returns-else-text-total : goal.returns-else-text-total
returns-else-text-total c =
    let few = passes _ _ c.is_empty.ensures c.if-is_empty.false c.if-lengths-gt-ORDER.false in
    let said = saves_text _ _ _ _ few c.in-Ok.ensures.answer c.if-text-total.false _ c.put_names.ensures.text in
    record { answer = said.0; text = said.1 }
