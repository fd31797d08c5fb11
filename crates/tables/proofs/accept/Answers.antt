use Rattle.std.proofs.Common.{sym, ℕ, List, ap₂, ◌≡◌, ◌∙◌}
use Rattle.std.proofs.Math.Option.{Option, map, none, map-eq-none_iff}
use Rattle.std.proofs.lemmas.Result.{err_from_is_err_and}
use Rattle.semigroups.specs.Tables.{product, bad_triple}
use Rattle.semigroups.specs.Questions.{Refusal, table_refusal}
use Rattle.semigroups.specs.InnerQuestions.{no, cells_refusal}
use Rattle.semigroups.proofs.Tables.{associative_of}
use Rattle.tables.proofs.Questions.{cells_refused, cells_pass}
use Rattle.tables.proofs.accept.Goals as goal

-- What question 4 answers for the table with these cells, once questions 1 to 3 passed.
fourth : (n m : ℕ) (cells now : List ℕ) → (m ≡ n) × (now ≡ cells) → cells_refusal n cells ≡ none → (o : Option Refusal)
    → o ≡ map (λ l. no 4 l) (bad_triple m (product m now)) → o ≡ table_refusal n cells
fourth n m cells now p e o w = w ∙ ap₂ (λ (k : ℕ) (l : List ℕ). map (λ x. no 4 x) (bad_triple k (product k l))) p.0 p.1 ∙ sym (cells_pass n cells e)

pub returns-in_err-table-clause-answer : goal.returns-in_err-table-clause-answer
returns-in_err-table-clause-answer c =
    let p = err_from_is_err_and c.from_residual.result c.from_residual.ensures.1 in
    rw (p.1, p.2) (sym (cells_refused _ _ _ (sym c.in_err-table.ensures.answer)))

pub returns-in_err-associativity-clause-answer : goal.returns-in_err-associativity-clause-answer
returns-in_err-associativity-clause-answer c =
    let p = err_from_is_err_and c.from_residual-in_err-associativity.result c.from_residual-in_err-associativity.ensures.1 in
    let t = c.in_ok-table.ensures in
    rw (p.1, p.2) (fourth _ _ _ _ t.table (sym t.answer) _ c.in_err-associativity.ensures.answer)

pub invariant_of-result : goal.invariant_of-result
invariant_of-result c = record { associative = associative_of _ _ ((map-eq-none_iff (λ l. no 4 l) _).0 (sym c.in_ok-associativity.ensures.answer)) }

pub returns-clause-answer : goal.returns-clause-answer
returns-clause-answer c =
    let t = c.in_ok-table.ensures in
    fourth _ _ _ _ t.table (sym t.answer) _ c.in_ok-associativity.ensures.answer
