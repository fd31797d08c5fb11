-- Order 121 is refused whatever the cells.
use Rattle.std.proofs.Common.{List, [], ℕ, true, ◌≡◌, ◌∙◌, ap, refl, arith, replicate}
use Rattle.std.specs.Prelude.{Ok, Err}
use Rattle.semigroups.specs.Lists.{at}
use Rattle.semigroups.specs.Questions.{table_refusal}
use Rattle.semigroups.specs.InnerQuestions.{no}
use Rattle.tables.proofs.Questions.{order_high, cells_refused}
use Rattle.plain.specs.declared.Said.{Said}
use Rattle.plain.specs.InnerSaid.{said_of}
use Rattle.judging.specs.declared.tally.Tally.{Tally}
use Rattle.judging.specs.InnerSaid.{same_said}
use Rattle.judging.specs.InnerTally.{empty, counted, agreed}
use Rattle.judging.proofs.Counting.{two_more}
use Rattle.cases.proofs.limits.orders.Goals as goal

too_large : (cells : List ℕ) (r : Said) → r ≡ record { number = 1; first = 0; second = 0; third = 0 } → same_said (said_of (table_refusal 121 cells)) (Err r) ≡ true
unfolding at
too_large cells r e =
    ap (λ (x : Said). same_said (said_of (table_refusal 121 cells)) (Err x)) e
    ∙ ap (λ x. same_said (said_of x) (Err (record { number = 1; first = 0; second = 0; third = 0 }))) (cells_refused 121 cells (no 1 []) (order_high 121 cells (omega arith) (omega arith)))

pub returns : goal.returns
unfolding agreed
returns c =
    let ones : List ℕ = replicate 14400 1 in
    let base = counted empty (same_said (said_of (table_refusal 120 ones)) (Ok tt)) in
    let one : c.judged-accepted.result ≡ agreed 1 base =
    c.judged-accepted.ensures.answer ∙ ap (λ (t : Tally). counted (counted t (same_said (said_of (table_refusal 120 ones)) (Ok tt))) true) c.start.ensures.answer in
    record { answer = two_more base 1 _ true one (too_large (replicate 14641 1) _ c.failed.ensures.answer) refl c.judged.ensures.answer }
