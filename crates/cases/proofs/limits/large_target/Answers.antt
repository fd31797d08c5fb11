-- `large_target` meets its contract: the table of degree 3 is accepted, and every call agrees. Assumes nothing.
use mathlib.Core.Path.{◌≡◌, refl, sym, ap, ◌∙◌, subst}
use mathlib.Core.Bool.{true}
use borrow.Author.Rules.{rules}
use Rattle.std.specs.Prelude.{Result, Ok}
use Rattle.semigroups.specs.Maps.{embeddings}
use mathlib.Core.List.{List, ◌++◌, append-nil}
use mathlib.Core.Option.{or_else}
use Prim.Native.Nat.{ℕ}
use native.Mathlib.Omega.{arith}
use lib.ListN.{length, drop, replicate}
use Rattle.semigroups.specs.Lists.{at, first_of}
use Rattle.semigroups.specs.Tables.{Accepted, is_element}
use Rattle.semigroups.specs.Transformations.{transformation_order, transformation_cells, transformation_refusal}
use Rattle.semigroups.proofs.Transformations.{degrees_accepted, length_cells}
use Rattle.transformations.specs.Calls.{transformation_says, transformation_cells_after}
use Rattle.plain.specs.declared.Said.{Said}
use Rattle.judging.specs.declared.tally.Tally.{Tally}
use Rattle.cases.specs.InnerAnswering.{answer_said, same_answer}
use Rattle.cases.specs.InnerEmbedded.{mat5_cells}
use Rattle.judging.specs.InnerTally.{empty, counted, agreed}
use Rattle.comparisons.specs.InnerWalking.{walk_calls}
use Rattle.judging.proofs.Counting.{agreed_counted}
use Rattle.cases.proofs.Tables.{mat5_table}
use Rattle.cases.proofs.limits.large_target.Goals as goal

three_accepted : Accepted 27 (transformation_cells 3)
unfolding transformation_order
three_accepted = degrees_accepted 3 (omega arith, omega arith)

filled : transformation_cells_after 3 (replicate 729 0) ≡ transformation_cells 3
unfolding transformation_cells_after transformation_refusal transformation_order first_of is_element or_else
filled =
    let e : length (transformation_cells 3) ≡ 729 = length_cells 3 in
    ap (λ (k : ℕ). transformation_cells 3 ++ drop k (replicate 729 0)) e ∙ append-nil (transformation_cells 3)

order_said : same_answer (answer_said (transformation_says 3 729)) (Ok 27) ≡ true
unfolding at is_element first_of transformation_order transformation_refusal transformation_says or_else
order_said = refl

pub invariant_of-pair : goal.invariant_of-pair
invariant_of-pair c = record { source_accepted = mat5_table; target_accepted = subst (Accepted 27) (sym (c.fill.ensures.cells ∙ filled)) three_accepted; small = search rules }

pub returns : goal.returns
returns c =
    let says = c.numbered_said-answer.ensures.answer ∙ ap answer_said c.fill.ensures.answer in
    let same = c.eq.ensures ∙ ap (λ (x : Result ℕ Said). same_answer x (Ok 27)) says ∙ order_said in
    let one = c.counted-answered.ensures.answer ∙ ap (λ (t : Tally). counted t c.eq.result) c.start.ensures.answer ∙ ap (counted empty) same in
    record {
      answer =
          c.walk.ensures.answer ∙ ap (λ (l : List ℕ). agreed (walk_calls embeddings mat5_cells 5 l 27 (replicate 5 0)) c.counted-answered.result) (c.fill.ensures.cells ∙ filled)
          ∙ ap (agreed (walk_calls embeddings mat5_cells 5 (transformation_cells 3) 27 (replicate 5 0))) one ∙ agreed_counted (walk_calls embeddings mat5_cells 5 (transformation_cells 3) 27 (replicate 5 0)) empty;
    }
