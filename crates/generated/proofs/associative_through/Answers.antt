use Rattle.std.proofs.Common.{sym, ap, refl, arith, List, ℕ, get_or, ◌∙◌}
use Rattle.std.proofs.Math.Option.{Option, map}
use Rattle.semigroups.specs.Questions.{Refusal}
use Rattle.semigroups.specs.InnerQuestions.{no}
use Rattle.semigroups.specs.Light.{bad_triple_through}
use Rattle.semigroups.specs.Results.{refusal_in}
use Rattle.answers.specs.Answers.{fault_refusal}
use Rattle.products.specs.Tables.{times_of}
use Rattle.products.proofs.Triples.{triples_begin, first_enter, pair_skip, pair_hit, pair_leave, triples_end, third_none, third_some, third_before}
use Rattle.light.proofs.Indicators.{unmarked, is_marked_law}
use Rattle.generated.proofs.Questions.{unlisted, no_failing_through, failing_through}
use Rattle.generated.proofs.associative_through.Goals as goal
use Rattle.generated.proofs.associative_through.Goals.{then-listed+in_default, else-listed}

-- The refusal by a triple.
abbrev refusal : Option (List ℕ) → Option Refusal
refusal o = map (λ l. no 4 l) o

pub triples-init : goal.triples-init
unfolding bad_triple_through
triples-init c = record { none_yet = refl; rest = triples_begin _ _ }

pub loop-j-init : goal.loop-j-init
loop-j-init c = record { none_yet = c.triples.invariant.none_yet; rest = c.triples.invariant.rest ∙ first_enter _ _ _ (omega arith) }

pub loop-j-preserved : goal.loop-j-preserved
loop-j-preserved c =
    let s = times_of c.args.table.now in
    let i = c.triples.i in
    let j = c.loop-j.j in
    let list = c.args.list.now in
    let o = c.args.table.now.filled.order in
    let v = c.loop-j.invariant in
    elim c.if-listed.branch [
      | then-listed+in_default w ↦ record { none_yet = v.none_yet; rest = v.rest ∙ pair_skip _ _ _ _ (omega arith) (λ k h. no_failing_through s list i j k (third_none s _ i j (sym w.in_default.ensures.answer) k h)) }
      | else-listed w ↦ record { none_yet = v.none_yet; rest = v.rest ∙ pair_skip _ _ _ _ (omega arith) (λ k h. unlisted s list i j k (unmarked list _ (omega arith) (sym (ap (λ (m : List ℕ). get_or m j 0) c.marked-middles.ensures.answer) ∙ w.if-listed.false))) }
    ]

pub triples-preserved : goal.triples-preserved
triples-preserved c = record { none_yet = c.loop-j.invariant.none_yet; rest = c.loop-j.invariant.rest ∙ pair_leave _ _ _ _ (omega arith) }

pub returns-after-triples : goal.returns-after-triples
returns-after-triples c = record { answer = ap (refusal_in fault_refusal) c.triples.invariant.none_yet ∙ sym (ap refusal (c.triples.invariant.rest ∙ triples_end _ _ _ (omega arith))) }

pub returns-in-Some : goal.returns-in-Some
returns-in-Some c =
    let s = times_of c.args.table.now in
    let i = c.triples.i in
    let j = c.loop-j.j in
    let list = c.args.list.now in
    let o = c.args.table.now.filled.order in
    let m = is_marked_law list _ (omega arith) (λ e. c.if-listed.true (ap (λ (m : List ℕ). get_or m j 0) c.marked-middles.ensures.answer ∙ e)) in
    let e = sym c.in-Some.ensures.answer in
    let k = third_some s _ i j _ e in
    record { answer = sym (ap refusal (c.loop-j.invariant.rest ∙ pair_hit _ _ _ _ _ (omega arith) k.0 (λ x h. no_failing_through s list i j x (third_before s _ i j _ e x h)) (failing_through s list i j _ m k.1))) }
