use Rattle.std.proofs.Common.{sym, ap, refl, arith, List, ℕ, ◌∙◌}
use Rattle.std.proofs.Math.Option.{Option, map}
use Rattle.semigroups.specs.Tables.{bad_triple}
use Rattle.semigroups.specs.Questions.{Refusal}
use Rattle.semigroups.specs.InnerQuestions.{no}
use Rattle.semigroups.specs.Results.{refusal_in}
use Rattle.answers.specs.Answers.{fault_refusal}
use Rattle.products.proofs.Triples.{triples_begin, first_enter, pair_enter, triple_pass, triple_hit, triple_leave, pair_leave, triples_end, no_failing, failing, compared}
use Rattle.tables.proofs.associative.Goals as goal

-- The refusal by a triple.
abbrev refusal : Option (List ℕ) → Option Refusal
refusal o = map (λ l. no 4 l) o

pub triples-init : goal.triples-init
unfolding bad_triple
triples-init c = record { none_yet = refl; rest = triples_begin _ _ }

pub loop-j-init : goal.loop-j-init
loop-j-init c = record { none_yet = c.triples.invariant.none_yet; rest = c.triples.invariant.rest ∙ first_enter _ _ _ (omega arith) }

pub loop-k-init : goal.loop-k-init
loop-k-init c = record { none_yet = c.loop-j.invariant.none_yet; rest = c.loop-j.invariant.rest ∙ pair_enter _ _ _ _ (omega arith) }

pub loop-k-preserved : goal.loop-k-preserved
loop-k-preserved c =
    let w = compared _ _ _ _ _ _ _ _ _ c.times-ij.ensures.answer c.times-jk.ensures.answer c.times.ensures.answer c.times-in-loop-k.ensures.answer in
    record { none_yet = c.loop-k.invariant.none_yet; rest = c.loop-k.invariant.rest ∙ triple_pass _ _ _ _ _ (omega arith) (no_failing _ _ _ _ (sym w.0 ∙ c.if-times.false ∙ w.1)) }

pub loop-j-preserved : goal.loop-j-preserved
loop-j-preserved c = record { none_yet = c.loop-k.invariant.none_yet; rest = c.loop-k.invariant.rest ∙ triple_leave _ _ _ _ _ (omega arith) }

pub triples-preserved : goal.triples-preserved
triples-preserved c = record { none_yet = c.loop-j.invariant.none_yet; rest = c.loop-j.invariant.rest ∙ pair_leave _ _ _ _ (omega arith) }

pub returns-after-triples : goal.returns-after-triples
returns-after-triples c = record { answer = ap (refusal_in fault_refusal) c.triples.invariant.none_yet ∙ sym (ap refusal (c.triples.invariant.rest ∙ triples_end _ _ _ (omega arith))) }

pub returns-then-times : goal.returns-then-times
returns-then-times c =
    let w = compared _ _ _ _ _ _ _ _ _ c.times-ij.ensures.answer c.times-jk.ensures.answer c.times.ensures.answer c.times-in-loop-k.ensures.answer in
    record { answer = sym (ap refusal (c.loop-k.invariant.rest ∙ triple_hit _ _ _ _ _ (omega arith) (failing _ _ _ _ (λ e. c.if-times.true (w.0 ∙ e ∙ sym w.1))))) }
