use Rattle.std.proofs.Common.{sym, arith, ◌∙◌}
use Rattle.maps.proofs.Pairs.{pairs_begin, first_enter, pair_skip, pair_pass, pair_hit, pair_leave, pairs_end}
use Rattle.maps.proofs.Faults.{not_rising, equal_pair, unequal_pair, equal_as_test}
use Rattle.maps.proofs.equal_images.Goals as goal

pub loop-i-init : goal.loop-i-init
loop-i-init c = pairs_begin _ _

pub loop-j-init : goal.loop-j-init
loop-j-init c = c.loop-i.invariant ∙ first_enter _ _ _ (omega arith) ∙ pair_skip _ _ _ _ (omega arith) (λ j u. not_rising _ _ j u.1)

pub returns-then-first-image : goal.returns-then-first-image
returns-then-first-image c =
    record { answer = λ s n t. sym (equal_as_test _ s n t _ ∙ c.loop-j.invariant ∙ pair_hit _ _ _ _ (omega arith) (equal_pair _ _ _ (omega arith) (sym c.image-first.ensures.answer ∙ c.if-first-image.true ∙ c.image.ensures.answer))) }

pub loop-j-preserved : goal.loop-j-preserved
loop-j-preserved c = c.loop-j.invariant ∙ pair_pass _ _ _ _ (omega arith) (unequal_pair _ _ _ (omega arith) (λ e. c.if-first-image.false (c.image-first.ensures.answer ∙ e ∙ sym c.image.ensures.answer)))

pub loop-i-preserved : goal.loop-i-preserved
loop-i-preserved c = c.loop-j.invariant ∙ pair_leave _ _ _ _ (omega arith)

pub returns : goal.returns
returns c = record { answer = λ s n t. sym (equal_as_test _ s n t _ ∙ c.loop-i.invariant ∙ pairs_end _ _ _ (omega arith)) }
