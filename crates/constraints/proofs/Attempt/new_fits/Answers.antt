use Rattle.std.proofs.Common.{rules, refl, sym, ap, ◌∙◌, ℕ, Bool, ◌+◌, arith}
use Rattle.std.proofs.lemmas.Iterator.{YieldsList-from_range}
use Rattle.std.proofs.lemmas.Iterator.Search.{all_from_yields_List}
use Rattle.semigroups.specs.Lists.{elements, all}
use Rattle.semigroups.specs.Trials.{fits}
use Rattle.semigroups.proofs.Chains.{all_elements}
use Rattle.products.specs.Tables.{times_of}
use Rattle.constraints.specs.InnerConstraints.{cross, new_fits}
use Rattle.constraints.specs.InnerAttempt.{longer}
use Rattle.constraints.proofs.Placing.{next_length}
use Rattle.constraints.proofs.Attempt.new_fits.Goals as goal

pub returns : goal.returns
unfolding new_fits
returns c =
    let s = c.args.self.now in
    let next = s.len + 1 in
    let pair : ℕ → ℕ → Bool = fits (times_of s.source.now) (times_of s.target.now) (longer s) in
    record {
      answer = all_from_yields_List (cross pair next) _ _ c.all.result c.all.ensures.ran (YieldsList-from_range 1 (next + 1) next refl (omega arith)) (λ x b q k. search rules)
          ∙ all_elements (cross pair next) next
          ∙ sym (ap (λ (k : ℕ). all (cross pair k) (elements k)) (next_length s.image.now s.len s.x (omega arith)));
    }
