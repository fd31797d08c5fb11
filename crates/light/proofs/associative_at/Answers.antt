use Rattle.std.proofs.Common.{ℕ, ◌+◌, Bool, ◌∙◌, refl, arith, rules}
use Rattle.std.proofs.lemmas.Iterator.{YieldsList-from_range}
use Rattle.std.proofs.lemmas.Iterator.Search.{all_from_yields_List}
use Rattle.semigroups.specs.Lists.{elements, all}
use Rattle.semigroups.specs.Tables.{associates}
use Rattle.semigroups.proofs.Chains.{all_elements}
use Rattle.products.specs.Tables.{times_of}
use Rattle.light.specs.InnerChoice.{good_middle}
use Rattle.light.proofs.associative_at.Goals as goal

pub returns : goal.returns
unfolding good_middle
returns c =
    let t = c.args.table.now in
    let n = t.order in
    let test : ℕ → Bool = λ i. all (associates (times_of t) i c.args.j) (elements n) in
    record {
      answer = all_from_yields_List test _ _ c.all.result c.all.ensures.ran (YieldsList-from_range 1 (n + 1) n refl (omega arith)) (λ x b q k. search rules)
          ∙ all_elements test n;
    }
