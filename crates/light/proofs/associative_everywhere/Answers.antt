use Rattle.std.proofs.Common.{ℕ, ◌+◌, Bool, ◌∙◌, refl, arith, rules}
use Rattle.std.proofs.lemmas.Iterator.{YieldsList-from_range}
use Rattle.std.proofs.lemmas.Iterator.Search.{all_from_yields_List}
use Rattle.semigroups.proofs.Chains.{all_elements}
use Rattle.products.specs.Tables.{times_of}
use Rattle.light.specs.InnerChoice.{good_middle}
use Rattle.light.proofs.associative_everywhere.Goals as goal

pub returns : goal.returns
returns c =
    let t = c.args.table.now in
    let n = t.order in
    let test : ℕ → Bool = good_middle n (times_of t) in
    record {
      answer = all_from_yields_List test _ _ c.all.result c.all.ensures.ran (YieldsList-from_range 1 (n + 1) n refl (omega arith)) (λ x b q k. search rules)
          ∙ all_elements test n;
    }
