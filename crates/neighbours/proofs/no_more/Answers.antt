-- The chain compares the counts of the 64 patterns.
use Rattle.std.proofs.Common.{ℕ, ◌∙◌, refl, arith, rules}
use Rattle.std.proofs.lemmas.Iterator.{YieldsList-from_range}
use Rattle.std.proofs.lemmas.Iterator.Search.{all_from_yields_List}
use lib.Dec.{leb}
use Rattle.semigroups.specs.Lists.{at}
use Rattle.semigroups.proofs.Chains.{all_elements}
use Rattle.neighbours.proofs.no_more.Goals as goal

pub returns : goal.returns
unfolding at
returns c =
    let test = λ (k : ℕ). leb (at c.args.few.now k) (at c.args.many.now k) in
    record {
      answer =
          all_from_yields_List test _ _ c.all.result c.all.ensures.ran (YieldsList-from_range 1 65 64 refl (omega arith)) (λ x b q k. search rules) ∙ all_elements test 64;
    }
