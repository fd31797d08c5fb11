use Rattle.std.specs.List.{list_all}
use Rattle.std.specs.Int.Bits.{bit_and}
use Rattle.std.proofs.Common.{ℕ, ap, ◌∙◌, refl, arith, rules, get_or, nat_eq}
use Rattle.std.proofs.lemmas.Iterator.{YieldsList-from_range}
use Rattle.std.proofs.lemmas.Iterator.Search.{all_from_yields_List}
use Rattle.semigroups.specs.Lists.{range}
use Rattle.semigroups.proofs.Chains.{range_of, list_all_is}
use Rattle.marking.specs.InnerMasks.{clears_nothing}
use Rattle.marking.proofs.allows_all.Goals as goal

pub returns : goal.returns
unfolding clears_nothing
returns c =
    let a = c.args in
    let test = λ (b : ℕ). nat_eq (bit_and (get_or a.scratch.now b 0) (get_or a.pairs.now b 0)) (get_or a.scratch.now b 0) in
    record {
      answer =
          all_from_yields_List test _ _ c.all.result c.all.ensures.ran (YieldsList-from_range 0 a.size a.size refl (omega arith)) (λ x b q k. search rules)
          ∙ ap (list_all test) (range_of 0 a.size) ∙ list_all_is test (range 0 a.size);
    }
