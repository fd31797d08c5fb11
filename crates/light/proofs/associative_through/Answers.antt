use Rattle.std.proofs.Common.{ℕ, Bool, ◌∙◌, sym, subst, rules}
use Rattle.std.proofs.lemmas.Iterator.{YieldsList-from_slice}
use Rattle.std.proofs.lemmas.Iterator.Adapters.{serves_from_places}
use Rattle.std.proofs.lemmas.Iterator.Search.{all_from_yields_List}
use Rattle.semigroups.specs.Tables.{Element}
use Rattle.semigroups.proofs.Chains.{list_all_is}
use Rattle.semigroups.proofs.NoRepeats.{place_mem}
use Rattle.products.specs.Tables.{times_of}
use Rattle.light.specs.InnerChoice.{good_middle}
use Rattle.light.proofs.associative_through.Goals as goal

pub all-requires-clause-callable : goal.all-requires-clause-callable
all-requires-clause-callable c =
    let list = c.args.list.now in
    serves_from_places (YieldsList-from_slice list c.iter.ensures.rest) (λ x q k. search rules)
    (λ x k h e. let there : Element c.args.table.now.order x.now = subst (Element c.args.table.now.order) (sym e) (c.requires _ (place_mem x.now list k h)) in search rules)

pub returns : goal.returns
returns c =
    let t = c.args.table.now in
    let test : ℕ → Bool = good_middle t.order (times_of t) in
    record {
      answer = all_from_yields_List test _ _ c.all.result c.all.ensures.ran (YieldsList-from_slice c.args.list.now c.iter.ensures.rest) (λ x b q k. search rules)
          ∙ list_all_is test c.args.list.now;
    }
