use Rattle.std.proofs.Common.{◌∙◌, rules, refl, arith}
use Rattle.std.proofs.lemmas.Iterator.{YieldsList-from_range}
use Rattle.std.proofs.lemmas.Iterator.Search.{all_from_yields_List}
use Rattle.plain.specs.InnerEnumeration.{numbered, keeps}
use Rattle.plain.specs.InnerTables.{product_of}
use Rattle.plain.proofs.Enumeration.{all_numbers}
use Rattle.plain.proofs.Pairs.{embedding_pairs}
use Rattle.plain.proofs.Map.is_embedding.Goals as goal

pub returns : goal.returns
returns c =
    let a = c.args.self.now in
    let total = c.number_of_lists.result in
    record {
      answer =
          all_from_yields_List (λ k. keeps (product_of a.source) (product_of a.target) a.images.now (numbered 2 a.source.order k)) _ _ c.all.result c.all.ensures.ran (YieldsList-from_range 0 total total refl (omega arith)) (λ x b q k. search rules)
          ∙ all_numbers (keeps (product_of a.source) (product_of a.target) a.images.now) 2 a.source.order total 0 (omega arith)
          ∙ embedding_pairs _ _ _ _ _ a.list;
    }
