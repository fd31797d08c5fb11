-- The chain counts the files of a class.
use Rattle.std.proofs.Common.{ℕ, ◌+◌, ◌∙◌, sym, refl, arith, rules}
use Rattle.std.proofs.lemmas.Iterator.{YieldsList-from_range}
use Rattle.std.proofs.lemmas.Iterator.Consumers.{count_from_yields_List, YieldsList-from_filter, YieldsList-at}
use Rattle.semigroups.proofs.Chains.{count_elements}
use Rattle.counts.proofs.Counts.{count_elements as at_most}
use Rattle.progress.specs.Output.{is_in}
use Rattle.classification.proofs.Held.{held, members_from}
use Rattle.classification.proofs.members.Goals as goal

pub returns : goal.returns
returns c =
    let a = c.args.a in
    let s = c.args.classifier.now in
    let test = λ (k : ℕ). is_in a (held s.orders s.numbers k) in
    let counted =
    count_from_yields_List c.filter.result c.count.result c.count.ensures.ran
    (YieldsList-from_filter _ test (YieldsList-at c.filter.ensures.source (YieldsList-from_range 1 (s.count + 1) s.count refl (omega arith))) c.filter.ensures.closure (λ x r q k. search rules))
    ∙ count_elements test s.count in
    record { answer = counted ∙ sym (members_from s.orders s.numbers s.count a); most = omega (arith, counted, at_most s.count test) }
