-- Equal keys are equal index-periods.
use Rattle.std.proofs.Common.{◌∙◌}
use Rattle.candidates.proofs.Keys.{embedding_marks}
use Rattle.candidates.proofs.fill_embeddings.Goals as goal

pub returns : goal.returns
returns c =
    let filled = c.requires.filled in
    record { scratch = c.fill_equal.ensures.scratch ∙ embedding_marks c.args.scratch.now filled.0 filled.1 c.index_period_keys-source_keys.ensures.answer c.index_period_keys-target_keys.ensures.answer }
