-- Equal keys are equal profiles.
use Rattle.std.proofs.Common.{◌∙◌}
use Rattle.candidates.proofs.Keys.{isomorphism_marks}
use Rattle.candidates.proofs.fill_isomorphisms.Goals as goal

pub returns : goal.returns
returns c =
    let filled = c.requires.filled in
    record { scratch = c.fill_equal.ensures.scratch ∙ isomorphism_marks c.args.scratch.now filled.0 filled.1 c.profile_keys-source_keys.ensures.answer c.profile_keys-target_keys.ensures.answer }
