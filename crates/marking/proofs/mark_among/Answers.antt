-- The marks of the candidates, masked by the pairs, are those of the allowed candidates.
use Rattle.std.proofs.Common.{ℕ, List, ap₂, ◌∙◌}
use Rattle.semigroups.specs.Tables.{product}
use Rattle.semigroups.specs.Calls.{overwritten}
use Rattle.semigroups.specs.Maps.{embeddings}
use Rattle.semigroups.specs.Candidates.{candidate}
use Rattle.marking.specs.InnerMasks.{masked_bytes, clears_nothing}
use Rattle.marking.proofs.Masks.{masked_scratch}
use Rattle.marking.proofs.mark_among.Goals as goal

pub returns : goal.returns
returns c =
    let a = c.args in
    let size = c.scratch_size-size.ensures.answer in
    let marks = c.mark.ensures.scratch in
    record {
      answer = c.allows_all-all.ensures.answer ∙ ap₂ (λ (size : ℕ) (scratch : List ℕ). clears_nothing size a.pairs.now scratch) size marks;
      scratch = c.keep_pairs.ensures.scratch ∙ ap₂ (λ (size : ℕ) (scratch : List ℕ). overwritten (masked_bytes size a.pairs.now scratch) scratch) size marks
          ∙ masked_scratch a.m a.n (candidate embeddings a.m (product a.m a.source.now) a.n (product a.n a.target.now)) a.pairs.now a.scratch.now;
    }
