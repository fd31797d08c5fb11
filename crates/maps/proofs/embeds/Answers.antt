use Rattle.std.proofs.Common.{◌∙◌}
use Rattle.maps.proofs.Faults.{embeds_law}
use Rattle.maps.proofs.embeds.Goals as goal

pub returns : goal.returns
returns c = record { answer = c.is_ok.ensures.value ∙ embeds_law _ _ _ _ _ c.requires.size _ c.examine.ensures.answer }
