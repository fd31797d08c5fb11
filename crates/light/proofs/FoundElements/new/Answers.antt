use Rattle.light.proofs.Found.{found_nil}
use Rattle.light.proofs.FoundElements.new.Goals as goal

pub invariant_of-result : goal.invariant_of-result
invariant_of-result c = found_nil
