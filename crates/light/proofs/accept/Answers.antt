use Rattle.light.proofs.Choice.{chosen_inside}
use Rattle.light.proofs.accept.Goals as goal

pub associative_through-requires : goal.associative_through-requires
associative_through-requires c = chosen_inside c.in-Some.ensures.choice.rarest_first
