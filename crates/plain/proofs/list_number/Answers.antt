use Rattle.std.proofs.Common.{refl}
use Rattle.plain.proofs.Fronts.{front_number, front_written}
use Rattle.plain.proofs.list_number.Goals as goal

pub write_list-requires-clause-k_bound : goal.write_list-requires-clause-k_bound
write_list-requires-clause-k_bound c = front_number _ 9 c.requires.small _ refl _ _ c.requires.k_bound

pub returns : goal.returns
returns c = record { list = front_written _ 9 c.requires.small _ refl _ _ _ c.write_list.ensures.list }
