-- List number k stands at the start of the array.
use Rattle.std.proofs.Common.{◌∙◌, sym}
use Rattle.plain.proofs.Fronts.{front_list}
use Rattle.plain.proofs.Search.is_later_map.Goals as goal

pub invariant_of-map : goal.invariant_of-map
invariant_of-map c = record { list = front_list _ _ _ c.requires.k_bound _ c.list_number-list.ensures.list }

pub earlier-requires : goal.earlier-requires
earlier-requires c = c.args.self.now.after_len ∙ sym (front_list _ _ _ c.requires.k_bound _ c.list_number-list.ensures.list).size
