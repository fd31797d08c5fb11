use Rattle.std.proofs.Common.{ℕ, ◌≡◌, ◌∙◌, sym, ap, subst}
use Rattle.std.proofs.lemmas.List.{length-replicate}
use Rattle.semigroups.specs.InnerTables.{IsList}
use Rattle.plain.specs.InnerEnumeration.{numbered}
use Rattle.plain.proofs.Enumeration.{numbered_list}
use Rattle.plain.proofs.list_of.Goals as goal

pub returns : goal.returns
returns g c =
    let a = c.args in
    let e : c.write_list.new.list ≡ numbered g.row.M a.n a.k = c.write_list.ensures.list ∙ ap (λ (q : ℕ). numbered q a.n a.k) (length-replicate g.row.M 0) in
    record { list = e; elements = subst (IsList g.row.M a.n) (sym e) (numbered_list g.row.M a.n a.k c.requires.k_bound) }
