use Rattle.std.proofs.Common.{List, ℕ, ◌*◌, ◌≤◌, ◌∙◌, sym, ap, subst, length}
use Rattle.semigroups.specs.Calls.{overwritten}
use Rattle.semigroups.specs.Subsemigroups.{part_cells}
use Rattle.products.specs.Tables.{times_of}
use Rattle.parts.specs.InnerParts.{ClosedPart}
use Rattle.renaming.specs.InnerRenaming.{renamed_cells}
use Rattle.renaming.proofs.Renaming.{listed_part, length_listed}
use Rattle.renaming.proofs.rename.Goals as goal

pub write_part-requires-clause-closed : goal.write_part-requires-clause-closed
write_part-requires-clause-closed c =
    let t = c.args.table.now in
    subst (ClosedPart t.order (times_of t)) (sym (c.as_slice.ensures.answer ∙ c.products_last-found.ensures.answer)) (listed_part t.order t.cells.now t.filled)

pub write_part-requires-clause-room : goal.write_part-requires-clause-room
write_part-requires-clause-room c =
    let t = c.args.table.now in
    subst (λ (k : ℕ). k * k ≤ length c.args.renamed.now)
    (sym (ap length (c.as_slice.ensures.answer ∙ c.products_last-found.ensures.answer) ∙ length_listed t.order t.cells.now t.filled)) c.requires

pub returns : goal.returns
unfolding renamed_cells
returns c =
    let t = c.args.table.now in
    record {
      renamed = c.write_part.ensures.part
          ∙ ap (λ (l : List ℕ). overwritten (part_cells (times_of t) l) c.args.renamed.now) (c.as_slice.ensures.answer ∙ c.products_last-found.ensures.answer);
    }
