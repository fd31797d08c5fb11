-- An embedding among the rows sends c to what row c holds alone, and keeps products.
use Rattle.std.proofs.Common.{◌≡◌, sym, ◌∙◌, arith}
use Rattle.semigroups.specs.Tables.{Element}
use Rattle.products.specs.Tables.{times_of}
use Rattle.semigroups.specs.TablesLaws.{Closed}
use Rattle.rows.specs.InnerRows.{row_of, single_row}
use Rattle.rows.proofs.Rows.{shrinks_more, forced_shrinks}
use Rattle.propagation.proofs.Narrowed.{table_closed}
use Rattle.propagation.proofs.Lone.{lone_image, product_kept}
use Rattle.propagation.proofs.force_with.Goals as goal

pub returns-clause-keeps : goal.returns-clause-keeps
returns-clause-keeps c = λ f F e h.
    let a = c.args in
    let m = a.source.now.order in
    let n = a.target.now.order in
    let s = times_of a.source.now in
    let t = times_of a.target.now in
    let source = c.args.source.now.filled in
    let so = source.order in
    let to = c.args.target.now.filled.order in
    let closed : Closed m s = table_closed a.source.now in
    let hl = c.requires.element.0 in
    let hc = c.requires.element.2 in
    let y = c.in-Some.y in
    let found = c.in-Some.ensures.answer in
    let most = c.if-target-y.false in
    let some = found.0 in
    let hy : Element 120 y = omega arith in
    let row : row_of a.rows.now a.c ≡ single_row y = sym c.row_of.ensures.answer ∙ found.1.holds some in
    let image = lone_image m s n t f F so.1 to.1 a.rows.now h a.c y hc hy row in
    product_kept m s n t f F so.1 to.1 closed c.force_product.new.rows c.force_product-2.new.rows a.c y a.l a.x hc hl image e c.force_product-2.ensures.forced
    (product_kept m s n t f F so.1 to.1 closed a.rows.now c.force_product.new.rows a.l a.x a.c y hl hc e image c.force_product.ensures.forced h)

pub returns-clause-shrinks : goal.returns-clause-shrinks
returns-clause-shrinks c =
    let a = c.args in
    let s = times_of a.source.now in
    let t = times_of a.target.now in
    let source = c.args.source.now.filled in
    let so = source.order in
    let closed : Closed a.source.now.order s = table_closed a.source.now in
    let left = closed a.l a.c c.requires.element.0 c.requires.element.2 in
    let right = closed a.c a.l c.requires.element.2 c.requires.element.0 in
    let y = c.in-Some.y in
    let one = c.force_product.new.rows in
    shrinks_more one c.force_product-2.new.rows a.rows.now (forced_shrinks a.rows.now one (s a.l a.c) (t a.x y) (omega arith) c.force_product.ensures.forced)
    (forced_shrinks one c.force_product-2.new.rows (s a.c a.l) (t y a.x) (omega arith) c.force_product-2.ensures.forced)
