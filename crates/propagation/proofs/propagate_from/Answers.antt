-- An embedding among the rows sends l to what row l holds alone, and rows that it is among have room.
use Rattle.std.proofs.Common.{◌≡◌, ℕ, ◌≤◌, List, sym, ◌∙◌, subst, arith}
use Rattle.semigroups.specs.Lists.{at}
use Rattle.semigroups.specs.Tables.{Product, Element}
use Rattle.products.specs.Tables.{times_of}
use Rattle.semigroups.specs.TablesLaws.{Closed}
use Rattle.semigroups.specs.InnerMaps.{Embedding, Among}
use Rattle.semigroups.proofs.Booleans.{clash}
use Rattle.rows.specs.declared.Row.{Row}
use Rattle.rows.specs.InnerRows.{row_of, has, single_row, Alone}
use Rattle.rows.specs.InnerRoom.{roomy}
use Rattle.rows.proofs.Rows.{shrinks_more}
use Rattle.rows.proofs.Room.{roomy_kept}
use Rattle.rows.proofs.Small.{small_fails}
use Rattle.propagation.specs.InnerRows.{Narrows}
use Rattle.propagation.proofs.Narrowed.{table_closed}
use Rattle.propagation.proofs.Lone.{lone_image, narrows_wider}
use Rattle.propagation.proofs.propagate_from.Goals as goal

-- What row l holds alone is in the table, and the row holds it.
row_is : (rows : List ℕ) (l x : ℕ) (r : Row) → r ≡ row_of rows l → (1 ≤ x) × Alone r x → row_of rows l ≡ single_row x
row_is rows l x r e A = sym e ∙ A.1.holds A.0

-- An embedding among the rows sends l to that element.
image_is : (m : ℕ) (s : Product) (n : ℕ) (t : Product) (rows : List ℕ) (l x : ℕ) → Element 120 m → Element 120 n → Element m l → Element n x → row_of rows l ≡ single_row x
    → (f : List ℕ) → Embedding m s n t f → Among m (has rows) f → at f l ≡ x
image_is m s n t rows l x hm hn hl hx row f F h = lone_image m s n t f F hm.1 hn.1 rows h l x hl (omega arith) row

pub returns-then-not-small_have_room-clause-keeps : goal.returns-then-not-small_have_room-clause-keeps
returns-then-not-small_have_room-clause-keeps c = λ f F h.
    let a = c.args in
    let m = a.source.now.order in
    let n = a.target.now.order in
    let s = times_of a.source.now in
    let t = times_of a.target.now in
    let x = c.in-Some.x in
    let A = c.in-Some.ensures.answer in
    let some = A.0 in
    let most = c.if-target-x.false in
    let row = row_is a.rows.now a.l x c.row_of.result c.row_of.ensures.answer A in
    let e = image_is m s n t a.rows.now a.l x a.source.now.filled.order a.target.now.filled.order c.requires.element (omega arith) row f F h in
    let forced = c.force_all.new.rows in
    let room = roomy_kept forced m s n t f a.target.now.filled.order.1 F (c.force_all.ensures.keeps f F e h) in
    absurd (clash {b = roomy forced m} room (small_fails forced m (sym c.small_have_room.ensures.answer ∙ c.if-not-small_have_room.true)))

pub returns-clause-keeps : goal.returns-clause-keeps
returns-clause-keeps c = λ f F h.
    let a = c.args in
    let m = a.source.now.order in
    let n = a.target.now.order in
    let s = times_of a.source.now in
    let t = times_of a.target.now in
    let x = c.in-Some.x in
    let A = c.in-Some.ensures.answer in
    let some = A.0 in
    let most = c.if-target-x.false in
    let row = row_is a.rows.now a.l x c.row_of.result c.row_of.ensures.answer A in
    let e = image_is m s n t a.rows.now a.l x a.source.now.filled.order a.target.now.filled.order c.requires.element (omega arith) row f F h in
    c.narrow.ensures.keeps f F e (c.force_all.ensures.keeps f F e h)

pub returns-clause-shrinks : goal.returns-clause-shrinks
returns-clause-shrinks c = shrinks_more c.force_all.new.rows c.narrow.new.rows c.args.rows.now c.force_all.ensures.shrinks c.narrow.ensures.shrinks

pub returns-clause-narrows : goal.returns-clause-narrows
returns-clause-narrows c = λ ok v hv e.
    let a = c.args in
    let m = a.source.now.order in
    let n = a.target.now.order in
    let s = times_of a.source.now in
    let t = times_of a.target.now in
    let source = c.args.source.now.filled in
    let order = c.args.target.now.filled.order in
    let closed : Closed m s = table_closed a.source.now in
    let x = c.in-Some.x in
    let A = c.in-Some.ensures.answer in
    let same : x ≡ v = A.1.found v (omega arith) (c.row_of.ensures.answer ∙ e) in
    subst (λ (i : ℕ). Narrows m s n t a.l i (has a.rows.now) (has c.narrow.new.rows)) same
    (narrows_wider m s n t closed source.order.1 a.rows.now c.force_all.new.rows c.force_all.ensures.shrinks a.l x c.requires.element (has c.narrow.new.rows) (c.narrow.ensures.narrows ok))
