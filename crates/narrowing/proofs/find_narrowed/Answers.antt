use Rattle.std.proofs.Common.{◌≡◌, sym, ap, ◌∙◌, ℕ, arith}
use Rattle.semigroups.specs.Lists.{at}
use Rattle.semigroups.specs.Tables.{Element}
use Rattle.semigroups.specs.Scratch.{marked}
use Rattle.semigroups.proofs.Booleans.{clash}
use Rattle.semigroups.proofs.Tables.{filled_closed}
use Rattle.products.specs.Tables.{times_of}
use Rattle.backtrack.specs.declared.asked.Search.{Search}
use Rattle.backtrack.specs.InnerState.{bounded, padded}
use Rattle.rows.specs.InnerRows.{has}
use Rattle.rows.proofs.Rows.{shrinks_has}
use Rattle.rows.proofs.Room.{roomy_kept}
use Rattle.fitting.specs.declared.Partial.{Partial}
use Rattle.fitting.specs.InnerPartial.{rows_in, full_rows, blank, kept_partial}
use Rattle.narrowing.proofs.Alike.{search_alike}
use Rattle.narrowing.proofs.Starting.{rows_marked}
use Rattle.narrowing.proofs.Extending.{nowhere}
use Rattle.narrowing.proofs.find_narrowed.Goals as goal

-- The rows have what is marked.
row : (w : Search) (p q : Partial) → q ≡ blank full_rows → p ≡ kept_partial w.source.now.order w.target.now.order (marked w.target.now.order w.scratch.now) q → (i j : ℕ) → Element w.source.now.order i → Element w.target.now.order j
    → rows_in p i j ≡ marked w.target.now.order w.scratch.now i j
row w p q e f i j hi hj =
    let candidate = marked w.target.now.order w.scratch.now in
    ap (λ (r : Partial). rows_in r i j) (f ∙ ap (kept_partial w.source.now.order w.target.now.order candidate) e)
    ∙ rows_marked w.source.now.order w.target.now.order w.source.now.filled.order.1 w.target.now.filled.order.1 candidate i j hi hj

pub returns-then-not-propagate : goal.returns-then-not-propagate
returns-then-not-propagate c =
    let w = c.args.search.now in
    record {
      answer = nowhere w c.args.next (λ f F among.
          clash {b = c.propagate.result}
          (c.propagate.ensures.keeps f F (λ i hi. row w _ _ c.new.ensures.answer c.keep_marked-p.ensures.answer i (at f i) hi (F.homomorphism.within i hi) ∙ among i hi)).0
          c.if-not-propagate.true);
    }

pub returns-then-not-is_roomy : goal.returns-then-not-is_roomy
returns-then-not-is_roomy c =
    let w = c.args.search.now in
    let source = w.source.now in
    let target = w.target.now in
    record {
      answer = nowhere w c.args.next (λ f F among.
          clash {b = c.is_roomy.result}
          (c.is_roomy.ensures.answer ∙ roomy_kept c.propagate.new.rows source.order (times_of source) target.order (times_of target) f target.filled.order.1 F
          (c.propagate.ensures.keeps f F (λ i hi. row w _ _ c.new.ensures.answer c.keep_marked-p.ensures.answer i (at f i) hi (F.homomorphism.within i hi) ∙ among i hi)).1)
          c.if-not-is_roomy.true);
    }

pub returns : goal.returns
returns c =
    let w = c.args.search.now in
    let source = w.source.now in
    let target = w.target.now in
    let o = source.filled.order in
    let p = c.keep_marked-p.result in
    record {
      answer = c.find_in_rows.ensures.answer
          ∙ ap padded (search_alike source.order (times_of source) target.order (times_of target) (has c.propagate.new.rows) (marked target.order w.scratch.now)
          (λ f F among i hi. sym (row w _ _ c.new.ensures.answer c.keep_marked-p.ensures.answer i (at f i) hi (F.homomorphism.within i hi)) ∙ shrinks_has p.rows c.propagate.new.rows c.propagate.ensures.shrinks i (at f i) (omega arith) (among i hi))
          (λ f F among. (c.propagate.ensures.keeps f F (λ i hi. row w _ _ c.new.ensures.answer c.keep_marked-p.ensures.answer i (at f i) hi (F.homomorphism.within i hi) ∙ among i hi)).1)
          (bounded c.args.next w.after.now) (filled_closed _ _ source.filled));
    }
