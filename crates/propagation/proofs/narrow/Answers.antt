use Rattle.std.proofs.Common.{◌≡◌, true, ℕ, List, ◌+◌, ◌-◌, refl, sym, ap, subst, ◌∙◌, arith}
use Rattle.std.proofs.lemmas.Bool.{false≢true}
use Rattle.semigroups.specs.Tables.{Element}
use Rattle.products.specs.Tables.{times_of}
use Rattle.semigroups.specs.TablesLaws.{Closed}
use Rattle.semigroups.proofs.Booleans.{clash}
use Rattle.rows.specs.InnerRows.{has, masked, is_empty, Shrinks}
use Rattle.rows.proofs.Rows.{shrinks_none, shrinks_more, masked_shrinks}
use Rattle.propagation.specs.declared.Narrowing.{Narrowing}
use Rattle.propagation.specs.InnerRows.{Right, Narrows, NarrowedBefore, begun, further}
use Rattle.propagation.specs.InnerLone.{KeepsSending}
use Rattle.propagation.proofs.Narrowed.{table_closed, nothing_right, narrowed_staying, not_empty, mask_kept, narrows_more, kept_more, none_narrowed}
use Rattle.propagation.proofs.narrow.Goals as goal

pub loop-c-init : goal.loop-c-init
loop-c-init c =
    let a = c.args in
    let n = a.target.now.order in
    record {
      keeps = λ f F e h. h;
      shrinks = shrinks_none a.rows.now;
      narrows = λ d y hd hy e. absurd (let z : ⊥ = omega arith in z);
      some = λ d hd. absurd (let z : ⊥ = omega arith in z);
      in_turn = begun;
      right = subst (Right n (times_of a.target.now) a.x) (sym c.of_nothing-last.ensures.answer) (nothing_right n (times_of a.target.now) a.x);
    }

pub returns-then-is_empty : goal.returns-then-is_empty
returns-then-is_empty c =
    let a = c.args in
    let m = a.source.now.order in
    let n = a.target.now.order in
    let s = times_of a.source.now in
    let t = times_of a.target.now in
    let source = c.args.source.now.filled in
    let closed : Closed m s = table_closed a.source.now in
    let l = c.loop-c in
    let hc : Element m l.c = omega arith in
    let r = c.narrow_row-last in
    let kept = ap (λ (k : Narrowing). k.kept) r.ensures.answer in
    let w = c.is_empty in
    let empty = sym w.ensures.answer ∙ c.if-is_empty.true in
    record {
      keeps = λ f F e h. absurd (clash {b = w.result} c.if-is_empty.true
          (w.ensures.answer ∙ not_empty m s n t closed f F l.rows (l.invariant.keeps f F e h) a.l a.x l.c c.requires.element.0 hc e r.result.kept kept));
      shrinks = l.invariant.shrinks;
      narrows = λ e. absurd (false≢true e);
      told = record { kept = λ e. absurd (false≢true e); emptied = λ e. (l.c, hc, none_narrowed s n t l.rows a.l a.x l.c r.result.kept kept empty) };
      rows = record { all = λ e. absurd (false≢true e); until = λ e. (l.c, hc, l.invariant.in_turn, ap is_empty (sym kept) ∙ empty) };
    }

pub loop-c-preserved : goal.loop-c-preserved
loop-c-preserved c =
    let a = c.args in
    let m = a.source.now.order in
    let n = a.target.now.order in
    let s = times_of a.source.now in
    let t = times_of a.target.now in
    let source = c.args.source.now.filled in
    let lm = source.order.1 in
    let closed : Closed m s = table_closed a.source.now in
    let l = c.loop-c in
    let i = l.invariant in
    let hl = c.requires.element.0 in
    let hc : Element m l.c = omega arith in
    let r = c.narrow_row-last in
    let kept = ap (λ (k : Narrowing). k.kept) r.ensures.answer in
    let some = sym c.is_empty.ensures.answer ∙ c.if-is_empty.false in
    let p = sym c.mask.ensures.words in
    let row = r.result.kept in
    record {
      keeps = subst (λ (u : List ℕ). KeepsSending m s n t a.l a.x (has a.rows.now) (has u)) p
          (λ f F e h. mask_kept m s n t closed f F l.rows (i.keeps f F e h) a.l a.x l.c hl hc e row kept lm);
      shrinks = subst (Shrinks a.rows.now) p (shrinks_more l.rows (masked l.rows l.c row) a.rows.now i.shrinks (masked_shrinks l.rows l.c (omega arith) row));
      narrows = subst (λ (u : List ℕ). Narrows (l.c + 1 - 1) s n t a.l a.x (has a.rows.now) (has u)) p
          (narrows_more m s n t closed lm a.rows.now l.rows i.shrinks a.l a.x l.c hl hc row kept i.narrows);
      some = subst (λ (u : List ℕ). (d : ℕ) → Element (l.c + 1 - 1) d → (y : ℕ) × Element n y × (has u d y ≡ true)) p
          (kept_more m s n t l.rows a.l a.x l.c lm hc row kept some i.some);
      in_turn = subst (NarrowedBefore s n t a.l a.x a.rows.now (l.c + 1)) p (further l.c l.rows row i.in_turn kept some);
      right = subst (Right n t a.x) (sym r.ensures.answer) (sym (narrowed_staying s n t l.rows a.l a.x l.c));
    }

pub returns : goal.returns
returns c =
    let a = c.args in
    let m = a.source.now.order in
    let n = a.target.now.order in
    let s = times_of a.source.now in
    let t = times_of a.target.now in
    let l = c.loop-c in
    let i = l.invariant in
    record {
      keeps = λ f F e h. (refl, i.keeps f F e h);
      shrinks = i.shrinks;
      narrows = λ e d y hd hy. i.narrows d y (omega arith) hy;
      told = record { kept = λ e d hd. i.some d (omega arith); emptied = λ e. absurd (false≢true (sym e)) };
      rows = record {
        all = λ e. subst (λ (k : ℕ). NarrowedBefore s n t a.l a.x a.rows.now k l.rows) (let e : l.c ≡ m + 1 = omega arith in e) i.in_turn;
        until = λ e. absurd (false≢true (sym e));
      };
    }
