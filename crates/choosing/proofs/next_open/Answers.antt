use Rattle.std.proofs.Common.{◌≡◌, sym, ap, ◌∙◌, ◌+◌, ◌≤◌, ◌<◌, ℕ, List, arith}
use mathlib.Core.Logic.{◌⊎◌, inl, inr, ⊎_elim}
use Rattle.semigroups.proofs.Booleans.{at_most_or_above}
use Rattle.choosing.specs.InnerNext.{rank}
use Rattle.choosing.specs.declared.Ranked.{Ranked}
use Rattle.choosing.proofs.Next.{Better, better_says, best_start, best_more, best_open}
use Rattle.choosing.proofs.next_open.Goals as goal

-- The rank that is kept is that of the element.
ranked : (used : List ℕ) (size : ℕ → ℕ) (c : ℕ) (best : Ranked) (r : ℕ) → (1 ≤ best.element → best.rank ≡ size best.element) → Better used best.rank (size c) c best.element r → Better used (size best.element) (size c) c best.element r
ranked used size c best r own (inl w) = inl (w.0, w.1, ⊎_elim (λ (z : best.element ≡ 0). inl z) (λ (h : size c < best.rank). below (at_most_or_above best.element 0) h) w.2)
  where
    below : (best.element ≤ 0) ⊎ (0 < best.element) → size c < best.rank → (best.element ≡ 0) ⊎ (size c < size best.element)
    below (inl z) h = inl (omega arith)
    below (inr z) h = let e = own z in inr (omega arith)
ranked used size c best r own (inr w) = inr (w.0, λ z. let k = w.1 z in let k0 = k.0 in let k1 = k.1 in let e = own k0 in (k0, omega arith))

kept : (size : ℕ → ℕ) (c : ℕ) (best r : Ranked) → (1 ≤ best.element → best.rank ≡ size best.element) → (r ≡ best) ⊎ (r ≡ record { element = c; rank = size c }) → 1 ≤ r.element → r.rank ≡ size r.element
kept size c best r own (inl e) h = let q = ap (λ (w : Ranked). w.element) e in ap (λ (w : Ranked). w.rank) e ∙ own (omega arith) ∙ ap size (sym q)
kept size c best r own (inr e) h = ap (λ (w : Ranked). w.rank) e ∙ ap size (sym (ap (λ (w : Ranked). w.element) e))

pub loop-c-init : goal.loop-c-init
loop-c-init c = let a = c.args in record { best = best_start a.m a.used.now (rank a.rows.now a.costs.now); ranked = λ h. absurd (omega arith) }

pub loop-c-preserved : goal.loop-c-preserved
loop-c-preserved c =
    let a = c.args in
    let l = c.loop-c in
    let size = rank a.rows.now a.costs.now in
    let w = c.better-best in
    let told = better_says a.used.now a.rows.now a.costs.now l.c l.best w.result w.ensures.answer in
    record {
      best = best_more a.m a.used.now size l.c l.best.element w.result.element (omega arith) l.invariant.best (ranked a.used.now size l.c l.best w.result.element l.invariant.ranked told.0);
      ranked = kept size l.c l.best w.result l.invariant.ranked told.1;
    }

pub returns : goal.returns
returns c =
    let a = c.args in
    let l = c.loop-c in
    record { answer = best_open a.m a.used.now (rank a.rows.now a.costs.now) l.c l.best.element (omega arith) l.invariant.best }
