-- `extend` meets its contract. Assumes nothing.
use Rattle.std.proofs.Common.{◌≡◌, ◌+◌, ◌<◌, ◌++◌, ◌∷◌, [], ◌&&◌, ℕ, Bool, true, sym, ap, ◌∙◌, arith, eqb, leb, get_or, take}
use Rattle.semigroups.specs.Lists.{at}
use Rattle.semigroups.specs.Tables.{Element}
use Rattle.semigroups.specs.Scratch.{marked}
use Rattle.std.proofs.lemmas.Result.{err_from_is_err_and}
use Rattle.semigroups.specs.Trials.{passes}
use Rattle.semigroups.proofs.Tables.{product_element}
use Rattle.constraints.specs.declared.Required.{Required}
use Rattle.constraints.specs.InnerTracking.{Placing}
use Rattle.placing.specs.declared.Partial.{Partial}
use Rattle.placing.specs.InnerPlaced.{prefix}
use Rattle.backtrack.specs.declared.asked.Search.{Search}
use Rattle.backtrack.proofs.Steps.{lowest}
use Rattle.products.specs.Tables.{times_of}
use Rattle.constraints.proofs.Placing.{as_trial, image_element}
use Rattle.constraints.proofs.Noting.{newest_tracks}
use Rattle.backtrack.specs.InnerState.{Ready, within, ahead}
use Rattle.backtrack.proofs.Limits.{unpaid, paid}
use Rattle.backtrack.proofs.Extending.{Rest, Turn, Verdict, done_bound, done_found, begins, ends, skip, stop, refuse, halt, found, fail}
use Rattle.backtrack.proofs.+extend.Goals as goal
use Rattle.backtrack.proofs.+extend.Goals.{then-tight-2, else-tight-2, then-open+in_ok-left+then-may_pass+in-Ok+in_ok-ended+else-is_some, then-open+in_ok-left+then-may_pass+in_default, then-open+in_ok-left+else-may_pass, else-open}

-- What is known in a turn once `open` has returned.
turn : {w : Search} {tight : Bool} {limit : ℕ} {known : Required} {p : Partial} {low left x : ℕ} {o : Bool} → Ready w tight known p → p.len < w.source.now.order
    → record { bound : low ≡ lowest tight w.after.now p.len; so_far : within limit (ahead w tight p) ≡ within left (Rest w tight p x) }
    → Element w.target.now.order x
    → o ≡ (leb low x && (eqb (get_or p.used x 0) 0 && marked w.target.now.order w.scratch.now (p.len + 1) x))
    → Turn w tight limit known p low left x o
turn R room i element e = record { ready = R; room = room; bound = i.bound; element = element; so_far = i.so_far; opened = e }

-- What the test says of x once it is tried.
told : {w : Search} {p : Partial} {x : ℕ} {q : Partial} → Placing w.target.now.order q.image q.used q.len → prefix q ≡ prefix p ++ x ∷ [] → take p.len q.image ≡ prefix p → q.len ≡ p.len + 1
    → passes (times_of w.source.now) (times_of w.target.now) (prefix p ++ x ∷ []) ≡ true → Verdict w p x q
told P l b k e = record { placing = P; longer = l; before = b; one_more = k; passed = e }

pub returns-then-tight : goal.returns-then-tight
returns-then-tight t c = record { answer = done_bound _ c.requires c.args.limit c.if-search-at.true c.if-tight.true }

pub returns-else-tight : goal.returns-else-tight
returns-else-tight t c = record { answer = done_found _ c.requires c.args.limit c.if-search-at.true c.if-tight.false }

pub note_newest-requires-clause-images : goal.note_newest-requires-clause-images
unfolding at
note_newest-requires-clause-images t c = image_element _ _ _ _ c.requires.placing

pub note_newest-requires-clause-tracks : goal.note_newest-requires-clause-tracks
note_newest-requires-clause-tracks t c =
    let w = c.args.search.now in
    let source = w.source.now.filled in
    newest_tracks _ (times_of w.source.now) _ (times_of w.target.now) (product_element _ _ source.size source.in_range) _ _ _ c.requires.placing c.requires.within _ _ c.requires.tracks

pub loop-x-init : goal.loop-x-init
loop-x-init t c = record {
  bound = elim c.if-tight-2.branch [
    | then-tight-2 w ↦ w.low-is ∙ rw w.if-tight-2.true
    | else-tight-2 w ↦ w.low-is ∙ rw w.if-tight-2.false
  ];
  so_far = ap (within c.args.limit) (begins _ c.requires c.if-search-at.false);
}

pub returns-in_err-left : goal.returns-in_err-left
returns-in_err-left t c =
    let T = turn c.requires c.if-search-at.false c.loop-x.invariant (omega arith) c.open.ensures.answer in
    let p = err_from_is_err_and c.from_residual.result c.from_residual.ensures.1 in
    record { answer = p.1 ∙ stop _ T c.if-open.true p.0 (unpaid c.checked_sub.result _ c.checked_sub.ensures c.in_err-left.ensures.ok_part) }

pub invariant_of-next : goal.invariant_of-next
invariant_of-next t c =
    let w = c.args.search.now in
    let n = w.target.now.filled.order in
    record { trial = as_trial _ _ _ _ c.requires.placing c.loop-x.x (omega arith) (omega arith); room = c.if-search-at.false }

pub returns-in_err-ended : goal.returns-in_err-ended
returns-in_err-ended t c =
    let T = turn c.requires c.if-search-at.false c.loop-x.invariant (omega arith) c.open.ensures.answer in
    let p = err_from_is_err_and c.from_residual-in_err-ended.result c.from_residual-in_err-ended.ensures.1 in
    let v = c.in-Ok.ensures in
    record { answer = p.1 ∙ halt _ T c.if-open.true _ (paid c.checked_sub.result _ _ c.checked_sub.ensures c.in_ok-left.ensures.ok_part) _ (told v.placing v.longer v.before v.one_more (sym v.answer)) p.0 c.in_err-ended.ensures.answer }

pub returns-then-is_some : goal.returns-then-is_some
returns-then-is_some t c =
    let T = turn c.requires c.if-search-at.false c.loop-x.invariant (omega arith) c.open.ensures.answer in
    let v = c.in-Ok.ensures in
    record { answer = found _ T c.if-open.true _ (paid c.checked_sub.result _ _ c.checked_sub.ensures c.in_ok-left.ensures.ok_part) _ (told v.placing v.longer v.before v.one_more (sym v.answer)) _ c.in_ok-ended.ensures.answer (sym c.is_some.ensures ∙ c.if-is_some.true) }

pub loop-x-preserved : goal.loop-x-preserved
loop-x-preserved t c =
    let T = turn c.requires c.if-search-at.false c.loop-x.invariant (omega arith) c.open.ensures.answer in
    record {
      bound = c.loop-x.invariant.bound;
      so_far = elim c.if-open.branch [
        | then-open+in_ok-left+then-may_pass+in-Ok+in_ok-ended+else-is_some w ↦
            let v = w.in-Ok.ensures in
            fail _ T w.if-open.true _ (paid w.checked_sub.result _ _ w.checked_sub.ensures w.in_ok-left.ensures.ok_part) _ (told v.placing v.longer v.before v.one_more (sym v.answer)) _ w.in_ok-ended.ensures.answer (sym w.is_some.ensures ∙ w.if-is_some.false) ∙ rw w.left-is
        | then-open+in_ok-left+then-may_pass+in_default w ↦
            refuse _ T w.if-open.true _ (paid w.checked_sub.result _ _ w.checked_sub.ensures w.in_ok-left.ensures.ok_part) (sym w.in_default.ensures.answer) ∙ rw w.left-is
        | then-open+in_ok-left+else-may_pass w ↦
            refuse _ T w.if-open.true _ (paid w.checked_sub.result _ _ w.checked_sub.ensures w.in_ok-left.ensures.ok_part) (w.may_pass.ensures.refused w.if-may_pass.false) ∙ rw w.left-is
        | else-open w ↦ skip _ T w.if-open.false ∙ rw w.left-is
      ];
    }

pub returns : goal.returns
returns t c = record { answer = ends _ c.requires c.if-search-at.false c.args.limit _ c.loop-x.x (omega arith) c.loop-x.invariant.so_far }
