-- `extend` meets its contract. Assumes nothing.
use Rattle.std.proofs.Common.{◌≡◌, ◌+◌, ◌<◌, ◌&&◌, ℕ, Bool, sym, ◌∙◌, arith, leb}
use Rattle.semigroups.specs.Tables.{Element}
use Rattle.semigroups.specs.Scratch.{marked}
use Rattle.rows.specs.InnerRows.{has}
use Rattle.backtrack.specs.declared.asked.Search.{Search}
use Rattle.backtrack.proofs.Steps.{lowest}
use Rattle.fitting.specs.declared.Partial.{Partial}
use Rattle.narrowing.specs.InnerState.{Reached}
use Rattle.narrowing.proofs.Extending.{Turn, Verdict, dead, done_bound, done_found, begins, ends, shut, onward, fail, found}
use Rattle.narrowing.proofs.+extend.Goals as goal
use Rattle.narrowing.proofs.+extend.Goals.{then-tight-2, else-tight-2, then-open+else-is_some, else-open}

-- What is known in a turn once `open` has returned.
turn : {w : Search} {relation : ℕ → ℕ → Bool} {tight : Bool} {p : Partial} {low x : ℕ} {o : Bool} → Reached w relation tight p → p.len < w.source.now.order → low ≡ lowest tight w.after.now p.len → Element w.target.now.order x
    → o ≡ (leb low x && (marked w.target.now.order w.scratch.now (p.len + 1) x && has p.rows (p.len + 1) x))
    → Turn w relation tight p low x o
turn R room bound element e = record { reached = R; room = room; bound = bound; element = element; opened = e }

pub returns-then-not-alive : goal.returns-then-not-alive
returns-then-not-alive t c = record { answer = dead _ c.requires c.if-not-alive.true }

pub returns-then-tight : goal.returns-then-tight
returns-then-tight t c = record { answer = done_bound _ c.requires c.if-search-at.true c.if-tight.true }

pub returns-else-tight : goal.returns-else-tight
returns-else-tight t c = record { answer = done_found _ c.requires c.if-search-at.true c.if-not-alive.false c.if-tight.false }

pub loop-x-init : goal.loop-x-init
loop-x-init t c = record {
  bound = elim c.if-tight-2.branch [
    | then-tight-2 w ↦ w.low-is ∙ rw w.if-tight-2.true
    | else-tight-2 w ↦ w.low-is ∙ rw w.if-tight-2.false
  ];
  left = begins _ c.requires c.if-search-at.false;
}

pub extend-found-requires : goal.extend-found-requires
extend-found-requires t c =
    let T = turn c.requires c.if-search-at.false c.loop-x.invariant.bound (omega arith) c.open.ensures.answer in
    let e = c.tried_rising.ensures in
    let v : Verdict _ _ _ _ c.tried_rising.result = record { keeps = e.keeps; longer = e.more.0; one_more = e.more.1; settled = e.settled; sound = e.sound; shrinks = e.shrinks; above = e.above } in
    let one = e.more.1 in
    let room = c.if-search-at.false in
    (omega arith, onward _ T c.if-open.true c.tried_rising.result v)

pub returns-then-is_some : goal.returns-then-is_some
returns-then-is_some t c =
    let T = turn c.requires c.if-search-at.false c.loop-x.invariant.bound (omega arith) c.open.ensures.answer in
    let e = c.tried_rising.ensures in
    let v : Verdict _ _ _ _ c.tried_rising.result = record { keeps = e.keeps; longer = e.more.0; one_more = e.more.1; settled = e.settled; sound = e.sound; shrinks = e.shrinks; above = e.above } in
    record { answer = found _ T c.if-open.true c.tried_rising.result v _ c.extend-found.ensures.answer (sym c.is_some.ensures ∙ c.if-is_some.true) c.loop-x.invariant.left }

pub loop-x-preserved : goal.loop-x-preserved
loop-x-preserved t c =
    let T = turn c.requires c.if-search-at.false c.loop-x.invariant.bound (omega arith) c.open.ensures.answer in
    record {
      bound = c.loop-x.invariant.bound;
      left = elim c.if-open.branch [
        | then-open+else-is_some w ↦
            let e = w.tried_rising.ensures in
            let v : Verdict _ _ _ _ w.tried_rising.result = record { keeps = e.keeps; longer = e.more.0; one_more = e.more.1; settled = e.settled; sound = e.sound; shrinks = e.shrinks; above = e.above } in
            fail _ T w.if-open.true w.tried_rising.result v _ w.extend-found.ensures.answer (sym w.is_some.ensures ∙ w.if-is_some.false) c.loop-x.invariant.left
        | else-open w ↦ shut _ T w.if-open.false c.loop-x.invariant.left
      ];
    }

pub returns : goal.returns
returns t c = record { answer = ends _ c.requires c.if-search-at.false c.loop-x.x (omega arith) c.loop-x.invariant.left }
