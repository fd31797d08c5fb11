-- The second search looks for a map later than the bytes of the buffer, or later than zeros for the first map.
use Rattle.std.proofs.Common.{List, ℕ, ◌≡◌, ◌∙◌, ◌++◌, ap, drop, length, replicate, rules}
use Rattle.std.proofs.Math.Option.{some, none}
use Rattle.semigroups.specs.Results.{optional}
use Rattle.plain.specs.InnerTables.{kind_of}
use Rattle.comparisons.proofs.Walking.{following, after_next, after_zeros, second_found}
use Rattle.comparisons.proofs.walk.Pair.expected.Goals as goal
use Rattle.comparisons.proofs.walk.Pair.expected.Goals.{then-next, else-next}

pub returns-in_err-map : goal.returns-in_err-map
returns-in_err-map c =
    let a = c.args in
    let p = a.self.now in
    let after : c.if-next.after ≡ following a.next a.before = elim c.if-next.branch [ then-next w ↦ w.after-is ∙ after_next a.next a.before w.if-next.true | else-next w ↦ w.after-is ∙ after_zeros a.next a.before w.if-next.false ] in
    let long : length a.before ≡ 5 = search rules in
    record {
      answer = ap optional c.from_residual.ensures
          ∙ second_found (kind_of a.kind) a.next p.source.now p.m p.target.now p.n a.before p.source_accepted p.target_accepted p.small long c.if-next.after after (drop p.m (replicate 9 0)) none c.in_err-map.ensures.answer;
    }

pub returns : goal.returns
returns c =
    let a = c.args in
    let p = a.self.now in
    let after : c.if-next.after ≡ following a.next a.before = elim c.if-next.branch [ then-next w ↦ w.after-is ∙ after_next a.next a.before w.if-next.true | else-next w ↦ w.after-is ∙ after_zeros a.next a.before w.if-next.false ] in
    let long : length a.before ≡ 5 = search rules in
    record {
      answer = ap (λ (l : List ℕ). some (l ++ drop p.m a.before)) c.copy_from_slice.ensures.after
          ∙ second_found (kind_of a.kind) a.next p.source.now p.m p.target.now p.n a.before p.source_accepted p.target_accepted p.small long c.if-next.after after (drop p.m (replicate 9 0)) (some c.in_ok-map.map) c.in_ok-map.ensures.answer;
    }
