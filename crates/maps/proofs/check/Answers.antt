use Rattle.std.proofs.Common.{sym}
use Rattle.std.proofs.lemmas.Result.{err_from_is_err_and}
use Rattle.maps.proofs.Faults.{call_refused, call_length, call_checked}
use Rattle.maps.proofs.check.Goals as goal

pub returns-in_err-pair : goal.returns-in_err-pair
returns-in_err-pair c =
    let p = err_from_is_err_and c.from_residual.result c.from_residual.ensures.1 in
    record { answer = rw (p.1, p.2) (sym (call_refused _ _ _ _ _ _ (sym c.in_err-pair.ensures.answer))) }

pub returns-then-map-m : goal.returns-then-map-m
returns-then-map-m c = record { answer = sym (call_length _ _ _ _ _ (sym c.in_ok-pair.ensures.answer) c.if-map-m.true) }

pub returns : goal.returns
returns c =
    let p = c.in_ok-pair.ensures in
    let e = rw (p.source.0, p.source.1, p.target.0, p.target.1) at c.examine.ensures.answer in
    record { answer = rw e (sym (call_checked _ _ _ _ _ (sym p.answer) c.if-map-m.false)) }
