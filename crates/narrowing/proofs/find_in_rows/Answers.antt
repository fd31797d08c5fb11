use Rattle.std.proofs.Common.{◌≡◌, sym, ap, ◌∙◌, ℕ, List, replicate, arith}
use lib.ListN.{length-replicate}
use Rattle.semigroups.specs.Lists.{at}
use Rattle.semigroups.specs.Tables.{Element}
use Rattle.semigroups.specs.Scratch.{marked}
use Rattle.semigroups.proofs.Tables.{filled_closed}
use Rattle.semigroups.proofs.Candidates.{size_limit, marked_candidate}
use Rattle.products.specs.Tables.{times_of}
use Rattle.backtrack.specs.InnerState.{bounded, padded}
use Rattle.rows.specs.InnerRows.{has}
use Rattle.narrowing.proofs.Alike.{search_alike}
use Rattle.narrowing.proofs.find_in_rows.Goals as goal

pub write_marks-requires-clause-n_in_bounds : goal.write_marks-requires-clause-n_in_bounds
write_marks-requires-clause-n_in_bounds c =
    let w = c.args.search.now in
    omega (arith, size_limit w.source.now.order w.target.now.order w.source.now.filled.order.1 w.target.now.filled.order.1, length-replicate {A = ℕ} 1800 0)

pub invariant_of-left : goal.invariant_of-left
invariant_of-left c =
    let w = c.args.search.now in
    record { space = omega (arith, size_limit w.source.now.order w.target.now.order w.source.now.filled.order.1 w.target.now.filled.order.1, length-replicate {A = ℕ} 1800 0); bound = w.bound }

pub returns : goal.returns
returns c =
    let w = c.args.search.now in
    let m = w.source.now.order in
    let n = w.target.now.order in
    let left = has c.args.rows.now in
    let bytes = c.write_marks.new.marks in
    let same : (i j : ℕ) → Element m i → Element n j → marked n bytes i j ≡ left i j =
    (λ i j hi hj. ap (λ (l : List ℕ). marked n l i j) c.write_marks.ensures.marks ∙ marked_candidate m n left (replicate 1800 0) i j hi hj) in
    record {
      answer = c.find.ensures.answer
          ∙ ap padded (search_alike m (times_of w.source.now) n (times_of w.target.now) (marked n bytes) left
          (λ f F among i hi. sym (same i (at f i) hi (F.homomorphism.within i hi)) ∙ among i hi) (λ f F among i hi. same i (at f i) hi (F.homomorphism.within i hi) ∙ among i hi)
          (bounded c.args.next w.after.now) (filled_closed _ _ w.source.now.filled));
    }
