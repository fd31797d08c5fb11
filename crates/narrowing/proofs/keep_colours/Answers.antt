use Rattle.std.proofs.Common.{ap, ◌∙◌, ℕ, List, replicate, arith}
use lib.ListN.{length-replicate}
use Rattle.semigroups.specs.Scratch.{marked}
use Rattle.semigroups.proofs.Candidates.{size_limit, marked_candidate}
use Rattle.products.specs.Tables.{times_of}
use Rattle.colours.specs.InnerColours.{same_colour}
use Rattle.rows.proofs.Turns.{kept_same}
use Rattle.narrowing.proofs.keep_colours.Goals as goal

pub fill-requires-clause-n_in_bounds : goal.fill-requires-clause-n_in_bounds
fill-requires-clause-n_in_bounds c = let o = c.args.target.now.filled.order.1 in omega (arith, size_limit _ _ o o, length-replicate {A = ℕ} 1800 0)

pub keep_marked-requires-clause-n_in_bounds : goal.keep_marked-requires-clause-n_in_bounds
keep_marked-requires-clause-n_in_bounds c =
    let o = c.args.target.now.filled.order.1 in
    omega (arith, size_limit _ _ o o, length-replicate {A = ℕ} 1800 0)

pub returns : goal.returns
returns c =
    let a = c.args in
    let n = a.target.now.order in
    let p = a.p in
    let t = times_of a.target.now in
    let same = same_colour n (times_of a.source.now) t in
    record {
      answer = c.keep_marked.ensures.answer
          ∙ ap (λ (l : List ℕ). record { image = p.image; rows = l; len = p.len; ok = p.ok })
          (kept_same n n (marked n c.fill.new.scratch) same (λ d y hd hy. ap (λ (l : List ℕ). marked n l d y) c.fill.ensures.scratch ∙ marked_candidate n n same (replicate 1800 0) d y hd hy) p.rows);
    }
