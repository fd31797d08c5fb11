use Rattle.std.proofs.Common.{List, ℕ, ◌∙◌, ◌++◌, ap, drop, replicate}
use Rattle.std.proofs.Math.Option as M
use Rattle.semigroups.specs.Results.{optional}
use Rattle.plain.proofs.next_map.Goals as goal

pub returns-in_err-k : goal.returns-in_err-k
returns-in_err-k c =
    record { answer = ap optional c.from_residual.ensures ∙ ap (λ (r : M.Option (List ℕ)). M.map (λ (f : List ℕ). f ++ drop c.args.source.now.order (replicate 9 0)) r) c.in_err-k.ensures.answer }

pub returns : goal.returns
returns c =
    record { answer = ap M.some c.list_number.ensures.list ∙ ap (λ (r : M.Option (List ℕ)). M.map (λ (f : List ℕ). f ++ drop c.args.source.now.order (replicate 9 0)) r) c.in_ok-k.ensures.answer }
