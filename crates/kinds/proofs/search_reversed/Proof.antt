-- `search_reversed` meets its contract: either array has room for the turned target. Assumes nothing.
use Prim.Native.Nat.{◌*◌, ◌≤◌}
use native.Mathlib.Nat.{mul-le-mul}
use borrow.Author.Rules.{rules}
use Rattle.products.proofs.Products.{square_small}
use Rattle.kinds.proofs.search_reversed.Statement.{statement}
use Rattle.kinds.proofs.search_reversed.Tie as tie

search_turned-requires : tie.Need-search_turned-requires
search_turned-requires c κs = let z = c in let n = z.args.n in let few : n * n ≤ 30 * 30 = mul-le-mul c.if-n-le30.true c.if-n-le30.true in (z.requires.0, (z.requires.1, few))

search_turned-requires-2 : tie.Need-search_turned-requires-2
search_turned-requires-2 c κs = let z = c in (z.requires.0, (z.requires.1, square_small _ z.requires.0.1.filled.order.1))

pub search_reversed_spec : {M : Type 1} → statement M
search_reversed_spec =
    tie.close
    (tie.spec
    (λ c. search rules)
    search_turned-requires
    (λ c. search rules)
    (λ c. search rules)
    (λ c. search rules)
    (λ c. search rules)
    search_turned-requires-2
    (λ c. search rules)
    (λ c. search rules)
    (λ c. search rules))
