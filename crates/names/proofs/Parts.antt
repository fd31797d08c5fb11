-- A part of the names, as the code cuts it out. Assumes nothing.
use Rattle.std.proofs.Common.{◌≡◌, List, ℕ, ◌+◌, ◌-◌, take, drop, ap, arith}

pub part_is : (names : List ℕ) (start n : ℕ) → take ((start + n) - start) (drop start names) ≡ take n (drop start names)
part_is names start n = ap (λ (k : ℕ). take k (drop start names)) (let z : (start + n) - start ≡ n = omega arith in z)
