-- A list that is written over the start of an array. Assumes nothing.
use mathlib.Core.Path.{◌≡◌, sym, ap, ◌∙◌, subst}
use mathlib.Core.List.{List, ◌++◌}
use Prim.Native.Nat.{ℕ, ◌^◌, ◌≤◌, ◌<◌}
use native.Mathlib.Omega.{arith}
use lib.ListN.{length, take, drop}
use lib.Seq.{length-take-le, take_at}
use Rattle.semigroups.specs.InnerTables.{IsList}
use Rattle.plain.specs.InnerEnumeration.{numbered}
use Rattle.plain.proofs.Enumeration.{numbered_list}

module _ (size room : ℕ) (h : size ≤ room) (l : List ℕ) (e : length l ≡ room) where
  front_taken : length (take size l) ≡ size
  front_taken = length-take-le size l (omega arith)

  -- The front of the array has the length that its number of lists is taken for.
  pub front_number : (n k : ℕ) → k < n ^ size → k < n ^ length (take size l)
  front_number n k q = rw front_taken q

  -- The array after list number k is written.
  pub front_written : (n k : ℕ) (b : List ℕ) → b ≡ numbered (length (take size l)) n k → b ++ drop size l ≡ numbered size n k ++ drop size l
  front_written n k b q = ap (λ (a : List ℕ). a ++ drop size l) (q ∙ ap (λ (s : ℕ). numbered s n k) front_taken)

-- The list that stands at the start of an array.
module _ (m n k : ℕ) (h : k < n ^ m) (rest : List ℕ) {l : List ℕ} (e : l ≡ numbered m n k ++ rest) where
  pub front_read : take m l ≡ numbered m n k
  front_read = ap (take m) e ∙ take_at (numbered m n k) rest m (numbered_list m n k h).size

  pub front_list : IsList m n (take m l)
  front_list = subst (IsList m n) (sym front_read) (numbered_list m n k h)
