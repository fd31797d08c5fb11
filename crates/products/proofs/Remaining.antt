-- What is left of a search through all lists of some entries from 1 to n, tried entry by entry as nested loops do: at the next entry x after the beginning p,
-- with d entries after it, and then `rest`. A loop's invariant says that the result equals what is left. Assumes nothing.
use mathlib.Core.Path.{◌≡◌, refl, sym, ap, ◌∙◌}
use mathlib.Core.Bool.{Bool, true, false, cond}
use mathlib.Core.List.{List, [], ◌∷◌, ◌++◌}
use mathlib.Core.Option.{Option, none, some, or_else}
use Prim.Native.Nat.{ℕ, zero, suc, ◌+◌, ◌≤◌, ◌<◌}
use native.Mathlib.Omega.{arith}
use Rattle.semigroups.specs.Lists.{find, lists}
use Rattle.semigroups.specs.Tables.{Element}
use Rattle.semigroups.proofs.Completions.{or_else_assoc, or_else_nothing, find_extension, find_all, find_whole, find_entry, first_from, first_start, first_step, first_end}

module _ (test : List ℕ → Bool) (n : ℕ) where
  -- What is found with y as the next entry.
  abbrev entry : ℕ → List ℕ → ℕ → Option (List ℕ)
  entry d p y = find_extension test n d (p ++ y ∷ [])

  unfoldable pub remaining : ℕ → List ℕ → ℕ → Option (List ℕ) → Option (List ℕ)
  remaining d p x rest = or_else (first_from (entry d p) n x) rest

  -- At the beginning, all lists of d + 1 entries are left.
  pub begin : (d : ℕ) → find test (lists (suc d) n) ≡ remaining d [] 1 none
  unfolding remaining
  begin d = find_all test n (suc d) ∙ find_entry test n d [] ∙ first_start (entry d []) n ∙ sym (or_else_nothing (first_from (entry d []) n 1))

  step : (d : ℕ) (p : List ℕ) (x : ℕ) (rest : Option (List ℕ)) → x ≤ n → remaining d p x rest ≡ or_else (entry d p x) (remaining d p (x + 1) rest)
  unfolding remaining
  step d p x rest h =
      ap (λ (o : Option (List ℕ)). or_else o rest) (first_step (entry d p) n x h) ∙ or_else_assoc (entry d p x) (first_from (entry d p) n (x + 1)) rest

  -- The loop over the entry after x begins.
  pub enter : (d : ℕ) (p : List ℕ) (x : ℕ) (rest : Option (List ℕ)) → x ≤ n → remaining (suc d) p x rest ≡ remaining d (p ++ x ∷ []) 1 (remaining (suc d) p (x + 1) rest)
  enter d p x rest h =
      step (suc d) p x rest h
      ∙ ap (λ (o : Option (List ℕ)). or_else o (remaining (suc d) p (x + 1) rest)) (find_entry test n d (p ++ x ∷ []) ∙ first_start (entry d (p ++ x ∷ [])) n)
      ∙ (unfold remaining in refl)

  last : (p : List ℕ) (x : ℕ) (rest : Option (List ℕ)) (b : Bool) → x ≤ n → test (p ++ x ∷ []) ≡ b
      → remaining 0 p x rest ≡ or_else (cond b (some (p ++ x ∷ [])) none) (remaining 0 p (x + 1) rest)
  last p x rest b h e =
      step 0 p x rest h
      ∙ ap (λ (o : Option (List ℕ)). or_else o (remaining 0 p (x + 1) rest)) (find_whole test n (p ++ x ∷ []) ∙ ap {B = Option (List ℕ)} (λ (t : Bool). cond t (some (p ++ x ∷ [])) none) e)

  -- A list that does not pass is passed over, and one that does is found.
  pub pass : (p : List ℕ) (x : ℕ) (rest : Option (List ℕ)) → x ≤ n → test (p ++ x ∷ []) ≡ false → remaining 0 p x rest ≡ remaining 0 p (x + 1) rest
  pass p x rest h e = last p x rest false h e ∙ (unfold or_else in refl)

  pub hit : (p : List ℕ) (x : ℕ) (rest : Option (List ℕ)) → x ≤ n → test (p ++ x ∷ []) ≡ true → remaining 0 p x rest ≡ some (p ++ x ∷ [])
  hit p x rest h e = last p x rest true h e ∙ (unfold or_else in refl)

  -- The values up to k are passed over together.
  pub skip : (p : List ℕ) (rest : Option (List ℕ)) (k : ℕ) → k ≤ n → ((x : ℕ) → Element k x → test (p ++ x ∷ []) ≡ false) → remaining 0 p 1 rest ≡ remaining 0 p (k + 1) rest
  skip p rest zero h e = refl
  skip p rest (suc k) h e =
      skip p rest k (omega arith) (λ x u. e x (let z : Element (suc k) x = omega arith in z))
      ∙ ap (λ (x : ℕ). remaining 0 p x rest) (let z : k + 1 ≡ suc k = omega arith in z)
      ∙ pass p (suc k) rest h (e (suc k) (omega arith))

  -- When the loop ends, `rest` is left.
  pub leave : (d : ℕ) (p : List ℕ) (x : ℕ) (rest : Option (List ℕ)) → n < x → remaining d p x rest ≡ rest
  unfolding remaining
  leave d p x rest h = ap (λ (o : Option (List ℕ)). or_else o rest) (first_end (entry d p) n x h) ∙ (unfold or_else in refl)
