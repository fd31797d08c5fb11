-- The first triple that does not associate, and what is said of it. Assumes nothing.
use mathlib.Core.Path.{◌≡◌, sym, ap, ◌∙◌}
use mathlib.Core.Bool.{Bool, true, false, not}
use mathlib.Core.List.{List}
use mathlib.Core.Option.{Option, some, map}
use Prim.Native.Nat.{ℕ, ◌+◌, ◌≤◌, ◌<◌, ◌^◌}
use lib.ListN.{get_or}
use Rattle.semigroups.specs.Lists.{at}
use Rattle.semigroups.specs.Tables.{Product, associates, bad_triple}
use Rattle.semigroups.specs.InnerQuestions.{no}
use Rattle.semigroups.proofs.Booleans.{not_of_true, not_of_false}
use Rattle.plain.specs.InnerEnumeration.{numbered}
use Rattle.plain.specs.InnerSaid.{said_of}
use Rattle.std.specs.Prelude.{Result, Ok, Err}
use Rattle.plain.specs.declared.Said.{Said}
use Rattle.plain.proofs.Enumeration.{remaining, search_begin, search_skip, search_hit, search_end}

module _ (n : ℕ) (s : Product) where
  abbrev pub bad : List ℕ → Bool
  bad l = not (associates s (at l 1) (at l 2) (at l 3))

  -- What is said of the first bad triple from number k on.
  abbrev pub triples_from : ℕ → Result (Unit {0}) Said
  triples_from k = said_of (map (λ l. no 4 l) (remaining bad 3 n k))

  pub triples_begin : said_of (map (λ l. no 4 l) (bad_triple n s)) ≡ triples_from 0
  unfolding bad_triple
  triples_begin = ap (λ (o : Option (List ℕ)). said_of (map (λ l. no 4 l) o)) (search_begin bad 3 n)

  pub triples_end : (k : ℕ) → n ^ 3 ≤ k → triples_from k ≡ Ok tt
  triples_end k h = ap (λ (o : Option (List ℕ)). said_of (map (λ l. no 4 l) o)) (search_end bad 3 n k h)

  module _ (k : ℕ) (h : k < n ^ 3) (l : List ℕ) (drawn : l ≡ numbered 3 n k) where
    pub triples_next : associates s (at l 1) (at l 2) (at l 3) ≡ true → triples_from k ≡ triples_from (k + 1)
    triples_next e =
        ap (λ (o : Option (List ℕ)). said_of (map (λ l. no 4 l) o)) (search_skip bad 3 n k h (sym (ap bad drawn) ∙ not_of_true _ e))

    pub triples_hit : associates s (at l 1) (at l 2) (at l 3) ≡ false → triples_from k ≡ Err (record { number = 4; first = get_or l 0 0; second = get_or l 1 0; third = get_or l 2 0 })
    unfolding at
    triples_hit e =
        ap (λ (o : Option (List ℕ)). said_of (map (λ l. no 4 l) o)) (search_hit bad 3 n k h (sym (ap bad drawn) ∙ not_of_false _ e) ∙ ap {B = Option (List ℕ)} some (sym drawn))
