-- The search finds the same over any two lists of marks that have the same embeddings among them, such as marks and rows. Assumes nothing.
use mathlib.Core.Path.{◌≡◌, refl, sym, ap, ◌∙◌}
use mathlib.Core.Bool.{Bool, true, false, ◌&&◌}
use mathlib.Core.List.{List, []}
use Prim.Native.Nat.{ℕ}
use Rattle.semigroups.specs.Lists.{elements, at, all, lists}
use Rattle.semigroups.specs.Tables.{Product}
use Rattle.semigroups.specs.TablesLaws.{Closed}
use Rattle.semigroups.specs.InnerMaps.{Embedding, Among}
use Rattle.semigroups.specs.Maps.{is_embedding, Ask, beyond}
use Rattle.semigroups.specs.InnerSearch.{search, is_wanted}
use Rattle.semigroups.proofs.Booleans.{same_truth}
use Rattle.semigroups.proofs.Lists.{each_at, each_of, find_same}
use Rattle.semigroups.proofs.Completions.{extensions, find_extension}
use Rattle.semigroups.proofs.Maps.{is_embedding_law}
use Rattle.semigroups.proofs.Search.{search_extension}

module _ (m : ℕ) (s : Product) (n : ℕ) (t : Product) (c d : ℕ → ℕ → Bool) (forth : (f : List ℕ) → Embedding m s n t f → Among m c f → Among m d f) (back : (f : List ℕ) → Embedding m s n t f → Among m d f → Among m c f) (ask : Ask) where
  wanted_alike : (f : List ℕ) → is_wanted m s n t c ask f ≡ is_wanted m s n t d ask f
  unfolding is_wanted
  wanted_alike f = go (is_embedding m s n t f) refl
    where
      inside : (ℕ → ℕ → Bool) → Bool
      inside e = all (λ i. e i (at f i)) (elements m)

      go : (b : Bool) → is_embedding m s n t f ≡ b → (b && (inside c && beyond ask f)) ≡ (b && (inside d && beyond ask f))
      go false e = refl
      go true e =
          let F = is_embedding_law m s n t f e in
          ap (λ (a : Bool). a && beyond ask f)
          (same_truth (inside c) (inside d) (λ h. each_of m (λ i. d i (at f i)) (forth f F (each_at m (λ i. c i (at f i)) h))) (λ h. each_of m (λ i. c i (at f i)) (back f F (each_at m (λ i. d i (at f i)) h))))

  found_alike : find_extension (is_wanted m s n t c ask) n m [] ≡ find_extension (is_wanted m s n t d ask) n m []
  unfolding find_extension extensions
  found_alike = find_same (is_wanted m s n t c ask) (is_wanted m s n t d ask) (extensions [] (lists m n)) (λ f k. wanted_alike f)

  pub search_alike : Closed m s → search s t c ask n m [] ≡ search s t d ask n m []
  search_alike closed = search_extension m s n t c ask closed ∙ found_alike ∙ sym (search_extension m s n t d ask closed)
