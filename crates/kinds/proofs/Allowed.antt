-- The search over the marks of the candidates that the pairs allow finds the earliest embedding that they allow. Assumes nothing.
use mathlib.Core.Path.{◌≡◌, sym, ap, ◌∙◌}
use mathlib.Core.Bool.{Bool, ◌&&◌}
use mathlib.Core.List.{List, []}
use mathlib.Core.Option.{none}
use Prim.Native.Nat.{ℕ, ◌<◌}
use Rattle.semigroups.specs.Lists.{elements, at, all, find, keep, lists}
use Rattle.semigroups.specs.Tables.{Product, product, Element, Accepted}
use Rattle.semigroups.specs.TablesLaws.{Closed}
use Rattle.semigroups.specs.Scratch.{marked}
use Rattle.semigroups.specs.InnerCalls.{scratch_after}
use Rattle.semigroups.specs.InnerMaps.{Embedding}
use Rattle.semigroups.specs.Maps.{is_embedding, embeddings, maps, Ask, beyond, earliest}
use Rattle.semigroups.specs.InnerSearch.{search, is_wanted}
use Rattle.semigroups.proofs.Booleans.{same_truth}
use Rattle.semigroups.proofs.Lists.{each_at, each_of, find_keep, keep_agree}
use Rattle.semigroups.proofs.Tables.{accepted_closed}
use Rattle.semigroups.proofs.Completions.{find_all}
use Rattle.semigroups.proofs.Maps.{mem_maps, no_embedding}
use Rattle.semigroups.proofs.Search.{search_extension}
use Rattle.semigroups.proofs.Candidates.{index_period_sound, marked_candidate}
use Rattle.semigroups.proofs.Trials.{counted_finds}
use Rattle.backtrack.specs.InnerState.{bounded}
use Rattle.calls.specs.Allowed.{allows, allowed, allowed_candidate}
use Rattle.kinds.specs.InnerSearching.{marked_work}

-- If two lists of marks agree on the pairs of f, both allow f or neither does.
pub allows_alike : (m : ℕ) (c d : ℕ → ℕ → Bool) (f : List ℕ) → ((i : ℕ) → Element m i → c i (at f i) ≡ d i (at f i))
    → all (λ i. c i (at f i)) (elements m) ≡ all (λ i. d i (at f i)) (elements m)
allows_alike m c d f h =
    same_truth (all (λ i. c i (at f i)) (elements m)) (all (λ i. d i (at f i)) (elements m))
    (λ e. each_of m (λ i. d i (at f i)) (λ i hi. sym (h i hi) ∙ each_at m (λ i. c i (at f i)) e i hi))
    (λ e. each_of m (λ i. c i (at f i)) (λ i hi. h i hi ∙ each_at m (λ i. d i (at f i)) e i hi))

-- Whatever the marks, the search finds the earliest embedding asked for among those whose pairs are marked.
search_kept : (m : ℕ) (s : Product) (n : ℕ) (t : Product) → Closed m s → (c : ℕ → ℕ → Bool) (ask : Ask)
    → search s t c ask n m [] ≡ earliest ask (keep (λ f. all (λ i. c i (at f i)) (elements m)) (maps embeddings m s n t))
unfolding earliest maps is_wanted
search_kept m s n t closed c ask =
    let inside : List ℕ → Bool = λ f. all (λ i. c i (at f i)) (elements m) in
    search_extension m s n t c ask closed ∙ sym (find_all (is_wanted m s n t c ask) n m)
    ∙ sym (find_keep (is_embedding m s n t) (λ f. inside f && beyond ask f) (lists m n))
    ∙ sym (find_keep inside (beyond ask) (keep (is_embedding m s n t) (lists m n)))

-- ---- the marks of allowed candidates

module _ (m : ℕ) (s : Product) (n : ℕ) (t : Product) (source : Closed m s) (target : Closed n t) (pairs before : List ℕ) where
  abbrev scratch : List ℕ
  scratch = scratch_after m n (allowed_candidate m s n t pairs) before

  -- An embedding's images are candidates, so its pairs are among those marks exactly if the given pairs allow it.
  inside_same : (f : List ℕ) → Embedding m s n t f → all (λ i. marked n scratch i (at f i)) (elements m) ≡ allows m n pairs f
  unfolding allows
  inside_same f F =
      allows_alike m (marked n scratch) (marked n pairs) f
      (λ i hi.
      marked_candidate m n (allowed_candidate m s n t pairs) before i (at f i) hi (F.homomorphism.within i hi)
      ∙ ap (λ (b : Bool). b && marked n pairs i (at f i)) (index_period_sound m s n t source target f F i hi))

  search_allowed : (ask : Ask) → search s t (marked n scratch) ask n m [] ≡ earliest ask (allowed m s n t pairs)
  unfolding allowed
  search_allowed ask =
      search_kept m s n t source (marked n scratch) ask
      ∙ ap (earliest ask) (keep_agree (λ f. all (λ i. marked n scratch i (at f i)) (elements m)) (allows m n pairs) (maps embeddings m s n t) (λ f k. inside_same f (mem_maps embeddings m s n t f k)))

-- The work over those marks finds the allowed embedding asked for.
pub work_allowed : (next : Bool) (m : ℕ) (source : List ℕ) (n : ℕ) (target pairs bytes before scratch : List ℕ) → Accepted m source → Accepted n target
    → scratch ≡ scratch_after m n (allowed_candidate m (product m source) n (product n target) pairs) before
    → earliest (bounded next bytes) (allowed m (product m source) n (product n target) pairs) ≡ (marked_work next m source n target bytes scratch).found
work_allowed next m source n target pairs bytes before scratch a b filled =
    let s = product m source in
    let t = product n target in
    sym (search_allowed m s n t (accepted_closed m source a) (accepted_closed n target b) pairs before (bounded next bytes))
    ∙ ap (λ (marks : List ℕ). search s t (marked n marks) (bounded next bytes) n m []) (sym filled)
    ∙ sym (counted_finds s t (marked n scratch) (bounded next bytes) n m [])

-- If the source has more elements than the target, no embedding is allowed.
pub allowed_none : (m : ℕ) (s : Product) (n : ℕ) (t : Product) (pairs : List ℕ) (ask : Ask) → n < m → earliest ask (allowed m s n t pairs) ≡ none
unfolding allowed earliest find keep
allowed_none m s n t pairs ask h = ap (λ (l : List (List ℕ)). find (beyond ask) (keep (allows m n pairs) l)) (no_embedding m s n t h)
