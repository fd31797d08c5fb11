-- The work of a search finds the map asked for, and the search over the marks in scratch does that work. Assumes nothing.
use mathlib.Core.Path.{◌≡◌, refl, sym, ap, subst, ◌∙◌}
use mathlib.Core.Bool.{Bool, true, false, cond}
use mathlib.Core.List.Memᴰ
use mathlib.Core.List.{List, []}
use mathlib.Core.Option.{none}
use Prim.Native.Nat.{ℕ, ◌+◌}
use native.Mathlib.Omega.{arith}
use borrow.Author.Tests.{leb-false, eqb-true, eqb-false}
use Rattle.semigroups.specs.Lists.{find}
use Rattle.semigroups.specs.Tables.{Product, product, turned, Element, Accepted}
use Rattle.semigroups.specs.TablesLaws.{Closed}
use Rattle.semigroups.specs.InnerTables.{turned_cells}
use Rattle.semigroups.specs.Scratch.{marked}
use Rattle.semigroups.specs.InnerCalls.{scratch_after}
use Rattle.semigroups.specs.Maps.{Kind, embeddings, isomorphisms, reversed, maps, Ask, first, earliest}
use Rattle.semigroups.specs.Candidates.{candidate}
use Rattle.semigroups.specs.InnerSearch.{search, plain_kind}
use Rattle.semigroups.specs.Trials.{Work, work}
use Rattle.semigroups.specs.InnerTrials.{counted}
use Rattle.semigroups.proofs.Tables.{accepted_closed}
use Rattle.semigroups.proofs.Turned.{cells_turn, turned_accepted}
use Rattle.semigroups.proofs.Maps.{no_embedding, no_isomorphism, one_order}
use Rattle.semigroups.proofs.Reversed.{no_reversed, reversed_maps, reversed_candidate}
use Rattle.semigroups.proofs.Candidates.{index_period_sound, profile_sound, marked_candidate}
use Rattle.semigroups.proofs.Search.{search_earliest}
use Rattle.semigroups.proofs.Trials.{search_first, counted_finds, counted_same, counted_agrees}
use Rattle.backtrack.specs.InnerState.{bounded}
use Rattle.kinds.specs.InnerSearching.{marked_work, work_of}
use Rattle.calls.specs.Kinds.{order_fits}
use Rattle.calls.specs.Limited.{read_by, first_work}
use Rattle.calls.specs.Calls.{Lent}

-- ---- where the orders rule a map out

earliest_empty : (ask : Ask) → earliest ask [] ≡ none
unfolding earliest find
earliest_empty ask = refl

unfit : (kind : Kind) (m : ℕ) (s : Product) (n : ℕ) (t : Product) → order_fits kind m n ≡ false → (ask : Ask) → earliest ask (maps kind m s n t) ≡ none
unfit embeddings m s n t e ask = ap (earliest ask) (no_embedding m s n t (leb-false m n e)) ∙ earliest_empty ask
unfit isomorphisms m s n t e ask = ap (earliest ask) (no_isomorphism m s n t (eqb-false m n e)) ∙ earliest_empty ask
unfit reversed m s n t e ask = ap (earliest ask) (no_reversed m s n t (eqb-false m n e)) ∙ earliest_empty ask

-- ---- the work of a kind

module _ (kind : Kind) (ask : Ask) (m : ℕ) (source : List ℕ) (n : ℕ) (target : List ℕ) where
  abbrev searched : Product → Work
  searched t = counted (product m source) t (candidate kind m (product m source) n (product n target)) ask n m []

  work_by : (b : Bool) → order_fits kind m n ≡ b → work_of kind ask m source n target ≡ cond b (searched (read_by kind (product n target))) (work none 0)
  unfolding work_of
  work_by b e = ap (λ (c : Bool). cond c (searched (read_by kind (product n target))) (work none 0)) e

  pub work_unfit : order_fits kind m n ≡ false → work_of kind ask m source n target ≡ work none 0
  work_unfit e = work_by false e

  -- What is found, if it is known for orders that fit.
  by_orders : (order_fits kind m n ≡ true → (searched (read_by kind (product n target))).found ≡ earliest ask (maps kind m (product m source) n (product n target)))
      → (work_of kind ask m source n target).found ≡ earliest ask (maps kind m (product m source) n (product n target))
  by_orders fit = go (order_fits kind m n) refl
    where
      go : (b : Bool) → order_fits kind m n ≡ b → (work_of kind ask m source n target).found ≡ earliest ask (maps kind m (product m source) n (product n target))
      go true e = ap (λ (w : Work). w.found) (work_by true e) ∙ fit e
      go false e = ap (λ (w : Work). w.found) (work_unfit e) ∙ sym (unfit kind m (product m source) n (product n target) e ask)

-- The work that the definition of a limited search gives is that for the first map.
pub first_work_law : (kind : Kind) (l : Lent) → first_work kind l ≡ work_of kind first l.m l.source l.n l.target
unfolding first_work work_of
first_work_law kind l =
    let s = product l.m l.source in
    let t = product l.n l.target in
    ap (λ (w : Work). cond (order_fits kind l.m l.n) w (work none 0)) (search_first s (read_by kind t) (candidate kind l.m s l.n t) l.n l.m [])

-- For embeddings and isomorphisms, products are tested as they stand.
read_straight : (onto : Bool) (t : Product) → t ≡ read_by (plain_kind onto) t
read_straight true t = refl
read_straight false t = refl

-- Marks read back as the candidates, so the search over them does the work of the kind.
pub work_marked : (onto next : Bool) (m : ℕ) (source : List ℕ) (n : ℕ) (target bytes before scratch : List ℕ) → scratch ≡ scratch_after m n (candidate (plain_kind onto) m (product m source) n (product n target)) before → order_fits (plain_kind onto) m n ≡ true
    → work_of (plain_kind onto) (bounded next bytes) m source n target ≡ marked_work next m source n target bytes scratch
work_marked onto next m source n target bytes before scratch filled e =
    let s = product m source in
    let t = product n target in
    let c = candidate (plain_kind onto) m s n t in
    work_by (plain_kind onto) (bounded next bytes) m source n target true e ∙ ap (searched (plain_kind onto) (bounded next bytes) m source n target) (sym (read_straight onto t))
    ∙ sym (ap (marked_work next m source n target bytes) filled
    ∙ counted_same s t m n (marked n (scratch_after m n c before)) c (marked_candidate m n c before) (bounded next bytes) m [] (let z : 0 + m ≡ m = omega arith in z))

-- ---- reversed isomorphisms

module _ (m : ℕ) (source : List ℕ) (n : ℕ) (target : List ℕ) (b : Accepted n target) where
  abbrev s : Product
  s = product m source

  abbrev t : Product
  t = product n target

  abbrev u : Product
  u = product n (turned_cells n target)

  -- The candidates are the same as for isomorphisms onto the turned target.
  pub same_candidate : (i j : ℕ) → Element m i → Element n j → candidate isomorphisms m s n u i j ≡ candidate reversed m s n t i j
  same_candidate i j hi hj = reversed_candidate m s n t u (cells_turn n target) (accepted_closed n target b) b.associative i j hj

  -- The work is the same, trial by trial.
  pub turned_work : (ask : Ask) → work_of isomorphisms ask m source n (turned_cells n target) ≡ work_of reversed ask m source n target
  unfolding work_of
  turned_work ask =
      ap (λ (w : Work). cond (order_fits isomorphisms m n) w (work none 0))
      (counted_agrees s u (turned t) n (cells_turn n target) (candidate isomorphisms m s n u) ask m [] (λ x k. absurd (Memᴰ.not-nil k))
      ∙ counted_same s (turned t) m n (candidate isomorphisms m s n u) (candidate reversed m s n t) same_candidate ask m [] (let e : 0 + m ≡ m = omega arith in e))

-- ---- what is found

-- Between tables of one order, candidates that lose no embedding find the isomorphisms.
found_isomorphism : (m : ℕ) (s : Product) (n : ℕ) (t : Product) → Closed m s → Closed n t → m ≡ n → (ask : Ask) → search s t (candidate isomorphisms m s n t) ask n m [] ≡ earliest ask (maps isomorphisms m s n t)
found_isomorphism m s n t source target e ask =
    subst (λ (k : ℕ). Closed k t → search s t (candidate isomorphisms m s k t) ask k m [] ≡ earliest ask (maps isomorphisms m s k t)) e
    (λ target. search_earliest m s m t source (candidate isomorphisms m s m t) (profile_sound m s t source target) ask ∙ ap (earliest ask) (sym (one_order m s t))) target

module _ (ask : Ask) (m : ℕ) (source : List ℕ) (n : ℕ) (target : List ℕ) (a : Accepted m source) (b : Accepted n target) where
  work_finds_embedding : (work_of embeddings ask m source n target).found ≡ earliest ask (maps embeddings m (product m source) n (product n target))
  work_finds_embedding =
      let s = product m source in
      let t = product n target in
      let c = candidate embeddings m s n t in
      by_orders embeddings ask m source n target (λ e.
      counted_finds s t c ask n m [] ∙ search_earliest m s n t (accepted_closed m source a) c (index_period_sound m s n t (accepted_closed m source a) (accepted_closed n target b)) ask)

  work_finds_isomorphism : (work_of isomorphisms ask m source n target).found ≡ earliest ask (maps isomorphisms m (product m source) n (product n target))
  work_finds_isomorphism =
      let s = product m source in
      let t = product n target in
      by_orders isomorphisms ask m source n target (λ e.
      counted_finds s t (candidate isomorphisms m s n t) ask n m [] ∙ found_isomorphism m s n t (accepted_closed m source a) (accepted_closed n target b) (eqb-true m n e) ask)

-- The work finds the map asked for.
pub work_finds : (kind : Kind) (ask : Ask) (m : ℕ) (source : List ℕ) (n : ℕ) (target : List ℕ) → Accepted m source → Accepted n target
    → (work_of kind ask m source n target).found ≡ earliest ask (maps kind m (product m source) n (product n target))
work_finds embeddings ask m source n target a b = work_finds_embedding ask m source n target a b
work_finds isomorphisms ask m source n target a b = work_finds_isomorphism ask m source n target a b
work_finds reversed ask m source n target a b =
    ap (λ (w : Work). w.found) (sym (turned_work m source n target b ask))
    ∙ work_finds_isomorphism ask m source n (turned_cells n target) a (turned_accepted n target b)
    ∙ ap (earliest ask) (sym (reversed_maps m (product m source) n (product n target) (product n (turned_cells n target)) (cells_turn n target)))
