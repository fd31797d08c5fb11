-- The least degree and the landing positions are what the plain statements say. Assumes nothing.
use mathlib.Core.Path.{◌≡◌, refl, sym, ap, ◌∙◌, subst, subst₂}
use mathlib.Core.List.{List}
use mathlib.Core.Option.{Option, none, some, map, map-eq-none_iff, map-eq-some_iff}
use Prim.Native.Nat.{ℕ, ◌*◌, ◌≤◌}
use native.Mathlib.Omega.{arith}
use lib.ListN.{length, get_or}
use Rattle.semigroups.specs.Lists.{elements, at}
use Rattle.semigroups.specs.Tables.{Product, cell_place, Element}
use Rattle.semigroups.specs.InnerMaps.{Embedding}
use Rattle.semigroups.specs.Maps.{embeddings}
use Rattle.semigroups.specs.Transformations.{transformation_order, transformation, number_of, transformation_product}
use Rattle.semigroups.proofs.Lists.{mem_elements, elements_mem, sorted_range, ext_at}
use Rattle.semigroups.proofs.ListOrder.{earliest_unique}
use Rattle.semigroups.proofs.Completions.{first_answer, no_answer}
use Rattle.semigroups.proofs.Tables.{list_at, length_grid, grid_at, grid_only}
use Rattle.semigroups.proofs.Maps.{first_earliest, first_none, embedding_agrees}
use Rattle.semigroups.proofs.Transformations.{transformation_list, number_transformation, product_point}
use Rattle.planning.specs.Degrees.{degree_product, Fit, fit, first_at, least_fit, least_degree, position, landings, fit_positions}
use Rattle.planning.specs.DegreesLaws.{EmbedsAt, IsLeastDegree, LandingPositions, LeastDegreeTheorem, NoDegreeTheorem, PositionsTheorem}
use Rattle.planning.proofs.Agreement.{table_agrees}

-- ---- the least degree

module _ (m : ℕ) (s : Product) where
  abbrev fit_at : ℕ → Option Fit
  fit_at d = map (fit d) (first_at m s d)

  -- If an embedding exists, there is a first one; otherwise there is none.
  first_of : (d : ℕ) (f : List ℕ) → EmbedsAt m s d f → fit_at d ≡ none → ⊥
  unfolding first_at
  first_of d f F e = first_none embeddings m s (transformation_order d) (degree_product d) ((map-eq-none_iff (fit d) (first_at m s d)).0 e) f F

  -- What is known of the least fit: its degree is 1 to 3, its embedding is the first one there, and no smaller degree has any.
  record Known (x : Fit) : Type 0 where
    degree : Element 3 x.degree
    first : first_at m s x.degree ≡ some x.embedding
    least : (e : ℕ) (f : List ℕ) → Element 3 e → EmbedsAt m s e f → x.degree ≤ e

  known : (x : Fit) → least_fit m s ≡ some x → Known x
  unfolding least_fit elements
  known x q =
      let r = first_answer fit_at (elements 3) (sorted_range 1 3) x q in
      let w = (map-eq-some_iff (fit r.number) (first_at m s r.number)).0 r.answers in
      subst Known w.2
      (record {
        degree = mem_elements 3 r.number r.listed;
        first = w.1;
        least = λ e f h F. r.least e (elements_mem 3 e h) (first_of e f F);
      })

  known_earliest : (x : Fit) → Known x → EmbedsAt m s x.degree x.embedding
  unfolding first_at
  known_earliest x k = (first_earliest embeddings m s (transformation_order x.degree) (degree_product x.degree) x.embedding k.first).has

  known_least : (x : Fit) → Known x → IsLeastDegree m s x.degree
  known_least x k = record { degree = k.degree; embedding = x.embedding; embeds = known_earliest x k; least = k.least }

  some_fit : (d : ℕ) → least_degree m s ≡ some d → (x : Fit) × (least_fit m s ≡ some x) × (x.degree ≡ d)
  unfolding least_degree
  some_fit d e = (map-eq-some_iff (λ (x : Fit). x.degree) (least_fit m s)).0 e

  nowhere : least_fit m s ≡ none → (d : ℕ) (f : List ℕ) → Element 3 d → EmbedsAt m s d f → ⊥
  unfolding least_fit
  nowhere e d f h F = first_of d f F (no_answer fit_at (elements 3) e d (elements_mem 3 d h))

  is_least : (d : ℕ) → least_degree m s ≡ some d → IsLeastDegree m s d
  is_least d e = let r = some_fit d e in subst (IsLeastDegree m s) r.2 (known_least r.0 (known r.0 r.1))

  least_is : (d : ℕ) → IsLeastDegree m s d → least_degree m s ≡ some d
  unfolding least_degree
  least_is d L = go (least_fit m s) refl
    where
      go : (o : Option Fit) → least_fit m s ≡ o → map (λ (x : Fit). x.degree) o ≡ some d
      go none q = absurd (nowhere q d L.embedding L.degree L.embeds)
      go (some x) q =
          let k = known x q in
          let a = k.least d L.embedding L.degree L.embeds in
          let b = L.least x.degree x.embedding k.degree (known_earliest x k) in
          ap {B = Option ℕ} some (let z : x.degree ≡ d = omega arith in z)

  none_nowhere : least_degree m s ≡ none → (d : ℕ) (f : List ℕ) → Element 3 d → EmbedsAt m s d f → ⊥
  unfolding least_degree
  none_nowhere e = nowhere ((map-eq-none_iff (λ (x : Fit). x.degree) (least_fit m s)).0 e)

  pub no_fit : ((d : ℕ) (f : List ℕ) → Element 3 d → EmbedsAt m s d f → ⊥) → least_fit m s ≡ none
  no_fit h = go (least_fit m s) refl
    where
      go : (o : Option Fit) → least_fit m s ≡ o → least_fit m s ≡ none
      go none q = q
      go (some x) q = let k = known x q in absurd (h x.degree x.embedding k.degree (known_earliest x k))

  nowhere_none : ((d : ℕ) (f : List ℕ) → Element 3 d → EmbedsAt m s d f → ⊥) → least_degree m s ≡ none
  unfolding least_degree
  nowhere_none h = ap (map (λ (x : Fit). x.degree)) (no_fit h)

pub least_degree_law : LeastDegreeTheorem
least_degree_law m s d = (is_least m s d, least_is m s d)

pub no_degree : NoDegreeTheorem
no_degree m s = (none_nowhere m s, nowhere_none m s)

-- ---- landing positions

module _ (m : ℕ) (s : Product) (d : ℕ) (f : List ℕ) (F : EmbedsAt m s d f) where
  composing : Embedding m s (transformation_order d) (transformation_product d) f
  composing = embedding_agrees m s s (transformation_order d) (degree_product d) (transformation_product d) (λ i j hi hj. refl) (table_agrees d) f F

  position_within : (i x : ℕ) → Element m i → Element d x → Element d (position d f i x)
  unfolding position
  position_within i x hi hx = list_at d d (transformation d (at f i)) (transformation_list d (at f i) (F.homomorphism.within i hi)) x hx

  positions_compose : (i j x : ℕ) → Element m i → Element m j → Element d x → position d f (s i j) x ≡ position d f j (position d f i x)
  unfolding position
  positions_compose i j x hi hj hx =
      let H = composing.homomorphism in
      ap (λ (k : ℕ). at (transformation d k) x) (H.keeps_product i j hi hj) ∙ product_point d (at f i) (at f j) (H.within i hi) (H.within j hj) x hx

  positions_apart : (i j : ℕ) → Element m i → Element m j → ((x : ℕ) → Element d x → position d f i x ≡ position d f j x) → i ≡ j
  unfolding position
  positions_apart i j hi hj same =
      let hi' = F.homomorphism.within i hi in
      let hj' = F.homomorphism.within j hj in
      F.one_to_one i j hi hj
      (sym (number_transformation d (at f i) hi')
      ∙ ap (number_of d) (ext_at d (transformation d (at f i)) (transformation d (at f j)) (transformation_list d (at f i) hi').size (transformation_list d (at f j) hj').size same)
      ∙ number_transformation d (at f j) hj')

module _ (m d : ℕ) (f : List ℕ) where
  -- The byte of element i and point x is where i takes x.
  byte_at : (i x : ℕ) → Element m i → Element d x → get_or (landings m d f) (cell_place d i x) 0 ≡ position d f i x
  unfolding landings
  byte_at i x hi hx = grid_at m d (position d f) i x hi hx

  pub length_landings : length (landings m d f) ≡ m * d
  unfolding landings
  length_landings = length_grid m d (position d f)

  -- No other bytes are these positions.
  landings_only : (bytes : List ℕ) → length bytes ≡ m * d → ((i x : ℕ) → Element m i → Element d x → get_or bytes (cell_place d i x) 0 ≡ position d f i x) → bytes ≡ landings m d f
  unfolding landings
  landings_only bytes size same = grid_only m d (position d f) bytes size same

pub landing_positions : PositionsTheorem
landing_positions m s closed x e g bytes = (
  (λ q. subst₂ (λ (f bytes : List ℕ). LandingPositions m s d f bytes) (sym q.0) (sym (q.1 ∙ ap (fit_positions m) e)) landed),
  λ L.
      let same = earliest_unique L.first_embedding landed.first_embedding in
      (same, landings_only m d g bytes L.size (λ i p hi hp. L.byte i p hi hp ∙ (unfold position in refl)) ∙ ap (landings m d) same ∙ sym (ap (fit_positions m) e)),
)
  where
    d : ℕ
    d = x.degree

    f : List ℕ
    f = x.embedding

    k : Known m s x
    k = known m s x e

    F : EmbedsAt m s d f
    F = known_earliest m s x k

    byte : (i p : ℕ) → Element m i → Element d p → get_or (landings m d f) (cell_place d i p) 0 ≡ position d f i p
    byte = byte_at m d f

    landed : LandingPositions m s d f (landings m d f)
    landed =
        record {
          first_embedding = first_earliest embeddings m s (transformation_order d) (degree_product d) f (unfold first_at in k.first);
          size = length_landings m d f;
          byte = λ i p hi hp. byte i p hi hp ∙ (unfold position in refl);
          within = λ i p hi hp. subst (Element d) (sym (byte i p hi hp)) (position_within m s d f F i p hi hp);
          compose = λ i j p hi hj hp.
              byte (s i j) p (closed i j hi hj) hp ∙ positions_compose m s d f F i j p hi hj hp
              ∙ sym (byte j (position d f i p) hj (position_within m s d f F i p hi hp))
              ∙ ap (λ (q : ℕ). get_or (landings m d f) (cell_place d j q) 0) (sym (byte i p hi hp));
          apart = λ i j hi hj same. positions_apart m s d f F i j hi hj (λ p hp. sym (byte i p hi hp) ∙ same p hp ∙ byte j p hj hp);
        }
