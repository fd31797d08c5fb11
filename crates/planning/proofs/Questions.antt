-- The questions about a table and its position buffer pass exactly if what the call needs holds; what each way out says and leaves. Assumes nothing.
use mathlib.Core.Path.{◌≡◌, refl, sym, ap, ◌∙◌}
use mathlib.Core.Logic.{◌↔◌}
use mathlib.Core.List.{List, [], ◌∷◌}
use mathlib.Core.Option.{Option, none, some, map, or_else}
use Prim.Native.Nat.{ℕ, ◌*◌, ◌≤◌, ◌<◌}
use native.Mathlib.Omega.{arith}
use borrow.Author.Tests.{le-leb, lt-leb}
use lib.Dec.{leb}
use lib.ListN.{length}
use Rattle.semigroups.specs.Lists.{first_of}
use Rattle.semigroups.specs.Tables.{product}
use Rattle.semigroups.specs.Questions.{Question, ask, Refusal, table_questions, table_refusal}
use Rattle.semigroups.specs.InnerQuestions.{no}
use Rattle.semigroups.specs.Calls.{Answer, refused, gives, given_unless, overwritten, written_unless}
use Rattle.semigroups.specs.Transformations.{transformation_order}
use Rattle.semigroups.proofs.Maps.{embedding_order}
use Rattle.semigroups.proofs.Questions.{failed_before, passed_before}
use Rattle.semigroups.proofs.Passing.{room_asked, joined, table_passes}
use Rattle.semigroups.proofs.Calls.{refused_keeps}
use Rattle.semigroups.proofs.Booleans.{impossible}
use Rattle.planning.specs.Degrees.{degree_product, Fit, least_fit, least_degree, fit_positions, degree_refusal}
use Rattle.planning.specs.DegreesLaws.{DegreePasses}
use Rattle.planning.specs.Calls.{degree_says, positions_after}
use Rattle.planning.specs.CallsLaws.{PositionsKept}
use Rattle.planning.proofs.Degrees.{no_fit}
use Rattle.planning.proofs.Searching.{order_most}

module _ (m : ℕ) (cells : List ℕ) (size : ℕ) where
  abbrev room : List Question
  room = ask 80 (leb (m * 3) size) ∷ []

  pub degree_passes : (degree_refusal m cells size ≡ none) ↔ DegreePasses m cells size
  unfolding degree_refusal table_refusal
  degree_passes =
      let w = joined (table_questions m cells) room (table_passes m cells) (room_asked 80 (m * 3) size) in
      ((λ e. let h = w.0 e in record { table = h.0; room = h.1 }), λ h. w.1 (h.table, h.room))

  table_refused : (r : Refusal) → table_refusal m cells ≡ some r → degree_refusal m cells size ≡ some r
  unfolding degree_refusal table_refusal
  table_refused r e = failed_before (table_questions m cells) room e

  room_refused : table_refusal m cells ≡ none → size < m * 3 → degree_refusal m cells size ≡ some (no 80 [])
  unfolding degree_refusal table_refusal first_of or_else
  room_refused e h = passed_before (table_questions m cells) room e ∙ rw (lt-leb (m * 3) size h)

  none_refused : table_refusal m cells ≡ none → m * 3 ≤ size → degree_refusal m cells size ≡ none
  unfolding degree_refusal table_refusal first_of or_else
  none_refused e h = passed_before (table_questions m cells) room e ∙ rw (le-leb (m * 3) size h)

-- ---- the ways out

module _ (m : ℕ) (cells before : List ℕ) where
  abbrev Said : Answer (Option ℕ) → List ℕ → Type 0
  Said says left = record { answer : says ≡ degree_says m cells (length before); positions : left ≡ positions_after m cells before }

  kept : (r : Refusal) → degree_refusal m cells (length before) ≡ some r → Said (refused r) before
  unfolding degree_says positions_after
  kept r e =
      record {
        answer = ap (λ (q : Option Refusal). given_unless q (least_degree m (product m cells))) (sym e);
        positions = ap (λ (q : Option Refusal). written_unless q (fit_positions m (least_fit m (product m cells))) before) (sym e);
      }

  pub table_kept : (r : Refusal) → table_refusal m cells ≡ some r → Said (refused r) before
  table_kept r e = kept r (table_refused m cells (length before) r e)

  module _ (t : table_refusal m cells ≡ none) where
    pub room_kept : length before < m * 3 → Said (refused (no 80 [])) before
    room_kept h = kept (no 80 []) (room_refused m cells (length before) t h)

    module _ (enough : m * 3 ≤ length before) where
      pub answered : (says : Answer (Option ℕ)) (left : List ℕ) → says ≡ gives (least_degree m (product m cells)) → left ≡ overwritten (fit_positions m (least_fit m (product m cells))) before
          → Said says left
      unfolding degree_says positions_after
      answered says left said written =
          let e = none_refused m cells (length before) t enough in
          record {
            answer = said ∙ ap (λ (q : Option Refusal). given_unless q (least_degree m (product m cells))) (sym e);
            positions = written ∙ ap (λ (q : Option Refusal). written_unless q (fit_positions m (least_fit m (product m cells))) before) (sym e);
          }

      -- A table of more than 27 elements fits at none of the degrees.
      pub too_many : 27 < m → Said (gives none) before
      unfolding least_degree
      too_many h =
          let s = product m cells in
          let e : least_fit m s ≡ none =
          no_fit m s (λ d f hd F. let a = embedding_order m s (transformation_order d) (degree_product d) f F in let b = order_most d hd in let z : ⊥ = omega arith in z) in
          answered (gives none) before
          (ap (λ (o : Option Fit). gives (map (λ (x : Fit). x.degree) o)) (sym e))
          (ap (λ (o : Option Fit). overwritten (fit_positions m o) before) (sym e))

-- ---- no byte changes

pub positions_kept : PositionsKept
unfolding degree_says positions_after least_degree
positions_kept m cells before = (
  (λ r e. refused_keeps (least_degree m (product m cells)) (degree_refusal m cells (length before)) r e (fit_positions m (least_fit m (product m cells))) before),
  nothing (degree_refusal m cells (length before)) (least_fit m (product m cells)),
)
  where
    nothing : (q : Option Refusal) (o : Option Fit) → given_unless q (map (λ (x : Fit). x.degree) o) ≡ gives none → written_unless q (fit_positions m o) before ≡ before
    nothing (some r) o e = refl
    nothing none none e = refl
    nothing none (some x) e = impossible (cc)
