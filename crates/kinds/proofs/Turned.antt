-- A call for reversed isomorphisms is one for isomorphisms onto the turned target: it says the same and leaves the same bytes. Assumes nothing.
use Rattle.std.specs.Prelude.{Option as Optional}
use mathlib.Core.Path.{◌≡◌, sym, ap, ap₂, subst, ◌∙◌}
use mathlib.Core.Bool.{Bool}
use mathlib.Core.List.{List}
use mathlib.Core.Option.{get_or}
use Prim.Native.Nat.{ℕ, ◌*◌, ◌≤◌}
use lib.ListN.{length, take}
use lib.Seq.{length-take-le}
use Rattle.semigroups.specs.Tables.{product, Accepted}
use Rattle.semigroups.specs.InnerTables.{turned_cells}
use Rattle.semigroups.specs.Calls.{gives, overwritten}
use Rattle.semigroups.specs.InnerCalls.{scratch_after}
use Rattle.semigroups.specs.Maps.{isomorphisms, reversed}
use Rattle.semigroups.specs.Trials.{Work}
use Rattle.semigroups.specs.Candidates.{candidate}
use Rattle.semigroups.proofs.Turned.{turned_front, turned_accepted}
use Rattle.candidates.proofs.Marks.{scratch_same}
use Rattle.backtrack.specs.InnerState.{bounded, ended_of}
use Rattle.calls.specs.Calls.{lend, called}
use Rattle.kinds.specs.InnerSearching.{remainder_under, map_in, searched}
use Rattle.kinds.proofs.Works.{same_candidate, turned_work}

pub turned_call : (next : Bool) (limit : Optional ℕ) (m : ℕ) (source : List ℕ) (n : ℕ) (target bytes scratch : List ℕ) → Accepted n target
    → searched isomorphisms next limit (lend source m (turned_cells n target) n bytes scratch) ≡ searched reversed next limit (lend source m target n bytes scratch)
unfolding searched scratch_after
turned_call next limit m source n target bytes scratch accepted =
    let s = product m source in
    ap₂ (λ (w : Work) (b : List ℕ). called (gives (ended_of (remainder_under limit w))) (get_or (map_in (remainder_under limit w)) bytes) b) (turned_work m source n target accepted (bounded next bytes))
    (scratch_same m n (candidate isomorphisms m s n (product n (turned_cells n target))) (candidate reversed m s n (product n target)) (same_candidate m source n target accepted) scratch)

-- ---- the room that the turned target is written to

module _ (n : ℕ) (target before room : List ℕ) (accepted : Accepted n target) (fits : n * n ≤ length room) (is : room ≡ overwritten (turned_cells n target) before) where
  pub turned_part : take (n * n) room ≡ turned_cells n target
  turned_part = ap (take (n * n)) is ∙ turned_front n target before

  pub part_accepted : Accepted n (take (n * n) room)
  part_accepted = subst (Accepted n) (sym turned_part) (turned_accepted n target accepted)

  pub part_length : n * n ≡ length (take (n * n) room)
  part_length = sym (length-take-le (n * n) room fits)
