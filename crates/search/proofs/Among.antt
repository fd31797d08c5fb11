-- What a call among given pairs says and leaves, from its refusal and from the embedding asked for. Assumes nothing.
use mathlib.Core.Path.{◌≡◌, refl, sym, ap, ap₂, ◌∙◌}
use mathlib.Core.Bool.{Bool}
use mathlib.Core.Logic.{◌↔◌}
use mathlib.Core.List.{List}
use mathlib.Core.Option.{Option, none, some}
use Prim.Native.Nat.{ℕ, ◌≤◌}
use lib.ListN.{length}
use Rattle.semigroups.specs.Tables.{Accepted}
use Rattle.semigroups.specs.Scratch.{scratch_size}
use Rattle.semigroups.specs.Questions.{Refusal}
use Rattle.semigroups.specs.Calls.{refused, gives}
use Rattle.semigroups.specs.Maps.{Ask}
use Rattle.kinds.specs.Answers.{sought_if}
use Rattle.calls.specs.Calls.{Lent, called}
use Rattle.calls.specs.Among.{refusal_among, answer_among, call_among}
use Rattle.kinds.specs.InnerAmong.{leaving_among, answered_among}
use Rattle.questions.proofs.Among.{passes_both}
use Rattle.search.specs.AmongLaws.{PassesAmong}

-- ---- the questions

pub among_passes : (pairs : List ℕ) (l : Lent) → (refusal_among pairs l ≡ none) ↔ PassesAmong pairs l
among_passes pairs l =
    let w = passes_both l.m l.source l.n l.target (length l.map_bytes) (length l.scratch) (length pairs) in
    ((λ e. let h = w.0 e in record { search = h.0; pairs_room = h.1 }), λ h. w.1 (h.search, h.pairs_room))

-- What is known once no question has failed.
pub stands_among : (pairs : List ℕ) (l : Lent) → refusal_among pairs l ≡ none
    → (Accepted l.m l.source × Accepted l.n l.target) × (((length l.map_bytes ≡ l.m) × (scratch_size l.m l.n ≤ length l.scratch)) × (scratch_size l.m l.n ≤ length pairs))
stands_among pairs l e =
    let p = (among_passes pairs l).0 e in
    let s = p.search in
    ((s.check.source_table, s.check.target_table), ((s.check.map_size, s.scratch_room), p.pairs_room))

-- ---- refused or not

module _ (ask : Ask) (pairs : List ℕ) (l : Lent) where
  -- A refused call says its refusal, and not one lent byte is changed.
  pub refused_among : (r : Refusal) → refusal_among pairs l ≡ some r → call_among ask pairs l ≡ called (refused r) l.map_bytes l.scratch
  unfolding call_among
  refused_among r e = ap (λ (q : Option Refusal). leaving_among pairs l q (answer_among ask pairs l)) e

  -- A call that is not refused says whether there is the embedding asked for, and leaves it and the marks.
  pub not_refused_among : refusal_among pairs l ≡ none → (o : Option (List ℕ)) → answer_among ask pairs l ≡ o → call_among ask pairs l ≡ leaving_among pairs l none o
  unfolding call_among
  not_refused_among e o f = ap₂ (leaving_among pairs l) e f

  -- What a call that is not refused says and leaves, from whether there is an embedding.
  pub passing_among : refusal_among pairs l ≡ none → {bytes scratch : List ℕ} (r x : Bool) → r ≡ x → called (gives (sought_if r)) bytes scratch ≡ answered_among ask pairs l
      → called (gives (sought_if x)) bytes scratch ≡ call_among ask pairs l
  unfolding answered_among
  passing_among e {bytes = bytes} {scratch = scratch} r x q h =
      ap (λ (b : Bool). called (gives (sought_if b)) bytes scratch) (sym q) ∙ h ∙ sym (not_refused_among e (answer_among ask pairs l) refl)
