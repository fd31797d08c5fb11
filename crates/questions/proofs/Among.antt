-- The questions of a search among given pairs: those of a search, then the one about the length of the pairs. Assumes nothing.
use mathlib.Core.Path.{◌≡◌, ◌∙◌}
use mathlib.Core.Logic.{◌↔◌}
use mathlib.Core.List.{List, [], ◌∷◌}
use mathlib.Core.Option.{none, some, or_else}
use Prim.Native.Nat.{ℕ, ◌≤◌, ◌<◌}
use borrow.Author.Tests.{lt-leb}
use lib.Dec.{leb}
use Rattle.semigroups.specs.Lists.{first_of}
use Rattle.semigroups.specs.Scratch.{scratch_size}
use Rattle.semigroups.specs.Questions.{Question, ask, Refusal, search_questions, search_refusal}
use Rattle.semigroups.specs.InnerQuestions.{no}
use Rattle.semigroups.specs.PassingLaws.{SearchPasses}
use Rattle.semigroups.proofs.Questions.{failed_before, passed_before}
use Rattle.semigroups.proofs.Passing.{search_passes, room_asked, joined}
use Rattle.calls.specs.Among.{among_refusal}

module _ (m : ℕ) (source : List ℕ) (n : ℕ) (target : List ℕ) (k l p : ℕ) where
  abbrev last : List Question
  last = ask 70 (leb (scratch_size m n) p) ∷ []

  pub search_refused : (r : Refusal) → search_refusal m source n target k l ≡ some r → among_refusal m source n target k l p ≡ some r
  unfolding among_refusal search_refusal
  search_refused r e = failed_before (search_questions m source n target k l) last e

  pub pairs_refused : search_refusal m source n target k l ≡ none → p < scratch_size m n → among_refusal m source n target k l p ≡ some (no 70 [])
  unfolding among_refusal search_refusal first_of or_else
  pairs_refused e h = passed_before (search_questions m source n target k l) last e ∙ rw (lt-leb (scratch_size m n) p h)

  -- No question fails exactly if none of a search does and the pairs are long enough.
  pub passes_both : (among_refusal m source n target k l p ≡ none) ↔ (SearchPasses m source n target k l × (scratch_size m n ≤ p))
  unfolding among_refusal search_refusal
  passes_both = joined (search_questions m source n target k l) last (search_passes m source n target k l) (room_asked 70 (scratch_size m n) p)

  pub pairs_passed : search_refusal m source n target k l ≡ none → scratch_size m n ≤ p → among_refusal m source n target k l p ≡ none
  pairs_passed e h = passes_both.1 ((search_passes m source n target k l).0 e, h)
