-- A call gets an answer every time, from the law of its list of questions and what passes them. Assumes nothing.
use mathlib.Core.Path.{◌≡◌, sym, subst}
use mathlib.Core.Logic.{◌↔◌}
use mathlib.Core.List.{List}
use mathlib.Core.Option.{Option, none}
use Prim.Native.Nat.{ℕ}
use Rattle.semigroups.specs.Questions.{Question, first_no}
use Rattle.semigroups.specs.Calls.{Answer, given_unless}
use Rattle.semigroups.proofs.Questions.{earliest_no}
use Rattle.semigroups.proofs.Calls.{given_or_refused, refused_by_law, given_by}
use Rattle.calls.specs.Calls.{Lent, leaving}
use Rattle.search.proofs.Calls.{leaving_says}
use Rattle.demands.specs.AnswersLaws.{Asks, Answers}

module _ {Needs : Type 0} (qs : List Question) (w : (first_no qs ≡ none) ↔ Needs) where
  -- A call that asks questions alone.
  pub asks : Asks (first_no qs) qs Needs
  asks = record { refused_exactly = earliest_no qs; passed_exactly = w }

  -- A call that gives a value.
  pub answers : {A : Type 0} (value : A) → Answers (given_unless (first_no qs) value) qs Needs value
  answers value =
      let given = given_by value (first_no qs) in
      record {
        every_time = given_or_refused value (first_no qs);
        refused_exactly = λ r. let a = refused_by_law value (first_no qs) r in let b = earliest_no qs r in ((λ e. b.0 (a.0 e)), λ e. a.1 (b.1 e));
        given_exactly = ((λ e. w.0 (given.0 e)), λ h. given.1 (w.1 h));
      }

-- A search, whatever its map and its marks are.
pub search_answers : {Needs : Type 0} (marks : List ℕ) (l : Lent) (o : Option (List ℕ)) (qs : List Question) → (first_no qs ≡ none) ↔ Needs → {A : Type 0} (value : A)
    → Answers (leaving marks l (first_no qs) value o).says qs Needs value
search_answers {Needs = Needs} marks l o qs w {A = A} value = subst (λ (a : Answer A). Answers a qs Needs value) (sym (leaving_says marks l value o (first_no qs))) (answers qs w value)
