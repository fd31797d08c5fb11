-- The first "no" of any list of questions: it is the earliest, and there is none exactly where every question passes; its number is one of the list's;
-- and what it is for lists put together. Assumes nothing.
use mathlib.Core.Path.{◌≡◌, refl, sym, ap, ◌∙◌, subst}
use mathlib.Core.Bool.{Bool, true, false}
use mathlib.Core.Logic.{◌↔◌}
use mathlib.Core.List.{List, [], ◌∷◌, ◌++◌, map, Memᴰ}
use mathlib.Core.Option
use mathlib.Core.Option.{Option, none, some, or_else, none-ne-some, some-ne-none}
use Prim.Native.Nat.{ℕ}
use Rattle.semigroups.specs.Lists.{all, first_of, member}
use Rattle.semigroups.specs.Questions.{Question, ask, on_side, Refusal, refusal_by, first_no}
use Rattle.semigroups.specs.QuestionsLaws.{Passed, EarliestNo, numbers}
use Rattle.semigroups.specs.InnerQuestions.{naming}
use Rattle.semigroups.proofs.Lists.{all_at, member_mem, mem_member}
use Rattle.semigroups.proofs.Completions.{or_else_none, first_of_append}

-- ---- one question

-- The question q with `fails` in place of how it fails.
abbrev knowing : Question → Option (List ℕ) → Question
knowing q fails = record { number = q.number; side = q.side; fails = fails }

pub ask_passed : (number : ℕ) (passes : Bool) → (ask number passes).fails ≡ none → passes ≡ true
ask_passed number true e = refl
ask_passed number false e = absurd (some-ne-none [] e)

-- ---- no question fails

passes : (qs : List Question) → first_no qs ≡ none → Passed qs
unfolding first_of or_else
passes [] e = tt
passes (q ∷ qs) e = go (passes qs) q.fails refl e
  where
    go : (first_no qs ≡ none → Passed qs) → (o : Option (List ℕ)) → q.fails ≡ o → or_else (refusal_by (knowing q o)) (first_no qs) ≡ none → Passed (q ∷ qs)
    go later none p e = (p, later e)
    go later (some values) p e = absurd (some-ne-none _ e)

unrefused : (qs : List Question) → Passed qs → first_no qs ≡ none
unfolding first_of or_else
unrefused [] h = refl
unrefused (q ∷ qs) h = rw h.0 (unrefused qs h.1)

-- There is no "no" exactly if every question passes.
pub all_passed : (qs : List Question) → (first_no qs ≡ none) ↔ Passed qs
all_passed qs = (passes qs, unrefused qs)

-- ---- the earliest "no"

first_no_law : (qs : List Question) (r : Refusal) → first_no qs ≡ some r → EarliestNo qs r
unfolding first_of or_else
first_no_law [] r e = absurd (none-ne-some r e)
first_no_law (q ∷ qs) r e = go (first_no_law qs r) q.fails refl e
  where
    go : (first_no qs ≡ some r → EarliestNo qs r) → (o : Option (List ℕ)) → q.fails ≡ o → or_else (refusal_by (knowing q o)) (first_no qs) ≡ some r → EarliestNo (q ∷ qs) r
    go later none p e =
        let n = later e in
        record {
          before = q ∷ n.before;
          question = n.question;
          following = n.following;
          place = ap {B = List Question} (λ (l : List Question). q ∷ l) n.place;
          passed = (p, n.passed);
          fails = n.fails;
          number = n.number;
          side = n.side;
        }
    go later (some values) p e = record { before = []; question = q; following = qs; place = refl; passed = tt; fails = cc; number = cc; side = cc }

at_place : (before : List Question) (q : Question) (following : List Question) (r : Refusal) → Passed before
    → q.fails ≡ some r.values → q.number ≡ r.number → q.side ≡ r.side → first_no (before ++ q ∷ following) ≡ some r
unfolding first_of or_else
at_place [] q following r passed fails number side = rw (fails, number, side)
at_place (p ∷ before) q following r passed fails number side = rw passed.0 (at_place before q following r passed.1 fails number side)

-- What the first "no" says is what the earliest question that fails says.
pub earliest_no : (qs : List Question) (r : Refusal) → (first_no qs ≡ some r) ↔ EarliestNo qs r
earliest_no qs r = (
  first_no_law qs r,
  λ n. ap first_no n.place ∙ at_place n.before n.question n.following r n.passed n.fails n.number n.side,
)

-- ---- lists put together

-- The refusal by questions that name a side is that of the questions without it, with the side.
pub first_sided : (side : ℕ) (qs : List Question) → first_no (map (on_side side) qs) ≡ Option.map (naming side) (first_no qs)
unfolding first_of or_else
first_sided side [] = refl
first_sided side (q ∷ qs) = go (first_sided side qs) q.fails
  where
    go : first_no (map (on_side side) qs) ≡ Option.map (naming side) (first_no qs) → (o : Option (List ℕ)) → or_else (refusal_by (on_side side (knowing q o))) (first_no (map (on_side side) qs)) ≡ Option.map (naming side) (or_else (refusal_by (knowing q o)) (first_no qs))
    go later none = later
    go later (some values) = refl

module _ (qs more : List Question) where
  pub first_append : first_no (qs ++ more) ≡ or_else (first_no qs) (first_no more)
  first_append = first_of_append refusal_by qs more

  -- If one of the first questions fails, it decides; if they all pass, the questions after them do.
  pub failed_before : {r : Refusal} → first_no qs ≡ some r → first_no (qs ++ more) ≡ some r
  unfolding or_else
  failed_before e = first_append ∙ rw e

  pub passed_before : first_no qs ≡ none → first_no (qs ++ more) ≡ first_no more
  unfolding or_else
  passed_before e = first_append ∙ rw e

  pub both_passed : first_no (qs ++ more) ≡ none → (first_no qs ≡ none) × (first_no more ≡ none)
  both_passed e = or_else_none (first_no qs) (first_no more) (sym first_append ∙ e)

-- ---- which numbers can come

-- The number of a refusal is one of its list's.
pub number_listed : (qs : List Question) (r : Refusal) → first_no qs ≡ some r → member r.number (numbers qs) ≡ true
number_listed qs r e =
    let n = first_no_law qs r e in
    let m : Memᴰ n.question qs = subst (Memᴰ n.question) (sym n.place) (mathlib.Core.List.Memᴰ.append_right n.before (mathlib.Core.List.Memᴰ.head refl)) in
    ap (λ (k : ℕ). member k (numbers qs)) (sym n.number) ∙ mem_member n.question.number (numbers qs) (mathlib.Core.List.Memᴰ.map (λ (q : Question). q.number) m)

-- The number of a refusal by these questions is one of these numbers.
abbrev pub Listed : List ℕ → List Question → Type 0
Listed ns qs = (r : Refusal) → first_no qs ≡ some r → member r.number ns ≡ true

module _ (ns : List ℕ) where
  pub listed : (qs : List Question) → all (λ k. member k ns) (numbers qs) ≡ true → Listed ns qs
  listed qs h r e = all_at (λ k. member k ns) (numbers qs) h r.number (member_mem r.number (numbers qs) (number_listed qs r e))

  pub listed_append : (qs more : List Question) → Listed ns qs → Listed ns more → Listed ns (qs ++ more)
  listed_append qs more h g r e = go (first_no qs) refl
    where
      go : (o : Option Refusal) → first_no qs ≡ o → member r.number ns ≡ true
      go none p = g r (sym (passed_before qs more p) ∙ e)
      go (some q) p = h r (p ∙ sym (failed_before qs more p) ∙ e)
