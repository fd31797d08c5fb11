-- The numbers of a refusal that carries at most three values (`Brief` in `answers`) say all of it. Assumes nothing.
use mathlib.Core.Path.{◌≡◌, refl, ap, ◌∙◌}
use mathlib.Core.List.{List, [], ◌∷◌}
use Prim.Native.Nat.{ℕ, ◌≤◌}
use native.Mathlib.Omega.{arith}
use lib.ListN.{length, get_or}
use Rattle.semigroups.specs.Questions.{Refusal}
use Rattle.semigroups.specs.InnerQuestions.{naming}
use Rattle.answers.specs.Answers.{refusal_numbers, numbers_naming}
use Rattle.answers.specs.AnswersLaws.{Brief}
use Rattle.answers.specs.declared.Refusal.{Refusal as Numbers}
use Rattle.numbers.specs.Words.{words}
use Rattle.words.specs.Answers.{numbers_words}

-- The sixteen numbers of a refusal.
abbrev pub refusal_words : Refusal → List ℕ
refusal_words r = words r.number r.side r.values

few_said : (number side : ℕ) (values : List ℕ) → length values ≤ 3 → words number side (get_or values 0 0 ∷ get_or values 1 0 ∷ get_or values 2 0 ∷ []) ≡ words number side values
few_said number side [] h = refl
few_said number side (a ∷ []) h = refl
few_said number side (a ∷ b ∷ []) h = refl
few_said number side (a ∷ b ∷ c ∷ []) h = refl
few_said number side (a ∷ b ∷ c ∷ d ∷ l) h = absurd (let z : ⊥ = omega arith in z)

whole : (r : Refusal) → Brief r → numbers_words (refusal_numbers r) ≡ refusal_words r
whole r brief = few_said r.number r.side r.values brief

module _ (r : Refusal) (brief : Brief r) {numbers : Numbers} (told : numbers ≡ refusal_numbers r) where
  pub refusal_said_law : {answer : List ℕ} → answer ≡ numbers_words numbers → answer ≡ refusal_words r
  refusal_said_law e = e ∙ ap numbers_words told ∙ whole r brief

  pub side_said : (side : ℕ) {sided : Numbers} {answer : List ℕ} → sided ≡ numbers_naming side numbers → answer ≡ numbers_words sided → answer ≡ refusal_words (naming side r)
  side_said side s e =
      e ∙ ap numbers_words (s ∙ ap (numbers_naming side) told) ∙ whole (naming side r) brief
