-- What is said of questions in plain words: which one is the earliest that fails, and what the refusal of a table means. Assumes nothing.
use Rattle.std.specs.Prelude.{List, [], ◌∷◌, ◌++◌, map, ◌≡◌, ℕ, ◌*◌, ◌≤◌, ◌<◌, length, get_or}
use Rattle.std.proofs.Math.Option.{none, some}
use Rattle.semigroups.specs.Lists.{at}
use Rattle.semigroups.specs.ListsLaws.{Earliest}
use Rattle.semigroups.specs.Tables.{largest_order, product, Element}
use Rattle.semigroups.specs.TablesLaws.{FailingTriple}
use Rattle.semigroups.specs.Questions.{Refusal, Question}
use Rattle.semigroups.specs.InnerQuestions.{no}

-- ---- a refusal

-- Every question of a list passes.
abbrev pub Passed : List Question → Type 0
Passed [] = Unit {0}
Passed (q ∷ qs) = (q.fails ≡ none) × Passed qs

-- r is the refusal by the earliest question that fails: that question has a place in the list, and every question before it passes.
pub record EarliestNo (qs : List Question) (r : Refusal) : Type 0 where
  pub before : List Question
  pub question : Question
  pub following : List Question
  pub place : qs ≡ before ++ question ∷ following
  pub passed : Passed before
  pub fails : question.fails ≡ some r.values
  pub number : question.number ≡ r.number
  pub side : question.side ≡ r.side

-- The numbers of a list of questions.
abbrev pub numbers : List Question → List ℕ
numbers qs = map (λ q. q.number) qs

-- ---- about a table

-- What the refusal of a table means: the earliest question that fails, with the earliest cell or triple.
pub data Refused (n : ℕ) (cells : List ℕ) : Refusal → Type 0 where
  wrong_order : (Element largest_order n → ⊥) → Refused n cells (no 1 [])
  wrong_size : Element largest_order n → (length cells ≡ n * n → ⊥) → Refused n cells (no 2 [])
  wrong_cell : (k : ℕ) → Element largest_order n → length cells ≡ n * n → Element (length cells) k → (Element n (at cells k) → ⊥) → ((j : ℕ) → 1 ≤ j → j < k → Element n (at cells j))
      → Refused n cells (no 3 (k ∷ []))
  wrong_triple : (l : List ℕ) → Element largest_order n → length cells ≡ n * n → ((k : ℕ) → k < length cells → Element n (get_or cells k 0)) → Earliest (FailingTriple n (product n cells)) l
      → Refused n cells (no 4 l)
