-- What is claimed of the shorter check of a table (RULES 15): Light's law, and what a refusal says.
-- Assumes nothing.
use Rattle.std.specs.Prelude.{◌≡◌, true, ◌⊎◌, ◌↔◌, ℕ}
use mathlib.Core.List.{List, [], Memᴰ}
use Rattle.std.proofs.Math.Option.{none, some}
use Rattle.semigroups.specs.Lists.{at, earlier}
use Rattle.semigroups.specs.ListsLaws.{Earliest}
use Rattle.semigroups.specs.Tables.{Product, product, Element, Associative, Filled, Accepted}
use Rattle.semigroups.specs.TablesLaws.{Closed, FailingTriple}
use Rattle.semigroups.specs.Questions.{Refusal, table_refusal}
use Rattle.semigroups.specs.InnerQuestions.{no, cells_refusal}
use Rattle.semigroups.specs.InnerGenerated.{Inside}
use Rattle.semigroups.specs.Generated.{generated}
use Rattle.semigroups.specs.Light.{generators_refusal}

-- Every element is generated.
abbrev pub Generates : ℕ → Product → List ℕ → Type 0
Generates n s l = (x : ℕ) → Element n x → Memᴰ x (generated n s l)

-- Every triple of elements with its middle on the list associates.
abbrev pub AssociativeThrough : ℕ → Product → List ℕ → Type 0
AssociativeThrough n s l = (i j k : ℕ) → Element n i → Memᴰ j l → Element n k → s (s i j) k ≡ s i (s j k)

-- Light's law, for any order and any product that stays within it: if the list generates every element, the triples with their middle on it decide whether
-- the product is associative.
abbrev pub LightsLaw : Type 0
LightsLaw = (n : ℕ) (s : Product) (l : List ℕ) → Closed n s → Inside n l → Generates n s l → Associative n s ↔ AssociativeThrough n s l

-- The triple t has its middle on the list and does not associate.
pub record FailingThrough (n : ℕ) (s : Product) (l t : List ℕ) : Type 0 where
  pub failing : FailingTriple n s t
  pub middle : Memᴰ (at t 2) l

-- What passes the questions: an accepted table, and a list of its elements that generates all of them.
pub record GeneratorsPass (n : ℕ) (cells l : List ℕ) : Type 0 where
  pub table : Accepted n cells
  pub inside : Inside n l
  pub generates : Generates n (product n cells) l

-- What a refusal says: the earliest question that fails, and for question 4 the earliest triple.
pub data GeneratorsRefused (n : ℕ) (cells l : List ℕ) : Refusal → Type 0 where
  wrong_cells : (r : Refusal) → cells_refusal n cells ≡ some r → GeneratorsRefused n cells l r
  wrong_entry : Filled n cells → (Inside n l → ⊥) → GeneratorsRefused n cells l (no 50 [])
  not_generated : Filled n cells → Inside n l → (Generates n (product n cells) l → ⊥) → GeneratorsRefused n cells l (no 51 [])
  wrong_triple : (t : List ℕ) → Filled n cells → Inside n l → Generates n (product n cells) l → Earliest (FailingThrough n (product n cells) l) t
      → GeneratorsRefused n cells l (no 4 t)

-- The shorter check compared with the full one: it accepts exactly the tables that the full one accepts, and its triple is never earlier than that of the
-- full check.
pub record LightsTest (n : ℕ) (cells l : List ℕ) : Type 0 where
  pub accepts : (generators_refusal n cells l ≡ none) ↔ (table_refusal n cells ≡ none)
  pub refuses_later : (t : List ℕ) → generators_refusal n cells l ≡ some (no 4 t)
      → (u : List ℕ) × (table_refusal n cells ≡ some (no 4 u)) × ((t ≡ u) ⊎ (earlier u t ≡ true))

-- What `LightsTest` claims holds for every table that passes questions 1 to 3 with a list that passes questions 50 and 51.
abbrev pub LightsTheorem : Type 0
LightsTheorem = (n : ℕ) (cells l : List ℕ) → Filled n cells → Inside n l → Generates n (product n cells) l → LightsTest n cells l

-- For every table that passes questions 1 to 3, an empty list is refused by question 51 (RULES 15.4).
abbrev pub EmptyRefused : Type 0
EmptyRefused = (n : ℕ) (cells : List ℕ) → Filled n cells → generators_refusal n cells [] ≡ some (no 51 [])
