-- Further rules about tables and maps (RULES 8.1, 10, 15, 16 and 18): what each asks to be shown, for any order.
-- Assumes nothing.
use Rattle.std.specs.Prelude.{◌≡◌, true, ◌&&◌, ◌↔◌, List, ℕ, eqb}
use Rattle.std.proofs.Math.Option.{none, some}
use Rattle.semigroups.specs.Tables.{Product}
use Rattle.semigroups.specs.Questions.{Refusal}
use Rattle.semigroups.specs.Invariants.{index, period, commuting}
use Rattle.semigroups.specs.Maps.{embeddings, isomorphisms, reversed}
use Rattle.semigroups.specs.Candidates.{candidate}
use Rattle.semigroups.specs.GeneratedLaws.{GeneratedTheorem}
use Rattle.semigroups.specs.LightLaws.{LightsLaw, LightsTheorem, GeneratorsPass, GeneratorsRefused, EmptyRefused}
use Rattle.semigroups.specs.Light.{generators_refusal}
use Rattle.semigroups.specs.ReversedLaws.{ReversedTheorem}
use Rattle.semigroups.specs.SubsemigroupsLaws.{SubsemigroupTheorem}
use Rattle.semigroups.specs.CopiesLaws.{CopiesTheorem}

-- What these rules ask to be shown.
pub record TableRequests : Type 1 where
  -- RULES 15.1: the elements that a list generates are "the smallest set that holds the list and every product of the set's own members".
  pub generated : GeneratedTheorem
  -- RULES 15.2: the shorter check finds a table associative exactly when the full check does; what passes its questions, and what each refusal says.
  pub light : LightsLaw
  pub shorter_check : LightsTheorem
  pub generators_pass : (n : ℕ) (cells l : List ℕ) → (generators_refusal n cells l ≡ none) ↔ GeneratorsPass n cells l
  pub generators_refused : (n : ℕ) (cells l : List ℕ) (r : Refusal) → (generators_refusal n cells l ≡ some r) ↔ GeneratorsRefused n cells l r
  -- RULES 15.4: an empty list does not pass question 51.
  pub empty_list : EmptyRefused
  -- RULES 10: reversed isomorphisms: their full lists, their composites, their profiles.
  pub reversed_maps : ReversedTheorem
  -- RULES 8.1: an element and its candidate for isomorphisms, plain or reversed, commute with equally many elements; for embeddings index and period of the two
  -- are compared, and nothing else.
  pub commuting_equal : (m : ℕ) (s : Product) (n : ℕ) (t : Product) (i j : ℕ) → candidate isomorphisms m s n t i j ≡ true → commuting m s i ≡ commuting n t j
  pub commuting_equal_reversed : (m : ℕ) (s : Product) (n : ℕ) (t : Product) (i j : ℕ) → candidate reversed m s n t i j ≡ true → commuting m s i ≡ commuting n t j
  pub embedding_candidates : (m : ℕ) (s : Product) (n : ℕ) (t : Product) (i j : ℕ)
      → candidate embeddings m s n t i j ≡ (eqb (index m s i) (index n t j) && eqb (period m s i) (period n t j))
  -- RULES 16: the smallest part, its elements in rising order, its table accepted, the list an embedding; and nothing else is given.
  pub part : SubsemigroupTheorem
  -- RULES 18: the number of copies.
  pub copies_counted : CopiesTheorem
