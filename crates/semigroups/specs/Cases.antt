-- The worked cases (RULES 23.2): thirteen, each a query and its result. The results come from the definitions that contracts cite.
-- Assumes nothing.
use Rattle.std.specs.Prelude.{◌≡◌, ℕ, length, replicate}
use mathlib.Core.List.{List, [], ◌∷◌, map, Memᴰ}
use Rattle.std.proofs.Math.Option.{Option, none, some}
use Rattle.semigroups.specs.Lists.{elements}
use Rattle.semigroups.specs.Tables.{product, Accepted}
use Rattle.semigroups.specs.Questions.{Refusal, table_refusal}
use Rattle.semigroups.specs.InnerQuestions.{no}
use Rattle.semigroups.specs.Invariants.{IndexPeriod, Profile, index_period, profile}
use Rattle.semigroups.specs.Maps.{Kind, embeddings, isomorphisms, maps, Ask, first, next, earliest}
use Rattle.semigroups.specs.Transformations.{transformation_order, transformation_cells}

-- ---- the tables

-- A table: its order and its cells.
pub record Table : Type 0 where
  pub order : ℕ
  pub cells : List ℕ

-- The tables of RULES 23.1: one, swap, left, right and null3; after them two and mat5.
abbrev pub one : Table
one = record { order = 1; cells = 1 ∷ [] }

abbrev pub swap : Table
swap = record { order = 2; cells = 1 ∷ 2 ∷ 2 ∷ 1 ∷ [] }

abbrev pub left : Table
left = record { order = 2; cells = 1 ∷ 1 ∷ 2 ∷ 2 ∷ [] }

abbrev pub right : Table
right = record { order = 2; cells = 1 ∷ 2 ∷ 1 ∷ 2 ∷ [] }

abbrev pub null3 : Table
null3 = record { order = 3; cells = replicate 9 1 }

-- The degree 2 table.
unfoldable pub two : Table
two = record { order = transformation_order 2; cells = transformation_cells 2 }

-- The table of arXiv 1603.06204, example 5.2.
abbrev pub mat5 : Table
mat5 = record { order = 5; cells = 1 ∷ 1 ∷ 1 ∷ 1 ∷ 1 ∷ 1 ∷ 2 ∷ 3 ∷ 2 ∷ 3 ∷ 1 ∷ 1 ∷ 1 ∷ 2 ∷ 3 ∷ 1 ∷ 4 ∷ 5 ∷ 4 ∷ 5 ∷ 1 ∷ 1 ∷ 1 ∷ 4 ∷ 5 ∷ [] }

-- All of these tables.
abbrev pub tables : List Table
tables = one ∷ swap ∷ left ∷ right ∷ null3 ∷ two ∷ mat5 ∷ []

-- ---- the queries

-- What a case asks.
pub data Query : Type 0 where
  is_accepted : Table → Query
  index_period_of : Table → ℕ → Query
  profile_of : Table → ℕ → Query
  -- the maps of a kind from one table to another, asked for in turn
  maps_of : Kind → Table → Table → List Ask → Query

-- What a case says.
pub data Result : Type 0 where
  a_refusal : Option Refusal → Result
  an_index_period : IndexPeriod → Result
  a_profile : Profile → Result
  maps_in_turn : List (Option (List ℕ)) → Result

-- The result of a query, by the definitions that contracts cite.
unfoldable pub result : Query → Result
result (is_accepted t) = a_refusal (table_refusal t.order t.cells)
result (index_period_of t a) = an_index_period (index_period t.order (product t.order t.cells) a)
result (profile_of t a) = a_profile (profile t.order (product t.order t.cells) a)
result (maps_of kind s t asks) =
    let l = maps kind s.order (product s.order s.cells) t.order (product t.order t.cells) in
    maps_in_turn (map (λ ask. earliest ask l) asks)

-- A case: its query, and the result that RULES 23.2 gives.
pub record Case : Type 0 where
  pub asks : Query
  pub says : Result

-- The thirteen cases of RULES 23.2.
unfoldable pub cases : List Case
cases =
    record { asks = is_accepted (record { order = 2; cells = 2 ∷ 1 ∷ 1 ∷ 1 ∷ [] }); says = a_refusal (some (no 4 (1 ∷ 1 ∷ 2 ∷ []))) }
    ∷ record { asks = is_accepted (record { order = 2; cells = 1 ∷ 3 ∷ 1 ∷ 1 ∷ [] }); says = a_refusal (some (no 3 (2 ∷ []))) }
    ∷ record { asks = is_accepted (record { order = 0; cells = [] }); says = a_refusal (some (no 1 [])) }
    ∷ record { asks = index_period_of mat5 3; says = an_index_period (record { index = 2; period = 1; idempotent = 1 }) }
    ∷ record { asks = profile_of mat5 4; says = a_profile (record { powers = record { index = 1; period = 1; idempotent = 4 }; frequency = 3; diagonal = 1; row = 2; column = 2; commuting = 2 }) }
    ∷ record { asks = maps_of embeddings swap two (first ∷ next (2 ∷ 3 ∷ []) ∷ []); says = maps_in_turn (some (2 ∷ 3 ∷ []) ∷ none ∷ []) }
    ∷ record { asks = maps_of embeddings right two (first ∷ next (1 ∷ 4 ∷ []) ∷ next (4 ∷ 1 ∷ []) ∷ []); says = maps_in_turn (some (1 ∷ 4 ∷ []) ∷ some (4 ∷ 1 ∷ []) ∷ none ∷ []) }
    ∷ record { asks = maps_of embeddings left two (first ∷ []); says = maps_in_turn (none ∷ []) }
    ∷ record { asks = maps_of embeddings one two (first ∷ next (1 ∷ []) ∷ next (2 ∷ []) ∷ next (4 ∷ []) ∷ []); says = maps_in_turn (some (1 ∷ []) ∷ some (2 ∷ []) ∷ some (4 ∷ []) ∷ none ∷ []) }
    ∷ record { asks = maps_of isomorphisms two two (first ∷ next (1 ∷ 2 ∷ 3 ∷ 4 ∷ []) ∷ next (4 ∷ 2 ∷ 3 ∷ 1 ∷ []) ∷ []); says = maps_in_turn (some (1 ∷ 2 ∷ 3 ∷ 4 ∷ []) ∷ some (4 ∷ 2 ∷ 3 ∷ 1 ∷ []) ∷ none ∷ []) }
    ∷ record { asks = maps_of isomorphisms null3 null3 (first ∷ next (1 ∷ 2 ∷ 3 ∷ []) ∷ next (1 ∷ 3 ∷ 2 ∷ []) ∷ next (1 ∷ 2 ∷ 200 ∷ []) ∷ []); says = maps_in_turn (some (1 ∷ 2 ∷ 3 ∷ []) ∷ some (1 ∷ 3 ∷ 2 ∷ []) ∷ none ∷ some (1 ∷ 3 ∷ 2 ∷ []) ∷ []) }
    ∷ record { asks = maps_of isomorphisms mat5 mat5 (first ∷ next (1 ∷ 2 ∷ 3 ∷ 4 ∷ 5 ∷ []) ∷ []); says = maps_in_turn (some (1 ∷ 2 ∷ 3 ∷ 4 ∷ 5 ∷ []) ∷ none ∷ []) }
    ∷ record { asks = maps_of embeddings two swap (first ∷ []); says = maps_in_turn (none ∷ []) }
    ∷ []

-- ---- the claim that they share

-- What is claimed of the thirteen cases.
pub record Worked : Type 0 where
  pub thirteen : length cases ≡ 13
  -- By the definitions, each query's result is the one that is given beside it.
  pub results : (c : Case) → Memᴰ c cases → result c.asks ≡ c.says
  -- Each named table is accepted.
  pub accepted : (t : Table) → Memᴰ t tables → Accepted t.order t.cells
  -- The degree 2 table has the cells that RULES 23.1 prints.
  pub two_printed : two ≡ record { order = 4; cells = 1 ∷ 1 ∷ 4 ∷ 4 ∷ 1 ∷ 2 ∷ 3 ∷ 4 ∷ 1 ∷ 3 ∷ 2 ∷ 4 ∷ 1 ∷ 4 ∷ 1 ∷ 4 ∷ [] }
  -- The tables of transformations (RULES 14.3) have orders 1, 4 and 27, and 1, 16 and 729 cells.
  pub degrees_printed : map (λ d. transformation_order d ∷ length (transformation_cells d) ∷ []) (elements 3) ≡ (1 ∷ 1 ∷ []) ∷ (4 ∷ 16 ∷ []) ∷ (27 ∷ 729 ∷ []) ∷ []
