-- What is compared of the first embedding of swap in two. Scratch is the first bytes of an array of 3. Assumes nothing.
use Rattle.std.specs.Prelude.{List, [], ◌∷◌, ◌++◌, ℕ, Bool, Result, take, drop, replicate}
use Rattle.semigroups.specs.Calls.{Answer}
use Rattle.semigroups.specs.Maps.{embeddings, Sought, first}
use Rattle.semigroups.specs.Copies.{same_list}
use Rattle.judging.specs.InnerTally.{counted}
use Rattle.judging.specs.declared.tally.Tally.{Tally}
use Rattle.calls.specs.Calls.{Called, lend, call}
use Rattle.comparisons.specs.InnerSaid.{search_said, same_search}

-- 1,2 / 2,1
abbrev swap_cells : List ℕ
swap_cells = 1 ∷ 2 ∷ 2 ∷ 1 ∷ []

-- 1,1,4,4 / 1,2,3,4 / 1,3,2,4 / 1,4,1,4
abbrev two_cells : List ℕ
two_cells = 1 ∷ 1 ∷ 4 ∷ 4 ∷ 1 ∷ 2 ∷ 3 ∷ 4 ∷ 1 ∷ 3 ∷ 2 ∷ 4 ∷ 1 ∷ 4 ∷ 1 ∷ 4 ∷ []

-- mat5 (1603.06204, example 5.2)
abbrev pub mat5_cells : List ℕ
mat5_cells = 1 ∷ 1 ∷ 1 ∷ 1 ∷ 1 ∷ 1 ∷ 2 ∷ 3 ∷ 2 ∷ 3 ∷ 1 ∷ 1 ∷ 1 ∷ 2 ∷ 3 ∷ 1 ∷ 4 ∷ 5 ∷ 4 ∷ 5 ∷ 1 ∷ 1 ∷ 1 ∷ 4 ∷ 5 ∷ []

-- The call, with this many bytes of scratch.
abbrev embedded_call : ℕ → Called (Answer Sought)
embedded_call size = call embeddings first (lend swap_cells 2 two_cells 4 (0 ∷ 0 ∷ []) (take size (replicate 3 255)))

-- The tally after three comparisons: of the answer, of the map buffer, and of the array of 3 bytes that scratch is the start of.
abbrev pub embedded_tally : ℕ → Result Bool ℕ → List ℕ → List ℕ → Tally → Tally
embedded_tally size said bytes scratch t =
    let c = embedded_call size in
    counted (counted (counted t (same_search (search_said c.says) said)) (same_list c.map_bytes bytes)) (same_list (c.scratch ++ drop size (replicate 3 255)) scratch)
