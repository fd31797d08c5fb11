-- One call of a search as the walks make it (RULES 6): on the first m bytes of an array of 5, with a scratch buffer of 140 bytes; and how many calls
-- the walks make. Assumes nothing.
use Rattle.std.specs.Prelude.{Bool, List, ◌++◌, ℕ, zero, suc, ◌+◌, ◌*◌, ◌^◌, take, drop, replicate}
use Rattle.std.proofs.Math.Option.{Option, none, some}
use Rattle.semigroups.specs.Lists.{earlier, count}
use Rattle.semigroups.specs.Tables.{product}
use Rattle.semigroups.specs.Questions.{Refusal, table_refusal}
use Rattle.semigroups.specs.Calls.{Answer, refused, gives}
use Rattle.semigroups.specs.Maps.{Kind, embeddings, isomorphisms, maps, Sought, found, nothing}
use Rattle.plain.specs.InnerEnumeration.{numbered}
use Rattle.backtrack.specs.InnerState.{bounded}
use Rattle.calls.specs.Calls.{Called, lend, call}

-- What the call says and leaves. The flag asks for the next map, else for the first.
abbrev pub walk_call : Kind → Bool → List ℕ → ℕ → List ℕ → ℕ → List ℕ → Called (Answer Sought)
walk_call kind next source m target n before = call kind (bounded next (take m before)) (lend source m target n (take m before) (replicate 140 7))

-- The array, if a map is found.
abbrev pub where_found : Answer Sought → List ℕ → Option (List ℕ)
where_found (gives found) l = some l
where_found (gives nothing) l = none
where_found (refused r) l = none

-- The array as the call leaves it, if it finds a map.
unfoldable pub walk_found : Kind → Bool → List ℕ → ℕ → List ℕ → ℕ → List ℕ → Option (List ℕ)
walk_found kind next source m target n before =
    let c = walk_call kind next source m target n before in
    where_found c.says (c.map_bytes ++ drop m before)

-- The full list of maps of the kind.
abbrev pub compared_maps : Kind → List ℕ → ℕ → List ℕ → ℕ → List (List ℕ)
compared_maps kind source m target n = maps kind m (product m source) n (product n target)

-- How many maps are later than the first m bytes of an array.
unfoldable pub later_maps : Kind → List ℕ → ℕ → List ℕ → ℕ → List ℕ → ℕ
later_maps kind source m target n before = count (earlier (take m before)) (compared_maps kind source m target n)

-- How many calls a walk makes: one for the first map, one for each later map, and one more, which answers none.
abbrev pub walk_calls : Kind → List ℕ → ℕ → List ℕ → ℕ → List ℕ → ℕ
walk_calls kind source m target n before = suc (suc (later_maps kind source m target n before))

-- ---- every table of order 1 to 3

-- The number of calls, or 0 for a table that is not accepted, since it is left out.
abbrev pub where_accepted : Option Refusal → ℕ → ℕ
where_accepted none calls = calls
where_accepted (some r) calls = 0

-- How many calls compare the searches for embeddings and for isomorphisms from one table to another.
abbrev pub calls_between : List ℕ → ℕ → List ℕ → ℕ → ℕ
calls_between source m target n =
    where_accepted (table_refusal n target) (walk_calls isomorphisms source m target n (replicate 5 0) + walk_calls embeddings source m target n (replicate 5 0))

-- How many calls compare a table with the first k tables of order n.
unfoldable pub calls_to : List ℕ → ℕ → ℕ → ℕ → ℕ
calls_to source m n zero = 0
calls_to source m n (suc k) = calls_between source m (numbered (n * n) n k) n + calls_to source m n k

-- How many calls compare the first k tables of order m with every table of order n.
unfoldable pub calls_from : ℕ → ℕ → ℕ → ℕ
calls_from m n zero = 0
calls_from m n (suc k) =
    let source = numbered (m * m) m k in
    where_accepted (table_refusal m source) (calls_to source m n (n ^ (n * n))) + calls_from m n k
