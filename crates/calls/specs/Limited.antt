-- A call of a search with a limit (RULES 9.4), and the work that it takes. One definition serves every kind (RULES 9.8). Assumes nothing.
use Rattle.std.specs.Prelude.{cond, [], ℕ}
use Rattle.std.proofs.Math.Option.{none}
use Rattle.semigroups.specs.Tables.{Product, product, turned}
use Rattle.semigroups.specs.Calls.{Answer}
use Rattle.semigroups.specs.Maps.{Kind, embeddings, isomorphisms, reversed}
use Rattle.semigroups.specs.Candidates.{candidate}
use Rattle.semigroups.specs.Trials.{Work, work, Limited, limited, found_within, search_work}
use Rattle.calls.specs.Kinds.{order_fits}
use Rattle.calls.specs.Calls.{Lent, Called, refusal_of, leaving, marks_of}

-- The target's product as a search of the kind tests it: for reversed maps, with its factors exchanged (RULES 10.2).
abbrev pub read_by : Kind → Product → Product
read_by embeddings t = t
read_by isomorphisms t = t
read_by reversed t = turned t

-- The work of the search for the first map of the kind. If the orders rule a map out (m > n; for isomorphisms, plain and reversed, m different from n), there
-- is no trial and no map (RULES 9.7).
unfoldable pub first_work : Kind → Lent → Work
first_work kind l =
    let s = product l.m l.source in
    let t = product l.n l.target in
    let searched = search_work s (read_by kind t) (candidate kind l.m s l.n t) l.n l.m [] in
    cond (order_fits kind l.m l.n) searched (work none 0)

-- What a call of a search with a limit says and leaves.
unfoldable pub limited_call : Kind → ℕ → Lent → Called (Answer Limited)
limited_call kind limit l = let w = first_work kind l in leaving (marks_of kind l) l (refusal_of l) (limited limit w) (found_within limit w)
