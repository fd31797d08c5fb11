-- `search_kind` meets its contract: it makes the search of the kind that it is told. Assumes nothing.
use mathlib.Core.Path.{◌≡◌, sym, ap, ◌∙◌}
use Rattle.semigroups.specs.Calls.{Answer}
use Rattle.std.specs.Prelude.{Result}
use Rattle.backtrack.specs.declared.Ended.{Ended}
use Rattle.backtrack.specs.declared.Stopped.{Stopped}
use Rattle.semigroups.specs.Maps as maps
use Rattle.kinds.specs.Answers.{kind_of}
use Rattle.kinds.specs.declared.Kind.{Kind}
use Rattle.calls.specs.Calls.{Called, lend}
use Rattle.kinds.specs.InnerSearching.{searched}
use borrow.Author.Rules.{rules}
use Rattle.kinds.proofs.search_kind.Statement.{statement}
use Rattle.kinds.proofs.search_kind.Tie as tie

abbrev asked : tie.Start → maps.Kind → Called (Answer (Result Ended Stopped))
asked s kind = let a = s.args in searched kind a.next a.limit (lend a.source.now a.m a.target.now a.n a.map.now a.scratch.now)

-- What is asked for stays the same once the kind is known.
as_asked : (s : tie.Start) {kind : Kind} → s.args.kind ≡ kind → asked s (kind_of kind) ≡ asked s (kind_of s.args.kind)
as_asked s e = ap (λ (k : Kind). asked s (kind_of k)) (sym e)

returns-in-Embeddings : tie.Need-returns-in-Embeddings
returns-in-Embeddings c = c.search_straight.ensures ∙ as_asked c.before.before.before.before.before.before.before.before.before.before.before.before c.in-Embeddings.is

returns-in-Isomorphisms : tie.Need-returns-in-Isomorphisms
returns-in-Isomorphisms c = c.search_straight-in-Isomorphisms.ensures ∙ as_asked c.before.before.before.before.before.before.before.before.before.before.before.before c.in-Isomorphisms.is

returns-in-Reversed : tie.Need-returns-in-Reversed
returns-in-Reversed c = c.search_reversed.ensures ∙ as_asked c.before.before.before.before.before.before.before.before.before.before.before.before c.in-Reversed.is

pub search_kind_spec : {M : Type 1} → statement M
search_kind_spec =
    tie.close
    (tie.spec
    (λ c. search rules)
    (λ c κs. search rules)
    (λ c. search rules)
    (λ c κs. search rules)
    (λ c. search rules)
    (λ c κs. search rules)
    (λ c. search rules)
    (λ c. search rules)
    returns-in-Embeddings
    (λ c. search rules)
    (λ c. search rules)
    returns-in-Isomorphisms
    (λ c. search rules)
    (λ c. search rules)
    returns-in-Reversed)
