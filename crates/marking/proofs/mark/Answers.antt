-- Each kind has its own candidates.
use Rattle.std.proofs.Common.{ℕ, List, Bool, ap, sym, ◌∙◌}
use Rattle.semigroups.specs.InnerSearch.{plain_kind}
use Rattle.semigroups.specs.Tables.{product}
use Rattle.semigroups.specs.InnerCalls.{scratch_after}
use Rattle.semigroups.specs.Candidates.{candidate}
use Rattle.marking.proofs.mark.Goals as goal

-- Scratch once the marks of a kind are written.
abbrev filled : ℕ → List ℕ → ℕ → List ℕ → List ℕ → Bool → List ℕ
filled m source n target scratch onto = scratch_after m n (candidate (plain_kind onto) m (product m source) n (product n target)) scratch

pub returns-then-onto : goal.returns-then-onto
returns-then-onto c = let a = c.args in record { scratch = c.fill_isomorphisms.ensures.scratch ∙ ap (filled a.m a.source.now a.n a.target.now a.scratch.now) (sym c.if-onto.true) }

pub returns-else-onto : goal.returns-else-onto
returns-else-onto c = let a = c.args in record { scratch = c.fill_embeddings.ensures.scratch ∙ ap (filled a.m a.source.now a.n a.target.now a.scratch.now) (sym c.if-onto.false) }
