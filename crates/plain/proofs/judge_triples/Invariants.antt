-- The invariant: what is said is what is said of the triples from number k on.
use Rattle.std.proofs.Common.{◌≡◌}
use Rattle.std.proofs.Math.Option
use Rattle.semigroups.specs.Tables.{bad_triple}
use Rattle.semigroups.specs.InnerQuestions.{no}
use Rattle.plain.specs.InnerSaid.{said_of}
use Rattle.plain.specs.InnerTables.{product_of}
use Rattle.plain.proofs.Triples.{triples_from}
use Rattle.plain.proofs.judge_triples.Given as goal

abbrev pub invariant-loop-k : goal.invariant-loop-k
invariant-loop-k l = said_of (Option.map (λ q. no 4 q) (bad_triple l.table.order (product_of l.table))) ≡ triples_from l.table.order (product_of l.table) l.k
