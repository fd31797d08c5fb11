-- The first failing triple is the first one from here on, and none was found.
use Rattle.std.proofs.Common.{◌≡◌}
use Rattle.std.specs.Prelude.{Ok}
use Rattle.semigroups.specs.Light.{bad_triple_through}
use Rattle.products.specs.Tables.{times_of}
use Rattle.products.proofs.Triples.{from_first, from_pair}
use Rattle.generated.proofs.Questions.{fails_through}
use Rattle.generated.proofs.associative_through.Given as goal

abbrev pub invariant-loop-j : goal.invariant-loop-j
invariant-loop-j l = record {
  none_yet : l.answer ≡ Ok tt;
  rest : bad_triple_through l.n (times_of l.table) l.list ≡ from_pair (fails_through (times_of l.table) l.list) l.n l.i l.j;
}

abbrev pub invariant-triples : goal.invariant-triples
invariant-triples l = record {
  none_yet : l.answer ≡ Ok tt;
  rest : bad_triple_through l.n (times_of l.table) l.list ≡ from_first (fails_through (times_of l.table) l.list) l.n l.i;
}
