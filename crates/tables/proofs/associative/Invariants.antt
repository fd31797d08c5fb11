-- The first failing triple is the first one from here on, and none was found.
use Rattle.std.proofs.Common.{◌≡◌}
use Rattle.std.specs.Prelude.{Ok}
use Rattle.semigroups.specs.Tables.{bad_triple}
use Rattle.products.specs.Tables.{times_of}
use Rattle.products.proofs.Triples.{from_first, from_pair, from_triple, fails}
use Rattle.tables.proofs.associative.Given as goal

abbrev pub invariant-loop-k : goal.invariant-loop-k
invariant-loop-k l = record {
  none_yet : l.answer ≡ Ok tt;
  rest : bad_triple l.n (times_of l.table) ≡ from_triple (fails (times_of l.table)) l.n l.i l.j l.k;
}

abbrev pub invariant-loop-j : goal.invariant-loop-j
invariant-loop-j l = record {
  none_yet : l.answer ≡ Ok tt;
  rest : bad_triple l.n (times_of l.table) ≡ from_pair (fails (times_of l.table)) l.n l.i l.j;
}

abbrev pub invariant-triples : goal.invariant-triples
invariant-triples l = record {
  none_yet : l.answer ≡ Ok tt;
  rest : bad_triple l.n (times_of l.table) ≡ from_first (fails (times_of l.table)) l.n l.i;
}
