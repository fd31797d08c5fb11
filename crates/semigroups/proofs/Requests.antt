-- These rules about tables and maps hold: each field is a law of its subject, with instances beside it there. Assumes nothing.
use mathlib.Core.Path.{◌≡◌}
use mathlib.Core.Bool.{true, ◌&&◌}
use borrow.Author.Tests.{eqb-true}
use lib.Dec.{eqb}
use Rattle.semigroups.specs.Invariants.{Profile, same_index_period, same_profile, profile}
use Rattle.semigroups.specs.Candidates.{candidate}
use Rattle.semigroups.specs.Requests.{TableRequests}
use Rattle.semigroups.proofs.Booleans.{and_right}
use Rattle.semigroups.proofs.Generated.{generated_theorem}
use Rattle.semigroups.proofs.Light.{lights_law, lights_theorem, generators_pass, generators_refused, empty_refused}
use Rattle.semigroups.proofs.Reversed.{reversed_theorem}
use Rattle.semigroups.proofs.Candidates.{embedding_candidate}
use Rattle.semigroups.proofs.Subsemigroups.{subsemigroup_theorem}
use Rattle.semigroups.proofs.Copies.{copies_theorem}

-- Equal profiles have equal counts of commuting elements.
commuting_same : (a b : Profile) → same_profile a b ≡ true → a.commuting ≡ b.commuting
unfolding same_profile
commuting_same a b e =
    let count = eqb a.commuting b.commuting in
    let column = eqb a.column b.column && count in
    let row = eqb a.row b.row && column in
    let diagonal = eqb a.diagonal b.diagonal && row in
    let frequency = eqb a.frequency b.frequency && diagonal in
    eqb-true a.commuting b.commuting
    (and_right (eqb a.column b.column) count (and_right (eqb a.row b.row) column (and_right (eqb a.diagonal b.diagonal) row
    (and_right (eqb a.frequency b.frequency) diagonal (and_right (same_index_period a.powers b.powers) frequency e)))))

pub table_requests : TableRequests
unfolding candidate profile
table_requests =
    record {
      generated = generated_theorem;
      light = lights_law;
      shorter_check = lights_theorem;
      generators_pass = generators_pass;
      generators_refused = generators_refused;
      empty_list = empty_refused;
      reversed_maps = reversed_theorem;
      commuting_equal = λ m s n t i j e. commuting_same _ _ e;
      commuting_equal_reversed = λ m s n t i j e. commuting_same _ _ e;
      embedding_candidates = embedding_candidate;
      part = subsemigroup_theorem;
      copies_counted = copies_theorem;
    }
