-- `maps` meets its contract: the tables are accepted, every call agrees, and the full lists have as many maps as RULES 23.2 gives. Assumes nothing.
use mathlib.Core.Path.{◌≡◌, refl}
use borrow.Author.Rules.{rules}
use mathlib.Core.List.{List, [], ◌∷◌, flat_map}
use Prim.Native.Nat.{ℕ}
use lib.ListN.{replicate}
use Rattle.semigroups.specs.Lists.{range, elements, at, all, find, keep, sum, count, member, distinct, earlier, lists}
use Rattle.semigroups.specs.Tables.{product, is_element}
use Rattle.semigroups.specs.Maps.{embeddings, isomorphisms, is_homomorphism, is_embedding, is_isomorphism, maps}
use Rattle.cases.specs.InnerEmbedded.{mat5_cells}
use Rattle.judging.specs.InnerTally.{empty, agreed}
use Rattle.comparisons.specs.InnerWalking.{later_maps, walk_calls}
use Rattle.judging.proofs.Counting.{calls_more}
use Rattle.cases.proofs.Tables.{one, one_table, swap, swap_table, right, right_table, left, left_table, null, null_table, two, two_table, mat5_table}
use Rattle.cases.proofs.worked.maps.Goals as goal

abbrev zeros : List ℕ
zeros = replicate 5 0

-- How many calls each walk makes, in turn; case 11 is walked twice.
walks :
    (walk_calls embeddings swap 2 two 4 zeros ≡ 3)
    × (walk_calls embeddings right 2 two 4 zeros ≡ 4)
    × (walk_calls embeddings left 2 two 4 zeros ≡ 2)
    × (walk_calls embeddings one 1 two 4 zeros ≡ 5)
    × (walk_calls isomorphisms two 4 two 4 zeros ≡ 4)
    × (walk_calls isomorphisms null 3 null 3 zeros ≡ 4)
    × (walk_calls isomorphisms null 3 null 3 (1 ∷ 2 ∷ 200 ∷ 0 ∷ 0 ∷ []) ≡ 3)
    × (walk_calls isomorphisms mat5_cells 5 mat5_cells 5 zeros ≡ 3)
    × (walk_calls embeddings two 4 swap 2 zeros ≡ 2)
unfolding later_maps range elements at all find keep sum count member distinct earlier lists product is_element is_homomorphism is_embedding is_isomorphism maps flat_map
walks = (refl, refl, refl, refl, refl, refl, refl, refl, refl)

pub invariant_of-swap_in_two : goal.invariant_of-swap_in_two
invariant_of-swap_in_two c = record { source_accepted = swap_table; target_accepted = two_table; small = search rules }

pub invariant_of-right_in_two : goal.invariant_of-right_in_two
invariant_of-right_in_two c = record { source_accepted = right_table; target_accepted = two_table; small = search rules }

pub invariant_of-left_in_two : goal.invariant_of-left_in_two
invariant_of-left_in_two c = record { source_accepted = left_table; target_accepted = two_table; small = search rules }

pub invariant_of-one_in_two : goal.invariant_of-one_in_two
invariant_of-one_in_two c = record { source_accepted = one_table; target_accepted = two_table; small = search rules }

pub invariant_of-two_onto_two : goal.invariant_of-two_onto_two
invariant_of-two_onto_two c = record { source_accepted = two_table; target_accepted = two_table; small = search rules }

pub invariant_of-null3_onto_null3 : goal.invariant_of-null3_onto_null3
invariant_of-null3_onto_null3 c = record { source_accepted = null_table; target_accepted = null_table; small = search rules }

pub invariant_of-mat5_onto_mat5 : goal.invariant_of-mat5_onto_mat5
invariant_of-mat5_onto_mat5 c = record { source_accepted = mat5_table; target_accepted = mat5_table; small = search rules }

pub invariant_of-two_in_swap : goal.invariant_of-two_in_swap
invariant_of-two_in_swap c = record { source_accepted = two_table; target_accepted = swap_table; small = search rules }

pub returns : goal.returns
unfolding agreed
returns c =
    let e0 = calls_more empty 0 3 _ walks.0 c.start.ensures.answer c.walk-case6.ensures.answer in
    let e1 = calls_more empty 3 4 _ walks.1 e0 c.walk-case7.ensures.answer in
    let e2 = calls_more empty 7 2 _ walks.2 e1 c.walk-case8.ensures.answer in
    let e3 = calls_more empty 9 5 _ walks.3 e2 c.walk-case9.ensures.answer in
    let e4 = calls_more empty 14 4 _ walks.4 e3 c.walk-case10.ensures.answer in
    let e5 = calls_more empty 18 4 _ walks.5 e4 c.walk-case11.ensures.answer in
    let e6 = calls_more empty 22 3 _ walks.6 e5 c.walk-after.ensures.answer in
    let e7 = calls_more empty 25 3 _ walks.7 e6 c.walk-case12.ensures.answer in
    record { answer = calls_more empty 28 2 _ walks.8 e7 c.walk.ensures.answer }
