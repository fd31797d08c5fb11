-- The examples of a call among given pairs, computed, and an instance of each law, to show that none is empty. Assumes nothing.
use mathlib.Core.Path.{◌≡◌, refl, sym, ap, ◌∙◌}
use mathlib.Core.Bool.{Bool, true, false, not, cond}
use mathlib.Core.Logic.{◌⊎◌}
use mathlib.Core.List.{List, [], ◌∷◌, flat_map}
use mathlib.Core.Option.{none, some, or_else}
use Prim.Native.Nat.{ℕ}
use native.Mathlib.Omega.{arith}
use borrow.Author.Tests.{not-true, eq-eqb, eqb-true}
use lib.Dec.{eqb}
use Rattle.semigroups.specs.Lists.{range, elements, at, all, find, keep, sum, first_of, least, member, distinct, earlier, lists, count}
use Rattle.semigroups.specs.ListsLaws.{Earliest}
use Rattle.semigroups.specs.Tables.{product, grid, is_element, associates, bad_cell, bad_triple}
use Rattle.semigroups.specs.Scratch.{packed_byte, bit, scratch_size, marks, marked}
use Rattle.semigroups.specs.Invariants.{power, period_from, index, period, idempotent_power, index_period, same_index_period}
use Rattle.semigroups.specs.InnerQuestions.{no}
use Rattle.semigroups.specs.Calls.{refused, gives, Answer}
use Rattle.semigroups.specs.Maps.{is_homomorphism, is_embedding, embeddings, maps, first, next, earliest, Sought, found}
use Rattle.semigroups.specs.Candidates.{candidate}
use Rattle.semigroups.specs.Cases.{left}
use Rattle.semigroups.proofs.Lists.{pairs_at}
use Rattle.calls.specs.Calls.{Lent, lend, Called, called, call}
use Rattle.calls.specs.Allowed.{allows, allowed}
use Rattle.calls.specs.Among.{among_refusal, refusal_among, call_among}
use Rattle.search.specs.AmongLaws.{PassesAmong, WantedAmong, AllMarked, OnlyOf, SamePairs}
use Rattle.search.specs.AmongExamples.{left_in_left, AmongExamples}
use Rattle.search.proofs.Among.{among_passes}
use Rattle.search.proofs.AmongLaws.{among_laws}

pub among_examples : AmongExamples
unfolding call_among among_refusal allowed allows earliest maps is_embedding is_homomorphism candidate marks marked packed_byte bit scratch_size grid product is_element bad_cell bad_triple power period_from index period idempotent_power index_period same_index_period range elements at all find keep sum first_of least member distinct earlier lists count or_else flat_map associates
among_examples = (refl, refl, refl, refl, refl)

-- ---- instances of the laws

-- A call for left in itself. The byte 6 marks the pairs of the exchange, 3 those of element 1, and 15 all four.
abbrev l : Lent
l = left_in_left (0 ∷ 0 ∷ [])

abbrev exchange : List ℕ
exchange = 2 ∷ 1 ∷ []

none_refused : (refusal_among (6 ∷ []) l ≡ none) × ((refusal_among (3 ∷ []) l ≡ none) × (refusal_among (15 ∷ []) l ≡ none))
unfolding among_refusal scratch_size grid product is_element bad_cell bad_triple range elements at all find keep first_of lists or_else flat_map associates
none_refused = (refl, (refl, refl))

passes_exchange : PassesAmong (6 ∷ []) l
passes_exchange = (among_passes (6 ∷ []) l).0 none_refused.0

passes_all : PassesAmong (15 ∷ []) l
passes_all = (among_passes (15 ∷ []) l).0 none_refused.1.1

exchange_says : (call_among first (6 ∷ []) l).says ≡ gives found
exchange_says = ap (λ (c : Called (Answer Sought)). c.says) among_examples.0

pub exchange_earliest : Earliest (WantedAmong (6 ∷ []) l first) exchange
exchange_earliest = (among_laws.found_exactly first (6 ∷ []) l passes_exchange exchange).0 (exchange_says, ap (λ (c : Called (Answer Sought)). c.map_bytes) among_examples.0)

pub none_allowed : (f : List ℕ) → WantedAmong (3 ∷ []) l first f → ⊥
none_allowed = (among_laws.nothing_exactly first (3 ∷ []) l ((among_passes (3 ∷ []) l).0 none_refused.1.0)).0 (ap (λ (c : Called (Answer Sought)). c.says) among_examples.3)

all_marked : AllMarked (15 ∷ []) l
unfolding marked bit all elements range
all_marked = pairs_at 2 (marked 2 (15 ∷ [])) refl

pub all_as_first : call_among first (15 ∷ []) l ≡ call embeddings first l
all_as_first = among_laws.all_pairs first (15 ∷ []) l all_marked

-- With all pairs marked, the exchange is found, or an earlier embedding.
pub fewer_later : ((call_among first (15 ∷ []) l).map_bytes ≡ (call_among first (6 ∷ []) l).map_bytes) ⊎ (earlier (call_among first (15 ∷ []) l).map_bytes (call_among first (6 ∷ []) l).map_bytes ≡ true)
fewer_later = (among_laws.fewer_pairs first (6 ∷ []) (15 ∷ []) l passes_exchange passes_all (λ i j hi hj e. all_marked i j hi hj) exchange_says).1

-- Two truth values are equal if the test says so.
agree : (a b : Bool) → cond a b (not b) ≡ true → a ≡ b
agree true b e = sym e
agree false b e = sym (not-true b e)

only_exchange : OnlyOf exchange (6 ∷ []) l
unfolding marked bit all elements range at
only_exchange i j hi hj =
    let e = agree (marked 2 (6 ∷ []) i j) (eqb (at exchange i) j) (pairs_at 2 (λ i j. cond (marked 2 (6 ∷ []) i j) (eqb (at exchange i) j) (not (eqb (at exchange i) j))) refl i j hi hj) in
    ((λ m. eqb-true (at exchange i) j (sym e ∙ m)), λ m. e ∙ eq-eqb (at exchange i) j m)

pub one_found : ((call_among first (6 ∷ []) l).says ≡ gives found) × ((call_among first (6 ∷ []) l).map_bytes ≡ exchange)
one_found = among_laws.one_embedding (6 ∷ []) l passes_exchange exchange exchange_earliest.has.0 only_exchange

-- Other unused bits and a later byte make no difference.
same_marked : SamePairs (6 ∷ []) (246 ∷ 9 ∷ []) l
unfolding marked bit all elements range
same_marked i j hi hj =
    agree (marked 2 (6 ∷ []) i j) (marked 2 (246 ∷ 9 ∷ []) i j)
    (pairs_at 2 (λ i j. cond (marked 2 (6 ∷ []) i j) (marked 2 (246 ∷ 9 ∷ []) i j) (not (marked 2 (246 ∷ 9 ∷ []) i j))) refl i j hi hj)

pub unused_same : call_among first (6 ∷ []) l ≡ call_among first (246 ∷ 9 ∷ []) l
unfolding scratch_size
unused_same = among_laws.same_pairs first (6 ∷ []) (246 ∷ 9 ∷ []) l (omega arith) (omega arith) same_marked

-- With no byte of pairs a call is refused by question 70, and changes no lent byte, whatever it asks for.
pub pairs_refused : refusal_among [] l ≡ some (no 70 [])
pairs_refused = (among_laws.refused_exactly first [] l (no 70 [])).0 (ap (λ (c : Called (Answer Sought)). c.says) among_examples.4)

pub pairs_unchanged : call_among (next (1 ∷ 2 ∷ [])) [] l ≡ called (refused (no 70 [])) (0 ∷ 0 ∷ []) (0 ∷ 7 ∷ [])
pairs_unchanged = among_laws.refused_unchanged (next (1 ∷ 2 ∷ [])) [] l (no 70 []) pairs_refused

-- With pairs that leave element 2 no image the answer is "none", and the map stays.
pub none_kept : (call_among first (3 ∷ []) l).map_bytes ≡ 0 ∷ 0 ∷ []
none_kept = among_laws.none_keeps_map first (3 ∷ []) l (ap (λ (c : Called (Answer Sought)). c.says) among_examples.3)

-- With another scratch buffer, of one byte, the exchange is found as well.
abbrev other : Lent
other = lend left.cells 2 left.cells 2 (0 ∷ 0 ∷ []) (9 ∷ [])

other_passes : PassesAmong (6 ∷ []) other
unfolding among_refusal scratch_size grid product is_element bad_cell bad_triple range elements at all find keep first_of lists or_else flat_map associates
other_passes = (among_passes (6 ∷ []) other).0 refl

pub exchange_apart : ((call_among first (6 ∷ []) l).says ≡ (call_among first (6 ∷ []) other).says) × ((call_among first (6 ∷ []) l).map_bytes ≡ (call_among first (6 ∷ []) other).map_bytes)
exchange_apart = among_laws.scratch_apart first (6 ∷ []) left.cells 2 left.cells 2 (0 ∷ 0 ∷ []) (0 ∷ 7 ∷ []) (9 ∷ []) passes_exchange other_passes
