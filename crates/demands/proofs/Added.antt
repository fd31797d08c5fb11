-- Demand 1 holds of the calls of RULES 9, 11, 15 to 18 and 20. Assumes nothing.
use mathlib.Core.Path.{◌≡◌, refl, ap, ap₂}
use mathlib.Core.List.{[], ◌∷◌, flat_map}
use mathlib.Core.Option.{Option, none, map, or_else}
use lib.ListN.{length, replicate}
use Rattle.semigroups.specs.Lists.{range, elements, at, all, find, first_of, lists}
use Rattle.semigroups.specs.Tables.{product, is_element, associates, bad_cell, bad_triple}
use Rattle.semigroups.specs.QuestionsLaws.{EarliestNo}
use Rattle.semigroups.specs.InnerQuestions.{no}
use Rattle.semigroups.specs.Questions.{Refusal, search_questions, search_refusal}
use Rattle.semigroups.specs.Calls.{refused, gives, given_unless, Answer}
use Rattle.semigroups.specs.Maps.{embeddings, Sought, first, sought}
use Rattle.semigroups.specs.Trials as trials
use Rattle.semigroups.specs.Generated.{generated}
use Rattle.semigroups.specs.Light.{generators_questions, generators_refusal}
use Rattle.semigroups.specs.Subsemigroups.{subsemigroup_questions, subsemigroup_refusal}
use Rattle.semigroups.specs.Copies.{copies_questions, copies_refusal, copies_capped}
use Rattle.semigroups.specs.Cases.{one, left, mat5}
use Rattle.semigroups.proofs.Passing.{search_passes}
use Rattle.semigroups.proofs.Calls.{refused_by_law}
use Rattle.semigroups.proofs.Light.{generators_pass, generators_refused}
use Rattle.semigroups.proofs.Subsemigroups.{subsemigroup_passes, subsemigroup_examples}
use Rattle.semigroups.proofs.Copies.{copies_pass, copies_examples}
use Rattle.calls.specs.Subsemigroups.{subsemigroup_says, part_after, elements_after}
use Rattle.parts.proofs.Parts.{subsemigroup_keeps}
use Rattle.planning.specs.Degrees.{Fit, least_degree, degree_questions, degree_refusal}
use Rattle.planning.specs.Calls.{degree_says, positions_after}
use Rattle.planning.specs.Examples.{cyclic4}
use Rattle.planning.proofs.Examples.{degree_examples, degree_question_examples}
use Rattle.planning.proofs.Questions.{degree_passes, positions_kept}
use Rattle.sheets.specs.Readings.{names_in}
use Rattle.sheets.specs.Names.{is_name, names_text, names_at}
use Rattle.sheets.specs.Grammar.{is_printable}
use Rattle.sheets.specs.Questions.{load_names_questions, load_names_refusal, names_questions, save_names_questions, save_names_refusal}
use Rattle.sheets.specs.Calls.{load_names_answer, save_names_answer, sheet_after}
use Rattle.sheets.proofs.Passing.{load_names_pass, save_names_pass, load_keeps, save_keeps}
use Rattle.calls.specs.Limited.{first_work, limited_call}
use Rattle.calls.specs.Calls.{Called, called, marks_of}
use Rattle.calls.specs.Among.{among_questions, among_refusal, answer_among, call_among, marks_among}
use Rattle.search.specs.AmongExamples.{left_in_left}
use Rattle.search.specs.LimitsExamples.{two_in_swap}
use Rattle.search.proofs.Limits.{limits_theorem, limits_examples}
use Rattle.search.proofs.Among.{among_passes}
use Rattle.search.proofs.AmongLaws.{among_laws}
use Rattle.search.proofs.AmongExamples.{among_examples}
use Rattle.calls.specs.Copies.{copies_says, copies_scratch}
use Rattle.copies.proofs.Answering.{copies_keep}
use Rattle.demands.specs.AddedLaws.{AddedCalls}
use Rattle.demands.proofs.Answers.{asks, answers, search_answers}
use Rattle.demands.proofs.Demand1.{lent, short}

pub added_calls : AddedCalls
unfolding load_names_answer load_names_refusal save_names_answer save_names_refusal limited_call search_refusal generators_refusal subsemigroup_says subsemigroup_refusal degree_says degree_refusal copies_says copies_refusal call_among among_refusal
added_calls =
    record {
      load_names = λ w names lengths. answers (load_names_questions w (length names) (length lengths)) (load_names_pass (length names) (length lengths) w) (length (names_in w));
      save_names = λ names lengths text. answers (save_names_questions names lengths (length text)) (save_names_pass names lengths (length text)) (length (names_text (names_at names lengths)));
      limited = λ kind limit l.
          search_answers (marks_of kind l) l (trials.found_within limit (first_work kind l)) (search_questions l.m l.source l.n l.target (length l.map_bytes) (length l.scratch))
          (search_passes l.m l.source l.n l.target (length l.map_bytes) (length l.scratch)) (trials.limited limit (first_work kind l));
      generators = λ n cells l. asks (generators_questions n cells l) (generators_pass n cells l);
      generators_meant = λ n cells l r. generators_refused n cells l r;
      subsemigroup = λ n cells l a b. answers (subsemigroup_questions n cells l a b) (subsemigroup_passes n cells l a b) (length (generated n (product n cells) l));
      least_degree_law = λ m cells size. answers (degree_questions m cells size) (degree_passes m cells size) (least_degree m (product m cells));
      copies = λ m source n target k. answers (copies_questions m source n target k) (copies_pass m source n target k) (copies_capped m (product m source) n (product n target));
      among = λ ask pairs l.
          search_answers (marks_among pairs l) l (answer_among ask pairs l) (among_questions l.m l.source l.n l.target (length l.map_bytes) (length l.scratch) (length pairs)) (among_passes pairs l) (sought (answer_among ask pairs l));
      load_names_refused = load_keeps;
      save_names_refused = save_keeps;
      limited_refused = limits_theorem.refused_unchanged;
      subsemigroup_refused = subsemigroup_keeps;
      degree_refused = positions_kept;
      copies_refused = copies_keep;
      among_refused = among_laws.refused_unchanged;
      limited_none_keeps_map = limits_theorem.none_keeps_map;
      among_none_keeps_map = among_laws.none_keeps_map;
    }

-- ---- instances, to show that it is not empty

-- In mat5, buffers of 16 and 4 bytes are enough for what 5 and 2 generate: the part is given.
part_given : subsemigroup_says 5 mat5.cells (5 ∷ 2 ∷ []) 16 4 ≡ gives (length (generated 5 (product 5 mat5.cells) (5 ∷ 2 ∷ [])))
part_given = (added_calls.subsemigroup 5 mat5.cells (5 ∷ 2 ∷ []) 16 4).given_exactly.1 ((subsemigroup_passes 5 mat5.cells (5 ∷ 2 ∷ []) 16 4).0 subsemigroup_examples.2)

-- Buffers of 15 and 3 bytes are not enough: question 61 is the earliest that fails, and both buffers stay as they are.
part_short : EarliestNo (subsemigroup_questions 5 mat5.cells (5 ∷ 2 ∷ []) 15 3) (no 61 [])
unfolding subsemigroup_says
part_short =
    ((added_calls.subsemigroup 5 mat5.cells (5 ∷ 2 ∷ []) 15 3).refused_exactly (no 61 [])).0
    ((refused_by_law (length (generated 5 (product 5 mat5.cells) (5 ∷ 2 ∷ []))) (subsemigroup_refusal 5 mat5.cells (5 ∷ 2 ∷ []) 15 3) (no 61 [])).1 subsemigroup_examples.5)

part_kept : (part_after 5 mat5.cells (5 ∷ 2 ∷ []) (replicate 15 9) 3 ≡ replicate 15 9) × (elements_after 5 mat5.cells (5 ∷ 2 ∷ []) 15 (replicate 3 9) ≡ replicate 3 9)
part_kept = added_calls.subsemigroup_refused 5 mat5.cells (5 ∷ 2 ∷ []) (replicate 15 9) (replicate 3 9) (no 61 []) subsemigroup_examples.5

-- The copies of one in left are counted if scratch has room for the marks; with no byte of scratch the call is refused by question 6.
copies_short : copies_says 1 one.cells 2 left.cells 0 ≡ refused (no 6 [])
unfolding copies_says
copies_short = (refused_by_law (copies_capped 1 (product 1 one.cells) 2 (product 2 left.cells)) (copies_refusal 1 one.cells 2 left.cells 0) (no 6 [])).1 copies_examples.8

copies_kept : copies_scratch 1 one.cells 2 left.cells [] ≡ []
copies_kept = added_calls.copies_refused 1 one.cells 2 left.cells [] (no 6 []) copies_examples.8

-- For left in itself with no byte of pairs, question 70 is the earliest that fails.
pairs_short : EarliestNo (among_questions 2 left.cells 2 left.cells 2 2 0) (no 70 [])
pairs_short =
    ((added_calls.among first [] (left_in_left (0 ∷ 0 ∷ []))).refused_exactly (no 70 [])).0
    (ap (λ (c : Called (Answer Sought)). c.says) among_examples.4)

-- With only the pairs of element 1 marked, element 2 has no image: the answer is "none", and the map stays as it is.
among_kept : (call_among first (3 ∷ []) (left_in_left (0 ∷ 0 ∷ []))).map_bytes ≡ 0 ∷ 0 ∷ []
among_kept = added_calls.among_none_keeps_map first (3 ∷ []) (left_in_left (0 ∷ 0 ∷ [])) (ap (λ (c : Called (Answer Sought)). c.says) among_examples.3)

-- Of two names the second has no byte: question 41 refuses to save them, and the text stays as it is.
names_kept : sheet_after (97 ∷ []) (1 ∷ 0 ∷ []) (replicate 9 7) ≡ replicate 9 7
unfolding save_names_refusal names_questions first_of or_else is_name is_element all is_printable
names_kept = added_calls.save_names_refused (97 ∷ []) (1 ∷ 0 ∷ []) (replicate 9 7) (no 41 (2 ∷ [])) refl

-- With no byte of scratch a search with a limit is refused by question 6, and both buffers stay as they are.
limited_short : limited_call embeddings 4 (lent 0) ≡ called (refused (no 6 [])) (0 ∷ 0 ∷ []) (replicate 0 9)
unfolding lent
limited_short = added_calls.limited_refused embeddings 4 (lent 0) (no 6 []) short

-- The degree 2 table has no embedding in swap: the answer is "none", and the map stays as it is.
limited_kept : (limited_call embeddings 0 two_in_swap).map_bytes ≡ replicate 4 0
limited_kept = added_calls.limited_none_keeps_map embeddings 0 0 two_in_swap limits_examples.3

-- The least degree of mat5 is asked for with 14 bytes of positions, one too few: question 80 fails, and they stay as they are.
positions_short : positions_after 5 mat5.cells (replicate 14 9) ≡ replicate 14 9
unfolding degree_says
positions_short =
    (added_calls.degree_refused 5 mat5.cells (replicate 14 9)).0 (no 80 [])
    ((refused_by_law (least_degree 5 (product 5 mat5.cells)) (degree_refusal 5 mat5.cells 14) (no 80 [])).1 degree_question_examples.1)

-- The cyclic group of order 4 fits at none of these degrees, and 12 bytes of positions stay as they are.
cyclic4_passes : degree_refusal 4 cyclic4.cells 12 ≡ none
unfolding degree_refusal first_of or_else is_element bad_cell bad_triple associates product lists elements range at find flat_map
cyclic4_passes = refl

cyclic4_none : degree_says 4 cyclic4.cells 12 ≡ gives none
unfolding degree_says least_degree
cyclic4_none = ap₂ (λ (q : Option Refusal) (o : Option Fit). given_unless q (map (λ (x : Fit). x.degree) o)) cyclic4_passes degree_examples.cyclic4_none

cyclic4_kept : positions_after 4 cyclic4.cells (replicate 12 9) ≡ replicate 12 9
cyclic4_kept = (added_calls.degree_refused 4 cyclic4.cells (replicate 12 9)).1 cyclic4_none
