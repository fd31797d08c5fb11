-- The faults of a map as tests of pairs, and what each way out of the check says. Assumes nothing.
use mathlib.Core.Path.{◌≡◌, refl, sym, ap, ap₂, ◌∙◌, subst}
use mathlib.Core.Bool.{Bool, true, false, ◌&&◌, not}
use mathlib.Core.List.{List, [], ◌∷◌}
use mathlib.Core.Option.{Option, none, some, or_else}
use Prim.Native.Nat.{ℕ, ◌-◌, ◌≤◌, ◌<◌}
use borrow.Author.Tests.{eq-eqb, ne_eqb, lt-ltb, le-ltb}
use lib.Dec.{eqb, ltb}
use lib.ListN.{length, get_or}
use Rattle.semigroups.specs.Lists.{elements, at, find, first_of, lists}
use Rattle.semigroups.specs.Tables.{Product, Element, is_element, bad_cell, product}
use Rattle.semigroups.specs.InnerTables.{IsList}
use Rattle.semigroups.specs.Questions.{Question, ask, Refusal, first_no, tables_questions, check_refusal}
use Rattle.semigroups.specs.InnerQuestions.{no, tables_refusal}
use Rattle.semigroups.specs.Calls.{refused, gives}
use Rattle.semigroups.specs.Maps.{is_embedding}
use Rattle.semigroups.specs.MapCheck.{holds, outside, equal_images, wrong_product, unless, first_outside, first_equal, first_wrong, check_map}
use Rattle.semigroups.proofs.Booleans.{not_of_true, not_of_false, untrue}
use Rattle.semigroups.proofs.Maps.{is_embedding_law, embedding_is}
use Rattle.semigroups.proofs.MapCheck.{holds_exactly}
use Rattle.semigroups.proofs.Questions.{failed_before, passed_before}
use Rattle.semigroups.proofs.NoRepeats.{mem_place}
use Rattle.semigroups.proofs.Tables.{cells_in_range}
use Rattle.std.specs.Prelude.{Result, Ok, Err}
use Rattle.std.specs.Result.{is_ok}
use Rattle.maps.specs.declared.MapFault.{MapFault}
use Rattle.maps.specs.declared.MapFault.TheVariants.{Outside, EqualImages, WrongProduct}
use Rattle.maps.specs.Calls.{map_check}
use Rattle.maps.specs.Answers.{fault_says, examined}

-- ---- the tests of pairs

-- Whether the pair l, whose first element is smaller, has equal images.
unfoldable pub is_equal : List ℕ → List ℕ → Bool
is_equal f l = ltb (at l 1) (at l 2) && eqb (at f (at l 1)) (at f (at l 2))

-- Whether the product of the pair l fails.
unfoldable pub is_wrong : Product → Product → List ℕ → List ℕ → Bool
is_wrong s t f l = not (eqb (at f (s (at l 1) (at l 2))) (t (at f (at l 1)) (at f (at l 2))))

module _ (f : List ℕ) (i j : ℕ) where
  pub not_rising : j ≤ i → is_equal f (i ∷ j ∷ []) ≡ false
  unfolding is_equal at
  not_rising h = rw (le-ltb i j h)

  pub equal_pair : i < j → at f i ≡ at f j → is_equal f (i ∷ j ∷ []) ≡ true
  unfolding is_equal at
  equal_pair h e = rw (lt-ltb i j h, eq-eqb (get_or f (i - 1) 0) (get_or f (j - 1) 0) e)

  pub unequal_pair : i < j → (at f i ≡ at f j → ⊥) → is_equal f (i ∷ j ∷ []) ≡ false
  unfolding is_equal at
  unequal_pair h e = rw (lt-ltb i j h, ne_eqb (get_or f (i - 1) 0) (get_or f (j - 1) 0) e)

  module _ (s t : Product) where
    pub right_pair : at f (s i j) ≡ t (at f i) (at f j) → is_wrong s t f (i ∷ j ∷ []) ≡ false
    unfolding is_wrong at
    right_pair e = not_of_true (eqb (at f (s i j)) (t (at f i) (at f j))) (eq-eqb (at f (s i j)) (t (at f i) (at f j)) e)

    pub wrong_pair : (at f (s i j) ≡ t (at f i) (at f j) → ⊥) → is_wrong s t f (i ∷ j ∷ []) ≡ true
    unfolding is_wrong at
    wrong_pair e = not_of_false (eqb (at f (s i j)) (t (at f i) (at f j))) (ne_eqb (at f (s i j)) (t (at f i) (at f j)) e)

-- What is compared for the pair i, j is the image of the product and the product of the images.
pub compared : (m : ℕ) (source : List ℕ) (n : ℕ) (target f : List ℕ) (i j first second ij left right : ℕ)
    → first ≡ at f i → second ≡ at f j → ij ≡ product m source i j → left ≡ at f ij → right ≡ product n target first second
    → (left ≡ at f (product m source i j)) × (right ≡ product n target (at f i) (at f j))
compared m source n target f i j first second ij left right e1 e2 e3 e4 e5 = (e4 ∙ ap (at f) e3, e5 ∙ ap₂ (product n target) e1 e2)

-- A map of m bytes with no image outside 1 to n is a list of elements.
pub images_inside : (m n : ℕ) (f : List ℕ) → length f ≡ m → bad_cell n f ≡ none → IsList m n f
images_inside m n f size e =
    record { size = size; entries = λ x k. let p = mem_place 0 f k in subst (Element n) p.2 (cells_in_range n f e p.0 p.1) }

module _ (m : ℕ) (s : Product) (n : ℕ) (t : Product) (f : List ℕ) where
  pub equal_as_test : first_equal m s n t f ≡ find (is_equal f) (lists 2 m)
  unfolding first_equal is_equal
  equal_as_test = refl

  pub wrong_as_test : first_wrong m s n t f ≡ find (is_wrong s t f) (lists 2 m)
  unfolding first_wrong is_wrong
  wrong_as_test = refl

  -- ---- what the check says of m bytes

  module _ (size : length f ≡ m) where
    pub outside_as_cell : first_outside m s n t f ≡ bad_cell n f
    unfolding first_outside bad_cell elements
    outside_as_cell = ap (λ (k : ℕ). find (λ i. not (is_element n (at f i))) (elements k)) (sym size)

    pub says_outside : (i : ℕ) → bad_cell n f ≡ some i → check_map m s n t f ≡ outside i
    unfolding check_map
    says_outside i e = rw (outside_as_cell ∙ e)

    equal_of_length : first_equal (length f) s n t f ≡ first_equal m s n t f
    equal_of_length = ap (λ (k : ℕ). first_equal k s n t f) size

    pub says_equal : (l : List ℕ) → bad_cell n f ≡ none → first_equal (length f) s n t f ≡ some l → check_map m s n t f ≡ equal_images l
    unfolding check_map
    says_equal l e g = rw (outside_as_cell ∙ e, sym equal_of_length ∙ g)

    pub says_product : bad_cell n f ≡ none → first_equal (length f) s n t f ≡ none → (o : Option (List ℕ)) → first_wrong m s n t f ≡ o → check_map m s n t f ≡ unless wrong_product o holds
    unfolding check_map
    says_product e g o w = rw (outside_as_cell ∙ e, sym equal_of_length ∙ g, w)

-- ---- what a call says

module _ (m : ℕ) (source : List ℕ) (n : ℕ) (target f : List ℕ) where
  abbrev map_size : Question
  map_size = ask 5 (eqb (length f) m)

  pub call_refused : (r : Refusal) → tables_refusal m source n target ≡ some r → map_check m source n target f ≡ refused r
  unfolding map_check check_refusal tables_refusal
  call_refused r e = rw (failed_before (tables_questions m source n target) (map_size ∷ []) e)

  module _ (e : tables_refusal m source n target ≡ none) where
    map_left : check_refusal m source n target (length f) ≡ first_no (map_size ∷ [])
    unfolding check_refusal tables_refusal
    map_left = passed_before (tables_questions m source n target) (map_size ∷ []) e

    pub call_length : (length f ≡ m → ⊥) → map_check m source n target f ≡ refused (no 5 [])
    unfolding map_check first_of or_else
    call_length h = rw (map_left, ne_eqb (length f) m h)

    pub call_checked : length f ≡ m → map_check m source n target f ≡ gives (check_map m (product m source) n (product n target) f)
    unfolding map_check first_of or_else
    call_checked h = rw (map_left, eq-eqb (length f) m h)

-- ---- an embedding or not

-- A map is an embedding exactly where the check says that it holds.
pub embeds_law : (m : ℕ) (s : Product) (n : ℕ) (t : Product) (f : List ℕ) → length f ≡ m → (r : Result Unit MapFault) → examined r ≡ check_map m s n t f → is_ok r ≡ is_embedding m s n t f
embeds_law m s n t f size (Ok x) e = sym (embedding_is m s n t f ((holds_exactly m s n t f size).0 (sym e)))
embeds_law m s n t f size (Err fault) e = sym (untrue (is_embedding m s n t f) (λ b. fails fault (e ∙ (holds_exactly m s n t f size).1 (is_embedding_law m s n t f b))))
  where
    fails : (fault : MapFault) → fault_says fault ≡ holds → ⊥
    fails (Outside i) h = cc
    fails (EqualImages i j) h = cc
    fails (WrongProduct i j) h = cc
