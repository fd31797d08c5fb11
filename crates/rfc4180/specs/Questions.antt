-- The questions about loading and saving a text, as RULES 7.3 lists them.
-- The questions of RULES 7.2 are stricter than RFC 4180: they ask for a length within a limit (20); digits, commas and line breaks alone, so no header, no
-- quoted field and no space (21); decimal fields of 1 to 120 with no leading 0 (23 to 25); a square (26) of order 120 at most (1).
-- Assumes nothing.
use Rattle.std.specs.Prelude.{Bool, ◌&&◌, ◌||◌, not, ℕ, zero, suc, ◌*◌, eqb, leb, length, get_or}
use mathlib.Core.List.{List, [], ◌∷◌, ◌++◌, flat_map}
use Rattle.std.proofs.Math.Option.{Option, map}
use Rattle.semigroups.specs.Lists.{range, all, find}
use Rattle.semigroups.specs.Tables.{largest_order, is_element}
use Rattle.semigroups.specs.Questions.{Question, ask, seek, Refusal, first_no, cells_questions}
use Rattle.rfc4180.specs.Decimals.{is_digit, value}
use Rattle.rfc4180.specs.Records.{is_break, rows}
use Rattle.rfc4180.specs.Tables.{fields_of, order_of, table_text}

-- The largest number of bytes that a text may have (question 20): those of a table of order 120 whose cells all take three digits.
abbrev pub longest_text : ℕ
longest_text = 57720

-- ---- the bytes of a text; places count from 0

-- Whether a line break begins at this place.
unfoldable pub break_at : List ℕ → ℕ → Bool
break_at t p = is_break (get_or t p 0) (get_or t (suc p) 0)

-- Whether the byte at this place is part of a line break.
unfoldable pub in_break : List ℕ → ℕ → Bool
in_break t zero = break_at t zero
in_break t (suc p) = break_at t p || break_at t (suc p)

-- Whether the byte at this place is a digit, a comma, or part of a line break.
unfoldable pub is_allowed : List ℕ → ℕ → Bool
is_allowed t p = is_digit (get_or t p 0) || (eqb (get_or t p 0) 44 || in_break t p)

-- The place of the first byte that is not allowed, if there is one.
unfoldable pub first_other : List ℕ → Option ℕ
first_other t = find (λ p. not (is_allowed t p)) (range 0 (length t))

-- Question 21: is every byte a digit, a comma, or part of a CR LF pair? Its "no" carries the place of the first other byte.
abbrev pub bytes_question : List ℕ → Question
bytes_question t = seek 21 (map (λ p. p ∷ []) (first_other t))

-- ---- the fields of a text

-- The questions about a field: 24, is its first byte other than the digit 0? An empty field has no first byte, and passes. 23, is it 1 to 3 bytes long? 25, is
-- it at most 120?
abbrev pub field_questions : List ℕ → List Question
field_questions f = ask 24 (not (eqb (get_or f 0 0) 48)) ∷ ask 23 (is_element 3 (length f)) ∷ ask 25 (leb (value f) largest_order) ∷ []

-- The questions about the fields in reading order: the three about one field come before those about the next.
unfoldable pub fields_questions : List (List ℕ) → List Question
fields_questions fs = flat_map field_questions fs

-- Whether there are n records, each with n fields.
unfoldable pub is_square : ℕ → List (List (List ℕ)) → Bool
is_square n rs = eqb (length rs) n && all (λ r. eqb (length r) n) rs

-- Questions 24, 23 and 25 about each field; then 26 for a given order n: are there n records, each with n fields?
abbrev pub grid_questions : ℕ → List ℕ → List Question
grid_questions n t = fields_questions (fields_of t) ++ ask 26 (is_square n (rows t)) ∷ []

-- ---- the calls

-- The questions about a square text and a buffer of this many cells: 1, is the order at most 120? 27, has the buffer at least n × n bytes?
abbrev pub size_questions : List ℕ → ℕ → List Question
size_questions t room = ask 1 (leb (order_of t) largest_order) ∷ ask 27 (leb (order_of t * order_of t) room) ∷ []

-- The questions about loading a text into a buffer of this many cells: 20, is it 1 to 57,720 bytes long? Then 21; 24, 23 and 25 about each field; 26, are
-- there as many records as the first has fields, each with that many? Then 1 and 27. Neither 3 nor 4 is asked.
abbrev pub load_questions : List ℕ → ℕ → List Question
load_questions t room = ask 20 (is_element longest_text (length t)) ∷ bytes_question t ∷ (grid_questions (order_of t) t ++ size_questions t room)

-- The refusal of a call that loads, if a question fails.
unfoldable pub load_refusal : List ℕ → ℕ → Option Refusal
load_refusal t room = first_no (load_questions t room)

-- The questions about saving a table into a buffer of this many bytes: 1, 2 and 3; then 28, has the buffer room for the whole text?
abbrev pub save_questions : ℕ → List ℕ → ℕ → List Question
save_questions n cells room = cells_questions n cells ++ ask 28 (leb (length (table_text n cells)) room) ∷ []

-- The refusal of a call that saves, if a question fails.
unfoldable pub save_refusal : ℕ → List ℕ → ℕ → Option Refusal
save_refusal n cells room = first_no (save_questions n cells room)
