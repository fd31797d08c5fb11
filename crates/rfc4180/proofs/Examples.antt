-- Examples, computed: what loading says of small texts, a table's text, and a text there and back.
-- Assumes nothing.
use mathlib.Core.Path.{◌≡◌, refl}
use mathlib.Core.List.{List, [], ◌∷◌, map, flat_map, flatten}
use mathlib.Core.Option.{Option, none, some, or_else}
use Prim.Native.Nat.{ℕ}
use native.Mathlib.Omega.{arith}
use lib.ListN.{replicate}
use Rattle.semigroups.specs.Lists.{at, range, elements, all, find, first_of}
use Rattle.semigroups.specs.Tables.{product, is_element, bad_cell}
use Rattle.semigroups.specs.Questions.{Refusal}
use Rattle.semigroups.specs.InnerQuestions.{no}
use Rattle.rfc4180.specs.Decimals.{is_digit, value, value_from, numeral, numeral_within}
use Rattle.rfc4180.specs.Records.{is_break, onto, records, fields, rows, record_text, line_text, rows_text}
use Rattle.rfc4180.specs.RoundsLaws.{ends_in_break, closed, Buffers, saved, rounds, Unchanged}
use Rattle.rfc4180.specs.Tables.{fields_of, order_of, cells_of, row_fields, table_text}
use Rattle.rfc4180.specs.Calls.{cells_after, text_after}
use Rattle.rfc4180.specs.Questions.{break_at, in_break, is_allowed, first_other, fields_questions, is_square, load_refusal, save_refusal}
use Rattle.rfc4180.proofs.Passing.{save_passes}
use Rattle.rfc4180.proofs.Rules.{text_rules}

-- An example: a text, the length of the cell buffer, and the refusal.
pub record Example : Type 0 where
  pub text : List ℕ
  pub room : ℕ
  pub says : Option Refusal

pub examples : List Example
examples =
    -- A table of order 2, and of order 1 with a cell above its order.
    record { text = 49 ∷ 44 ∷ 50 ∷ 13 ∷ 10 ∷ 50 ∷ 44 ∷ 49 ∷ 13 ∷ 10 ∷ []; room = 4; says = none }
    ∷ record { text = 49 ∷ 50 ∷ 48 ∷ 13 ∷ 10 ∷ []; room = 1; says = none }
    -- A text with no byte.
    ∷ record { text = []; room = 1; says = some (no 20 []) }
    -- A lone CR, a lone LF, the first CR of CR CR LF, a semicolon: the place of the byte, from 0.
    ∷ record { text = 49 ∷ 13 ∷ 49 ∷ 13 ∷ 10 ∷ []; room = 1; says = some (no 21 (1 ∷ [])) }
    ∷ record { text = 49 ∷ 10 ∷ []; room = 1; says = some (no 21 (1 ∷ [])) }
    ∷ record { text = 49 ∷ 13 ∷ 13 ∷ 10 ∷ []; room = 1; says = some (no 21 (1 ∷ [])) }
    ∷ record { text = 49 ∷ 59 ∷ 49 ∷ 13 ∷ 10 ∷ []; room = 1; says = some (no 21 (1 ∷ [])) }
    -- The texts above without the last line break; a last field with no byte; a CR at the end, which is no line break.
    ∷ record { text = 49 ∷ 44 ∷ 50 ∷ 13 ∷ 10 ∷ 50 ∷ 44 ∷ 49 ∷ []; room = 4; says = none }
    ∷ record { text = 49 ∷ []; room = 1; says = none }
    ∷ record { text = 49 ∷ 44 ∷ 50 ∷ 13 ∷ 10 ∷ 50 ∷ 44 ∷ []; room = 4; says = some (no 23 []) }
    ∷ record { text = 49 ∷ 44 ∷ []; room = 1; says = some (no 23 []) }
    ∷ record { text = 49 ∷ 13 ∷ []; room = 1; says = some (no 21 (1 ∷ [])) }
    -- Fields with no byte: an empty record, alone and at the end, and a field after a comma.
    ∷ record { text = 13 ∷ 10 ∷ []; room = 1; says = some (no 23 []) }
    ∷ record { text = 49 ∷ 13 ∷ 10 ∷ 13 ∷ 10 ∷ []; room = 1; says = some (no 23 []) }
    ∷ record { text = 49 ∷ 44 ∷ 13 ∷ 10 ∷ 49 ∷ 44 ∷ 49 ∷ 13 ∷ 10 ∷ []; room = 4; says = some (no 23 []) }
    -- One field: a leading 0, whatever its length; four bytes; above 120.
    ∷ record { text = 48 ∷ 13 ∷ 10 ∷ []; room = 1; says = some (no 24 []) }
    ∷ record { text = 48 ∷ 48 ∷ 13 ∷ 10 ∷ []; room = 1; says = some (no 24 []) }
    ∷ record { text = 48 ∷ 48 ∷ 48 ∷ 49 ∷ 13 ∷ 10 ∷ []; room = 1; says = some (no 24 []) }
    ∷ record { text = 48 ∷ 48 ∷ 48 ∷ 48 ∷ 13 ∷ 10 ∷ []; room = 1; says = some (no 24 []) }
    ∷ record { text = 49 ∷ 50 ∷ 51 ∷ 52 ∷ 13 ∷ 10 ∷ []; room = 1; says = some (no 23 []) }
    ∷ record { text = 49 ∷ 50 ∷ 49 ∷ 13 ∷ 10 ∷ []; room = 1; says = some (no 25 []) }
    -- Two fields: the first that fails decides.
    ∷ record { text = 49 ∷ 50 ∷ 49 ∷ 44 ∷ 48 ∷ 13 ∷ 10 ∷ []; room = 1; says = some (no 25 []) }
    ∷ record { text = 49 ∷ 50 ∷ 51 ∷ 52 ∷ 44 ∷ 48 ∷ 13 ∷ 10 ∷ []; room = 1; says = some (no 23 []) }
    ∷ record { text = 48 ∷ 44 ∷ 49 ∷ 50 ∷ 51 ∷ 52 ∷ 13 ∷ 10 ∷ []; room = 1; says = some (no 24 []) }
    -- A record that is too short, and one record too many; a field of the last record that fails is refused first.
    ∷ record { text = 49 ∷ 44 ∷ 50 ∷ 13 ∷ 10 ∷ 49 ∷ 13 ∷ 10 ∷ []; room = 4; says = some (no 26 []) }
    ∷ record { text = 49 ∷ 13 ∷ 10 ∷ 49 ∷ 13 ∷ 10 ∷ []; room = 4; says = some (no 26 []) }
    ∷ record { text = 49 ∷ 44 ∷ 50 ∷ 13 ∷ 10 ∷ 49 ∷ 13 ∷ 10 ∷ 48 ∷ 13 ∷ 10 ∷ []; room = 4; says = some (no 24 []) }
    -- A cell buffer that is a byte short.
    ∷ record { text = 49 ∷ 44 ∷ 50 ∷ 13 ∷ 10 ∷ 50 ∷ 44 ∷ 49 ∷ 13 ∷ 10 ∷ []; room = 3; says = some (no 27 []) }
    ∷ []

-- Each text gets the refusal that stands beside it.
pub said : map (λ e. load_refusal e.text e.room) examples ≡ map (λ e. e.says) examples
unfolding examples load_refusal first_of or_else is_element first_other find range is_allowed in_break break_at is_break is_digit fields_questions flat_map fields_of flatten rows records fields onto value value_from is_square all order_of
said = refl

unfoldable pub swap_text : List ℕ
swap_text = 49 ∷ 44 ∷ 50 ∷ 13 ∷ 10 ∷ 50 ∷ 44 ∷ 49 ∷ 13 ∷ 10 ∷ []

-- The text of the table `1,2/2,1`, and its order and cells.
pub swap_saved : table_text 2 (1 ∷ 2 ∷ 2 ∷ 1 ∷ []) ≡ swap_text
unfolding swap_text table_text row_fields product elements range numeral numeral_within rows_text line_text record_text flat_map
swap_saved = refl

pub swap_order : order_of swap_text ≡ 2
unfolding swap_text order_of rows records fields onto is_break
swap_order = refl

pub swap_cells_law : cells_of swap_text ≡ 1 ∷ 2 ∷ 2 ∷ 1 ∷ []
unfolding swap_text cells_of fields_of flatten rows records fields onto is_break value value_from
swap_cells_law = refl

-- Without its last line break it has the same order and cells.
unfoldable pub swap_open : List ℕ
swap_open = 49 ∷ 44 ∷ 50 ∷ 13 ∷ 10 ∷ 50 ∷ 44 ∷ 49 ∷ []

pub open_order : order_of swap_open ≡ 2
unfolding swap_open order_of rows records fields onto is_break
open_order = refl

pub open_cells : cells_of swap_open ≡ 1 ∷ 2 ∷ 2 ∷ 1 ∷ []
unfolding swap_open cells_of fields_of flatten rows records fields onto is_break value value_from
open_cells = refl

-- Once loaded and saved, both texts have the last line break.
unfoldable pub resaved : List ℕ → List ℕ
resaved t = text_after 2 (cells_after t (0 ∷ 0 ∷ 0 ∷ 0 ∷ [])) (0 ∷ 0 ∷ 0 ∷ 0 ∷ 0 ∷ 0 ∷ 0 ∷ 0 ∷ 0 ∷ 0 ∷ [])

pub swap_closed : map closed (swap_text ∷ swap_open ∷ []) ≡ swap_text ∷ swap_text ∷ []
unfolding swap_text swap_open closed ends_in_break is_break
swap_closed = refl

pub swap_resaved : map resaved (swap_text ∷ swap_open ∷ []) ≡ swap_text ∷ swap_text ∷ []
unfolding resaved swap_text swap_open text_after cells_after save_refusal bad_cell load_refusal first_of or_else is_element first_other find range is_allowed in_break break_at is_break is_digit fields_questions flat_map fields_of flatten rows records fields onto value value_from is_square all order_of cells_of table_text row_fields product elements numeral numeral_within rows_text line_text record_text at
swap_resaved = refl

-- The table is saved, then loaded and saved again, however often: the text stays the same.
abbrev swap_buffers : Buffers
swap_buffers = record { text = replicate 12 7; size = 0; cells = replicate 5 7 }

swap_stays : (r : ℕ) → Unchanged 2 (1 ∷ 2 ∷ 2 ∷ 1 ∷ []) (saved 2 (1 ∷ 2 ∷ 2 ∷ 1 ∷ []) swap_buffers) (rounds r (saved 2 (1 ∷ 2 ∷ 2 ∷ 1 ∷ []) swap_buffers))
swap_stays =
    text_rules.saved_stays 2 (1 ∷ 2 ∷ 2 ∷ 1 ∷ []) swap_buffers
    ((save_passes 2 (1 ∷ 2 ∷ 2 ∷ 1 ∷ []) 12).0 (unfold save_refusal first_of or_else is_element bad_cell find range at table_text row_fields product elements numeral numeral_within rows_text line_text record_text flat_map in refl))
    (omega arith)

-- Decimal numbers of one, two and three digits.
pub numerals : map numeral (7 ∷ 40 ∷ 109 ∷ []) ≡ (55 ∷ []) ∷ (52 ∷ 48 ∷ []) ∷ (49 ∷ 48 ∷ 57 ∷ []) ∷ []
unfolding numeral numeral_within
numerals = refl
