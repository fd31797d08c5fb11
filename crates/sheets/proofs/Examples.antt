-- Examples, computed: the bytes of each class at its limits, offending places, a sheet with quoted fields, names saved, and each question.
-- Assumes nothing.
use mathlib.Core.Path.{◌≡◌, refl}
use mathlib.Core.Bool.{true, false}
use mathlib.Core.List.{[], ◌∷◌, flat_map, flatten}
use mathlib.Core.Option.{or_else}
use Prim.Native.Nat.{ℕ}
use lib.ListN.{replicate}
use borrow.Author.Tests.{leb-true}
use Rattle.semigroups.specs.Lists.{all, first_of}
use Rattle.semigroups.specs.Tables.{is_element}
use Rattle.semigroups.specs.InnerQuestions.{no}
use Rattle.semigroups.specs.Calls.{gives, refused}
use Rattle.rfc4180.specs.Decimals.{is_digit, value_from, value, numeral, numeral_within}
use Rattle.sheets.specs.Grammar.{is_printable, is_text_data, is_quotable, single, twice, non_escaped, escaped, item_text, field_text, entry_text, entries_text, sheet_text, IsSheet, item_value, field_value, entry_row, sheet_rows}
use Rattle.sheets.specs.Readings.{Offending, passes, rows_names, Reading}
use Rattle.sheets.specs.Names.{is_name, is_number, needs_quotes, doubled, name_text, names_text_from, names_text, names_at}
use Rattle.sheets.specs.Questions.{rows_questions, load_names_refusal, names_questions, save_names_refusal}
use Rattle.sheets.specs.Calls.{load_names_answer, names_after, lengths_after, save_names_answer, sheet_after}
use Rattle.sheets.specs.InnerAutomaton.{state_after, opening_step, bare_step, after_field, is_dead, place_from, place}
use Rattle.sheets.specs.RoundsLaws.{SavedNamesLoad, NamesLoadClosed, NameBuffers, names_saved, name_rounds, SheetUnchanged}
use Rattle.sheets.proofs.Places.{place_offending}
use Rattle.sheets.proofs.Readings.{read, same_reading}
use Rattle.sheets.proofs.Passing.{save_names_pass, load_keeps}
use Rattle.sheets.proofs.RoundTrips.{saved_names_load, loads_closed}
use Rattle.sheets.proofs.Requests.{name_requests}

-- ---- bytes

-- The bytes hexadecimal 1F, 20, 7E and 7F.
printable_limits : (is_printable 31 ≡ false) × (is_printable 32 ≡ true) × (is_printable 126 ≡ true) × (is_printable 127 ≡ false)
unfolding is_printable
printable_limits = (refl, refl, refl, refl)

text_data_limits : (is_text_data 31 ≡ false) × (is_text_data 32 ≡ true) × (is_text_data 126 ≡ true) × (is_text_data 127 ≡ false) × (is_text_data 34 ≡ false) × (is_text_data 44 ≡ false) × (is_text_data 92 ≡ true)
unfolding is_text_data is_printable
text_data_limits = (refl, refl, refl, refl, refl, refl, refl)

quotable_limits : (is_quotable 31 ≡ false) × (is_quotable 32 ≡ true) × (is_quotable 126 ≡ true) × (is_quotable 127 ≡ false) × (is_quotable 34 ≡ false) × (is_quotable 44 ≡ true) × (is_quotable 10 ≡ true) × (is_quotable 13 ≡ true)
unfolding is_quotable is_printable
quotable_limits = (refl, refl, refl, refl, refl, refl, refl, refl)

-- ---- offending places

-- An empty text offends at place 0.
no_bytes : Offending [] 0
unfolding place place_from
no_bytes = place_offending []

-- `1,a` CR offends at place 4, its whole length, since LF could follow.
lone_cr : Offending (49 ∷ 44 ∷ 97 ∷ 13 ∷ []) 4
unfolding place place_from is_dead state_after opening_step bare_step after_field is_text_data is_printable
lone_cr = place_offending (49 ∷ 44 ∷ 97 ∷ 13 ∷ [])

-- `1,a"` offends at place 3: a quote mark stands inside a field without quote marks.
late_quote : Offending (49 ∷ 44 ∷ 97 ∷ 34 ∷ []) 3
unfolding place place_from is_dead state_after opening_step bare_step after_field is_text_data is_printable
late_quote = place_offending (49 ∷ 44 ∷ 97 ∷ 34 ∷ [])

-- `1` CR LF offends at place 1: the comma is missing.
one_field : Offending (49 ∷ 13 ∷ 10 ∷ []) 1
unfolding place place_from is_dead state_after opening_step bare_step after_field is_text_data is_printable
one_field = place_offending (49 ∷ 13 ∷ 10 ∷ [])

-- ---- a sheet

-- `"1","a""b,"` and `2,\` without the last break: a quoted number, a quoted name, and a backslash, which is an ordinary byte.
sheet : IsSheet (34 ∷ 49 ∷ 34 ∷ 44 ∷ 34 ∷ 97 ∷ 34 ∷ 34 ∷ 98 ∷ 44 ∷ 34 ∷ 13 ∷ 10 ∷ 50 ∷ 44 ∷ 92 ∷ [])
unfolding sheet_text entries_text entry_text field_text item_text flat_map is_quotable is_text_data is_printable
sheet =
    record {
      sheet =
          record {
            first = record { number = escaped (single 49 ∷ []); name = escaped (single 97 ∷ twice ∷ single 98 ∷ single 44 ∷ []) };
            others = record { number = non_escaped (50 ∷ []); name = non_escaped (92 ∷ []) } ∷ [];
            closed = false;
          };
      proper = (((refl, tt), (refl, (tt, (refl, (refl, tt))))), (((refl, tt), (refl, tt)), tt));
      text = refl;
    }

-- It loads as two names, and later bytes of both buffers stay.
loaded : (load_names_answer (passes sheet) (replicate 6 7) (replicate 3 7) ≡ gives 2)
    × (names_after (passes sheet) (replicate 6 7) (replicate 3 7) ≡ 97 ∷ 34 ∷ 98 ∷ 44 ∷ 92 ∷ 7 ∷ []) × (lengths_after (passes sheet) (replicate 6 7) (replicate 3 7) ≡ 4 ∷ 1 ∷ 7 ∷ [])
unfolding load_names_answer names_after lengths_after load_names_refusal rows_questions first_of or_else rows_names sheet_rows entry_row field_value item_value sheet is_number is_name is_element all is_digit is_printable value value_from flatten
loaded = (refl, refl, refl)

-- With one byte too few for the names, question 27 fails.
short_names : load_names_answer (passes sheet) (replicate 4 7) (replicate 3 7) ≡ refused (no 27 [])
unfolding load_names_answer load_names_refusal rows_questions first_of or_else rows_names sheet_rows entry_row field_value item_value sheet is_number is_name is_element all is_digit is_printable value value_from flatten
short_names = refl

-- In that case both buffers stay as they were.
short_kept : (names_after (passes sheet) (replicate 4 7) (replicate 3 7) ≡ replicate 4 7) × (lengths_after (passes sheet) (replicate 4 7) (replicate 3 7) ≡ replicate 3 7)
unfolding load_names_refusal rows_questions first_of or_else rows_names sheet_rows entry_row field_value item_value sheet is_number is_name is_element all is_digit is_printable value value_from flatten
short_kept = load_keeps (34 ∷ 49 ∷ 34 ∷ 44 ∷ 34 ∷ 97 ∷ 34 ∷ 34 ∷ 98 ∷ 44 ∷ 34 ∷ 13 ∷ 10 ∷ 50 ∷ 44 ∷ 92 ∷ []) (passes sheet) (replicate 4 7) (replicate 3 7) (no 27 []) refl

-- Once the names are saved again, the number has no quote marks and the last break is there.
saved : (save_names_answer (97 ∷ 34 ∷ 98 ∷ 44 ∷ 92 ∷ 7 ∷ []) (4 ∷ 1 ∷ []) (replicate 17 7) ≡ gives 16)
    × (sheet_after (97 ∷ 34 ∷ 98 ∷ 44 ∷ 92 ∷ 7 ∷ []) (4 ∷ 1 ∷ []) (replicate 17 7) ≡ 49 ∷ 44 ∷ 34 ∷ 97 ∷ 34 ∷ 34 ∷ 98 ∷ 44 ∷ 34 ∷ 13 ∷ 10 ∷ 50 ∷ 44 ∷ 92 ∷ 13 ∷ 10 ∷ 7 ∷ [])
unfolding save_names_answer sheet_after save_names_refusal names_questions first_of or_else is_name is_element all is_printable names_at names_text names_text_from name_text needs_quotes doubled flat_map numeral numeral_within
saved = (refl, refl)

-- With no lengths question 42 fails and carries no place; with a length of 0 question 41 fails and carries its place.
refused_names : (save_names_answer [] [] [] ≡ refused (no 42 [])) × (save_names_answer (97 ∷ []) (1 ∷ 0 ∷ []) [] ≡ refused (no 41 (2 ∷ [])))
unfolding save_names_answer save_names_refusal names_questions first_of or_else is_name is_element all is_printable
refused_names = (refl, refl)

-- ---- there and back

-- The names saved above load again as the same names.
saved_back : SavedNamesLoad (97 ∷ 34 ∷ 98 ∷ 44 ∷ 92 ∷ 7 ∷ []) (4 ∷ 1 ∷ []) (replicate 17 7) (replicate 6 7) (replicate 3 7)
unfolding save_names_refusal names_questions first_of or_else is_name is_element all is_printable names_at names_text names_text_from name_text needs_quotes doubled flat_map numeral numeral_within flatten
saved_back =
    saved_names_load (97 ∷ 34 ∷ 98 ∷ 44 ∷ 92 ∷ 7 ∷ []) (4 ∷ 1 ∷ []) (replicate 17 7) (replicate 6 7) (replicate 3 7) ((save_names_pass (97 ∷ 34 ∷ 98 ∷ 44 ∷ 92 ∷ 7 ∷ []) (4 ∷ 1 ∷ []) 17).0 refl) (leb-true 5 6 refl) (leb-true 2 3 refl)

-- The names are saved, then loaded and saved again, however often: the sheet stays the same.
abbrev buffers : NameBuffers
buffers = record { text = replicate 17 7; size = 0; names = replicate 6 7; lengths = replicate 3 7 }

sheet_stays : (n : ℕ) → SheetUnchanged (names_saved (97 ∷ 34 ∷ 98 ∷ 44 ∷ 92 ∷ 7 ∷ []) (4 ∷ 1 ∷ []) buffers) (name_rounds read n (names_saved (97 ∷ 34 ∷ 98 ∷ 44 ∷ 92 ∷ 7 ∷ []) (4 ∷ 1 ∷ []) buffers))
unfolding save_names_refusal names_questions first_of or_else is_name is_element all is_printable names_at names_text names_text_from name_text needs_quotes doubled flat_map numeral numeral_within flatten
sheet_stays =
    name_requests.saved_stays read (97 ∷ 34 ∷ 98 ∷ 44 ∷ 92 ∷ 7 ∷ []) (4 ∷ 1 ∷ []) buffers ((save_names_pass (97 ∷ 34 ∷ 98 ∷ 44 ∷ 92 ∷ 7 ∷ []) (4 ∷ 1 ∷ []) 17).0 refl) (leb-true 5 6 refl) (leb-true 2 3 refl)

-- The sheet above has no last line break, and loads as if it were there.
sheet_closed : NamesLoadClosed (34 ∷ 49 ∷ 34 ∷ 44 ∷ 34 ∷ 97 ∷ 34 ∷ 34 ∷ 98 ∷ 44 ∷ 34 ∷ 13 ∷ 10 ∷ 50 ∷ 44 ∷ 92 ∷ []) (replicate 6 7) (replicate 3 7)
unfolding sheet
sheet_closed = loads_closed (34 ∷ 49 ∷ 34 ∷ 44 ∷ 34 ∷ 97 ∷ 34 ∷ 34 ∷ 98 ∷ 44 ∷ 34 ∷ 13 ∷ 10 ∷ 50 ∷ 44 ∷ 92 ∷ []) sheet refl (replicate 6 7) (replicate 3 7)

-- By any of its readings the sheet loads, so that rounds of loading and saving settle.
sheet_loads : (w : Reading (34 ∷ 49 ∷ 34 ∷ 44 ∷ 34 ∷ 97 ∷ 34 ∷ 34 ∷ 98 ∷ 44 ∷ 34 ∷ 13 ∷ 10 ∷ 50 ∷ 44 ∷ 92 ∷ [])) → load_names_answer w (replicate 6 7) (replicate 3 7) ≡ gives 2
unfolding load_names_answer load_names_refusal
sheet_loads w =
    let same = same_reading (34 ∷ 49 ∷ 34 ∷ 44 ∷ 34 ∷ 97 ∷ 34 ∷ 34 ∷ 98 ∷ 44 ∷ 34 ∷ 13 ∷ 10 ∷ 50 ∷ 44 ∷ 92 ∷ []) w (passes sheet) in
    rw (same.0, same.1) loaded.0
