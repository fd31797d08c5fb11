-- The rules about a file hold: each field is a law of its subject. Assumes nothing.
use mathlib.Core.Path.{◌≡◌, refl, sym, ap, ◌∙◌}
use mathlib.Core.Bool.{true}
use mathlib.Core.List.{List, [], ◌∷◌, flat_map, flatten}
use mathlib.Core.Option.{some, or_else}
use Prim.Native.Nat.{ℕ}
use native.Mathlib.Omega.{arith}
use lib.ListN.{take, replicate, length-replicate}
use lib.Seq.{take_all}
use Rattle.semigroups.specs.Lists.{range, elements, at, all, find, first_of, member, lists}
use Rattle.semigroups.specs.Tables.{product, is_element, associates, bad_cell, bad_triple}
use Rattle.semigroups.specs.InnerQuestions.{no}
use Rattle.rfc4180.specs.Decimals.{is_digit, value, value_from}
use Rattle.rfc4180.specs.Records.{is_break, onto, records, fields, rows}
use Rattle.rfc4180.specs.Tables.{fields_of, order_of, cells_of}
use Rattle.rfc4180.specs.Questions.{break_at, in_break, is_allowed, first_other, fields_questions, is_square}
use Rattle.files.specs.Files.{file_refusal, room}
use Rattle.files.specs.FilesLaws.{FilePasses}
use Rattle.files.specs.Rules.{file_numbers, FileRules}
use Rattle.files.proofs.Files.{file_passes}
use Rattle.files.proofs.Length.{empty_file, long_file, Cut, whole, too_much, cut}
use Rattle.files.proofs.Numbers.{file_numbers_law}

first_bytes_law : (t : List ℕ) → Cut t → file_refusal (take 57721 t) room ≡ file_refusal t room
first_bytes_law t (whole e) = ap (λ (u : List ℕ). file_refusal u room) e
first_bytes_law t (too_much first all) = first ∙ sym all

pub file_rules : FileRules
file_rules =
    record {
      passes = file_passes;
      empty = empty_file;
      longer = long_file;
      first_bytes_law = λ t. first_bytes_law t (cut t);
      whole = λ t h. take_all 57721 t (omega arith);
      numbers = file_numbers_law;
    }

-- ---- instances

-- Instances: 1,2 / 2,1 passes; 2 alone has a cell outside 1 to 1; a text that no constant holds is too long.
swap_passes : FilePasses (49 ∷ 44 ∷ 50 ∷ 13 ∷ 10 ∷ 50 ∷ 44 ∷ 49 ∷ 13 ∷ 10 ∷ []) room
swap_passes =
    (file_rules.passes (49 ∷ 44 ∷ 50 ∷ 13 ∷ 10 ∷ 50 ∷ 44 ∷ 49 ∷ 13 ∷ 10 ∷ []) room).0
    (unfold file_refusal is_digit value value_from is_break onto records fields rows fields_of order_of cells_of break_at in_break is_allowed first_other fields_questions is_square range elements at all find lists product is_element associates bad_cell bad_triple first_of or_else flat_map flatten in refl)

outside_refused : file_refusal (50 ∷ 13 ∷ 10 ∷ []) room ≡ some (no 3 (1 ∷ []))
unfolding file_refusal is_digit value value_from is_break onto records fields rows fields_of order_of cells_of break_at in_break is_allowed first_other fields_questions is_square range elements at all find lists product is_element associates bad_cell bad_triple first_of or_else flat_map flatten
outside_refused = refl

outside_number : member 3 file_numbers ≡ true
outside_number = file_rules.numbers (50 ∷ 13 ∷ 10 ∷ []) (no 3 (1 ∷ [])) outside_refused

long_refused : (b : ℕ) → file_refusal (replicate 57721 b) room ≡ some (no 20 [])
long_refused b = file_rules.longer (replicate 57721 b) (let e = length-replicate {A = ℕ} 57721 b in omega arith)
