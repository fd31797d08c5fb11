-- How much of a file decides: one byte more than a text may have is enough to see that it is too long. Assumes nothing.
use mathlib.Core.Path.{◌≡◌}
use mathlib.Core.Logic.{◌⊎◌, inl, inr}
use mathlib.Core.List.{List, []}
use mathlib.Core.Option.{some}
use Prim.Native.Nat.{ℕ, ◌≤◌, ◌<◌}
use native.Mathlib.Omega.{arith}
use lib.ListN.{length, take}
use lib.Seq.{length-take-le, take_all}
use Rattle.semigroups.specs.InnerQuestions.{no}
use Rattle.semigroups.proofs.Booleans.{at_most_or_above}
use Rattle.rfc4180.proofs.Loading.{too_short, too_long}
use Rattle.files.specs.Files.{file_refusal, room}
use Rattle.files.proofs.Files.{loading_refused}

pub empty_file : file_refusal [] room ≡ some (no 20 [])
empty_file = loading_refused [] room (too_short [] room (omega arith))

pub long_file : (t : List ℕ) → 57720 < length t → file_refusal t room ≡ some (no 20 [])
long_file t h = loading_refused t room (too_long t room h)

-- A file is read whole, or both the file and its beginning are refused by question 20.
pub data Cut (t : List ℕ) : Type 0 where
  whole : take 57721 t ≡ t → Cut t
  too_much : file_refusal (take 57721 t) room ≡ some (no 20 []) → file_refusal t room ≡ some (no 20 []) → Cut t

pub cut : (t : List ℕ) → Cut t
cut t = go (at_most_or_above (length t) 57721)
  where
    go : (length t ≤ 57721) ⊎ (57721 < length t) → Cut t
    go (inl h) = whole (take_all 57721 t h)
    go (inr h) = too_much (long_file (take 57721 t) (let e = length-take-le 57721 t (omega arith) in omega arith)) (long_file t (omega arith))
