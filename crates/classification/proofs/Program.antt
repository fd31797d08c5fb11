-- What the program's loop and its buffers need. Assumes nothing.
use mathlib.Core.Path.{◌≡◌, sym, ap, ◌∙◌, subst}
use mathlib.Core.List.{List}
use mathlib.Core.Option.{Option}
use Prim.Native.Nat.{ℕ, ◌≤◌, ◌<◌}
use native.Mathlib.Omega.{arith}
use lib.ListN.{length, drop, length-append}
use Rattle.semigroups.specs.Calls.{overwritten}
use Rattle.progress.specs.Classes.{most_files, Note}
use Rattle.progress.specs.Output.{notes_text}
use Rattle.progress.specs.Progress.{Phase, reading, comparing, over, Progress, start, wanted, step, SoundIn, Sound}
use Rattle.classification.specs.ProgressLaws.{still_to_read}
use Rattle.progress.specs.Held.{notes_in, progress_of}
use Rattle.progress.specs.declared.Classifier.{Classifier}
use Rattle.progress.proofs.Wanted.{count_notes}
use Rattle.classification.proofs.Progress.{goes}

pub start_sound : (s : Progress) → s ≡ start → Sound s
start_sound s e = subst Sound (sym e) (let z : 0 ≤ most_files = omega arith in z)

module _ (s : Progress) (h : Sound s) (w : wanted s ≡ 0 → ⊥) (answer : Option (List ℕ)) {later : Progress} (e : later ≡ step s answer) where
  pub later_sound : Sound later
  later_sound = subst Sound (sym e) ((goes s h w).sound answer)

  pub later_fewer : still_to_read later < still_to_read s
  later_fewer = subst (λ (t : Progress). still_to_read t < still_to_read s) (sym e) ((goes s h w).fewer answer)

few : (notes : List Note) (phase : Phase) → SoundIn notes phase → length notes ≤ most_files
few notes reading s = s
few notes (comparing n cells j) s = let s0 = s.0 in omega arith
few notes over s = s

-- There are at most fifty notes.
pub few_notes : (c : Classifier) (cells : List ℕ) → Sound (progress_of c cells) → c.count ≤ 50
few_notes c cells s = let h = few (progress_of c cells).notes (progress_of c cells).phase s in let l = count_notes c cells in omega arith

-- What is written lies within the buffer.
pub text_within : (c : Classifier) (before : List ℕ) {p : ℕ} {out : List ℕ} → p ≡ length (notes_text (notes_in c)) → out ≡ overwritten (notes_text (notes_in c)) before → p ≤ length out
text_within c before q e = let text = notes_text (notes_in c) in omega (arith, ap length e ∙ length-append text (drop (length text) before))
