-- `main` goes on while a file is wanted, and prints once none is. Assumes nothing.
use Rattle.std.proofs.Common.{◌≡◌, ℕ, ◌<◌, take, ◌∙◌, arith}
use Rattle.progress.specs.Held.{progress_of, opened_text}
use Rattle.classification.proofs.Program.{later_sound, later_fewer, few_notes}
use Rattle.classes.proofs.main.Goals as goal

-- A file that is wanted has a number above 0.
some_file : (k n : ℕ) → k ≡ n → 0 < k → n ≡ 0 → ⊥
some_file k n e h z = omega arith

pub loop-k-smaller : goal.loop-k-smaller
loop-k-smaller c =
    let l = c.loop-k in
    let asked = some_file _ _ (c.in-Some.ensures.answer l.cells) (c.in-Some.ensures.file l.cells l.invariant.sound) in
    later_fewer (progress_of l.classifier l.cells) l.invariant.sound asked
    (opened_text c.is_some.result (take c.unwrap_or-length.result c.read_opened-read.new.text)) c.step-classifier.ensures.answer

pub loop-k-preserved : goal.loop-k-preserved
loop-k-preserved c =
    let l = c.loop-k in
    let asked = some_file _ _ (c.in-Some.ensures.answer l.cells) (c.in-Some.ensures.file l.cells l.invariant.sound) in
    record {
      text = c.read_opened-read.ensures.size ∙ l.invariant.text;
      cells = c.step-classifier.auto.cells ∙ l.invariant.cells;
      sound =
          later_sound (progress_of l.classifier l.cells) l.invariant.sound asked
          (opened_text c.is_some.result (take c.unwrap_or-length.result c.read_opened-read.new.text)) c.step-classifier.ensures.answer;
    }

pub put-written-requires-clause-few : goal.put-written-requires-clause-few
put-written-requires-clause-few c = few_notes c.loop-k.classifier c.loop-k.cells c.loop-k.invariant.sound
