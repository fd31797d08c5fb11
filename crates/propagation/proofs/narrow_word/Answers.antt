use lib.Count.{count_trailing_zeros}
use lib.Pow.{shr_le, pow_mono}
use native.Mathlib.Nat.{div-one}
use Prim.Native.Nat.{◌^◌}
use Rattle.std.proofs.Common.{◌≡◌, Bool, true, false, ℕ, ◌+◌, ◌*◌, ◌/◌, ◌%◌, ◌<◌, refl, sym, ◌∙◌, arith}
use Rattle.products.specs.Tables.{times_of}
use Rattle.rows.specs.InnerRows.{word}
use Rattle.rows.proofs.Words.{kept, jump, done, hit, following, word_more, word_as_was, word_below}
use Rattle.propagation.specs.InnerRows.{stays}
use Rattle.propagation.proofs.narrow_word.Goals.{then-stays, else-stays}
use Rattle.propagation.proofs.narrow_word.Goals as goal

-- The lowest bit that is left is at this place.
module _ (old from k rest w : ℕ) (test : ℕ → Bool) (after : rest ≡ old / 2 ^ k) (so_far : w ≡ word (kept old from test) from k) where
  abbrev place : ℕ
  place = k + count_trailing_zeros 64 rest

  here : w ≡ word (kept old from test) from place
  here = so_far ∙ jump old from test k rest after place (omega arith) (omega arith)

  with_bit : 0 < rest → rest < 2 ^ 64 → place < 64 → test (from + place) ≡ true → w + 1 * 2 ^ place % 2 ^ 64 ≡ word (kept old from test) from (place + 1)
  with_bit some fits small e = word_more (kept old from test) from place w small here (hit old from test k rest after some fits ∙ e)

  without_bit : 0 < rest → rest < 2 ^ 64 → test (from + place) ≡ false → w ≡ word (kept old from test) from (place + 1)
  without_bit some fits e = word_as_was (kept old from test) from place w here (hit old from test k rest after some fits ∙ e)

pub loop-rest-init : goal.loop-rest-init
unfolding word
loop-rest-init c = record { within = omega arith; after = sym (div-one c.args.old); so_far = refl }

pub returns-then-count-k : goal.returns-then-count-k
returns-then-count-k c =
    let a = c.args in
    let l = c.loop-rest in
    let i = l.invariant in
    record { answer = i.so_far ∙ jump a.old a.from (stays (times_of a.target.now) a.x a.looks a.left a.right) l.k l.rest i.after a.count i.within c.if-count-k.true }

pub overflow_add-w : goal.overflow_add-w
overflow_add-w c =
    let a = c.args in
    let l = c.loop-rest in
    let i = l.invariant in
    let t : ℕ → Bool = stays (times_of a.target.now) a.x a.looks a.left a.right in
    let p = c.requires.le_from in
    let m = with_bit a.old a.from l.k l.rest l.w t i.after i.so_far (omega arith) (omega (arith, shr_le a.old l.k)) (omega arith) (sym c.stays.ensures.answer ∙ c.if-stays.true) in
    let w = word_below (kept a.old a.from t) a.from (place a.old a.from l.k l.rest l.w t i.after i.so_far + 1) in
    let q = pow_mono {i = place a.old a.from l.k l.rest l.w t i.after i.so_far + 1} {j = 60} (omega arith) in
    omega arith

pub loop-rest-preserved : goal.loop-rest-preserved
loop-rest-preserved c =
    let a = c.args in
    let l = c.loop-rest in
    let i = l.invariant in
    let t : ℕ → Bool = stays (times_of a.target.now) a.x a.looks a.left a.right in
    let some : 0 < l.rest = omega arith in
    let fits : l.rest < 2 ^ 64 = omega (arith, shr_le a.old l.k) in
    let is = sym c.stays.ensures.answer in
    record {
      within = omega arith;
      after = following a.old a.from t l.k l.rest i.after (count_trailing_zeros 64 l.rest);
      so_far = elim c.if-stays.branch [
        | then-stays w ↦ w.w-is ∙ with_bit a.old a.from l.k l.rest l.w t i.after i.so_far some fits (omega arith) (is ∙ w.if-stays.true)
        | else-stays w ↦ w.w-is ∙ without_bit a.old a.from l.k l.rest l.w t i.after i.so_far some fits (is ∙ w.if-stays.false)
      ];
    }

pub returns : goal.returns
returns c =
    let a = c.args in
    let l = c.loop-rest in
    let i = l.invariant in
    record { answer = i.so_far ∙ done a.old a.from (stays (times_of a.target.now) a.x a.looks a.left a.right) l.k l.rest i.after c.loop-rest-test.false a.count i.within }
