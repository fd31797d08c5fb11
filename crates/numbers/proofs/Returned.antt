-- What a search returns has its numbers and both buffers, as the search says and leaves them. Assumes nothing.
use mathlib.Core.Path.{◌≡◌, ap, ◌∙◌}
use mathlib.Core.List.{List}
use Prim.Native.Nat.{ℕ}
use Rattle.semigroups.specs.Calls.{Answer}
use Rattle.calls.specs.Calls.{Called, called}
use Rattle.numbers.specs.Numbers.{answer_words}
use Rattle.numbers.specs.Returned.{words_of}

-- The answer of a search in numbers, and the buffers as the search leaves them.
pub words_left : {A : Type 0} (values : A → List ℕ) (says : Answer A) {answer bytes scratch : List ℕ} {c : Called (Answer A)} → answer ≡ answer_words values says → called says bytes scratch ≡ c → called answer bytes scratch ≡ words_of values c
words_left values says {answer = answer} {bytes = bytes} {scratch = scratch} e f = ap {B = Called (List ℕ)} (λ (w : List ℕ). called w bytes scratch) e ∙ ap (words_of values) f
