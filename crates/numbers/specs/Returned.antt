-- What a search returns to a program in C or Rust (RULES 7.6). Assumes nothing.
use Rattle.std.specs.Prelude.{List, ℕ}
use Rattle.semigroups.specs.Calls.{Answer}
use Rattle.calls.specs.Calls.{Called, called}
use Rattle.numbers.specs.Numbers.{answer_words}

-- What a search says and leaves, with its answer as sixteen numbers.
abbrev pub words_of : {A : Type 0} → (A → List ℕ) → Called (Answer A) → Called (List ℕ)
words_of values c = called (answer_words values c.says) c.map_bytes c.scratch
