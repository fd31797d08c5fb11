-- What a call says, and what it leaves in a buffer that it writes (RULES 7.1: the first "no" ends the call, with every lent byte unchanged).
-- Assumes nothing.
use Rattle.std.specs.Prelude.{List, ◌++◌, ℕ, length, drop}
use Rattle.std.proofs.Math.Option.{Option, none, some}
use Rattle.semigroups.specs.Questions.{Refusal}

-- What a call says: the refusal by its earliest failed question, or what was asked for.
pub data Answer (A : Type 0) : Type 0 where
  refused : Refusal → Answer A
  gives : A → Answer A

-- The answer of a call: its refusal if there is one, otherwise this value.
abbrev pub given_unless : {A : Type 0} → Option Refusal → A → Answer A
given_unless none value = gives value
given_unless (some r) value = refused r

-- A buffer with these bytes written over its start; later bytes are untouched.
abbrev pub overwritten : List ℕ → List ℕ → List ℕ
overwritten written before = written ++ drop (length written) before

-- A buffer after a call that writes these bytes unless it is refused; a refusal changes no byte.
abbrev pub written_unless : Option Refusal → List ℕ → List ℕ → List ℕ
written_unless none written before = overwritten written before
written_unless (some r) written before = before
