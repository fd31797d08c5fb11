-- What is said of a table, from its questions one by one, and what it says of the table. Assumes nothing.
use mathlib.Core.List.{List}
use mathlib.Core.Option.{Option, none, some}
use mathlib.Core.Path.{◌≡◌, refl, sym, ap, ◌∙◌}
use Prim.Native.Nat.{ℕ}
use Rattle.semigroups.specs.Questions.{Refusal, table_refusal}
use Rattle.semigroups.specs.InnerQuestions.{cells_refusal}
use Rattle.semigroups.specs.Tables.{Accepted}
use Rattle.semigroups.proofs.Tables.{accepted}
use Rattle.tables.proofs.Questions.{cells_refused}
use Rattle.std.specs.Prelude.{Result, false}
use Rattle.std.specs.Result.{is_err}
use Rattle.plain.specs.declared.Said.{Said}
use Rattle.plain.specs.InnerSaid.{said_of}

module _ (n : ℕ) (cells : List ℕ) where
  -- A refusal by questions 1 to 3 is that of the table.
  pub said_of_cells : (r : Refusal) → cells_refusal n cells ≡ some r → said_of (some r) ≡ said_of (table_refusal n cells)
  said_of_cells r q = sym (ap {B = Result (Unit {0}) Said} said_of (cells_refused n cells r q))

  -- A table that is not refused is accepted.
  pub judged_accepted : (r : Result (Unit {0}) Said) → r ≡ said_of (table_refusal n cells) → is_err r ≡ false → Accepted n cells
  judged_accepted r e h = go (table_refusal n cells) refl (sym (ap is_err e) ∙ h)
    where
      go : (q : Option Refusal) → table_refusal n cells ≡ q → is_err (said_of q) ≡ false → Accepted n cells
      go none w z = accepted n cells w
      go (some q) w z = cc
