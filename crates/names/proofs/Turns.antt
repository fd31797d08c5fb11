-- The two fields of a record, as they are read one after the other. Assumes nothing.
use Rattle.std.proofs.Common.{◌≡◌, Bool, true, List, ℕ, ◌+◌, ◌≤◌, length, take, drop, ltb, ap, subst, ◌∙◌, arith, refl}
use borrow.Author.Tests.{lt-ltb}
use Rattle.sheets.specs.Grammar.{IsSheet, Row}
use Rattle.sheets.specs.Names.{is_name, is_number}
use Rattle.sheets.specs.InnerCursor.{value_at, size_at}
use Rattle.sheets.proofs.Records.{comma_at, end_at, Turn, judge_first, judge_turn}
use Rattle.names.specs.declared.Value.{Value}
use Rattle.names.specs.InnerReading.{HoldsValue}
use Rattle.names.proofs.Values.{held_number, held_name}

-- A sheet has a byte.
pub some_byte : (t : List ℕ) → IsSheet t → ltb 0 (length t) ≡ true
some_byte t p = let h = (judge_turn (judge_first t p) refl).name_inside in lt-ltb 0 (length t) (omega arith)

module _ (t : List ℕ) (at comma : ℕ) (e : comma ≡ comma_at t at) where
  pub comma_inside : {rows : List Row} → Turn t at rows → comma + 1 ≤ length t
  comma_inside h = let i = h.name_inside in omega arith

  pub name_held : (v : Value) → HoldsValue (value_at (drop (comma + 1) t)) v → HoldsValue (value_at (drop (comma_at t at + 1) t)) v
  name_held v h = subst (λ (n : ℕ). HoldsValue (value_at (drop (n + 1) t)) v) e h

  pub end_is : (end : ℕ) → end ≡ (comma + 1) + size_at (drop (comma + 1) t) → end ≡ end_at t at
  end_is end f = f ∙ ap (λ (n : ℕ). (n + 1) + size_at (drop (n + 1) t)) e

-- What a test of the bytes held says of the value.
module _ (s : List ℕ) (v : Value) (h : HoldsValue s v) (held : List ℕ) (f : held ≡ take v.size v.bytes) (r : Bool) where
  pub number_told : (k : ℕ) → r ≡ is_number k held → is_number k s ≡ r
  number_told k e = let a = held_number s v k h in let b = ap (is_number k) f in cc

  pub name_told : r ≡ is_name held → is_name s ≡ r
  name_told e = let a = held_name s v h in let b = ap is_name f in cc
