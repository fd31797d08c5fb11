-- What passes the questions about loading and saving a text, in plain words (RULES 7.3): a call is not refused exactly if this holds. Assumes nothing.
use Rattle.std.specs.Prelude.{◌≡◌, ℕ, suc, ◌*◌, ◌≤◌, ◌<◌, length, get_or}
use mathlib.Core.List.{List, Memᴰ}
use Rattle.semigroups.specs.Tables.{largest_order, Element, Filled}
use Rattle.rfc4180.specs.Decimals.{value}
use Rattle.rfc4180.specs.Records.{rows}
use Rattle.rfc4180.specs.Tables.{fields_of, order_of, table_text}
use Rattle.rfc4180.specs.Questions.{longest_text}

-- The byte at place p, counted from 0, is a digit, a comma, or part of a CR LF pair.
pub data AllowedByte (t : List ℕ) (p : ℕ) : Type 0 where
  a_digit : 48 ≤ get_or t p 0 → get_or t p 0 ≤ 57 → AllowedByte t p
  a_comma : get_or t p 0 ≡ 44 → AllowedByte t p
  a_cr : get_or t p 0 ≡ 13 → get_or t (suc p) 0 ≡ 10 → AllowedByte t p
  an_lf : (q : ℕ) → p ≡ suc q → get_or t q 0 ≡ 13 → get_or t p 0 ≡ 10 → AllowedByte t p

-- A field is 1 to 3 bytes, does not begin with the digit 0, and is at most 120.
pub record Number (f : List ℕ) : Type 0 where
  pub some_byte : 1 ≤ length f
  pub short : length f ≤ 3
  pub leading : get_or f 0 0 ≡ 48 → ⊥
  pub small : value f ≤ largest_order

-- What passes the questions about loading a text into a buffer of `room` cells.
pub record LoadPasses (t : List ℕ) (room : ℕ) : Type 0 where
  pub size : Element longest_text (length t)
  pub bytes : (p : ℕ) → p < length t → AllowedByte t p
  pub numbers : (f : List ℕ) → Memᴰ f (fields_of t) → Number f
  pub as_many_records : length (rows t) ≡ order_of t
  pub as_many_fields : (r : List (List ℕ)) → Memᴰ r (rows t) → length r ≡ order_of t
  pub order : order_of t ≤ largest_order
  pub cells_room : order_of t * order_of t ≤ room

-- What passes the questions about saving a table into a buffer of `room` bytes.
pub record SavePasses (n : ℕ) (cells : List ℕ) (room : ℕ) : Type 0 where
  pub table : Filled n cells
  pub text_room : length (table_text n cells) ≤ room
