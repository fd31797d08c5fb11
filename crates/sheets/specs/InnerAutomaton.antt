-- Reading a sheet byte by byte, as an automaton. It serves the proof of the scan; no contract of an entry point cites it.
-- Assumes nothing.
use Rattle.std.specs.Prelude.{Bool, true, false, cond, List, [], ◌∷◌, ℕ, suc, eqb}
use Rattle.sheets.specs.Grammar.{is_text_data, is_quotable}

-- The two fields of a record.
pub data Column : Type 0 where
  number_part : Column
  name_part : Column

-- Where the reading stands: at the start of a field; after a byte of a field with no quote marks; between quote marks; after a quote mark that closes the
-- field or is the first of two; after CR; after CR LF; nowhere, because no sheet begins with what was read.
pub data State : Type 0 where
  opening : Column → State
  bare : Column → State
  quoted : Column → State
  shut : Column → State
  cr : State
  line : State
  dead : State

-- The state after a byte that follows a field.
unfoldable pub after_field : Column → ℕ → State
after_field number_part b = cond (eqb b 44) (opening name_part) dead
after_field name_part b = cond (eqb b 13) cr dead

-- The state after a byte in a field with no quote marks.
unfoldable pub bare_step : Column → ℕ → State
bare_step n b = cond (is_text_data b) (bare n) (after_field n b)

-- The state after the first byte of a field.
unfoldable pub opening_step : Column → ℕ → State
opening_step n b = cond (eqb b 34) (quoted n) (bare_step n b)

-- The state after one more byte.
unfoldable pub state_after : State → ℕ → State
state_after (opening n) b = opening_step n b
state_after (bare n) b = bare_step n b
state_after (quoted n) b = cond (eqb b 34) (shut n) (cond (is_quotable b) (quoted n) dead)
state_after (shut n) b = cond (eqb b 34) (quoted n) (after_field n b)
state_after cr b = cond (eqb b 10) line dead
state_after line b = opening_step number_part b
state_after dead b = dead

-- Whether the text may end here.
unfoldable pub accepting : State → Bool
accepting (opening number_part) = false
accepting (opening name_part) = true
accepting (bare number_part) = false
accepting (bare name_part) = true
accepting (quoted n) = false
accepting (shut number_part) = false
accepting (shut name_part) = true
accepting cr = false
accepting line = true
accepting dead = false

-- Whether no sheet begins with what was read.
unfoldable pub is_dead : State → Bool
is_dead (opening n) = false
is_dead (bare n) = false
is_dead (quoted n) = false
is_dead (shut n) = false
is_dead cr = false
is_dead line = false
is_dead dead = true

-- The state after these bytes.
unfoldable pub run : State → List ℕ → State
run q [] = q
run q (b ∷ t) = run (state_after q b) t

-- Whether the reading of the whole text ends where it may.
unfoldable pub accepts : List ℕ → Bool
accepts t = accepting (run (opening number_part) t)

-- How many bytes are read before the first one that leads nowhere; all of them, if there is no such byte.
unfoldable pub place_from : State → List ℕ → ℕ
place_from q [] = 0
place_from q (b ∷ t) = let r = suc (place_from (state_after q b) t) in cond (is_dead (state_after q b)) 0 r

-- The length of the longest beginning of the text that some sheet starts with.
unfoldable pub place : List ℕ → ℕ
place t = place_from (opening number_part) t
