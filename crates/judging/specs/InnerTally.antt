-- The tally of a group's comparisons, and the line that prints it. Assumes nothing.
use Rattle.std.specs.Prelude.{Bool, true, false, cond, List, [], ◌∷◌, ◌++◌, ℕ, zero, suc, ◌+◌, eqb}
use Rattle.rfc4180.specs.Decimals.{numeral_within}
use Rattle.judging.specs.declared.tally.Tally.{Tally}

-- The tally before anything is compared.
abbrev pub empty : Tally
empty = record { agreeing = 0; differing = 0 }

-- A count plus one; a count that has reached its largest value stays as it is.
unfoldable pub up : ℕ → ℕ
up k = cond (eqb k 18446744073709551615) k (k + 1)

-- The tally after one more comparison.
abbrev pub counted : Tally → Bool → Tally
counted t true = record { agreeing = up t.agreeing; differing = t.differing }
counted t false = record { agreeing = t.agreeing; differing = up t.differing }

-- The tally after k more comparisons that agree.
unfoldable pub agreed : ℕ → Tally → Tally
agreed zero t = t
agreed (suc k) t = counted (agreed k t) true

-- ---- the line

-- A count in decimal: 20 digits are enough.
abbrev pub decimal : ℕ → List ℕ
decimal k = numeral_within 20 k

-- The bytes of ": ".
abbrev pub colon : List ℕ
colon = 58 ∷ 32 ∷ []

-- The bytes of " agree, ".
abbrev pub agree_word : List ℕ
agree_word = 32 ∷ 97 ∷ 103 ∷ 114 ∷ 101 ∷ 101 ∷ 44 ∷ 32 ∷ []

-- The bytes of " differ" and LF.
abbrev pub differ_word : List ℕ
differ_word = 32 ∷ 100 ∷ 105 ∷ 102 ∷ 102 ∷ 101 ∷ 114 ∷ 10 ∷ []

-- The line of a group: its name, how many answers agree, and how many differ.
unfoldable pub tally_line : List ℕ → Tally → List ℕ
tally_line group t = group ++ (colon ++ (decimal t.agreeing ++ (agree_word ++ (decimal t.differing ++ differ_word))))
