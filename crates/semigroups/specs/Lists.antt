-- Lists of numbers: the lists of a given length in list order, the earlier of two lists, and the first entry that passes a test.
-- Where a definition binds its recursive call by `let`, that call is computed only if it is needed.
-- Assumes nothing.
use Rattle.std.specs.Prelude.{Bool, true, false, ◌&&◌, ◌||◌, not, cond, ℕ, zero, suc, ◌+◌, ◌-◌, eqb, ltb, get_or}
use mathlib.Core.List.{List, [], ◌∷◌, map, flat_map}
use Rattle.std.proofs.Math.Option
use Rattle.std.proofs.Math.Option.{Option, none, some, or_else}

-- ---- consecutive numbers

-- The k numbers from i on: i, i + 1, and so on.
unfoldable pub range : ℕ → ℕ → List ℕ
range i zero = []
range i (suc k) = i ∷ range (suc i) k

-- The numbers 1 to n: the elements of a table of order n (RULES 3.2).
unfoldable pub elements : ℕ → List ℕ
elements n = range 1 n

-- Entry i of a list, counted from 1. After the end it is 0, which stands for no element (RULES 3.2). Entry 0, which nothing asks for, is the first entry.
unfoldable pub at : List ℕ → ℕ → ℕ
at l i = get_or l (i - 1) 0

-- ---- tests over a list

module _ {A : Type 0} where
  -- Whether every entry passes.
  unfoldable pub all : (A → Bool) → List A → Bool
  all p [] = true
  all p (x ∷ l) = let r = all p l in p x && r

  -- The first entry that passes, or none.
  unfoldable pub find : (A → Bool) → List A → Option A
  find p [] = none
  find p (x ∷ l) = let r = find p l in cond (p x) (some x) r

  -- The list without the entries that do not pass.
  unfoldable pub keep : (A → Bool) → List A → List A
  keep p [] = []
  keep p (x ∷ l) = let r = keep p l in cond (p x) (x ∷ r) r

  -- The sum of w over the entries.
  unfoldable pub sum : (A → ℕ) → List A → ℕ
  sum w [] = 0
  sum w (x ∷ l) = w x + sum w l

  -- How many entries pass.
  unfoldable pub count : (A → Bool) → List A → ℕ
  count p l = sum (λ x. cond (p x) 1 0) l

-- The first value that g gives at an entry, or none.
unfoldable pub first_of : {A B : Type 0} → (A → Option B) → List A → Option B
first_of g [] = none
first_of g (x ∷ l) = let r = first_of g l in or_else (g x) r

-- Whether there is a value.
abbrev pub is_some : {A : Type 0} → Option A → Bool
is_some none = false
is_some (some x) = true

-- The first of 1 to n that passes, or n + 1 if none does.
unfoldable pub least : ℕ → (ℕ → Bool) → ℕ
least n p = Option.get_or (find p (elements n)) (n + 1)

-- Whether x stands in the list.
unfoldable pub member : ℕ → List ℕ → Bool
member x [] = false
member x (y ∷ l) = let r = member x l in eqb x y || r

-- Whether no entry stands in the list twice.
unfoldable pub distinct : List ℕ → Bool
distinct [] = true
distinct (x ∷ l) = let r = distinct l in not (member x l) && r

-- ---- list order

-- List a is earlier than list b when, at the first entry where they differ, a's entry is smaller (RULES 6.1).
unfoldable pub earlier : List ℕ → List ℕ → Bool
earlier [] b = false
earlier (x ∷ a) [] = false
earlier (x ∷ a) (y ∷ b) = let r = earlier a b in cond (eqb x y) r (ltb x y)

-- All lists of m entries from 1 to n, in list order: those that begin with 1, then those that begin with 2, and so on.
unfoldable pub lists : ℕ → ℕ → List (List ℕ)
lists zero n = [] ∷ []
lists (suc m) n = let r = lists m n in flat_map (λ x. map (λ l. x ∷ l) r) (elements n)
