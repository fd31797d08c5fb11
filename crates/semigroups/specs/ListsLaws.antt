-- What is said of lists in plain words: increasing, earlier, earliest; and how many numbers have a property.
-- Assumes nothing.
use Rattle.std.specs.Prelude.{◌≡◌, true, ◌⊎◌, ◌↔◌, ℕ, ◌<◌, length, get_or}
use mathlib.Core.List.{List, Memᴰ}
use Rattle.semigroups.specs.Lists.{earlier}
use Rattle.semigroups.specs.InnerLists.{Sorted, NoRepeats}

-- Exactly k numbers have the property P: a list of them, each once, has k entries.
pub record IsCount (P : ℕ → Type 0) (k : ℕ) : Type 0 where
  pub those : List ℕ
  pub once : NoRepeats those
  pub exactly : (x : ℕ) → Memᴰ x those ↔ P x
  pub size : length those ≡ k

-- Each list is earlier than every list that follows it.
abbrev pub Increasing : List (List ℕ) → Type 0
Increasing l = Sorted (λ a b. earlier a b ≡ true) l

-- List a is earlier than list b: at the first place where they differ, counted from 0, a's entry is smaller.
pub record Earlier (a b : List ℕ) : Type 0 where
  pub place : ℕ
  pub in_first : place < length a
  pub in_second : place < length b
  pub same_before : (k : ℕ) → k < place → get_or a k 0 ≡ get_or b k 0
  pub smaller : get_or a place 0 < get_or b place 0

-- e is the earliest list with the property P.
pub record Earliest (P : List ℕ → Type 0) (e : List ℕ) : Type 0 where
  pub has : P e
  pub before_others : (g : List ℕ) → P g → (g ≡ e) ⊎ (earlier e g ≡ true)
