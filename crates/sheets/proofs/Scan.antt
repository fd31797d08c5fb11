-- The scan of a text, state by state: what is left to read decides.
-- Assumes nothing.
use mathlib.Core.Path.{◌≡◌, refl, ap, sym, ◌∙◌}
use mathlib.Core.Bool.{Bool, true, false, cond}
use mathlib.Core.List.{List, ◌∷◌}
use mathlib.Core.Option.{Option, none, some, none-ne-some, some-ne-none}
use Prim.Native.Nat.{ℕ, suc, ◌+◌, ◌≤◌, ◌<◌}
use native.Mathlib.Omega.{arith}
use lib.ListN.{length, get_or, drop}
use Rattle.sheets.specs.InnerAutomaton.{number_part, State, opening, dead, state_after, accepting, is_dead, run, accepts, place_from, place}
use Rattle.sheets.proofs.Places.{run_dead}
use Rattle.sheets.proofs.Cursor.{from_here, from_end}

-- At place i the reading is in state q, which is not the dead one.
pub record Scanning (t : List ℕ) (i : ℕ) (q : State) : Type 0 where
  pub inside : i ≤ length t
  pub accepted : accepts t ≡ accepting (run q (drop i t))
  pub offence : place t ≡ i + place_from q (drop i t)

pub scan_first : (t : List ℕ) → Scanning t 0 (opening number_part)
unfolding accepts place
scan_first t = record { inside = omega arith; accepted = refl; offence = let z : place_from (opening number_part) t ≡ 0 + place_from (opening number_part) t = omega arith in z }

place_step : (q : State) (b : ℕ) (u : List ℕ) → is_dead (state_after q b) ≡ false → place_from q (b ∷ u) ≡ suc (place_from (state_after q b) u)
unfolding place_from
place_step q b u e = rw e

place_dead : (q : State) (b : ℕ) (u : List ℕ) → state_after q b ≡ dead → place_from q (b ∷ u) ≡ 0
unfolding place_from is_dead
place_dead q b u e = rw e

run_step : (q : State) (b : ℕ) (u : List ℕ) → run q (b ∷ u) ≡ run (state_after q b) u
unfolding run
run_step q b u = refl

-- What a scan returns: none for a sheet, else the offending place.
abbrev pub offence_of : List ℕ → Option ℕ
offence_of t = cond (accepts t) none (some (place t))

module _ (t : List ℕ) (i : ℕ) (q : State) (s : Scanning t i q) where
  module _ (h : i < length t) where
    abbrev b : ℕ
    b = get_or t i 0

    pub scan_next : (r : State) → r ≡ state_after q b → is_dead r ≡ false → Scanning t (i + 1) r
    scan_next r e d =
        let e2 : is_dead (state_after q b) ≡ false = ap is_dead (sym e) ∙ d in
        let here = from_here t i h in
        let step-place = place_step q b (drop (i + 1) t) e2 in
        let o : place t ≡ i + place_from q (b ∷ drop (i + 1) t) = s.offence ∙ ap (λ (l : List ℕ). i + place_from q l) here in
        let o2 : place t ≡ (i + 1) + place_from (state_after q b) (drop (i + 1) t) = omega arith in
        record {
          inside = omega arith;
          accepted = s.accepted ∙ ap (λ (l : List ℕ). accepting (run q l)) here ∙ ap accepting (run_step q b (drop (i + 1) t)) ∙ ap (λ (x : State). accepting (run x (drop (i + 1) t))) (sym e);
          offence = o2 ∙ ap (λ (x : State). (i + 1) + place_from x (drop (i + 1) t)) (sym e);
        }

    pub scan_dead : state_after q b ≡ dead → offence_of t ≡ some i
    unfolding accepting
    scan_dead e =
        let here = from_here t i h in
        let o : place t ≡ i + place_from q (b ∷ drop (i + 1) t) = s.offence ∙ ap (λ (l : List ℕ). i + place_from q l) here in
        let z = place_dead q b (drop (i + 1) t) e in
        let o2 : place t ≡ i = omega arith in
        let a : accepts t ≡ false = s.accepted ∙ ap (λ (l : List ℕ). accepting (run q l)) here ∙ ap accepting (run_step q b (drop (i + 1) t) ∙ ap (λ (x : State). run x (drop (i + 1) t)) e ∙ run_dead (drop (i + 1) t)) in
        rw (a, o2)

  module _ (h : length t ≤ i) where
    ends : (accepts t ≡ accepting q) × (place t ≡ i)
    unfolding run place_from
    ends =
        let none_left = from_end t i h in
        let o : place t ≡ i + 0 = s.offence ∙ ap (λ (l : List ℕ). i + place_from q l) none_left in
        (s.accepted ∙ ap (λ (l : List ℕ). accepting (run q l)) none_left, omega arith)

    pub scan_sheet : accepting q ≡ true → offence_of t ≡ none
    scan_sheet e = let a : accepts t ≡ true = ends.0 ∙ e in rw a

    pub scan_open : accepting q ≡ false → offence_of t ≡ some i
    scan_open e = let a : accepts t ≡ false = ends.0 ∙ e in rw (a, ends.1)

-- ---- what the scan's answer shows

found_none : (b : Bool) (k : ℕ) → cond b none (some k) ≡ none → b ≡ true
found_none true k e = refl
found_none false k e = absurd (some-ne-none k e)

found_some : (b : Bool) (k i : ℕ) → cond b none (some k) ≡ some i → (b ≡ false) × (k ≡ i)
found_some true k i e = absurd (none-ne-some i e)
found_some false k i e = (refl, cc)

pub scanned_sheet : (t : List ℕ) → offence_of t ≡ none → accepts t ≡ true
scanned_sheet t e = found_none (accepts t) (place t) e

pub scanned_offence : (t : List ℕ) (i : ℕ) → offence_of t ≡ some i → (accepts t ≡ false) × (place t ≡ i)
scanned_offence t i e = found_some (accepts t) (place t) i e
