-- The place where the reading stops is the offending place, and there is only one. The idea: in each live state the text can still be completed.
-- Assumes nothing.
use mathlib.Core.Path.{◌≡◌, refl, ap, sym, ◌∙◌}
use mathlib.Core.Bool.{Bool, true, false, cond, true≢false}
use mathlib.Core.Logic.{◌⊎◌, inl, inr}
use mathlib.Core.List.{List, [], ◌∷◌, ◌++◌}
use Prim.Native.Nat.{ℕ, zero, suc, ◌≤◌, ◌<◌}
use native.Mathlib.Omega.{arith}
use lib.ListN.{length, take}
use Rattle.semigroups.proofs.Booleans.{trichotomy}
use Rattle.sheets.specs.Grammar.{is_printable, is_text_data, is_quotable}
use Rattle.sheets.specs.Readings.{BeginsSheet, Offending}
use Rattle.sheets.specs.InnerAutomaton.{number_part, name_part, State, opening, bare, quoted, shut, cr, line, dead, after_field, bare_step, opening_step, state_after, accepting, is_dead, run, accepts, place_from, place}
use Rattle.sheets.proofs.Soundness.{accepted_passes}
use Rattle.sheets.proofs.Completeness.{run_append, passes_accepted}

-- ---- dead and live

pub run_dead : (t : List ℕ) → run dead t ≡ dead
unfolding run state_after
run_dead [] = refl
run_dead (b ∷ t) = run_dead t

-- Bytes that complete a record from this state; `dead`, which has no completion, gets none.
completion : State → List ℕ
completion (opening number_part) = 44 ∷ []
completion (opening name_part) = []
completion (bare number_part) = 44 ∷ []
completion (bare name_part) = []
completion (quoted number_part) = 34 ∷ 44 ∷ []
completion (quoted name_part) = 34 ∷ []
completion (shut number_part) = 44 ∷ []
completion (shut name_part) = []
completion cr = 10 ∷ []
completion line = []
completion dead = []

completes : (q : State) → is_dead q ≡ false → accepting (run q (completion q)) ≡ true
unfolding completion run state_after opening_step bare_step after_field is_text_data is_quotable is_printable accepting is_dead
completes (opening number_part) h = refl
completes (opening name_part) h = refl
completes (bare number_part) h = refl
completes (bare name_part) h = refl
completes (quoted number_part) h = refl
completes (quoted name_part) h = refl
completes (shut number_part) h = refl
completes (shut name_part) h = refl
completes cr h = refl
completes line h = refl
completes dead h = absurd (true≢false h)

pub dead_same : (q : State) → is_dead q ≡ true → q ≡ dead
unfolding is_dead
dead_same (opening n) h = absurd (true≢false (sym h))
dead_same (bare n) h = absurd (true≢false (sym h))
dead_same (quoted n) h = absurd (true≢false (sym h))
dead_same (shut n) h = absurd (true≢false (sym h))
dead_same cr h = absurd (true≢false (sym h))
dead_same line h = absurd (true≢false (sym h))
dead_same dead h = refl

-- A beginning that does not lead to the dead state can be completed to a text that passes question 40.
live_begins : (p : List ℕ) → is_dead (run (opening number_part) p) ≡ false → BeginsSheet p
unfolding accepts
live_begins p h =
    let w = completion (run (opening number_part) p) in
    record { rest = w; passes = accepted_passes (p ++ w) (ap accepting (run_append (opening number_part) p w) ∙ completes (run (opening number_part) p) h) }

-- No text that passes question 40 starts with a beginning that leads to the dead state.
dead_ends : (p : List ℕ) → is_dead (run (opening number_part) p) ≡ true → BeginsSheet p → ⊥
unfolding accepts accepting
dead_ends p h b =
    let a = passes_accepted (p ++ b.rest) b.passes in
    let d : run (opening number_part) (p ++ b.rest) ≡ dead = run_append (opening number_part) p b.rest ∙ ap (λ (q : State). run q b.rest) (dead_same _ h) ∙ run_dead b.rest in
    true≢false (sym a ∙ ap accepting d)

-- ---- the place

place_within : (q : State) (t : List ℕ) → place_from q t ≤ length t
unfolding place_from
place_within q [] = omega arith
place_within q (b ∷ t) = go (place_within (state_after q b) t) (is_dead (state_after q b))
  where
    go : place_from (state_after q b) t ≤ length t → (d : Bool) → cond d 0 (suc (place_from (state_after q b) t)) ≤ suc (length t)
    go ih true = omega arith
    go ih false = omega arith

-- Up to the place, the reading is not in the dead state.
place_live : (q : State) (t : List ℕ) → is_dead q ≡ false → is_dead (run q (take (place_from q t) t)) ≡ false
unfolding place_from run
place_live q [] h = h
place_live q (b ∷ t) h = go (place_live (state_after q b) t) (is_dead (state_after q b)) refl
  where
    go : (is_dead (state_after q b) ≡ false → is_dead (run (state_after q b) (take (place_from (state_after q b) t) t)) ≡ false) → (d : Bool) → is_dead (state_after q b) ≡ d
        → is_dead (run q (take (cond d 0 (suc (place_from (state_after q b) t))) (b ∷ t))) ≡ false
    go ih true e = h
    go ih false e = ih e

-- After the place, it is in the dead state.
place_dead : (q : State) (t : List ℕ) (j : ℕ) → place_from q t < j → j ≤ length t → is_dead (run q (take j t)) ≡ true
unfolding place_from run is_dead
place_dead q [] j l m = let w : ⊥ = omega arith in absurd w
place_dead q (b ∷ t) zero l m = let w : ⊥ = omega arith in absurd w
place_dead q (b ∷ t) (suc j) l m = go (place_dead (state_after q b) t j) (is_dead (state_after q b)) refl l
  where
    go : (place_from (state_after q b) t < j → j ≤ length t → is_dead (run (state_after q b) (take j t)) ≡ true) → (d : Bool) → is_dead (state_after q b) ≡ d
        → cond d 0 (suc (place_from (state_after q b) t)) < suc j → is_dead (run (state_after q b) (take j t)) ≡ true
    go ih true e k = ap is_dead (ap (λ (p : State). run p (take j t)) (dead_same (state_after q b) e) ∙ run_dead (take j t))
    go ih false e k = ih (omega arith) (omega arith)

-- The place where the reading stops is the offending place.
pub place_offending : (t : List ℕ) → Offending t (place t)
unfolding place is_dead
place_offending t = record {
  within = place_within (opening number_part) t;
  begins = live_begins (take (place_from (opening number_part) t) t) (place_live (opening number_part) t refl);
  longest = λ j l m b. dead_ends (take j t) (place_dead (opening number_part) t j l m) b;
}

-- There is only one offending place.
pub offending_unique : (t : List ℕ) (j k : ℕ) → Offending t j → Offending t k → j ≡ k
offending_unique t j k a b = go (trichotomy j k)
  where
    go : (j ≡ k) ⊎ ((j < k) ⊎ (k < j)) → j ≡ k
    go (inl e) = e
    go (inr (inl l)) = absurd (a.longest k l b.within b.begins)
    go (inr (inr l)) = absurd (b.longest j l a.within a.begins)
