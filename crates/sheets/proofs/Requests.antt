-- What RULES 20 asks for holds: each field is a law of its subject, with instances in Examples. Shown here is which names need quote marks. Assumes nothing.
use mathlib.Core.Path.{◌≡◌, refl, sym, ap, ◌∙◌}
use mathlib.Core.Bool.{true, ◌||◌, or-true}
use mathlib.Core.Logic.{◌⊎◌, inl, inr}
use mathlib.Core.List.{List, [], ◌∷◌, Memᴰ}
use Prim.Native.Nat.{ℕ}
use borrow.Author.Tests.{eq-eqb, eqb-true}
use lib.Dec.{eqb}
use Rattle.semigroups.proofs.Booleans.{impossible, or_holds}
use Rattle.sheets.specs.Names.{is_number, needs_quotes}
use Rattle.sheets.specs.InnerAutomaton.{run, accepting, accepts, place_from, place}
use Rattle.sheets.specs.Requests.{NameRequests}
use Rattle.sheets.proofs.Numbers.{name_exactly, number_is, is_number_law}
use Rattle.sheets.proofs.Readings.{read, same_reading, refused_reading}
use Rattle.sheets.proofs.Passing.{load_names_pass, save_names_pass, load_keeps, save_keeps}
use Rattle.sheets.proofs.RoundTrips.{saved_names_load, saved_unchanged, loaded_unchanged, loads_closed}

-- ---- quote marks

holds_mark : (s : List ℕ) → needs_quotes s ≡ true → Memᴰ 44 s ⊎ Memᴰ 34 s
unfolding needs_quotes
holds_mark [] e = impossible (cc)
holds_mark (b ∷ s) e = go (holds_mark s) (or_holds (eqb b 44 || eqb b 34) (needs_quotes s) e)
  where
    here : (eqb b 44 ≡ true) ⊎ (eqb b 34 ≡ true) → Memᴰ 44 (b ∷ s) ⊎ Memᴰ 34 (b ∷ s)
    here (inl h) = inl (Memᴰ.head (sym (eqb-true b 44 h)))
    here (inr h) = inr (Memᴰ.head (sym (eqb-true b 34 h)))

    later : Memᴰ 44 s ⊎ Memᴰ 34 s → Memᴰ 44 (b ∷ s) ⊎ Memᴰ 34 (b ∷ s)
    later (inl m) = inl (Memᴰ.tail m)
    later (inr m) = inr (Memᴰ.tail m)

    go : (needs_quotes s ≡ true → Memᴰ 44 s ⊎ Memᴰ 34 s) → ((eqb b 44 || eqb b 34) ≡ true) ⊎ (needs_quotes s ≡ true) → Memᴰ 44 (b ∷ s) ⊎ Memᴰ 34 (b ∷ s)
    go rest (inl h) = here (or_holds (eqb b 44) (eqb b 34) h)
    go rest (inr h) = later (rest h)

comma_needs : (s : List ℕ) → Memᴰ 44 s → needs_quotes s ≡ true
unfolding needs_quotes
comma_needs [] x' = elim x' [ ]
comma_needs (b ∷ s) (Memᴰ.head e) = rw (eq-eqb b 44 (sym e))
comma_needs (b ∷ s) (Memᴰ.tail m) = rw (comma_needs s m) (or-true (eqb b 44 || eqb b 34))

quote_needs : (s : List ℕ) → Memᴰ 34 s → needs_quotes s ≡ true
unfolding needs_quotes
quote_needs [] x' = elim x' [ ]
quote_needs (b ∷ s) (Memᴰ.head e) = rw (eq-eqb b 34 (sym e), or-true (eqb b 44))
quote_needs (b ∷ s) (Memᴰ.tail m) = rw (quote_needs s m) (or-true (eqb b 44 || eqb b 34))

mark_needs : (s : List ℕ) → Memᴰ 44 s ⊎ Memᴰ 34 s → needs_quotes s ≡ true
mark_needs s (inl m) = comma_needs s m
mark_needs s (inr m) = quote_needs s m

-- ---- all of them

pub name_requests : NameRequests
name_requests =
    record {
      a_name = name_exactly;
      a_number = λ k f one. ((λ e. number_is k f e), λ h. ap (is_number k) h.1 ∙ is_number_law k one h.0);
      quotes_exactly = λ s. (holds_mark s, mark_needs s);
      readable = read;
      same_reading = same_reading;
      empty_offends = λ w. unfold place place_from in refused_reading [] (unfold accepts accepting run in refl) w;
      load_passes = λ t w nameRoom lengthRoom. load_names_pass nameRoom lengthRoom w;
      save_passes = save_names_pass;
      load_keeps = load_keeps;
      save_keeps = save_keeps;
      names_back = saved_names_load;
      saved_stays = saved_unchanged;
      loaded_stays = loaded_unchanged;
      last_break = loads_closed;
    }
