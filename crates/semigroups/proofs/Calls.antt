-- What a call says and leaves once its questions are asked, from its refusal. Assumes nothing.
use mathlib.Core.Path.{◌≡◌, refl, sym, ap}
use mathlib.Core.Logic.{◌⊎◌, inl, inr, ◌↔◌}
use mathlib.Core.List.{List}
use mathlib.Core.Option.{Option, none, some, none-ne-some, some-ne-none}
use Prim.Native.Nat.{ℕ}
use Rattle.semigroups.specs.Questions.{Refusal}
use Rattle.semigroups.specs.Maps.{found, nothing}
use Rattle.semigroups.specs.Calls.{Answer, refused, gives, given_unless, written_unless}
use Rattle.semigroups.proofs.Booleans.{impossible}

pub found_ne_nothing : gives found ≡ gives nothing → ⊥
found_ne_nothing e = impossible (cc)

module _ {A : Type 0} (value : A) where
  -- An answer that gives a value is no refusal.
  pub gives_ne_refused : (r : Refusal) → gives value ≡ refused r → ⊥
  gives_ne_refused r e = impossible (cc)

  pub given_or_refused : (q : Option Refusal) → (given_unless q value ≡ gives value) ⊎ ((r : Refusal) × (given_unless q value ≡ refused r))
  given_or_refused none = inl refl
  given_or_refused (some r) = inr (r, refl)

  pub refused_by_law : (q : Option Refusal) (r : Refusal) → (given_unless q value ≡ refused r) ↔ (q ≡ some r)
  refused_by_law none r = ((λ e. absurd (gives_ne_refused r e)), λ e. absurd (none-ne-some r e))
  refused_by_law (some q) r = ((λ e. let z : q ≡ r = cc in ap {B = Option Refusal} some z), λ e. let z : q ≡ r = cc in ap {B = Answer A} refused z)

  pub given_by : (q : Option Refusal) → (given_unless q value ≡ gives value) ↔ (q ≡ none)
  given_by none = ((λ e. refl), λ e. refl)
  given_by (some r) = ((λ e. absurd (gives_ne_refused r (sym e))), λ e. absurd (some-ne-none r e))

  -- A refusal changes no byte of a buffer that is written.
  pub refused_keeps : (q : Option Refusal) (r : Refusal) → given_unless q value ≡ refused r → (written before : List ℕ) → written_unless q written before ≡ before
  refused_keeps none r e written before = absurd (gives_ne_refused r e)
  refused_keeps (some q) r e written before = refl
