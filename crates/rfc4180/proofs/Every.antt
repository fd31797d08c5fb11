-- Laws of what holds of every entry of a list.
-- Assumes nothing.
use mathlib.Core.Path.{refl, sym, subst}
use mathlib.Core.List.Memᴰ
use mathlib.Core.List.{List, [], ◌∷◌, ◌++◌, Memᴰ}
use Rattle.rfc4180.specs.Every.{Every}

module _ {A : Type 0} where
  pub every_append : (P : A → Type 0) (l k : List A) → Every P l → Every P k → Every P (l ++ k)
  every_append P [] k h g = g
  every_append P (x ∷ l) k h g = (h.0, every_append P l k h.1 g)

  pub every_map : (P Q : A → Type 0) → ((x : A) → P x → Q x) → (l : List A) → Every P l → Every Q l
  every_map P Q f [] h = tt
  every_map P Q f (x ∷ l) h = (f x h.0, every_map P Q f l h.1)

  pub every_mem : (P : A → Type 0) (l : List A) → Every P l → (x : A) → Memᴰ x l → P x
  every_mem P [] h x m = absurd (Memᴰ.not-nil m)
  every_mem P (y ∷ l) h x (Memᴰ.head e) = subst P (sym e) h.0
  every_mem P (y ∷ l) h x (Memᴰ.tail m) = every_mem P l h.1 x m

  pub mem_every : (P : A → Type 0) (l : List A) → ((x : A) → Memᴰ x l → P x) → Every P l
  mem_every P [] h = tt
  mem_every P (y ∷ l) h = (h y (Memᴰ.head refl), mem_every P l (λ x m. h x (Memᴰ.tail m)))
