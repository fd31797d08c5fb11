-- Isomorphism is an equivalence on accepted files. Assumes nothing.
use mathlib.Core.Path.{◌≡◌, refl, ap, ◌∙◌, subst}
use mathlib.Core.Bool.{true, false, ◌&&◌, not}
use mathlib.Core.Logic.{◌↔◌}
use mathlib.Core.List.{List}
use mathlib.Core.Option.{Option, none, some}
use Prim.Native.Nat.{ℕ}
use Rattle.semigroups.specs.Lists.{is_some}
use Rattle.semigroups.specs.Tables.{Product, product, Accepted}
use Rattle.semigroups.specs.TablesLaws.{Closed}
use Rattle.semigroups.specs.Questions.{Refusal}
use Rattle.semigroups.specs.MapsLaws.{Isomorphism, identity, inverse}
use Rattle.semigroups.specs.InnerMaps.{Embedding}
use Rattle.semigroups.specs.Maps.{isomorphisms, maps, first, earliest, after}
use Rattle.semigroups.proofs.Booleans.{clash, both, and_left, and_right}
use Rattle.semigroups.proofs.Tables as tables
use Rattle.semigroups.proofs.Maps.{first_earliest, first_none}
use Rattle.semigroups.proofs.Composition.{identity_embeds, after_embeds, inverse_embeds}
use Rattle.rfc4180.specs.Tables.{order_of, cells_of}
use Rattle.files.specs.Files.{file_refusal, room}
use Rattle.files.specs.FilesLaws.{FilePasses}
use Rattle.files.proofs.Files.{file_passes}
use Rattle.progress.specs.Classes.{accepted, isomorphic, holds_like, alike}
use Rattle.classification.specs.Laws.{Isomorphic}

-- ---- accepted files

pub accepted_passes : (t : List ℕ) → accepted t ≡ true → file_refusal t room ≡ none
unfolding accepted
accepted_passes t e = go (file_refusal t room) e
  where
    go : (o : Option Refusal) → not (is_some o) ≡ true → o ≡ none
    go none e = refl
    go (some r) e = absurd (clash {b = false} e refl)

pub passes_accepted : (t : List ℕ) → file_refusal t room ≡ none → accepted t ≡ true
unfolding accepted
passes_accepted t e = ap (λ (o : Option Refusal). not (is_some o)) e

pub refused_not : (t : List ℕ) (r : Refusal) → file_refusal t room ≡ some r → accepted t ≡ false
unfolding accepted
refused_not t r e = ap (λ (o : Option Refusal). not (is_some o)) e

-- What it means that a file is accepted, in plain words.
pub accepted_exactly : (t : List ℕ) → (accepted t ≡ true) ↔ FilePasses t room
accepted_exactly t = let w = file_passes t room in ((λ e. w.0 (accepted_passes t e)), λ h. passes_accepted t (w.1 h))

pub accepted_table : (t : List ℕ) → accepted t ≡ true → Accepted (order_of t) (cells_of t)
accepted_table t e = ((accepted_exactly t).0 e).table

-- ---- isomorphic tables

module _ (m : ℕ) (source : List ℕ) (n : ℕ) (target : List ℕ) where
  pub isomorphic_exactly : (isomorphic m source n target ≡ true) ↔ ((f : List ℕ) × Isomorphism m (product m source) n (product n target) f)
  unfolding isomorphic
  isomorphic_exactly = (to (earliest first (maps isomorphisms m (product m source) n (product n target))) refl, λ p. from p.0 p.1 (earliest first (maps isomorphisms m (product m source) n (product n target))) refl)
    where
      to : (o : Option (List ℕ)) → earliest first (maps isomorphisms m (product m source) n (product n target)) ≡ o → is_some o ≡ true → (f : List ℕ) × Isomorphism m (product m source) n (product n target) f
      to none q e = absurd (clash {b = false} e refl)
      to (some f) q e = (f, (first_earliest isomorphisms m (product m source) n (product n target) f q).has)

      from : (f : List ℕ) → Isomorphism m (product m source) n (product n target) f → (o : Option (List ℕ)) → earliest first (maps isomorphisms m (product m source) n (product n target)) ≡ o → is_some o ≡ true
      from f F none q = absurd (first_none isomorphisms m (product m source) n (product n target) q f F)
      from f F (some g) q = refl

identity_isomorphism : (n : ℕ) (s : Product) → Closed n s → Isomorphism n s n s (identity n)
identity_isomorphism n s c = record { same_order = refl; embedding = identity_embeds n s c }

inverse_isomorphism : (m : ℕ) (s : Product) (n : ℕ) (t : Product) (f : List ℕ) → Closed m s → Isomorphism m s n t f → Isomorphism n t m s (inverse m f)
inverse_isomorphism m s n t f c F =
    subst (λ (k : ℕ). Embedding m s k t f → Isomorphism k t m s (inverse m f)) F.same_order (λ G. record { same_order = refl; embedding = inverse_embeds m s t f G c }) F.embedding

after_isomorphism : (k : ℕ) (r : Product) (m : ℕ) (s : Product) (n : ℕ) (t : Product) (a b : List ℕ) → Closed k r → Isomorphism m s n t a → Isomorphism k r m s b → Isomorphism k r n t (after a b)
after_isomorphism k r m s n t a b c A B = record { same_order = B.same_order ∙ A.same_order; embedding = after_embeds k r m s n t c a b A.embedding B.embedding }

-- ---- files that are alike

-- Both files are accepted, and an isomorphism exists between their tables.
pub record Like (t u : List ℕ) : Type 0 where
  pub first_file : accepted t ≡ true
  pub second_file : accepted u ≡ true
  pub isomorphism : Isomorphic t u

pub alike_like : (t u : List ℕ) → alike t u ≡ true → Like t u
unfolding alike holds_like
alike_like t u e =
    let rest = and_right (accepted u) (accepted t && isomorphic (order_of t) (cells_of t) (order_of u) (cells_of u)) e in
    record {
      first_file = and_left (accepted t) (isomorphic (order_of t) (cells_of t) (order_of u) (cells_of u)) rest;
      second_file = and_left (accepted u) (accepted t && isomorphic (order_of t) (cells_of t) (order_of u) (cells_of u)) e;
      isomorphism = (isomorphic_exactly (order_of t) (cells_of t) (order_of u) (cells_of u)).0 (and_right (accepted t) (isomorphic (order_of t) (cells_of t) (order_of u) (cells_of u)) rest);
    }

pub like_alike : (t u : List ℕ) → Like t u → alike t u ≡ true
unfolding alike holds_like
like_alike t u l =
    both (accepted u) (accepted t && isomorphic (order_of t) (cells_of t) (order_of u) (cells_of u)) l.second_file
    (both (accepted t) (isomorphic (order_of t) (cells_of t) (order_of u) (cells_of u)) l.first_file ((isomorphic_exactly (order_of t) (cells_of t) (order_of u) (cells_of u)).1 l.isomorphism))

-- To compare a file with the table of an accepted file is to compare the two files.
pub holds_alike : (t u : List ℕ) → accepted u ≡ true → holds_like t (order_of u) (cells_of u) ≡ alike t u
unfolding alike
holds_alike t u e = rw e

closed_table : (t : List ℕ) → accepted t ≡ true → Closed (order_of t) (product (order_of t) (cells_of t))
closed_table t e = tables.accepted_closed (order_of t) (cells_of t) (accepted_table t e)

abbrev times : List ℕ → Product
times t = product (order_of t) (cells_of t)

pub like_itself : (t : List ℕ) → accepted t ≡ true → Like t t
like_itself t e = record { first_file = e; second_file = e; isomorphism = (identity (order_of t), identity_isomorphism (order_of t) (times t) (closed_table t e)) }

pub like_back : (t u : List ℕ) → Like t u → Like u t
like_back t u l =
    let f = l.isomorphism in
    record {
      first_file = l.second_file;
      second_file = l.first_file;
      isomorphism = (inverse (order_of t) f.0, inverse_isomorphism (order_of t) (times t) (order_of u) (times u) f.0 (closed_table t l.first_file) f.1);
    }

pub like_on : (t u v : List ℕ) → Like t u → Like u v → Like t v
like_on t u v a b =
    let f = a.isomorphism in
    let g = b.isomorphism in
    record {
      first_file = a.first_file;
      second_file = b.second_file;
      isomorphism = (after g.0 f.0, after_isomorphism (order_of t) (times t) (order_of u) (times u) (order_of v) (times v) g.0 f.0 (closed_table t a.first_file) g.1 f.1);
    }

pub like_order : (t u : List ℕ) → Like t u → order_of t ≡ order_of u
like_order t u l = l.isomorphism.1.same_order
