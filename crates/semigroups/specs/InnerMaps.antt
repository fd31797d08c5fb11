-- Homomorphisms and embeddings in plain words (arXiv 1603.06204, section 2; RULES 5), and maps whose images are among the candidates.
-- Assumes nothing.
use Rattle.std.specs.Prelude.{◌≡◌, List, Bool, true, ℕ, length}
use Rattle.semigroups.specs.Lists.{at}
use Rattle.semigroups.specs.Tables.{Product, Element}

module _ (m : ℕ) (s : Product) (n : ℕ) (t : Product) where
  -- A homomorphism: the image of i·j is the image of i times the image of j.
  pub record Homomorphism (f : List ℕ) : Type 0 where
    pub size : length f ≡ m
    pub within : (i : ℕ) → Element m i → Element n (at f i)
    pub keeps_product : (i j : ℕ) → Element m i → Element m j → at f (s i j) ≡ t (at f i) (at f j)

  -- An embedding: a homomorphism with no two images equal.
  pub record Embedding (f : List ℕ) : Type 0 where
    pub homomorphism : Homomorphism f
    pub one_to_one : (i j : ℕ) → Element m i → Element m j → at f i ≡ at f j → i ≡ j

-- The images of a map are among the candidates.
abbrev pub Among : ℕ → (ℕ → ℕ → Bool) → List ℕ → Type 0
Among m candidate f = (i : ℕ) → Element m i → candidate i (at f i) ≡ true
