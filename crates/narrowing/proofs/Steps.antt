-- The steps of one call of the search with rows: what is left at x is what is found after x is placed, or what is left at x + 1. Assumes nothing.
use mathlib.Core.Path.{◌≡◌, refl, sym, ap, ap₂, ◌∙◌, subst}
use mathlib.Core.Bool.{Bool, true, false, ◌&&◌, not, cond}
use mathlib.Core.Option.{Option, none, some}
use mathlib.Core.List.Memᴰ
use mathlib.Core.List.{List, [], ◌∷◌, ◌++◌, append_assoc}
use Prim.Native.Nat.{ℕ, suc, ◌+◌, ◌≤◌, ◌<◌}
use native.Mathlib.Omega.{arith}
use borrow.Author.Tests.{eqb-false, ne_eqb}
use lib.Dec.{eqb}
use lib.ListN.{length, get_or, take, drop}
use lib.Seq.{split_at}
use Rattle.semigroups.specs.Lists.{elements, at, all, earlier, lists}
use Rattle.semigroups.specs.Tables.{Product, Element}
use Rattle.semigroups.specs.InnerMaps.{Embedding, Among}
use Rattle.semigroups.specs.Maps.{is_embedding, Ask, first, next, beyond}
use Rattle.semigroups.specs.InnerSearch.{is_wanted}
use Rattle.semigroups.proofs.Booleans.{clash}
use Rattle.semigroups.proofs.Lists.{find_same}
use Rattle.semigroups.proofs.ListOrder.{earlier_skip, earlier_head, earlier_above}
use Rattle.semigroups.proofs.Completions.{extensions, find_extension, find_entry, first_from, first_start, first_skip, first_hit, first_end}
use Rattle.backtrack.specs.InnerState.{bounded}
use Rattle.backtrack.proofs.Steps.{lowest, bound_itself}
use Rattle.twins.specs.InnerTwins.{rises, is_rising}
use Rattle.twins.proofs.Rising.{no_rising, whole_rising}

module _ (m : ℕ) (s : Product) (n : ℕ) (t : Product) (start relation : ℕ → ℕ → Bool) where
  abbrev want : Ask → List ℕ → Bool
  want ask = is_rising m s n t start ask relation

  -- ---- one call, where p is placed and `after` bounds it while `tight`

  module _ (after p : List ℕ) (tight : Bool) (same : tight ≡ true → take (length p) after ≡ p) where
    -- A whole list is found if it is an embedding and does not equal the bound.
    pub whole : length after ≡ length p → Among m start p → rises m relation p ≡ true → find_extension (want (bounded tight after)) n 0 p ≡ cond (is_embedding m s n t p && not tight) (some p) none
    whole l among up = whole_rising m s n t start (bounded tight after) relation p among up ∙ ap {B = Option (List ℕ)} (λ (b : Bool). cond (is_embedding m s n t p && b) (some p) none) (bound_itself after p tight same l)

    module _ (d : ℕ) (room : length p < length after) where
      abbrev here : ℕ → Option (List ℕ)
      here x = find_extension (want (bounded tight after)) n d (p ++ x ∷ [])

      abbrev pub left : ℕ → Option (List ℕ)
      left x = first_from here n x

      pub begin : find_extension (want (bounded tight after)) n (suc d) p ≡ left 1
      begin = find_entry (want (bounded tight after)) n d p ∙ first_start here n

      pub end : (x : ℕ) → n < x → left x ≡ none
      end x h = first_end here n x h

      module _ (x : ℕ) (hx : Element n x) where
        abbrev pub low : ℕ
        low = lowest tight after (length p)

        -- How the bound compares with a list that begins with p and x.
        seen : tight ≡ true → (q : List ℕ) → beyond (next after) ((p ++ x ∷ []) ++ q) ≡ earlier (get_or after (length p) 0 ∷ drop (suc (length p)) after) (x ∷ q)
        seen e q =
            ap₂ earlier (split_at after (length p) 0 room ∙ ap (λ (g : List ℕ). g ++ get_or after (length p) 0 ∷ drop (suc (length p)) after) (same e)) (append_assoc p (x ∷ []) q)
            ∙ earlier_skip p (get_or after (length p) 0 ∷ drop (suc (length p)) after) (x ∷ q)

        -- If no map asked for begins with p and x, nothing is found there.
        pub skip : ((q : List ℕ) → Embedding m s n t ((p ++ x ∷ []) ++ q) → Among m start ((p ++ x ∷ []) ++ q) → rises m relation ((p ++ x ∷ []) ++ q) ≡ true → ⊥) → left x ≡ left (x + 1)
        skip h = first_skip here n x hx.1 (no_rising m s n t start (bounded tight after) relation d (p ++ x ∷ []) (λ q F among up b. h q F among up))

        pub too_early : x < low → left x ≡ left (x + 1)
        too_early h = go tight refl h
          where
            go : (b : Bool) → tight ≡ b → x < lowest b after (length p) → left x ≡ left (x + 1)
            go false e l = absurd (let z : ⊥ = omega arith in z)
            go true e l =
                first_skip here n x hx.1 (no_rising m s n t start (bounded tight after) relation d (p ++ x ∷ []) (λ q F among up b.
                clash {b = beyond (next after) ((p ++ x ∷ []) ++ q)} (subst (λ (c : Bool). beyond (bounded c after) ((p ++ x ∷ []) ++ q) ≡ true) e b)
                (seen e q ∙ earlier_above (get_or after (length p) 0) (drop (suc (length p)) after) x q l)))

        -- The call for the next element must keep to the bound only if x is the bound's own entry.
        inner : low ≤ x → here x ≡ find_extension (want (bounded (eqb x low) after)) n d (p ++ x ∷ [])
        inner h = go tight refl h
          where
            loosed : (e : tight ≡ true) → get_or after (length p) 0 < x → find_extension (want (next after)) n d (p ++ x ∷ []) ≡ find_extension (want first) n d (p ++ x ∷ [])
            loosed e l =
                unfold find_extension extensions is_rising is_wanted in
                find_same (want (next after)) (want first) (extensions (p ++ x ∷ []) (lists d n)) (λ f k.
                let r = Memᴰ.of_map {A = List ℕ} {B = List ℕ} (λ q. (p ++ x ∷ []) ++ q) (lists d n) k in
                ap (λ (b : Bool). (is_embedding m s n t f && (all (λ i. start i (at f i)) (elements m) && b)) && rises m relation f)
                (ap (earlier after) (sym r.2) ∙ seen e r.0 ∙ earlier_head (get_or after (length p) 0) (drop (suc (length p)) after) x r.0 l))

            bound : (e : tight ≡ true) → (b : Bool) → eqb x (get_or after (length p) 0) ≡ b → get_or after (length p) 0 ≤ x → find_extension (want (next after)) n d (p ++ x ∷ []) ≡ find_extension (want (bounded b after)) n d (p ++ x ∷ [])
            bound e true q g = refl
            bound e false q g = let ne = eqb-false x (get_or after (length p) 0) q in loosed e (omega arith)

            go : (b : Bool) → tight ≡ b → lowest b after (length p) ≤ x → find_extension (want (bounded b after)) n d (p ++ x ∷ []) ≡ find_extension (want (bounded (eqb x (lowest b after (length p))) after)) n d (p ++ x ∷ [])
            go false e g = ap (λ (b : Bool). find_extension (want (bounded b after)) n d (p ++ x ∷ [])) (sym (ne_eqb x 0 (λ q. let z : ⊥ = omega arith in z)))
            go true e g = bound e (eqb x (get_or after (length p) 0)) refl g

        pub back : low ≤ x → find_extension (want (bounded (eqb x low) after)) n d (p ++ x ∷ []) ≡ none → left x ≡ left (x + 1)
        back l e = first_skip here n x hx.1 (inner l ∙ e)

        pub hit : low ≤ x → (f : List ℕ) → find_extension (want (bounded (eqb x low) after)) n d (p ++ x ∷ []) ≡ some f → left x ≡ some f
        hit l f e = first_hit here n x f hx.1 (inner l ∙ e)
