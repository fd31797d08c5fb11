-- The last line break, and question 21, by recursion over the bytes of a text.
-- Assumes nothing.
use mathlib.Core.Path.{◌≡◌, refl, sym, ◌∙◌}
use mathlib.Core.Bool.{Bool, true, false, ◌&&◌, ◌||◌, not, cond, and-false, or-true, or-false}
use mathlib.Core.List.{List, [], ◌∷◌, ◌++◌, append-nil}
use mathlib.Core.Option.{none, map-eq-none_iff}
use Prim.Native.Nat.{ℕ, zero, suc, ◌-◌, ◌<◌}
use native.Mathlib.Omega.{arith}
use lib.Dec.{eqb}
use lib.ListN.{length, get_or}
use borrow.Author.Tests.{not-false}
use Rattle.semigroups.specs.Lists.{range}
use Rattle.semigroups.proofs.Booleans.{both, and_left, and_right, not_of_true}
use Rattle.semigroups.proofs.Lists.{mem_range, range_mem, find_none, none_find}
use Rattle.semigroups.proofs.Questions.{all_passed}
use Rattle.rfc4180.specs.Decimals.{is_digit}
use Rattle.rfc4180.specs.Records.{is_break}
use Rattle.rfc4180.specs.RoundsLaws.{ends_in_break, closed}
use Rattle.rfc4180.specs.Questions.{break_at, in_break, is_allowed, first_other, bytes_question}
use Rattle.rfc4180.specs.InnerQuestions.{bytes_refusal}
use Rattle.rfc4180.proofs.Records.{ends, closing, missing, break_bytes}

-- ---- the last line break

no_break : (c d : ℕ) → c ≡ 10 → is_break c d ≡ false
unfolding is_break
no_break c d e = rw e

end_false : (b : ℕ) → is_break b 0 ≡ false
unfolding is_break
end_false b = and-false (eqb b 13)

end_later : (b c d : ℕ) (t : List ℕ) → ends_in_break (b ∷ c ∷ d ∷ t) ≡ ends_in_break (c ∷ d ∷ t)
unfolding ends_in_break
end_later b c d t =
    let m : suc (suc (suc (length t))) - 2 ≡ suc (length t) = omega arith in
    let k : suc (suc (length t)) - 2 ≡ length t = omega arith in
    let n : suc (suc (suc (length t))) - 1 ≡ suc (suc (length t)) = omega arith in
    let i : suc (suc (length t)) - 1 ≡ suc (length t) = omega arith in
    rw (m, k, n, i)

one_byte : (b : ℕ) → is_break b b ≡ false
one_byte b = go (is_break b b) refl
  where
    go : (e : Bool) → is_break b b ≡ e → e ≡ false
    go true e = let p = break_bytes b b e in let w : ⊥ = omega (arith, p.0, p.1) in absurd w
    go false e = refl

pub ends_break : (b : ℕ) (t : List ℕ) → ends (b ∷ t) ≡ ends_in_break (b ∷ t)
unfolding ends ends_in_break
ends_break b [] = sym (one_byte b)
ends_break b (c ∷ []) = elim (is_break b c) as (λ e. cond e true false ≡ e) [ true ↦ refl | false ↦ refl ]
ends_break b (c ∷ d ∷ t) = go (ends_break c (d ∷ t)) (is_break b c) refl
  where
    go : ends (c ∷ d ∷ t) ≡ ends_in_break (c ∷ d ∷ t) → (e : Bool) → is_break b c ≡ e
        → cond e (ends (d ∷ t)) (ends (c ∷ d ∷ t)) ≡ ends_in_break (b ∷ c ∷ d ∷ t)
    go ih true e = rw (no_break c d (break_bytes b c e).1) at (ih ∙ sym (end_later b c d t))
    go ih false e = ih ∙ sym (end_later b c d t)

-- Closing a text adds the line break that is missing.
pub closed_is : (t : List ℕ) → closed t ≡ t ++ missing t
unfolding closed missing ends
closed_is [] = refl
closed_is (b ∷ t) = rw (← ends_break b t) (elim (ends (b ∷ t)) as (λ e. cond e (b ∷ t) ((b ∷ t) ++ 13 ∷ 10 ∷ []) ≡ (b ∷ t) ++ closing e) [ true ↦ sym (append-nil (b ∷ t)) | false ↦ refl ])

-- ---- allowed bytes

-- Whether a byte may stand outside a line break.
unfoldable pub in_field : ℕ → Bool
in_field b = is_digit b || eqb b 44

-- Whether a text is digits, commas and line breaks.
unfoldable pub clean : List ℕ → Bool
clean [] = true
clean (b ∷ []) = in_field b
clean (b ∷ c ∷ t) = cond (is_break b c) (clean t) (in_field b && clean (c ∷ t))

-- Every byte of a text is allowed.
abbrev pub Allowed : List ℕ → Type 0
Allowed t = (p : ℕ) → p < length t → is_allowed t p ≡ true

allowed_first : (b : ℕ) (t : List ℕ) → is_break b (get_or t 0 0) ≡ false → is_allowed (b ∷ t) 0 ≡ in_field b
unfolding is_allowed in_break break_at in_field
allowed_first b t e = simp (e, or-false)

allowed_later : (b : ℕ) (t : List ℕ) → is_break b (get_or t 0 0) ≡ false → (p : ℕ) → is_allowed (b ∷ t) (suc p) ≡ is_allowed t p
unfolding is_allowed in_break break_at
allowed_later b t e zero = simp e
allowed_later b t e (suc p) = refl

allowed_past : (b c : ℕ) (t : List ℕ) → c ≡ 10 → (p : ℕ) → is_allowed (b ∷ c ∷ t) (suc (suc p)) ≡ is_allowed t p
unfolding is_allowed in_break break_at
allowed_past b c t e p = allowed_later c t (no_break c (get_or t 0 0) e) p

pub allowed_clean : (t : List ℕ) → Allowed t → clean t ≡ true
unfolding clean
allowed_clean [] h = refl
allowed_clean (b ∷ []) h = sym (allowed_first b [] (end_false b)) ∙ h 0 (omega arith)
allowed_clean (b ∷ c ∷ t) h = go (allowed_clean t) (allowed_clean (c ∷ t)) (is_break b c) refl
  where
    go : (Allowed t → clean t ≡ true) → (Allowed (c ∷ t) → clean (c ∷ t) ≡ true) → (e : Bool) → is_break b c ≡ e
        → cond e (clean t) (in_field b && clean (c ∷ t)) ≡ true
    go past later true e = past (λ p l. sym (allowed_past b c t (break_bytes b c e).1 p) ∙ h (suc (suc p)) (omega arith))
    go past later false e =
        both (in_field b) (clean (c ∷ t)) (sym (allowed_first b (c ∷ t) e) ∙ h 0 (omega arith))
        (later (λ p l. sym (allowed_later b (c ∷ t) e p) ∙ h (suc p) (omega arith)))

break_first : (b c : ℕ) (t : List ℕ) → is_break b c ≡ true → is_allowed (b ∷ c ∷ t) 0 ≡ true
unfolding is_allowed in_break break_at
break_first b c t e = simp (e, or-true)

break_second : (b c : ℕ) (t : List ℕ) → is_break b c ≡ true → is_allowed (b ∷ c ∷ t) 1 ≡ true
unfolding is_allowed in_break break_at
break_second b c t e = simp (e, or-true)

pub clean_allowed : (t : List ℕ) → clean t ≡ true → Allowed t
unfolding clean
clean_allowed [] h p l = let w : ⊥ = omega arith in absurd w
clean_allowed (b ∷ []) h zero l = allowed_first b [] (end_false b) ∙ h
clean_allowed (b ∷ []) h (suc p) l = let w : ⊥ = omega arith in absurd w
clean_allowed (b ∷ c ∷ t) h p l = go (clean_allowed t) (clean_allowed (c ∷ t)) (is_break b c) refl h p l
  where
    go : (clean t ≡ true → Allowed t) → (clean (c ∷ t) ≡ true → Allowed (c ∷ t)) → (e : Bool) → is_break b c ≡ e
        → cond e (clean t) (in_field b && clean (c ∷ t)) ≡ true → (p : ℕ) → p < suc (suc (length t)) → is_allowed (b ∷ c ∷ t) p ≡ true
    go past later true e g zero l = break_first b c t e
    go past later true e g (suc zero) l = break_second b c t e
    go past later true e g (suc (suc p)) l = allowed_past b c t (break_bytes b c e).1 p ∙ past g p (omega arith)
    go past later false e g zero l = allowed_first b (c ∷ t) e ∙ and_left (in_field b) (clean (c ∷ t)) g
    go past later false e g (suc p) l = allowed_later b (c ∷ t) e p ∙ later (and_right (in_field b) (clean (c ∷ t)) g) p (omega arith)

-- Question 21 passes exactly if the text is clean.
pub other_clean : (t : List ℕ) → first_other t ≡ none → clean t ≡ true
unfolding first_other
other_clean t h =
    let q : ℕ → Bool = λ p. not (is_allowed t p) in
    allowed_clean t (λ p l. not-false (is_allowed t p) (find_none q (range 0 (length t)) h p (range_mem 0 (length t) p (omega arith) (omega arith))))

pub clean_other : (t : List ℕ) → clean t ≡ true → first_other t ≡ none
unfolding first_other
clean_other t h =
    let q : ℕ → Bool = λ p. not (is_allowed t p) in
    none_find q (range 0 (length t)) (λ p m. let l = mem_range 0 (length t) p m in not_of_true (is_allowed t p) (clean_allowed t h p (omega arith)))

pub no_other : (t : List ℕ) → bytes_refusal t ≡ none → first_other t ≡ none
unfolding bytes_refusal
no_other t h = (map-eq-none_iff _ (first_other t)).0 ((all_passed (bytes_question t ∷ [])).0 h).0
