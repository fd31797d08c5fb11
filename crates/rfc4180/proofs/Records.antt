-- Records and fields: cutting a text and putting it together undo each other.
-- Assumes nothing.
use mathlib.Core.Path.{◌≡◌, refl, ap, ◌∙◌}
use mathlib.Core.Bool.{Bool, true, false, ◌&&◌, cond}
use mathlib.Core.List.{List, [], ◌∷◌, ◌++◌, flat_map, append-nil}
use Prim.Native.Nat.{ℕ}
use lib.Dec.{eqb}
use borrow.Author.Tests.{eqb-true}
use Rattle.rfc4180.specs.Records.{is_break, onto, records, fields, record_text}
use Rattle.rfc4180.specs.Every.{Every}
use Rattle.semigroups.proofs.Booleans.{impossible}

-- ---- fields

-- The list has a first entry.
abbrev pub Cons : List (List ℕ) → Type 0
Cons l = (f : List ℕ) × (fs : List (List ℕ)) × (l ≡ f ∷ fs)

onto_cons : (b : ℕ) (l : List (List ℕ)) → Cons (onto b l)
unfolding onto
onto_cons b [] = (b ∷ [], [], refl)
onto_cons b (l ∷ ls) = (b ∷ l, ls, refl)

pub fields_cons : (r : List ℕ) → Cons (fields r)
unfolding fields
fields_cons [] = ([], [], refl)
fields_cons (b ∷ r) = elim (eqb b 44) as (λ e. Cons (cond e ([] ∷ fields r) (onto b (fields r)))) [ true ↦ ([], fields r, refl) | false ↦ onto_cons b (fields r) ]

comma_text : (l : List (List ℕ)) → Cons l → record_text ([] ∷ l) ≡ 44 ∷ record_text l
unfolding record_text flat_map
comma_text l c = rw c.2

onto_text : (b : ℕ) (l : List (List ℕ)) → Cons l → record_text (onto b l) ≡ b ∷ record_text l
unfolding record_text onto
onto_text b l c = rw c.2

pub record_text_fields : (r : List ℕ) → record_text (fields r) ≡ r
unfolding record_text fields flat_map
record_text_fields [] = refl
record_text_fields (b ∷ r) = go (record_text_fields r) (eqb b 44) refl
  where
    go : record_text (fields r) ≡ r → (e : Bool) → eqb b 44 ≡ e → record_text (cond e ([] ∷ fields r) (onto b (fields r))) ≡ b ∷ r
    go ih true e = comma_text (fields r) (fields_cons r) ∙ cc (eqb-true b 44 e)
    go ih false e = onto_text b (fields r) (fields_cons r) ∙ cc

-- The field has no comma.
abbrev pub Plain : List ℕ → Type 0
Plain f = Every (λ b. eqb b 44 ≡ false) f

pub fields_last : (f : List ℕ) → Plain f → fields f ≡ f ∷ []
unfolding fields onto
fields_last [] h = refl
fields_last (b ∷ f) h = rw (h.0, fields_last f h.1)

pub fields_comma : (f r : List ℕ) → Plain f → fields (f ++ 44 ∷ r) ≡ f ∷ fields r
unfolding fields onto
fields_comma [] r h = refl
fields_comma (b ∷ f) r h = rw (h.0, fields_comma f r h.1)

pub fields_record_text : (f : List ℕ) (fs : List (List ℕ)) → Plain f → Every Plain fs → fields (record_text (f ∷ fs)) ≡ f ∷ fs
unfolding record_text flat_map
fields_record_text f [] h hs = ap fields (append-nil f) ∙ fields_last f h
fields_record_text f (g ∷ gs) h hs = fields_comma f (g ++ flat_map (λ k. 44 ∷ k) gs) h ∙ ap (λ (l : List (List ℕ)). f ∷ l) (fields_record_text g gs hs.0 hs.1)

-- ---- records

-- The record has no CR.
abbrev pub Whole : List ℕ → Type 0
Whole r = Every (λ b. eqb b 13 ≡ false) r

pub records_closed : (r t : List ℕ) → Whole r → records (r ++ 13 ∷ 10 ∷ t) ≡ r ∷ records t
unfolding records is_break onto
records_closed [] t h = refl
records_closed (b ∷ []) t h = rw h.0
records_closed (b ∷ c ∷ r) t h = rw (h.0, records_closed (c ∷ r) t h.1)

-- The text of records that are not cut into fields.
unfoldable pub lines_text : List (List ℕ) → List ℕ
lines_text rs = flat_map (λ r. r ++ 13 ∷ 10 ∷ []) rs

onto_lines : (b : ℕ) (l : List (List ℕ)) → Cons l → lines_text (onto b l) ≡ b ∷ lines_text l
unfolding lines_text flat_map onto
onto_lines b l c = rw c.2

records_cons : (b : ℕ) (t : List ℕ) → Cons (records (b ∷ t))
unfolding records
records_cons b [] = (b ∷ [], [], refl)
records_cons b (c ∷ t) = elim (is_break b c) as (λ e. Cons (cond e ([] ∷ records t) (onto b (records (c ∷ t))))) [ true ↦ ([], records t, refl) | false ↦ onto_cons b (records (c ∷ t)) ]

-- Whether a text ends in a line break; a text with no byte does.
unfoldable pub ends : List ℕ → Bool
ends [] = true
ends (b ∷ []) = false
ends (b ∷ c ∷ t) = cond (is_break b c) (ends t) (ends (c ∷ t))

pub break_bytes : (b c : ℕ) → is_break b c ≡ true → (b ≡ 13) × (c ≡ 10)
unfolding is_break
break_bytes b c h = go (eqb b 13) (eqb c 10) refl refl h
  where
    go : (x y : Bool) → eqb b 13 ≡ x → eqb c 10 ≡ y → (x && y) ≡ true → (b ≡ 13) × (c ≡ 10)
    go true true e f g = (eqb-true b 13 e, eqb-true c 10 f)
    go true false e f g = impossible (cc)
    go false y e f g = impossible (cc)

-- The line break that the last record lacks, if it lacks one.
abbrev pub closing : Bool → List ℕ
closing true = []
closing false = 13 ∷ 10 ∷ []

unfoldable pub missing : List ℕ → List ℕ
missing t = closing (ends t)

-- The records, each closed, are the text with that line break.
pub lines_text_records : (t : List ℕ) → lines_text (records t) ≡ t ++ missing t
unfolding records lines_text flat_map ends missing
lines_text_records [] = refl
lines_text_records (b ∷ []) = refl
lines_text_records (b ∷ c ∷ t) = go (lines_text_records t) (lines_text_records (c ∷ t)) (is_break b c) refl
  where
    go : lines_text (records t) ≡ t ++ missing t → lines_text (records (c ∷ t)) ≡ (c ∷ t) ++ missing (c ∷ t) → (e : Bool) → is_break b c ≡ e
        → lines_text (cond e ([] ∷ records t) (onto b (records (c ∷ t)))) ≡ b ∷ c ∷ (t ++ closing (cond e (ends t) (ends (c ∷ t))))
    go closed opened true e = let p = break_bytes b c e in cc
    go closed opened false e = onto_lines b (records (c ∷ t)) (records_cons c t) ∙ ap (λ (l : List ℕ). b ∷ l) opened
