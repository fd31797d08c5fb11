-- The value of a field as it is gathered: its first 41 bytes.
-- Assumes nothing.
use mathlib.Core.Path.{◌≡◌, refl, ap, sym, subst, subst₂, ◌∙◌}
use mathlib.Core.List.{List, [], ◌∷◌, ◌++◌, append_assoc}
use mathlib.Core.Logic.{◌⊎◌, inl, inr}
use Prim.Native.Nat.{ℕ, suc, ◌+◌, ◌-◌, ◌≤◌, ◌<◌}
use native.Mathlib.Numerals.{add-one}
use native.Mathlib.Omega.{arith}
use lib.ListN.{length, take, drop, set, length-set, length-append, take-append-drop, replicate}
use lib.Seq.{take_all, take_at, length-take-le, take-suc-set, drop-set-lt, drop-drop}
use borrow.Author.Tests.{le-leb, lt-leb}
use Rattle.semigroups.proofs.Booleans.{at_most_or_above}
use Rattle.sheets.specs.Names.{is_name, is_number}
use Rattle.sheets.proofs.Numbers.{cut_length, name_cut, number_cut}
use Rattle.sheets.proofs.Cursor.{Gathering, gather_first, gather_next, gather_last}
use Rattle.names.specs.declared.Value.{Value}
use Rattle.names.specs.InnerReading.{HoldsValue, extended}

-- ---- the first 41 of more bytes

cut_full : (s : List ℕ) (b : ℕ) → 41 ≤ length (take 41 s) → take 41 (s ++ b ∷ []) ≡ take 41 s
cut_full s b h =
    let whole : take 41 s ++ (drop 41 s ++ b ∷ []) ≡ s ++ b ∷ [] = sym (append_assoc (take 41 s) (drop 41 s) (b ∷ [])) ∙ ap (λ (l : List ℕ). l ++ b ∷ []) (take-append-drop 41 s) in
    let c = cut_length s in
    ap (take 41) (sym whole) ∙ take_at (take 41 s) (drop 41 s ++ b ∷ []) 41 (omega arith)

cut_more : (s : List ℕ) (b : ℕ) → length (take 41 s) < 41 → (take 41 s ≡ s) × (take 41 (s ++ b ∷ []) ≡ take 41 s ++ b ∷ [])
cut_more s b h = go (at_most_or_above (length s) 40)
  where
    go : (length s ≤ 40) ⊎ (40 < length s) → (take 41 s ≡ s) × (take 41 (s ++ b ∷ []) ≡ take 41 s ++ b ∷ [])
    go (inl l) =
        let e = take_all 41 s (omega arith) in
        let n = length-append s (b ∷ []) in
        (e, take_all 41 (s ++ b ∷ []) (omega arith) ∙ ap (λ (x : List ℕ). x ++ b ∷ []) (sym e))
    go (inr l) = let e = length-take-le 41 s (omega arith) in let z : ⊥ = omega arith in absurd z

-- ---- one more byte

-- Zeros still follow the bytes held, once there is one more.
padded_more : (bytes : List ℕ) (size : ℕ) → drop size bytes ≡ replicate (41 - size) 0 → (b : ℕ) → size < 41 → drop (size + 1) (set bytes size b) ≡ replicate (41 - (size + 1)) 0
padded_more bytes size padded b room =
    drop-set-lt (size + 1) bytes size b (omega arith) ∙ sym (drop-drop 1 size bytes) ∙ ap (drop 1) padded
    ∙ ap (λ (k : ℕ). drop 1 (replicate k 0)) (let z : 41 - size ≡ suc (41 - (size + 1)) = omega arith in z)

holds_full : (s : List ℕ) (v : Value) (b : ℕ) → 41 ≤ v.size → HoldsValue s v → HoldsValue (s ++ b ∷ []) v
holds_full s v b h g =
    let z = g.size in
    let e = cut_full s b (omega arith) in
    record { bytes = g.bytes ∙ sym e; size = g.size ∙ ap length (sym e); room = g.room; padded = g.padded }

holds_more : (s : List ℕ) (v : Value) (b : ℕ) → v.size < 41 → HoldsValue s v → HoldsValue (s ++ b ∷ []) (record { bytes = set v.bytes v.size b; size = v.size + 1; end = v.end })
holds_more s v b h g =
    let z = g.size in
    let r = g.room in
    let e = (cut_more s b (omega arith)).1 in
    let n = length-append (take 41 s) (b ∷ []) in
    record {
      bytes = ap (λ (k : ℕ). take k (set v.bytes v.size b)) (add-one v.size) ∙ take-suc-set v.bytes v.size b (omega arith) ∙ ap (λ (l : List ℕ). l ++ b ∷ []) g.bytes ∙ sym e;
      size = let y : v.size + 1 ≡ length (take 41 s ++ b ∷ []) = omega arith in y ∙ ap length (sym e);
      room = length-set v.bytes v.size b ∙ r;
      padded = padded_more v.bytes v.size g.padded b h;
    }

-- The two cases of `extended`.
pub extended_full : (v : Value) (b : ℕ) → 41 ≤ v.size → v ≡ extended v b
unfolding extended
extended_full v b h = simp (le-leb 41 v.size h)

pub extended_more : (v : Value) (b : ℕ) → v.size < 41 → record { bytes = set v.bytes v.size b; size = v.size + 1; end = v.end } ≡ extended v b
unfolding extended
extended_more v b h = simp (lt-leb 41 v.size h)

holds_extended : (s : List ℕ) (v : Value) (b : ℕ) → HoldsValue s v → HoldsValue (s ++ b ∷ []) (extended v b)
holds_extended s v b g = go (at_most_or_above 41 v.size)
  where
    go : (41 ≤ v.size) ⊎ (v.size < 41) → HoldsValue (s ++ b ∷ []) (extended v b)
    go (inl h) = subst (λ (r : Value). HoldsValue (s ++ b ∷ []) r) (extended_full v b h) (holds_full s v b h g)
    go (inr h) = subst (λ (r : Value). HoldsValue (s ++ b ∷ []) r) (extended_more v b h) (holds_more s v b h g)

-- ---- what is tested of a value held

-- The first 41 bytes are enough to see that the bytes held are a number.
pub held_number : (s : List ℕ) (v : Value) (k : ℕ) → HoldsValue s v → is_number k (take v.size v.bytes) ≡ is_number k s
held_number s v k g = ap (is_number k) g.bytes ∙ number_cut k s

-- The first 41 bytes are enough to see that the bytes held are a name.
pub held_name : (s : List ℕ) (v : Value) → HoldsValue s v → is_name (take v.size v.bytes) ≡ is_name s
held_name s v g = ap is_name g.bytes ∙ name_cut s

-- A short value is held whole.
pub holds_short : (s : List ℕ) (v : Value) → HoldsValue s v → length s ≤ 40 → (v.size ≡ length s) × (take v.size v.bytes ≡ s)
holds_short s v g u =
    let whole = take_all 41 s (omega arith) in
    (g.size ∙ ap length whole, g.bytes ∙ whole)

-- ---- gathering

-- The value gathered so far stands in v, and the reading has reached place i.
pub record Gathered (value : List ℕ → List ℕ) (size : List ℕ → ℕ) (t : List ℕ) (start i : ℕ) (v : Value) : Type 0 where
  pub so_far : List ℕ
  pub gathering : Gathering value size t start so_far i
  pub holds : HoldsValue so_far v

module _ (value : List ℕ → List ℕ) (size : List ℕ → ℕ) (t : List ℕ) (start : ℕ) where
  pub gathered_first : (v : Value) → start ≤ length t → v ≡ record { bytes = replicate 41 0; size = 0; end = 0 } → Gathered value size t start start v
  gathered_first v h e =
      let nothing : HoldsValue [] (record { bytes = replicate 41 0; size = 0; end = 0 }) = record { bytes = refl; size = refl; room = refl; padded = refl } in
      record { so_far = []; gathering = gather_first value size t start h; holds = subst (λ (r : Value). HoldsValue [] r) (sym e) nothing }

  module _ (i : ℕ) (v : Value) (g : Gathered value size t start i v) where
    pub gathered_next : (r : Value) (j b : ℕ) → i ≤ j → j ≤ length t → (value (drop i t) ≡ b ∷ value (drop j t)) × (i + size (drop i t) ≡ j + size (drop j t))
        → r ≡ extended v b → Gathered value size t start j r
    gathered_next r j b l u h e =
        record {
          so_far = g.so_far ++ b ∷ [];
          gathering = gather_next value size t start g.so_far i g.gathering j b l u h;
          holds = subst (λ (w : Value). HoldsValue (g.so_far ++ b ∷ []) w) (sym e) (holds_extended g.so_far v b g.holds);
        }

    pub gathered_last : (r : Value) (end k : ℕ) → (value (drop i t) ≡ []) × (size (drop i t) ≡ k) → end ≡ i + k → r ≡ record { bytes = v.bytes; size = v.size; end = end }
        → HoldsValue (value (drop start t)) r × (r.end ≡ start + size (drop start t))
    gathered_last r end k h e f =
        let last = gather_last value size t start g.so_far i g.gathering k h.0 h.1 in
        let held = g.holds in
        let ended : HoldsValue g.so_far (record { bytes = v.bytes; size = v.size; end = end }) = record { bytes = held.bytes; size = held.size; room = held.room; padded = held.padded } in
        (subst₂ HoldsValue last.0 (sym f) ended, ap (λ (w : Value). w.end) f ∙ e ∙ last.1)
