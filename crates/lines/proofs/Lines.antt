-- Writing the pieces of a line, one after the other. Assumes nothing.
use mathlib.Core.Path.{◌≡◌, ap, ◌∙◌}
use mathlib.Core.List.{List, [], ◌∷◌, ◌++◌, flat_map, append_assoc, append-nil}
use Prim.Native.Nat.{ℕ, suc, ◌+◌, ◌≤◌, ◌<◌}
use native.Mathlib.Numerals.{add-one}
use native.Mathlib.Omega.{arith}
use lib.ListN.{length, drop, get_or, set, drop_of_length-le}
use lib.Seq.{sets, drop-cons}
use Rattle.rfc4180.specs.Records.{record_text, line_text}
use Rattle.rfc4180.proofs.Writing.{Writing, write_first, write_next, write_last}

-- The next piece is written.
pub written : {before whole left now : List ℕ} {start at : ℕ} → Writing before start whole left now at → (p q : List ℕ) → left ≡ p ++ q
    → {later : List ℕ} {next : ℕ} → later ≡ sets now at p → next ≡ at + length p → Writing before start whole q later next
written w p q e placed next = rw (placed, next) (write_next w p q e)

-- ---- bytes, one by one

pub write_begun : (before : List ℕ) (at : ℕ) (bytes : List ℕ) → Writing before at bytes bytes before (at + 0)
write_begun before at bytes = let z : at + 0 ≡ at = omega arith in rw z (write_first before at bytes)

pub copied : {before out : List ℕ} {at : ℕ} (bytes : List ℕ) {i : ℕ} → i < length bytes → Writing before at bytes (drop i bytes) out (at + i)
    → Writing before at bytes (drop (i + 1) bytes) (set out (at + i) (get_or bytes i 0)) (at + (i + 1))
copied {at = at} bytes {i} h w =
    let e : at + (i + 1) ≡ at + i + 1 = omega arith in
    rw (e, add-one i) (write_next w (get_or bytes i 0 ∷ []) (drop (suc i) bytes) (drop-cons bytes i 0 h))

pub copied_all : {before out : List ℕ} {at : ℕ} (bytes : List ℕ) {i : ℕ} → length bytes ≤ i → Writing before at bytes (drop i bytes) out (at + i)
    → (at + i ≡ at + length bytes) × (out ≡ sets before at bytes)
copied_all bytes h w = let all = write_last w (drop_of_length-le bytes h) in (all.1, all.0)

-- ---- the text of a record of two fields

pub two_fields : (a b : List ℕ) → line_text (a ∷ b ∷ []) ≡ a ++ ((44 ∷ b) ++ 13 ∷ 10 ∷ [])
unfolding line_text record_text flat_map
two_fields a b =
    let line-end : List ℕ = 13 ∷ 10 ∷ [] in
    append_assoc a ((44 ∷ b) ++ []) line-end ∙ ap (λ (l : List ℕ). a ++ (l ++ line-end)) (append-nil (44 ∷ b))
