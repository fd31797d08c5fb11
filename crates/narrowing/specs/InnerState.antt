-- What the contracts of the search with rows say of its state, a partial map with rows. Assumes nothing.
use Rattle.std.specs.Prelude.{◌≡◌, Bool, true, cond, List, [], ℕ, ◌-◌, ◌≤◌, ◌<◌, eqb, length, take, drop, replicate}
use Rattle.std.proofs.Math.Option.{Option}
use Rattle.semigroups.specs.Lists.{at}
use Rattle.semigroups.specs.Tables.{Product, Element}
use Rattle.semigroups.specs.Scratch.{marked}
use Rattle.semigroups.specs.InnerMaps.{Embedding, Among}
use Rattle.semigroups.specs.Trials.{passes}
use Rattle.semigroups.specs.InnerSearch.{search, Placed}
use Rattle.products.specs.Tables.{times_of}
use Rattle.backtrack.specs.declared.asked.Search.{Search}
use Rattle.backtrack.specs.InnerState.{bounded}
use Rattle.colours.specs.InnerColours.{same_colour}
use Rattle.rows.specs.InnerRows.{has, kept_rows}
use Rattle.propagation.specs.InnerRows.{Begins, Images}
use Rattle.twins.specs.InnerTwins.{rises, earliest_rising}
use Rattle.fitting.specs.declared.Partial.{Partial}
use Rattle.fitting.specs.InnerPartial.{placed_list, rows_in, full_rows, Settled}

-- The rows with the candidates among n target elements in the first m rows; where the orders are equal, only those of the same colour.
unfoldable pub start_rows : ℕ → Product → ℕ → Product → (ℕ → ℕ → Bool) → List ℕ
start_rows m s n t candidate = let rows = kept_rows m n candidate full_rows in cond (eqb m n) (kept_rows n n (same_colour n s t) rows) rows

-- What the search must find from a partial map: the earliest map asked for that begins with the list placed and rises along the relation, or none.
abbrev pub due : Search → (ℕ → ℕ → Bool) → Bool → Partial → Option (List ℕ)
due w relation tight p =
    earliest_rising w.source.now.order (times_of w.source.now) w.target.now.order (times_of w.target.now) (marked w.target.now.order w.scratch.now) (bounded tight w.after.now) relation (w.source.now.order - p.len) (placed_list p)

-- What the search must find among given candidates: the first map or, for true, the next one.
abbrev pub wanted_among : Search → (ℕ → ℕ → Bool) → Bool → Option (List ℕ)
wanted_among w candidate later = search (times_of w.source.now) (times_of w.target.now) candidate (bounded later w.after.now) w.target.now.order w.source.now.order []

-- The same among the marked candidates.
abbrev pub wanted : Search → Bool → Option (List ℕ)
wanted w later = wanted_among w (marked w.target.now.order w.scratch.now) later

-- The images placed are elements, and zeros follow them.
pub record PlacedImages (n : ℕ) (image : List ℕ) (len : ℕ) : Type 0 where
  pub long : length image ≡ 120
  pub fit : len ≤ 120
  pub padded : drop len image ≡ replicate (120 - len) 0
  pub images : Images n image len

-- What holds whenever the search goes on from a partial map. The images placed rise along the relation, and the rows of the elements that it leads to from a
-- placed one hold only elements above the image of that one.
pub record Reached (w : Search) (relation : ℕ → ℕ → Bool) (tight : Bool) (p : Partial) : Type 0 where
  pub placing : PlacedImages w.target.now.order p.image p.len
  pub within : p.len ≤ w.source.now.order
  pub marks : (i : ℕ) → Element p.len i → marked w.target.now.order w.scratch.now i (at p.image i) ≡ true
  pub settled : Settled (times_of w.source.now) (times_of w.target.now) p.image p.len p.len p.rows
  pub passed : p.ok ≡ true → Placed w.target.now.order (placed_list p) × (passes (times_of w.source.now) (times_of w.target.now) (placed_list p) ≡ true)
  pub later : (i j : ℕ) → relation i j ≡ true → i < j
  pub rising : (i j : ℕ) → Element p.len i → Element p.len j → relation i j ≡ true → at p.image i < at p.image j
  pub above : (i j y : ℕ) → Element p.len i → Element w.source.now.order j → Element w.target.now.order y → relation i j ≡ true → rows_in p j y ≡ true → at p.image i < y
  pub covers : (f : List ℕ) → Embedding w.source.now.order (times_of w.source.now) w.target.now.order (times_of w.target.now) f → Among w.source.now.order (marked w.target.now.order w.scratch.now) f
      → rises w.source.now.order relation f ≡ true → Begins f p.image p.len → (p.ok ≡ true) × Among w.source.now.order (has p.rows) f
  pub same : tight ≡ true → take p.len w.after.now ≡ placed_list p
