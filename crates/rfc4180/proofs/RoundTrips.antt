-- Both round trips of demand 2, stated at the calls: a table saved loads as the same order and cells; an accepted text whose entries lie within
-- its order saves to the same bytes, with its last line break; so loading and saving again, however often, changes no byte.
-- Assumes nothing.
use mathlib.Core.Path.{◌≡◌, refl, ap, sym, ◌∙◌}
use mathlib.Core.List.{List}
use mathlib.Core.Option.{Option, none, some}
use Prim.Native.Nat.{ℕ, zero, suc, ◌*◌, ◌≤◌, ◌<◌}
use native.Mathlib.Omega.{arith}
use lib.ListN.{length, get_or, take, drop}
use lib.Seq.{take_at}
use Rattle.semigroups.specs.Tables.{Filled}
use Rattle.semigroups.specs.Questions.{Refusal}
use Rattle.semigroups.proofs.Tables.{no_cells_refusal}
use Rattle.semigroups.proofs.Calls.{gives_ne_refused}
use Rattle.rfc4180.specs.RoundsLaws.{closed, SavedLoads, LoadedSaves, Buffers, given, text_held, saved, loaded_order, loaded_cells, round, rounds, Unchanged, RoundsClose}
use Rattle.rfc4180.specs.Tables.{order_of, cells_of, table_text}
use Rattle.rfc4180.specs.Questions.{load_refusal}
use Rattle.semigroups.specs.Calls.{gives, given_unless, overwritten}
use Rattle.rfc4180.specs.PassingLaws.{LoadPasses, SavePasses}
use Rattle.rfc4180.specs.Calls.{load_answer, cells_after, save_answer, text_after}
use Rattle.rfc4180.proofs.Writing.{overwritten_length, overwritten_twice}
use Rattle.rfc4180.proofs.Passing.{load_passes}
use Rattle.rfc4180.proofs.Loading.{Loadable, load_passed, load_given, cells_length}
use Rattle.rfc4180.proofs.Saving.{room, save_given}
use Rattle.rfc4180.proofs.Accepted.{table_cells, table_order, table_loads, text_back, text_filled}

-- ---- what an answer other than a refusal shows

pub given_passed : (o : Option Refusal) (x y : ℕ) → given_unless o x ≡ gives y → (o ≡ none) × (x ≡ y)
given_passed none x y h = (refl, cc)
given_passed (some r) x y h = absurd (gives_ne_refused y r (sym h))

-- ---- a table saved loads as the same order and cells

record Reloads (n : ℕ) (cells text buffer : List ℕ) : Type 0 where
  pub order : load_answer text buffer ≡ gives n
  pub same : cells_after text buffer ≡ overwritten cells buffer

table_reloads : (n : ℕ) (cells buffer : List ℕ) → Filled n cells → n * n ≤ length buffer → Reloads n cells (table_text n cells) buffer
table_reloads n cells buffer f h =
    let g = load_given (table_text n cells) buffer (table_loads n cells f (length buffer) h) in
    record {
      order = sym g.0 ∙ ap gives (table_order n cells f);
      same = sym g.1 ∙ ap (λ (c : List ℕ). overwritten c buffer) (table_cells n cells f);
    }

pub saved_loads : (n : ℕ) (cells text buffer : List ℕ) → SavePasses n cells (length text) → n * n ≤ length buffer → SavedLoads n cells text buffer
saved_loads n cells text buffer p r =
    let k = length (table_text n cells) in
    let g = save_given n cells text (no_cells_refusal n cells p.table) p.text_room in
    let written : take k (text_after n cells text) ≡ table_text n cells = ap (take k) (sym g.1) ∙ take_at (table_text n cells) (drop k text) k refl in
    let back = table_reloads n cells buffer p.table r in
    record {
      size = k;
      saved = sym g.0;
      order = rw written back.order;
      cells_same = rw written back.same;
    }

-- ---- an accepted text whose entries lie within its order saves to the same bytes, closed

-- What loading gives if it is not refused.
pub record Loads (t buffer : List ℕ) (n : ℕ) : Type 0 where
  pub passes : Loadable t (length buffer)
  pub order : order_of t ≡ n
  pub after : cells_after t buffer ≡ overwritten (cells_of t) buffer
  pub cells : take (n * n) (cells_after t buffer) ≡ cells_of t

pub loads_given : (t buffer : List ℕ) (n : ℕ) → load_answer t buffer ≡ gives n → Loads t buffer n
unfolding load_answer
loads_given t buffer n h =
    let p = given_passed (load_refusal t (length buffer)) (order_of t) n h in
    let l = load_passed t (length buffer) p.0 in
    let after = sym (load_given t buffer p.0).1 in
    let size = cells_length (order_of t) t l.grid ∙ ap (λ (k : ℕ). k * k) p.1 in
    record {
      passes = l;
      order = p.1;
      after = after;
      cells = ap (take (n * n)) after ∙ take_at (cells_of t) (drop (length (cells_of t)) buffer) (n * n) size;
    }

pub loaded_saves : (t buffer text : List ℕ) → LoadPasses t (length buffer) → ((k : ℕ) → k < length (cells_of t) → get_or (cells_of t) k 0 ≤ order_of t) → length (closed t) ≤ length text
    → LoadedSaves t buffer text
loaded_saves t buffer text p within r =
    let n = order_of t in
    let given = sym (load_given t buffer ((load_passes t (length buffer)).1 p)).0 in
    let l = loads_given t buffer n given in
    let back = text_back t (length buffer) l.passes in
    let f = text_filled t (length buffer) l.passes within in
    let g = save_given n (cells_of t) text (no_cells_refusal n (cells_of t) f) (rw back r) in
    record {
      order = n;
      loaded = given;
      size = rw l.cells (sym g.0 ∙ ap (λ (s : List ℕ). gives (length s)) back);
      text_closed = rw l.cells (sym g.1 ∙ ap (λ (s : List ℕ). overwritten s text) back);
    }

-- ---- again and again

-- The buffers after a table was saved: the text is the table's, and the cell buffer has room for the cells.
record Settled (n : ℕ) (cells before : List ℕ) (d : Buffers) : Type 0 where
  pub text : d.text ≡ overwritten (table_text n cells) before
  pub size : d.size ≡ length (table_text n cells)
  pub room : n * n ≤ length d.cells

module _ (n : ℕ) (cells : List ℕ) (f : Filled n cells) where
  -- Saving over any buffer that holds the text leaves it as it is.
  save_over : (b : List ℕ) → length (table_text n cells) ≤ length b
      → (given (save_answer n cells b) ≡ length (table_text n cells)) × (text_after n cells b ≡ overwritten (table_text n cells) b)
  save_over b r = let g = save_given n cells b (no_cells_refusal n cells f) r in (ap given (sym g.0), sym g.1)

  -- What a round does from a text that loads as the table.
  module _ (d : Buffers) (back : Reloads n cells (text_held d) d.cells) where
    order_is : loaded_order d ≡ n
    order_is = ap given back.order

    cells_are : loaded_cells d ≡ cells
    cells_are =
        ap (λ (k : ℕ). take (k * k) (cells_after (text_held d) d.cells)) order_is
        ∙ ap (take (n * n)) back.same
        ∙ take_at cells (drop (length cells) d.cells) (n * n) f.size

    round_settles : n * n ≤ length d.cells → length (table_text n cells) ≤ length d.text → Settled n cells d.text (round d)
    unfolding round saved
    round_settles room fits =
        let once = save_over d.text fits in
        let size = f.size in
        record {
          text = rw (cells_are, order_is) once.1;
          size = rw (cells_are, order_is) once.0;
          room = rw (back.same, overwritten_length cells d.cells (omega arith)) room;
        }

  module _ (before : List ℕ) (fits : length (table_text n cells) ≤ length before) where
    module _ (d : Buffers) (s : Settled n cells before d) where
      reloads : Reloads n cells (text_held d) d.cells
      reloads =
          let text-held : text_held d ≡ table_text n cells =
          ap (take d.size) s.text ∙ take_at (table_text n cells) (drop (length (table_text n cells)) before) d.size (sym s.size) in
          rw text-held (table_reloads n cells d.cells f s.room)

      settled_round : Settled n cells before (round d)
      settled_round =
          let long = overwritten_length (table_text n cells) before fits in
          let next = round_settles d reloads s.room (rw s.text (omega arith)) in
          record {
            text = next.text ∙ ap (overwritten (table_text n cells)) s.text ∙ overwritten_twice (table_text n cells) before;
            size = next.size;
            room = next.room;
          }

      unchanged : (first : Buffers) → Settled n cells before first → Unchanged n cells first d
      unchanged first t =
          record { text = s.text ∙ sym t.text; size = s.size ∙ sym t.size; order = reloads.order; cells_same = cells_are d reloads }

    settled_rounds : (d : Buffers) → Settled n cells before d → (k : ℕ) → Settled n cells before (rounds k d)
    unfolding rounds
    settled_rounds d s zero = s
    settled_rounds d s (suc k) = settled_round (rounds k d) (settled_rounds d s k)

-- Saving, loading and saving again changes no byte, however often.
pub resaved_same : (n : ℕ) (cells : List ℕ) (b : Buffers) → SavePasses n cells (length b.text) → n * n ≤ length b.cells
    → (r : ℕ) → Unchanged n cells (saved n cells b) (rounds r (saved n cells b))
unfolding saved
resaved_same n cells b p room r =
    let f = p.table in
    let g = save_over n cells f b.text p.text_room in
    let first : Settled n cells b.text (saved n cells b) = record { text = g.1; size = g.0; room = room } in
    unchanged n cells f b.text p.text_room (rounds r (saved n cells b)) (settled_rounds n cells f b.text p.text_room (saved n cells b) first r)
    (saved n cells b) first

-- The rounds can be counted from the first one: one round, then r more.
rounds_first : (r : ℕ) (b : Buffers) → rounds (suc r) b ≡ rounds r (round b)
unfolding rounds
rounds_first zero b = refl
rounds_first (suc r) b = ap round (rounds_first r b)

-- Loading and saving an accepted text whose entries lie within its order closes it; doing so again, however often, changes no further byte.
pub rounds_close : (b : Buffers) → LoadPasses (text_held b) (length b.cells)
    → ((k : ℕ) → k < length (cells_of (text_held b)) → get_or (cells_of (text_held b)) k 0 ≤ order_of (text_held b)) → length (closed (text_held b)) ≤ length b.text
    → (r : ℕ) → RoundsClose (text_held b) b (rounds (suc r) b)
rounds_close b p within room r =
    let t = text_held b in
    let n = order_of t in
    let order = sym (load_given t b.cells ((load_passes t (length b.cells)).1 p)).0 in
    let l = loads_given t b.cells n order in
    let back = text_back t (length b.cells) l.passes in
    let f = text_filled t (length b.cells) l.passes within in
    let fits : length (table_text n (cells_of t)) ≤ length b.text = rw back room in
    let first = round_settles n (cells_of t) f b (record { order = order; same = l.after }) p.cells_room fits in
    let s = settled_rounds n (cells_of t) f b.text fits (round b) first r in
    rw rounds_first (record { text = s.text ∙ ap (λ (u : List ℕ). overwritten u b.text) back; size = s.size ∙ ap length back })
