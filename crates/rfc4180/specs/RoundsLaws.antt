-- The round trips of demand 2; and rounds: a text is loaded and what was loaded is saved, again and again, on one text buffer and one cell buffer.
-- Assumes nothing.
use Rattle.std.specs.Prelude.{Bool, cond, List, [], ◌∷◌, ◌++◌, ◌≡◌, ℕ, ◌-◌, zero, suc, ◌*◌, length, get_or, take}
use Rattle.semigroups.specs.Calls.{Answer, refused, gives, overwritten}
use Rattle.rfc4180.specs.Records.{is_break}
use Rattle.rfc4180.specs.Calls.{load_answer, cells_after, save_answer, text_after}

-- ---- from a text

-- Whether the last two bytes of a text are a line break.
unfoldable pub ends_in_break : List ℕ → Bool
ends_in_break t = is_break (get_or t (length t - 2) 0) (get_or t (length t - 1) 0)

-- The text with its last line break added if its last record lacks it (RULES 19.2). An empty text has no record.
unfoldable pub closed : List ℕ → List ℕ
closed [] = []
closed (b ∷ t) = cond (ends_in_break (b ∷ t)) (b ∷ t) ((b ∷ t) ++ 13 ∷ 10 ∷ [])

-- ---- there and back

-- The table of order n with these cells, saved into the buffer `text`, loads into the buffer `cells-buffer` as the same order and cells.
pub record SavedLoads (n : ℕ) (cells text cells-buffer : List ℕ) : Type 0 where
  pub size : ℕ
  pub saved : save_answer n cells text ≡ gives size
  pub order : load_answer (take size (text_after n cells text)) cells-buffer ≡ gives n
  pub cells_same : cells_after (take size (text_after n cells text)) cells-buffer ≡ overwritten cells cells-buffer

-- The text t, loaded into the buffer `cells-buffer`, saves into the buffer `text` as the same bytes, with the last line break added where it was
-- missing.
pub record LoadedSaves (t cells-buffer text : List ℕ) : Type 0 where
  pub order : ℕ
  pub loaded : load_answer t cells-buffer ≡ gives order
  pub size : save_answer order (take (order * order) (cells_after t cells-buffer)) text ≡ gives (length (closed t))
  pub text_closed : text_after order (take (order * order) (cells_after t cells-buffer)) text ≡ overwritten (closed t) text

-- The text t loads into the buffer `cells` exactly as if its last line break were there: the same answer, and the same bytes.
pub record LoadsClosed (t cells : List ℕ) : Type 0 where
  pub answer : load_answer t cells ≡ load_answer (closed t) cells
  pub cells_same : cells_after t cells ≡ cells_after (closed t) cells

-- ---- again and again

-- The two buffers, and how many bytes of the first are the text.
pub record Buffers : Type 0 where
  pub text : List ℕ
  pub size : ℕ
  pub cells : List ℕ

-- The number that an answer gives, or 0 if it gives none.
abbrev pub given : Answer ℕ → ℕ
given (refused r) = 0
given (gives x) = x

-- The text that the first buffer holds.
abbrev pub text_held : Buffers → List ℕ
text_held b = take b.size b.text

-- The buffers after a table is saved.
unfoldable pub saved : ℕ → List ℕ → Buffers → Buffers
saved n cells b = record { text = text_after n cells b.text; size = given (save_answer n cells b.text); cells = b.cells }

-- The order that loading the text gives.
abbrev pub loaded_order : Buffers → ℕ
loaded_order b = given (load_answer (text_held b) b.cells)

-- The cells that loading the text gives.
abbrev pub loaded_cells : Buffers → List ℕ
loaded_cells b = take (loaded_order b * loaded_order b) (cells_after (text_held b) b.cells)

-- One round: the text is loaded, and the table that this gives is saved.
unfoldable pub round : Buffers → Buffers
round b = saved (loaded_order b) (loaded_cells b) (record { text = b.text; size = b.size; cells = cells_after (text_held b) b.cells })

-- The buffers after this many rounds.
unfoldable pub rounds : ℕ → Buffers → Buffers
rounds zero b = b
rounds (suc k) b = round (rounds k b)

-- After any number of rounds: the text buffer and the text's length are what the first saving left, and loading gives the table.
pub record Unchanged (n : ℕ) (cells : List ℕ) (first b : Buffers) : Type 0 where
  pub text : b.text ≡ first.text
  pub size : b.size ≡ first.size
  pub order : load_answer (text_held b) b.cells ≡ gives n
  pub cells_same : loaded_cells b ≡ cells

-- After one round and after any further ones, the text t stands at the start of the first buffer, with its last line break.
pub record RoundsClose (t : List ℕ) (before after : Buffers) : Type 0 where
  pub text : after.text ≡ overwritten (closed t) before.text
  pub size : after.size ≡ length (closed t)
