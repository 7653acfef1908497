-- The world of document 01, section "The world": its named words (cells), their places among the 20,480
-- words, a state as what stands in each cell, and the words of a state. It rests on General. Assumes nothing.
use Rattle.std.specs.Prelude.{Bool, List, [], ◌∷◌, ℕ, ◌+◌, ◌-◌, ◌*◌, ◌/◌, ◌%◌, ltb, eqb, get_or}
use Rattle.std.proofs.Math.Decide.{ℕ_discrete}
use Rattle.definitions.specs.General.{pick, some, absent, tabulate, bit}

-- The words of a world by name.
pub data Cell : Type 0 where
  -- The world's: n, the count of messages, and an unused word, kept for a later rule for senders.
  size count rule : Cell
  -- Of process p: its group, its trust set, C[g][q], b[g], next[q], del[q].
  group trust : ℕ → Cell
  counter : ℕ → ℕ → ℕ → Cell
  sequence next delivered : ℕ → ℕ → Cell
  -- Of process p: whether it is up, the lengths of its logs; of each message whether it is held and its OK
  -- marks; the items of the FIFO and the causal log.
  up fifo_length causal_length : ℕ → Cell
  held marks fifo causal : ℕ → ℕ → Cell
  -- Of message m: its sender, its group mask, the C[g][q] and the s[g] that it carries.
  sender mask : ℕ → Cell
  stamp : ℕ → ℕ → ℕ → Cell
  number : ℕ → ℕ → Cell
  -- Of message m: the receivers of its letters in flight of kind k and origin q; its order number (document
  -- 02, card 1: "Number 0 means no order").
  flight : ℕ → ℕ → ℕ → Cell
  order : ℕ → Cell
  -- The words that nothing uses.
  unused : ℕ → Cell
  deriving Discrete as Cell-discrete

-- The place of each cell: 3 words, 16 processes of 429 words, 64 messages of 187, then the unused ones.
abbrev pub addr : Cell → ℕ
addr size = 0
addr count = 1
addr rule = 2
addr (group p) = 3 + p * 429
addr (trust p) = 3 + p * 429 + 1
addr (counter p g q) = 3 + p * 429 + 2 + (g * 16 + q)
addr (sequence p g) = 3 + p * 429 + 130 + g
addr (next p q) = 3 + p * 429 + 138 + q
addr (delivered p q) = 3 + p * 429 + 154 + q
addr (up p) = 3 + p * 429 + 170
addr (fifo_length p) = 3 + p * 429 + 171
addr (causal_length p) = 3 + p * 429 + 172
addr (held p m) = 3 + p * 429 + 173 + m
addr (marks p m) = 3 + p * 429 + 237 + m
addr (fifo p i) = 3 + p * 429 + 301 + i
addr (causal p i) = 3 + p * 429 + 365 + i
addr (sender m) = 6867 + m * 187
addr (mask m) = 6867 + m * 187 + 1
addr (stamp m g q) = 6867 + m * 187 + 2 + (g * 16 + q)
addr (number m g) = 6867 + m * 187 + 130 + g
addr (flight m k q) = 6867 + m * 187 + 138 + (k * 16 + q)
addr (order m) = 6867 + m * 187 + 186
addr (unused i) = 18835 + i

-- The cell at a place, the inverse of `addr`: regions of cells, one after the other, each of some length.
pub record Region : Type 0 where
  pub extent : ℕ
  pub cell : ℕ → Cell

abbrev pub cell_in : List Region → ℕ → Cell
cell_in [] a = unused a
cell_in (r ∷ rs) a = pick (ltb a r.extent) (r.cell a) (cell_in rs (a - r.extent))

abbrev pub of_process : ℕ → List Region
of_process p =
    record { extent = 1; cell = λ _. group p }
    ∷ record { extent = 1; cell = λ _. trust p }
    ∷ record { extent = 128; cell = λ i. counter p (i / 16) (i % 16) }
    ∷ record { extent = 8; cell = sequence p }
    ∷ record { extent = 16; cell = next p }
    ∷ record { extent = 16; cell = delivered p }
    ∷ record { extent = 1; cell = λ _. up p }
    ∷ record { extent = 1; cell = λ _. fifo_length p }
    ∷ record { extent = 1; cell = λ _. causal_length p }
    ∷ record { extent = 64; cell = held p }
    ∷ record { extent = 64; cell = marks p }
    ∷ record { extent = 64; cell = fifo p }
    ∷ record { extent = 64; cell = causal p }
    ∷ []

abbrev pub of_message : ℕ → List Region
of_message m =
    record { extent = 1; cell = λ _. sender m }
    ∷ record { extent = 1; cell = λ _. mask m }
    ∷ record { extent = 128; cell = λ i. stamp m (i / 16) (i % 16) }
    ∷ record { extent = 8; cell = number m }
    ∷ record { extent = 48; cell = λ i. flight m (i / 16) (i % 16) }
    ∷ record { extent = 1; cell = λ _. order m }
    ∷ []

abbrev pub regions : List Region
regions =
    record { extent = 1; cell = λ _. size }
    ∷ record { extent = 1; cell = λ _. count }
    ∷ record { extent = 1; cell = λ _. rule }
    ∷ record { extent = 6864; cell = λ i. cell_in (of_process (i / 429)) (i % 429) }
    ∷ record { extent = 11968; cell = λ i. cell_in (of_message (i / 187)) (i % 187) }
    ∷ record { extent = 1645; cell = unused }
    ∷ []

unfoldable pub cell_at : ℕ → Cell
cell_at a = cell_in regions a

-- A state: what stands in each cell.
abbrev pub State : Type 0
State = Cell → ℕ

-- s with v in the cell c.
unfoldable pub put : State → Cell → ℕ → State
put s c v d = elim (Cell-discrete ℕ_discrete c d) [ yes e ↦ v | no n ↦ s d ]

-- "A world is one lent slice of 20,480 words of 16 bits": the words of a state.
unfoldable pub encode : State → List ℕ
encode s = tabulate 20480 (λ a. s (cell_at a))

-- The state that words hold.
abbrev pub view : List ℕ → State
view w c = get_or w (addr c) 0

-- ---- what exists in a state
abbrev pub is_process : State → ℕ → Bool
is_process s p = ltb p (s size)

abbrev pub is_message : State → ℕ → Bool
is_message s m = ltb m (s count)

-- Some process is of group g.
unfoldable pub has_group : State → ℕ → Bool
has_group s g = some (s size) (λ p. eqb (s (group p)) g)

-- "Its addressees are all processes of those groups", the ones that the mask of m names: process p is one.
abbrev pub addressed : State → ℕ → ℕ → Bool
addressed s m p = bit (s (mask m)) (s (group p))

-- m is outside the FIFO log of p, and outside its causal log.
abbrev pub outside_fifo : State → ℕ → ℕ → Bool
outside_fifo s p m = absent (s (fifo_length p)) m (λ i. s (fifo p i))

abbrev pub outside_causal : State → ℕ → ℕ → Bool
outside_causal s p m = absent (s (causal_length p)) m (λ i. s (causal p i))
