-- The logs, FIFO or causal: their places, and a message appended, on words and on states. Assumes nothing.
use Rattle.std.specs.Prelude.{◌≡◌, Bool, true, false, List, ℕ, ◌+◌, ◌*◌, ◌≤◌, ◌<◌, get_or, set}
use Rattle.std.proofs.Common.{ap, ap₂, ◌∙◌, arith}
use Rattle.definitions.specs.General.{pick}
use Rattle.definitions.specs.World.{Cell, fifo_length, causal_length, fifo, causal, addr, State, put, encode, view}
use Rattle.definitions.specs.Words.{log_length, log_start}
use Rattle.world.specs.Layout.{Within, Changes, set_encode, reads_cell}

-- item i of the log of p, and its length
abbrev pub item_cell : ℕ → Bool → ℕ → Cell
item_cell p true i = causal p i
item_cell p false i = fifo p i

abbrev pub length_cell : ℕ → Bool → Cell
length_cell p true = causal_length p
length_cell p false = fifo_length p

-- their places
module _ (p : ℕ) where
  pub start_is : (log : Bool) {i r : ℕ} → i ≡ pick log 365 301 → r ≡ 3 + p * 429 + i → r ≡ log_start p log
  start_is true ei er = omega arith
  start_is false ei er = omega arith

  pub length_is : (log : Bool) {i r : ℕ} → i ≡ pick log 172 171 → r ≡ 3 + p * 429 + i → r ≡ addr (length_cell p log)
  length_is true ei er = omega arith
  length_is false ei er = omega arith

  pub log_low : (log : Bool) → p < 16 → (log_start p log + 64 ≤ 20480) × (addr (length_cell p log) < 20480)
  log_low true h = (omega arith, omega arith)
  log_low false h = (omega arith, omega arith)

  -- the length read
  pub length_read : (log : Bool) (w : List ℕ) {a r : ℕ} → a ≡ addr (length_cell p log) → r ≡ get_or w a 0
      → r ≡ log_length (view w) p log
  length_read true w ea er = er ∙ ap (λ (x : ℕ). get_or w x 0) ea
  length_read false w ea er = er ∙ ap (λ (x : ℕ). get_or w x 0) ea

-- s with m appended to the log
abbrev pub pushed : State → ℕ → Bool → ℕ → State
pushed s p log m =
    put (put s (item_cell p log (log_length s p log)) m) (length_cell p log) (log_length s p log + 1)

module _ (w : List ℕ) (p m : ℕ) (hp : p < 16) where
  -- two stores in the words of cells
  stored : (c d : Cell) (k : ℕ) → Within c → Within d → Changes w (set (set w (addr c) m) (addr d) k)
      (λ s. put (put s c m) d k)
  stored c d k hc hd s e =
      ap (λ (x : List ℕ). set (set x (addr c) m) (addr d) k) e
      ∙ ap (λ (x : List ℕ). set x (addr d) k) (set_encode s c m hc) ∙ set_encode (put s c m) d k hd

  pub pushed_law : (log : Bool) {n a l : ℕ} → n ≡ log_length (view w) p log → log_length (view w) p log < 64
      → a ≡ log_start p log → l ≡ addr (length_cell p log)
      → Changes w (set (set w (a + n) m) l (n + 1)) (λ s. pushed s p log m)
  pushed_law true {n} {a} {l} en room ea el s e =
      let at : a + n ≡ addr (causal p n) = omega (arith, ea) in
      ap₂ (λ (x y : ℕ). set (set w x m) y (n + 1)) at el
      ∙ stored (causal p n) (causal_length p) (n + 1) (hp, omega (arith, en)) hp s e
      ∙ ap (λ (k : ℕ). encode (put (put s (causal p k) m) (causal_length p) (k + 1)))
      (en ∙ reads_cell w (causal_length p) hp s e)
  pushed_law false {n} {a} {l} en room ea el s e =
      let at : a + n ≡ addr (fifo p n) = omega (arith, ea) in
      ap₂ (λ (x y : ℕ). set (set w x m) y (n + 1)) at el
      ∙ stored (fifo p n) (fifo_length p) (n + 1) (hp, omega (arith, en)) hp s e
      ∙ ap (λ (k : ℕ). encode (put (put s (fifo p k) m) (fifo_length p) (k + 1)))
      (en ∙ reads_cell w (fifo_length p) hp s e)
