-- One run of zeros for all that is absent: a word that is not in use is fine exactly where it is zero.
-- Assumes nothing.
use Rattle.std.specs.Prelude.{◌≡◌, Bool, false, ◌&&◌, List, ℕ, ◌+◌, ◌*◌, ◌≤◌, ◌<◌, eqb, get_or}
use Rattle.std.proofs.Math.Path.{refl}
use Rattle.std.proofs.Common.{sym, ap, ◌∙◌, arith, le-ltb}
use Rattle.definitions.specs.World.{Cell, size, count, rule, group, trust, counter, sequence, next, delivered, up, fifo_length, causal_length, held, marks, fifo, causal, sender, mask, stamp, number, flight, order, unused, addr, cell_at, view, is_process, is_message}
use Rattle.definitions.specs.Sound.{word, fit, fine}
use Rattle.base.specs.Search.{every_cong}
use Rattle.base.specs.Tests.{and_false}
use Rattle.world.specs.Layout.{Within, addr_cell_at, within_cell_at}
use Rattle.ranges.specs.Ranges.{zeros_at}
use Rattle.regions.specs.Runs.{fine_run}

idle : (b : Bool) (x : ℕ) (t : Bool) → b ≡ false → word b x t ≡ eqb x 0
idle b x t e = ap (λ (a : Bool). word a x t) e

front : (a b : Bool) → a ≡ false → (a && b) ≡ false
front a b e = ap (λ (x : Bool). x && b) e

back : (a b : Bool) → b ≡ false → (a && b) ≡ false
back a b e = ap (λ (x : Bool). a && x) e ∙ and_false a

-- a run of words of which none is in use
pub zeros_run : (w : List ℕ) (a k : ℕ) → a + k ≤ 20480
    → ((c : Cell) → Within c → a ≤ addr c → addr c < a + k → fine (view w) c ≡ eqb (view w c) 0)
    → zeros_at w a k ≡ fine_run (view w) a k
unfolding zeros_at fine_run
zeros_run w a k fits h =
    every_cong k (λ i. eqb (get_or w (a + i) 0) 0) (λ i. fine (view w) (cell_at (a + i)))
    (λ i l.
    let e = addr_cell_at (a + i) (omega arith) in
    ap (λ (x : ℕ). eqb (get_or w x 0) 0) (sym e)
    ∙ sym (h (cell_at (a + i)) (within_cell_at (a + i) (omega arith)) (omega arith) (omega arith)))

module _ (w : List ℕ) where
  no_process : (p : ℕ) → view w size ≤ p → is_process (view w) p ≡ false
  no_process p l = le-ltb p (view w size) l

  no_message : (m : ℕ) → view w count ≤ m → is_message (view w) m ≡ false
  no_message m l = le-ltb m (view w count) l

  -- a table of counters, and a row of them
  no_pair : (b c d : Bool) (x : ℕ) (t : Bool) → b ≡ false → word (b && c && d) x t ≡ eqb x 0
  no_pair b c d x t e = idle (b && c && d) x t (front (b && c) d (front b c e))

  no_row : (b c : Bool) (x : ℕ) (t : Bool) → b ≡ false → word (b && c) x t ≡ eqb x 0
  no_row b c x t e = idle (b && c) x t (front b c e)

  -- what is held or marked at an absent process
  no_addressee : (b c d : Bool) (x : ℕ) (t : Bool) → c ≡ false → word (b && (c && d)) x t ≡ eqb x 0
  no_addressee b c d x t e = idle (b && (c && d)) x t (back b (c && d) (front c d e))

  -- the words of absent processes
  pub absent_process : (c : Cell) → Within c → 3 + view w size * 429 ≤ addr c → addr c < 6867
      → fine (view w) c ≡ eqb (view w c) 0
  unfolding fine fit
  absent_process size k lo hi = absurd (omega arith)
  absent_process count k lo hi = absurd (omega arith)
  absent_process rule k lo hi = absurd (omega arith)
  absent_process (group p) k lo hi = idle _ _ _ (no_process p (omega arith))
  absent_process (trust p) k lo hi = idle _ _ _ (no_process p (omega arith))
  absent_process (counter p g q) k lo hi = no_pair _ _ _ _ _ (no_process p (omega arith))
  absent_process (sequence p g) k lo hi = no_row _ _ _ _ (no_process p (omega arith))
  absent_process (next p q) k lo hi = no_row _ _ _ _ (no_process p (omega arith))
  absent_process (delivered p q) k lo hi = no_row _ _ _ _ (no_process p (omega arith))
  absent_process (up p) k lo hi = idle _ _ _ (no_process p (omega arith))
  absent_process (fifo_length p) k lo hi = idle _ _ _ (no_process p (omega arith))
  absent_process (causal_length p) k lo hi = idle _ _ _ (no_process p (omega arith))
  absent_process (held p m) k lo hi = no_addressee (is_message (view w) m) _ _ _ _
      (no_process p (omega arith))
  absent_process (marks p m) k lo hi = no_addressee (is_message (view w) m) _ _ _ _
      (no_process p (omega arith))
  absent_process (fifo p i) k lo hi = idle _ _ _ (no_process p (omega arith))
  absent_process (causal p i) k lo hi = idle _ _ _ (no_process p (omega arith))
  absent_process (sender m) k lo hi = absurd (omega arith)
  absent_process (mask m) k lo hi = absurd (omega arith)
  absent_process (stamp m g q) k lo hi = absurd (omega arith)
  absent_process (number m g) k lo hi = absurd (omega arith)
  absent_process (flight m i q) k lo hi = absurd (omega arith)
  absent_process (order m) k lo hi = absurd (omega arith)
  absent_process (unused i) k lo hi = absurd (omega arith)

  -- the words of absent messages, and those after the messages
  pub absent_message : (c : Cell) → Within c → 6867 + view w count * 187 ≤ addr c → addr c < 20480
      → fine (view w) c ≡ eqb (view w c) 0
  unfolding fine fit
  absent_message size k lo hi = absurd (omega arith)
  absent_message count k lo hi = absurd (omega arith)
  absent_message rule k lo hi = absurd (omega arith)
  absent_message (group p) k lo hi = absurd (omega arith)
  absent_message (trust p) k lo hi = absurd (omega arith)
  absent_message (counter p g q) k lo hi = absurd (omega arith)
  absent_message (sequence p g) k lo hi = absurd (omega arith)
  absent_message (next p q) k lo hi = absurd (omega arith)
  absent_message (delivered p q) k lo hi = absurd (omega arith)
  absent_message (up p) k lo hi = absurd (omega arith)
  absent_message (fifo_length p) k lo hi = absurd (omega arith)
  absent_message (causal_length p) k lo hi = absurd (omega arith)
  absent_message (held p m) k lo hi = absurd (omega arith)
  absent_message (marks p m) k lo hi = absurd (omega arith)
  absent_message (fifo p i) k lo hi = absurd (omega arith)
  absent_message (causal p i) k lo hi = absurd (omega arith)
  absent_message (sender m) k lo hi = idle _ _ _ (no_message m (omega arith))
  absent_message (mask m) k lo hi = idle _ _ _ (no_message m (omega arith))
  absent_message (stamp m g q) k lo hi = no_pair _ _ _ _ _ (no_message m (omega arith))
  absent_message (number m g) k lo hi = no_row _ _ _ _ (no_message m (omega arith))
  absent_message (flight m i q) k lo hi = no_row _ _ _ _ (no_message m (omega arith))
  absent_message (order m) k lo hi = idle _ _ _ (no_message m (omega arith))
  absent_message (unused i) k lo hi = refl
