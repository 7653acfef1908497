-- The test "ready" of the cascade, read off words, and in the code's order. Assumes nothing.
use Rattle.std.specs.Prelude.{◌≡◌, Bool, List, ℕ, ◌<◌}
use Rattle.std.proofs.Math.Path.{ap, ap₂}
use Rattle.std.proofs.Common.{◌∙◌, arith}
use Rattle.std.proofs.Math.Bool.{not, ◌&&◌}
use Rattle.std.proofs.Math.Dec.{eqb}
use Rattle.definitions.specs.General.{bit, every, absent}
use Rattle.definitions.specs.World.{size, trust, fifo_length, held, marks, fifo, State, encode, view, addressed, outside_fifo}
use Rattle.definitions.specs.Machine.{marked, ready}
use Rattle.base.specs.Tests.{both, either}
use Rattle.base.specs.Search.{every_cong}
use Rattle.world.specs.Layout.{Reads, get_encode}
use Rattle.bounds.specs.Bounds.{Bounds, bounds_state}
use Rattle.sends.specs.Sends.{addressed_words, in_turn_words}

-- ---- what the test reads off the words of s is so of s
module _ (s : State) (h : Bounds s) (p m : ℕ) (hp : p < 16) (hm : m < 64) where
  abbrev v : State
  v = view (encode s)

  marked_words : (q : ℕ) → q < 16 → marked v p m q ≡ marked s p m q
  marked_words q hq =
      ap₂ (λ (a b : ℕ). either (not (both (bit a q) (addressed v m q))) (bit b q)) (get_encode s (trust p) hp)
      (get_encode s (marks p m) (hp, hm))
      ∙ ap (λ (b : Bool). either (not (both (bit (s (trust p)) q) b)) (bit (s (marks p m)) q))
      (addressed_words s h m q hm hq)

  outside_words : outside_fifo v p m ≡ outside_fifo s p m
  unfolding absent
  outside_words =
      ap (λ (n : ℕ). every n (λ i. not (eqb (v (fifo p i)) m))) (get_encode s (fifo_length p) hp)
      ∙ every_cong (s (fifo_length p)) (λ i. not (eqb (v (fifo p i)) m)) (λ i. not (eqb (s (fifo p i)) m))
      (λ i l. ap (λ (x : ℕ). not (eqb x m))
      (get_encode s (fifo p i) (hp, omega (arith, h.fifo_lengths p hp, h.counts))))

  all_words : every (v size) (marked v p m) ≡ every (s size) (marked s p m)
  all_words =
      ap (λ (n : ℕ). every n (marked v p m)) (get_encode s size tt)
      ∙ every_cong (s size) (marked v p m) (marked s p m) (λ q l. marked_words q (omega (arith, h.sizes)))

  pub ready_words : ready v p m ≡ ready s p m
  unfolding ready
  ready_words =
      ap₂ ◌&&◌
      (ap₂ ◌&&◌ (ap₂ ◌&&◌ (ap (λ (x : ℕ). eqb x 1) (get_encode s (held p m) (hp, hm))) outside_words)
      (in_turn_words s h p m hp hm))
      all_words

pub ready_law : (w : List ℕ) (p m : ℕ) {r : Bool} → Bounds (view w) → p < 16 → m < 64 → r ≡ ready (view w) p m
    → Reads w r (λ s. ready s p m)
ready_law w p m h hp hm q s e =
    q ∙ ap (λ (x : List ℕ). ready (view x) p m) e ∙ ready_words s (bounds_state w s e h) p m hp hm

-- m waits for no mark at p, and is outside its FIFO log
abbrev pub cleared : State → ℕ → ℕ → Bool
cleared s p m = both (outside_fifo s p m) (every (s size) (marked s p m))
