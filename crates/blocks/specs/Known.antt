-- What the test of a block knows: what exists, and the tables. Assumes nothing.
use Rattle.std.specs.Prelude.{◌≡◌, ◌&&◌, List, ◌⊎◌, ℕ, ◌+◌, ◌*◌, ◌≤◌, ◌<◌, length, get_or}
use Rattle.std.proofs.Common.{inl, inr, arith, lt-ltb, ltb-true}
use Rattle.definitions.specs.General.{pick}
use Rattle.definitions.specs.World.{State, size, count, fifo_length, causal_length, sender, view, is_process, is_message, has_group}
use Rattle.definitions.specs.Sound.{fit, fine}
use Rattle.base.specs.Tests.{le_or_lt}
use Rattle.world.specs.SoundLaws.{word_in}
use Rattle.heads.specs.Known.{Sized, Placed, Headed}
use Rattle.sets.specs.Powers.{Powers}
use Rattle.limits.specs.Senders.{Senders}
use Rattle.limits.specs.Addressees.{Addressees}
use Rattle.blocks.specs.declared.Known.{Known}

-- t has the limits: of what is counted, by whether the group and the process exist, and of a log's items.
pub record Bounds (s : State) (t : List ℕ) : Type 0 where
  pub long : length t ≡ 280
  pub pairs : (g q : ℕ) → g < 8 → q < 16
      → get_or t (g * 16 + q) 0 ≡ pick (has_group s g && is_process s q) (s count) 0
  pub alone : (g : ℕ) → g < 8 → get_or t (128 + g) 0 ≡ pick (has_group s g) (s count) 0
  pub processes : (q : ℕ) → q < 16 → get_or t (136 + q) 0 ≡ pick (is_process s q) (s count) 0
  pub items : (i : ℕ) → i < 64 → get_or t (152 + i) 0 ≡ 63
  pub past : (i : ℕ) → i < 64 → get_or t (216 + i) 0 ≡ 0

-- What exists may be, and the limits and the addressees are those of the world.
pub record Ready (w : List ℕ) (t : Known) : Type 0 where
  pub sized : Sized w t.size t.count
  pub placed : Placed (view w)
  pub headed : Headed (view w)
  pub bounds : Bounds (view w) t.limits
  pub to : Addressees (view w) t.addressees

-- The senders of the messages, and the bits of a set.
pub record Tables (s : State) (t : Known) : Type 0 where
  pub senders : Senders s t.count t.from
  pub powers : Powers t.bits

-- The logs of p have room.
pub record Lengths (s : State) (p : ℕ) : Type 0 where
  pub fifo_few : s (fifo_length p) ≤ 64
  pub causal_few : s (causal_length p) ≤ 64

-- the sender of a message is a process
pub sender_low : (w : List ℕ) (t : Known) → Ready w t → (m : ℕ) → m < t.count → view w (sender m) < 16
unfolding fine fit
sender_low w t h m k =
    let ec = h.sized.count_is in
    let es = h.sized.size_is in
    let eh = h.sized.high in
    let z = ltb-true (view w (sender m)) (view w size)
    (word_in (is_message (view w) m) (view w (sender m)) _ (h.headed.fine_senders m (omega arith))
    (lt-ltb m (view w count) (omega arith))) in
    omega arith

pub from_small : (w : List ℕ) (t : Known) → Ready w t → Tables (view w) t → (m : ℕ) → m < 64 → get_or t.from m 0 < 16
from_small w t h b m k = go (le_or_lt t.count m)
  where
    go : (t.count ≤ m) ⊎ (m < t.count) → get_or t.from m 0 < 16
    go (inl a) = omega (arith, b.senders.past m a k)
    go (inr a) = omega (arith, b.senders.at m a, sender_low w t h m a)
