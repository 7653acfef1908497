-- The plain bounds that the steps lean on, of a state and of the words that hold it: they follow from
-- soundness, and hold inside a step too, where a world need not be sound. They look at few words, so a store
-- of any other word keeps them by computation. Assumes nothing.
use Rattle.std.specs.Prelude.{◌≡◌, List, ℕ, ◌+◌, ◌≤◌, ◌<◌, length, set}
use Rattle.std.proofs.Common.{sym, ap, ◌∙◌, arith}
use Rattle.definitions.specs.World.{Cell, size, count, group, next, fifo_length, causal_length, fifo, sender, addr, State, put, encode, view}
use Rattle.world.specs.Layout.{Within, get_encode, changes_put, changes_own}
use Rattle.world.specs.SoundLaws.{Sound, size_high, count_high, group_high, sender_high, fifo_length_high, causal_length_high, fifo_high, next_high}

-- What they look at, and the bounds of it.
pub record Limits (n messages : ℕ) (group sender fifo_length causal_length : ℕ → ℕ) (fifo next : ℕ → ℕ → ℕ)
    : Type 0 where
  pub sizes : n ≤ 16
  pub counts : messages ≤ 64
  pub groups : (p : ℕ) → p < 16 → group p < 8
  pub senders : (m : ℕ) → m < 64 → sender m < 16
  pub fifo_lengths : (p : ℕ) → p < 16 → fifo_length p ≤ messages
  pub causal_lengths : (p : ℕ) → p < 16 → causal_length p ≤ fifo_length p
  pub logged : (p i : ℕ) → p < 16 → i < 64 → fifo p i < 64
  pub nexts : (p q : ℕ) → p < 16 → q < 16 → next p q ≤ fifo_length p + 1

abbrev pub Bounds : State → Type 0
Bounds s =
    Limits (s size) (s count) (λ p. s (group p)) (λ m. s (sender m)) (λ p. s (fifo_length p))
    (λ p. s (causal_length p)) (λ p i. s (fifo p i)) (λ p q. s (next p q))

-- ---- they hold of a state exactly if they hold of its words
bounds_on : (s t : State) → ((c : Cell) → Within c → s c ≡ t c) → Bounds s → Bounds t
bounds_on s t e h = record {
  sizes = omega (arith, e size tt, h.sizes);
  counts = omega (arith, e count tt, h.counts);
  groups = λ p l. omega (arith, e (group p) l, h.groups p l);
  senders = λ m l. omega (arith, e (sender m) l, h.senders m l);
  fifo_lengths = λ p l. omega (arith, e count tt, e (fifo_length p) l, h.fifo_lengths p l);
  causal_lengths = λ p l. omega (arith, e (fifo_length p) l, e (causal_length p) l, h.causal_lengths p l);
  logged = λ p i l k. omega (arith, e (fifo p i) (l, k), h.logged p i l k);
  nexts = λ p q l k. omega (arith, e (fifo_length p) l, e (next p q) (l, k), h.nexts p q l k);
}

pub bounds_state : (w : List ℕ) (s : State) → w ≡ encode s → Bounds (view w) → Bounds s
bounds_state w s e h = bounds_on (view w) s (λ c k. ap (λ (x : List ℕ). view x c) e ∙ get_encode s c k) h

pub bounds_words : (w : List ℕ) (s : State) → w ≡ encode s → Bounds s → Bounds (view w)
bounds_words w s e h =
    bounds_on s (view w) (λ c k. sym (ap (λ (x : List ℕ). view x c) e ∙ get_encode s c k)) h

-- ---- a sound world has them
pub sound_bounds : (s : State) → Sound s → Bounds s
sound_bounds s h = record {
  sizes = size_high s h;
  counts = count_high s h;
  groups = group_high s h;
  senders = sender_high s h;
  fifo_lengths = fifo_length_high s h;
  causal_lengths = causal_length_high s h;
  logged = fifo_high s h;
  nexts = next_high s h;
}

-- ---- one word stored
pub bounds_stored : (w : List ℕ) (c : Cell) (v : ℕ) → length w ≡ 20480 → Within c → Bounds (put (view w) c v)
    → Bounds (view (set w (addr c) v))
bounds_stored w c v l h b =
    bounds_words (set w (addr c) v) (put (view w) c v)
    (changes_own w (set w (addr c) v) (λ s. put s c v) l (changes_put w c v h)) b
