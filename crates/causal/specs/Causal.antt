-- The causal deliveries at a process, turn by turn: the bounds that each keeps, and the loop of the code
-- beside the definition's. The causal log has room for what is left, since the loop counts down how much
-- longer the FIFO log is. Assumes nothing.
use Rattle.std.specs.Prelude.{◌≡◌, refl, List, ℕ, suc, ◌+◌, ◌-◌, ◌≤◌, ◌<◌}
use Rattle.std.proofs.Common.{ap, ◌∙◌, arith}
use Rattle.definitions.specs.General.{chosen}
use Rattle.definitions.specs.World.{Cell, fifo_length, causal_length, State, put}
use Rattle.definitions.specs.Machine.{with_tables, merge, deliverable_at, causal_one, causal_all}
use Rattle.base.specs.Loop.{loop_keeps}
use Rattle.world.specs.Layout.{put_same, put_at}
use Rattle.bounds.specs.Bounds.{Bounds}
use Rattle.bounds.specs.Run.{Run, loop_leaves}

-- the length of the FIFO log of p: how many places a search of it looks at
abbrev pub places : ℕ → State → ℕ
places p t = t (fifo_length p)

-- the earliest deliverable item of p's FIFO log, or the log's length
abbrev pub earliest : ℕ → State → ℕ
earliest p s = chosen (places p) (λ t. deliverable_at t p) (λ t. causal_one t p) s

-- ---- one turn: the causal log is one longer, and the bounds are kept
causal_length_is : (s : State) (p i x : ℕ)
    → causal_one s p i (causal_length x) ≡ put s (causal_length p) (s (causal_length p) + 1) (causal_length x)
unfolding causal_one merge with_tables put
causal_length_is s p i x = refl

causal_length_after : (s : State) (p i : ℕ) → causal_one s p i (causal_length p) ≡ s (causal_length p) + 1
causal_length_after s p i = causal_length_is s p i p ∙ put_same s (causal_length p) (causal_length p) _ refl

fifo_length_after : (s : State) (p i x : ℕ) → causal_one s p i (fifo_length x) ≡ s (fifo_length x)
unfolding causal_one merge with_tables put
fifo_length_after s p i x = refl

bounds_one : (s : State) (p i : ℕ) → s (causal_length p) < s (fifo_length p) → Bounds s
    → Bounds (causal_one s p i)
unfolding causal_one merge with_tables put
bounds_one s p i room h = record {
  sizes = h.sizes;
  counts = h.counts;
  groups = h.groups;
  senders = h.senders;
  fifo_lengths = h.fifo_lengths;
  causal_lengths = λ x l.
      put_at s (causal_length p) (causal_length x) (s (causal_length p) + 1) (λ v. v ≤ s (fifo_length x))
      (λ e. let z : p ≡ x = cc in omega (arith, ap (λ (y : ℕ). s (fifo_length y)) z))
      (λ _. h.causal_lengths x l);
  logged = h.logged;
  nexts = h.nexts;
}

-- ---- the loop: a FIFO log of n items, and k turns left
pub record Kept (p n k : ℕ) (t : State) : Type 0 where
  pub bounds : Bounds t
  pub log : t (fifo_length p) ≡ n
  pub room : t (causal_length p) + k ≤ n

pub kept_more : (p n k : ℕ) (t : State) (i : ℕ) → i < places p t → Kept p n (suc k) t
    → Kept p n k (causal_one t p i)
kept_more p n k t i l h = record {
  bounds = bounds_one t p i (omega (arith, h.room, h.log)) h.bounds;
  log = fifo_length_after t p i p ∙ h.log;
  room = omega (arith, causal_length_after t p i, h.room);
}

-- ---- all of them: the bounds are kept, and a word that none of them changes stands
pub causal_bounds : (p : ℕ) (s : State) → p < 16 → Bounds s → Bounds (causal_all s p)
unfolding causal_all
causal_bounds p s hp h =
    loop_leaves (places p) (λ t. deliverable_at t p) (λ t. causal_one t p) (Kept p (s (fifo_length p))) Bounds
    (kept_more p (s (fifo_length p))) (λ k t z. z.bounds) (s (fifo_length p) - s (causal_length p)) s
    (record { bounds = h; log = refl; room = omega (arith, h.causal_lengths p hp) })

pub causal_stands : (p : ℕ) (s : State) (c : Cell) → ((t : State) (i : ℕ) → causal_one t p i c ≡ t c)
    → causal_all s p c ≡ s c
unfolding causal_all
causal_stands p s c one =
    loop_keeps (places p) (λ t. deliverable_at t p) (λ t. causal_one t p) (λ t. t c ≡ s c)
    (λ t i _ _ _ e. one t i ∙ e) (s (fifo_length p) - s (causal_length p)) s refl

-- ---- the code's loop
abbrev pub Delivering : ℕ → ℕ → State → List ℕ → ℕ → Type 0
Delivering p n s w left =
    Run (places p) (λ t. deliverable_at t p) (λ t. causal_one t p) (Kept p n) (causal_all s p) w left
