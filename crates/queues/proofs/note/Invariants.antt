-- `queues::note` meets its contract. The loop's invariant: the letters noted so far are those of some test, which with the
-- receivers left is that of the contract. Assumes nothing.
use mathlib.Core.Path.{◌≡◌}
use Prim.Native.Nat.{ℕ, ◌<◌}
use Rattle.queues.specs.Queues.{Places, Queues, noted}
use Rattle.queues.proofs.note.Given as goal

abbrev pub invariant-loop-left : goal.invariant-loop-left
invariant-loop-left l = record {
  fits : l.left < 65536;
  letters : (f : Places) → Queues f l.initial.a
      → (g : Places) × Queues g l.a
      × ((x j r : ℕ) → noted g l.m l.place l.left x j r ≡ noted f l.m l.place l.receivers x j r);
}

abbrev pub decreases-loop-left : goal.decreases-loop-left
decreases-loop-left l = l.left
