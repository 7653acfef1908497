-- `gathering::note_sent` meets its contract. The loop's invariant: the letters noted so far are those of some test, which with
-- the messages left is that of the contract. Assumes nothing.
use mathlib.Core.Path.{◌≡◌}
use Prim.Native.Nat.{ℕ, ◌^◌, ◌<◌}
use Rattle.definitions.specs.World.{view}
use Rattle.queues.specs.Queues.{Places, Queues}
use Rattle.gathering.specs.Gathered.{all_told}
use Rattle.gathering.proofs.note_sent.Given as goal

abbrev pub invariant-loop-left : goal.invariant-loop-left
invariant-loop-left l = record {
  fits : l.left < 2 ^ 64;
  letters : (f : Places) → Queues f l.initial.a
      → (g : Places) × Queues g l.a
      × ((x j r : ℕ) → all_told g (view l.w) l.p l.left x j r ≡ all_told f (view l.w) l.p l.sent x j r);
}

abbrev pub decreases-loop-left : goal.decreases-loop-left
decreases-loop-left l = l.left
