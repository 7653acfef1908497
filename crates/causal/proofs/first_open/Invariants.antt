-- `causal::first_open` meets its contract. The loop's invariant: what is left are the open places from its lowest
-- on, and those below cannot be delivered. Assumes nothing.
use Prim.Native.Nat.{◌^◌, ◌<◌}
use Rattle.sets.specs.Sweep.{Sweep}
use Rattle.index.specs.Index.{is_open, frame}
use Rattle.definitions.specs.World.{view}
use Rattle.causal.specs.Open.{Waits}
use Rattle.causal.proofs.first_open.Given as goal

abbrev pub invariant-loop-left : goal.invariant-loop-left
invariant-loop-left l = (l.left < 2 ^ 64) × Sweep (is_open (frame (view l.w)) l.p) (Waits (view l.w) l.p) l.left

abbrev pub decreases-loop-left : goal.decreases-loop-left
decreases-loop-left l = l.left
