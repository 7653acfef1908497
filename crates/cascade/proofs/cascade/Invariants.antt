-- `cascade::cascade` meets its contract. The loop's invariant: the words hold a state from which what is left of
-- the definition's loop ends where the whole loop ends, the index is that state's, and the set has what is ready. Assumes nothing.
use mathlib.Core.Path.{◌≡◌}
use Prim.Native.Nat.{◌-◌, ◌^◌, ◌<◌}
use Rattle.definitions.specs.World.{State, view, encode, fifo_length, count}
use Rattle.cascade.specs.Ready.{Going}
use Rattle.cascade.proofs.cascade.Given as goal

abbrev pub invariant-loop-left : goal.invariant-loop-left
invariant-loop-left l =
    (l.left < 2 ^ 64) × ((s : State) → l.initial.w ≡ encode s → Going l.p (s count) s l.w l.x l.left l.sent)

abbrev pub decreases-loop-left : goal.decreases-loop-left
decreases-loop-left l = view l.w count - view l.w (fifo_length l.p)
