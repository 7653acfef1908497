-- `causal::causal_all` meets its contract. The loop's invariant: the words hold a state from which what is left of
-- the definition's loop ends where the whole loop ends, and the index is that of the state with the set in hand stored.
-- Assumes nothing.
use mathlib.Core.Path.{◌≡◌}
use Rattle.definitions.specs.World.{State, encode, fifo_length}
use Rattle.causal.specs.Open.{Going}
use Rattle.causal.proofs.causal_all.Given as goal

abbrev pub invariant-loop-places : goal.invariant-loop-places
invariant-loop-places l =
    (s : State) → l.initial.w ≡ encode s → Going l.p (s (fifo_length l.p)) s l.w l.x l.places

abbrev pub decreases-loop-places : goal.decreases-loop-places
decreases-loop-places l = l.places
