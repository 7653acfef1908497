-- `settling::settle_sound` meets its contract. The loop's invariant: what settling with the lowest letter first leaves, so far.
-- Assumes nothing.
use Rattle.std.proofs.Common.{◌-◌}
use Rattle.settling.specs.Batch.{Batched}
use Rattle.settling.proofs.settle_sound.Given as goal

abbrev pub invariant-loop-reached : goal.invariant-loop-reached
invariant-loop-reached l =
    let r = l.reached in Batched l.fn.w l.w l.x l.up r.quiescent 0 r.made l.budget r.place

abbrev pub decreases-loop-reached : goal.decreases-loop-reached
decreases-loop-reached l = l.budget - l.reached.made
