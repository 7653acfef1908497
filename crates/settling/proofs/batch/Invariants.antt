-- `settling::batch` meets its contract. The loop's invariant: what a batch leaves, so far, and the receivers left. Assumes nothing.
use Rattle.std.proofs.Common.{◌≡◌}
use Rattle.settling.specs.Batch.{Sending}
use Rattle.settling.proofs.batch.Given as goal

abbrev pub invariant-loop-left : goal.invariant-loop-left
invariant-loop-left l =
    let at = l.place in
    let from = l.fn.from in
    Sending l.initial.w l.w l.x l.up at.kind at.message at.origin l.receivers from.made l.budget l.left l.reached.quiescent
    l.reached.made × (l.reached.place ≡ from.place)

abbrev pub decreases-loop-left : goal.decreases-loop-left
decreases-loop-left l = l.left
