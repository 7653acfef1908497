-- `limits::addressed` meets its contract. The loop's invariant: the groups passed that the mask names are
-- joined. Assumes nothing.
use Rattle.limits.specs.Members.{Joined}
use Rattle.limits.proofs.addressed.Given as goal

abbrev pub invariant-loop-g : goal.invariant-loop-g
invariant-loop-g l = Joined l.members l.to l.g l.set
