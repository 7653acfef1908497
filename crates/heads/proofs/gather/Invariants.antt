-- `heads::gather` meets its contract. The loop's invariant: the groups of the processes passed are gathered.
-- Assumes nothing.
use Rattle.definitions.specs.World.{view}
use Rattle.heads.specs.Groups.{GroupSet}
use Rattle.heads.proofs.gather.Given as goal

abbrev pub invariant-loop-p : goal.invariant-loop-p
invariant-loop-p l = GroupSet (view l.w) l.p l.set l.any
