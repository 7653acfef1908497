-- `limits::members` meets its contract. The loop's invariant: the processes passed are in their groups.
-- Assumes nothing.
use Rattle.definitions.specs.World.{view}
use Rattle.limits.specs.Members.{Members}
use Rattle.limits.proofs.members.Given as goal

abbrev pub invariant-loop-p : goal.invariant-loop-p
invariant-loop-p l = Members (view l.w) l.p l.t
