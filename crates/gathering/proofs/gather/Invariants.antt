-- `gathering::gather` meets its contract. The loop's invariant: the letters of the messages passed have joined. Assumes
-- nothing.
use Rattle.definitions.specs.World.{view}
use Rattle.queues.specs.Queues.{Queues}
use Rattle.gathering.specs.Gathered.{below}
use Rattle.gathering.proofs.gather.Given as goal

abbrev pub invariant-loop-m : goal.invariant-loop-m
invariant-loop-m l = Queues (below (view l.w) l.m) l.a
