-- `gathering::gather_message` meets its contract. The loop's invariant: the letters below the place have joined. Assumes
-- nothing.
use Rattle.definitions.specs.World.{view}
use Rattle.queues.specs.Queues.{Places, Queues}
use Rattle.gathering.specs.Gathered.{gathered}
use Rattle.gathering.proofs.gather_message.Given as goal

abbrev pub invariant-loop-place : goal.invariant-loop-place
invariant-loop-place l = (f : Places) → Queues f l.initial.a → Queues (gathered f (view l.w) l.m l.place) l.a
