-- `cascade::ready_set` meets its contract. The loop's invariant: the set has the messages passed that are ready. Assumes nothing.
use lib.Dec.{ltb}
use Rattle.base.specs.Tests.{both}
use Rattle.sets.specs.Lowest.{Has}
use Rattle.definitions.specs.Machine.{ready}
use Rattle.definitions.specs.World.{view}
use Rattle.cascade.proofs.ready_set.Given as goal

abbrev pub invariant-loop-m : goal.invariant-loop-m
invariant-loop-m l = Has l.set (λ k. both (ltb k l.m) (ready (view l.w) l.p k))
