-- `cascade::ready_set` meets its contract. The loop's invariant: the set has the messages passed that are ready. Assumes nothing.
use Rattle.sets.specs.Below.{has_none, has_more}
use Rattle.definitions.specs.Machine.{ready}
use Rattle.definitions.specs.World.{view}
use Rattle.cascade.proofs.ready_set.Goals as goal

pub loop-m-init : goal.loop-m-init
loop-m-init c = has_none _

pub loop-m-preserved : goal.loop-m-preserved
loop-m-preserved c =
    has_more c.loop-m.set c.join_if-set.result c.loop-m.m (ready (view c.args.w.now) c.args.p) c.is_ready.result
    c.loop-m.invariant c.is_ready.ensures c.join_if-set.ensures
