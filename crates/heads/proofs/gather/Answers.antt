-- `heads::gather` meets its contract. The loop's invariant: the groups of the processes passed are gathered.
-- Assumes nothing.
use Rattle.heads.specs.Groups.{group_none, group_more}
use Rattle.heads.proofs.gather.Goals as goal

pub loop-p-init : goal.loop-p-init
loop-p-init c = group_none _

pub loop-p-preserved : goal.loop-p-preserved
loop-p-preserved c =
    let l = c.loop-p in
    let w = c.word-g in
    group_more _ l.p l.set l.any w.result w.ensures c.join-set.ensures l.invariant
