-- `blocks::messages` meets its contract. The loop's invariant: `ok` says whether the blocks passed may stand.
-- Assumes nothing.
use Rattle.base.specs.Search.{every_none, gathers}
use Rattle.blocks.specs.Message.{messages_fine}
use Rattle.blocks.proofs.messages.Goals as goal

pub loop-m-init : goal.loop-m-init
unfolding messages_fine
loop-m-init c = every_none _

pub loop-m-preserved : goal.loop-m-preserved
unfolding messages_fine
loop-m-preserved c =
    let l = c.loop-m in
    gathers _ l.m l.ok _ l.invariant c.message-ok.ensures
