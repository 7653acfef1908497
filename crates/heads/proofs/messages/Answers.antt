-- `heads::messages` meets its contract. The loop's invariant: `ok` says whether the messages passed have
-- senders and masks that may be. Assumes nothing.
use mathlib.Core.Path.{refl, ◌∙◌}
use Prim.Native.Nat.{◌+◌, ◌*◌}
use native.Mathlib.Omega.{arith}
use Rattle.base.specs.Search.{every_none, gathers}
use Rattle.heads.specs.Messages.{heads_fine, head_law}
use Rattle.heads.proofs.messages.Goals as goal

pub loop-m-init : goal.loop-m-init
unfolding heads_fine
loop-m-init c = every_none _

pub loop-m-preserved : goal.loop-m-preserved
unfolding heads_fine
loop-m-preserved c =
    let l = c.loop-m in
    let a = c.args in
    let t = head_law a.w.now a.n a.count a.groups l.m _ _ c.requires.sized c.requires.grouped
    (omega arith) c.word.ensures refl (c.fits-w (6867 + l.m * 187 + 1)) in
    gathers _ l.m l.ok _ l.invariant (c.head-ok.ensures ∙ t)
