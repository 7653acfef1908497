-- `limits::addressed` meets its contract. The loop's invariant: the groups passed that the mask names are
-- joined. Assumes nothing.
use mathlib.Core.Path.{sym, ◌∙◌}
use Rattle.limits.specs.Members.{joined_none, joined_more, joined_same}
use Rattle.limits.proofs.addressed.Goals as goal
use Rattle.limits.proofs.addressed.Goals.{then-has, else-has}

pub loop-g-init : goal.loop-g-init
loop-g-init c = joined_none _ _

pub loop-g-preserved : goal.loop-g-preserved
loop-g-preserved c =
    let l = c.loop-g in
    let a = c.args in
    let t = c.has.ensures in
    elim c.if-has.branch [
      | then-has w ↦ rw w.set-is (joined_more a.members.now a.to l.g l.set (sym t ∙ w.if-has.true) l.invariant)
      | else-has w ↦ rw w.set-is (joined_same a.members.now a.to l.g l.set (sym t ∙ w.if-has.false) l.invariant)
    ]
