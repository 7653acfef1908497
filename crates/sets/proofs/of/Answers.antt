-- `sets::of` meets its contract. The loop's invariant: the set has the words passed. Assumes nothing.
use native.Mathlib.Omega.{arith}
use Rattle.sets.specs.Members.{members_none, item_of}
use Rattle.sets.specs.Powers.{members_or}
use Rattle.sets.proofs.of.Goals as goal

pub loop-x-init : goal.loop-x-init
loop-x-init c = members_none _

pub loop-x-preserved : goal.loop-x-preserved
loop-x-preserved c =
    let l = c.loop-x in
    let a = c.args in
    members_or l.set l.x-index c.from.result (item_of a.part.now) a.bits.now c.requires.powers l.invariant c.from.ensures
    (omega (arith, c.from.ensures, c.requires.low l.x-index (omega arith)))
