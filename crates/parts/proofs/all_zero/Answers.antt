-- `parts::all_zero` meets its contract. The loop's invariant: `any` is zero exactly where the bytes passed
-- are all zero. Assumes nothing.
use Rattle.std.proofs.Common.{refl, arith}
use Rattle.definitions.specs.General.{all_zero}
use Rattle.parts.specs.Laws.{gathered}
use Rattle.parts.proofs.all_zero.Goals as goal

pub loop-x-init : goal.loop-x-init
unfolding all_zero
loop-x-init c = refl

pub loop-x-preserved : goal.loop-x-preserved
loop-x-preserved c =
    let l = c.loop-x in
    gathered _ l.x-index l.any (omega arith) l.invariant
