-- `ranges::zeros` meets its contract. The loop's invariant: nothing is gathered exactly if the words passed are zero.
-- Assumes nothing.
use mathlib.Core.Path.{refl}
use native.Mathlib.Omega.{arith}
use lib.ListN.{length}
use Rattle.ranges.specs.Ranges.{all_zero}
use Rattle.base.specs.Search.{every_none, gathered}
use Rattle.ranges.specs.Laws.{gathers_or}
use Rattle.ranges.proofs.zeros.Goals as goal

pub loop-x-init : goal.loop-x-init
loop-x-init c = every_none _

pub loop-x-preserved : goal.loop-x-preserved
loop-x-preserved c = let l = c.loop-x in gathers_or _ l.x-index l.any _ l.invariant refl

pub returns : goal.returns
unfolding all_zero
returns c = let l = c.loop-x in gathered _ l.x-index (length c.args.part.now) l.invariant (omega arith)
