-- `regions::nexts` meets its contract. The loop's invariant: `ok` says whether the words passed are as
-- expected. Assumes nothing.
use mathlib.Core.Path.{ap}
use native.Mathlib.Omega.{arith}
use lib.Dec.{eqb}
use Rattle.base.specs.Search.{every_none, gathers, gathered}
use Rattle.regions.specs.Nexts.{nexts_at}
use Rattle.regions.proofs.nexts.Goals as goal

pub loop-q-init : goal.loop-q-init
loop-q-init c = every_none _

pub loop-q-preserved : goal.loop-q-preserved
loop-q-preserved c =
    let l = c.loop-q in
    gathers _ l.q l.ok _ l.invariant (ap (eqb _) c.expected.ensures)

pub returns : goal.returns
unfolding nexts_at
returns c = let l = c.loop-q in gathered _ l.q 16 l.invariant (omega arith)
