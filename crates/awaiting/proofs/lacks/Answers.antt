-- `awaiting::lacks` meets its contract. The loop's invariant: `ok` says whether the words passed are others than m. Assumes
-- nothing.
use mathlib.Core.Path.{ap}
use mathlib.Core.Bool.{not}
use Prim.Native.Nat.{ℕ}
use native.Mathlib.Omega.{arith}
use lib.Dec.{eqb}
use lib.ListN.{length}
use Rattle.definitions.specs.General.{absent}
use Rattle.base.specs.Search.{every_none, gathers, gathered}
use Rattle.awaiting.proofs.lacks.Goals as goal

pub loop-x-init : goal.loop-x-init
loop-x-init c = every_none _

pub loop-x-preserved : goal.loop-x-preserved
loop-x-preserved c =
    let l = c.loop-x in
    let m = c.args.m in
    gathers _ l.x-index l.ok _ l.invariant (ap (λ (x : ℕ). not (eqb x m)) c.from.ensures)

pub returns : goal.returns
unfolding absent
returns c = let l = c.loop-x in gathered _ l.x-index (length c.args.log.now) l.invariant (omega arith)
