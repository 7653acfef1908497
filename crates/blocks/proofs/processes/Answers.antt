-- `blocks::processes` meets its contract. The loop's invariant: the blocks passed may stand, and their sets are stored.
-- Assumes nothing.
use mathlib.Core.Path.{refl}
use mathlib.Core.Bool.{true}
use native.Mathlib.Omega.{arith}
use Rattle.definitions.specs.World.{view}
use Rattle.base.specs.Search.{every_none, gathers}
use Rattle.blocks.specs.Process.{processes_fine, processes_not}
use Rattle.blocks.specs.Places.{rows_none, rows_more, rows_not}
use Rattle.blocks.proofs.processes.Goals as goal

pub loop-p-init : goal.loop-p-init
unfolding processes_fine
loop-p-init c = (every_none _, rows_none (view c.args.w.now) c.args.x.now (omega arith))

pub loop-p-preserved : goal.loop-p-preserved
unfolding processes_fine
loop-p-preserved c =
    let l = c.loop-p in
    let a = c.args in
    let t = c.in-Some.ensures in (
      gathers _ l.p true _ l.invariant.0 t.is_good,
      rows_more (view a.w.now) l.p a.x.now l.x _ _ (omega (arith, c.requires.ready.sized.high)) (t.listed _ refl)
          (t.opened _ refl) l.invariant.1,
    )

pub returns-in_default : goal.returns-in_default
returns-in_default c =
    let v = view c.args.w.now in
    let l = c.loop-p in
    record {
      good = processes_not v c.args.t.now.size l.p c.loop-p-test.true c.in_default.ensures.is_good;
      rows = rows_not v l.p c.args.t.now.size c.args.x.now l.x (omega arith) l.invariant.1;
    }
