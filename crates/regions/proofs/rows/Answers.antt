-- `regions::rows` meets its contract. The loop's invariant: nothing is gathered exactly if the flags and
-- marks passed may be. Assumes nothing.
use mathlib.Core.Path.{◌∙◌}
use native.Mathlib.Omega.{arith}
use Rattle.base.specs.Search.{every_none, gathered}
use Rattle.ranges.specs.Laws.{gathers_or}
use Rattle.regions.specs.Rows.{rows_law}
use Rattle.regions.proofs.rows.Goals as goal

pub loop-m-init : goal.loop-m-init
loop-m-init c = every_none _

pub loop-m-preserved : goal.loop-m-preserved
loop-m-preserved c =
    let l = c.loop-m in
    gathers_or _ l.m l.any _ l.invariant c.row-any.ensures

pub returns : goal.returns
returns c =
    let l = c.loop-m in
    gathered _ l.m 64 l.invariant (omega arith)
    ∙ rows_law c.args.w.now c.args.addressees.now c.args.p c.requires.block c.requires.addressees
    (λ i. omega (arith, c.fits-w i))
