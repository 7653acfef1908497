-- `ranges::within` meets its contract. The loop's invariant: nothing is gathered exactly if the words passed are
-- at most their limits. Assumes nothing.
use mathlib.Core.Path.{ap, ◌∙◌}
use Prim.Native.Nat.{ℕ}
use native.Mathlib.Omega.{arith}
use lib.Dec.{eqb}
use lib.ListN.{length, get_or}
use Rattle.ranges.specs.Ranges.{all_within}
use Rattle.base.specs.Search.{every_none, gathered}
use Rattle.ranges.specs.Laws.{gathers_or, excess_none}
use Rattle.ranges.proofs.within.Goals as goal

pub loop-i-init : goal.loop-i-init
loop-i-init c = every_none _

pub loop-i-preserved : goal.loop-i-preserved
loop-i-preserved c =
    let l = c.loop-i in
    let a = c.args in
    gathers_or _ l.i l.any _ l.invariant (ap (λ (x : ℕ). eqb x 0) c.excess-any.ensures
    ∙ excess_none (get_or a.part.now l.i 0) (get_or a.limits.now l.i 0))

pub returns : goal.returns
unfolding all_within
returns c = let l = c.loop-i in gathered _ l.i (length c.args.part.now) l.invariant
    (omega arith)
