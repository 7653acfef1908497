-- `limits::limits` meets its contract. The loop's invariant: the groups passed have their limits. Assumes nothing.
use mathlib.Core.Path.{refl}
use lib.ListN.{get_or-replicate}
use Rattle.limits.specs.Limits.{partial_none}
use Rattle.limits.proofs.limits.Goals as goal

pub loop-g-init : goal.loop-g-init
loop-g-init c =
    let a = c.args in
    partial_none a.n a.groups a.count c.requires _ _ _ refl (λ j h. get_or-replicate 280 j 0 0 h)
    c.fill.ensures c.fill-2.ensures
