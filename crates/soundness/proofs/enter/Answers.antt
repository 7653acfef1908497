-- `soundness::enter` meets its contract. The loop's invariant: the messages passed are entered. Assumes nothing.
use mathlib.Core.Path.{refl}
use Prim.Native.Nat.{◌<◌}
use native.Mathlib.Omega.{arith}
use lib.ListN.{length, get_or, get_or-replicate}
use Rattle.soundness.specs.Indexed.{entered_none, entered_more}
use Rattle.soundness.proofs.enter.Goals as goal
use Rattle.soundness.proofs.enter.Goals.{In-loop-m}

-- the sender of the message
sender : (c : In-loop-m) → get_or c.args.t.now.from c.loop-m.m 0 < 16
sender c = c.requires.small c.loop-m.m (omega (arith, c.requires.few))

pub loop-m-init : goal.loop-m-init
loop-m-init c =
    entered_none _ _ _ (omega (arith, c.fill.ensures.len))
    (λ j h. rw (c.fill.ensures.after (λ y e. e)) (get_or-replicate (length c.args.x.now) j 0 0 (omega arith)))

pub loop-m-preserved : goal.loop-m-preserved
loop-m-preserved c =
    let l = c.loop-m in
    let t = c.args.t.now in
    rw c.from.ensures
    (entered_more t.addressees t.from t.bits l.m _ l.x (omega (arith, c.requires.few)) c.requires.powers refl
    (sender (goal.at.loop-m-preserved c).In-loop-m) l.invariant)
