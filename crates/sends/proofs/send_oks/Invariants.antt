-- `sends::send_oks` meets its contract. The loop's invariant: the OKs for the messages of q below the lowest left
-- are sent, and the sets have those that are ready and those with an OK. Assumes nothing.
use mathlib.Core.Path.{◌≡◌}
use Prim.Native.Nat.{◌^◌, ◌<◌}
use Rattle.definitions.specs.World.{State, encode}
use Rattle.sends.specs.Oks.{Sending}
use Rattle.sends.proofs.send_oks.Given as goal

abbrev pub invariant-loop-left : goal.invariant-loop-left
invariant-loop-left l =
    (l.left < 2 ^ 64) × ((s : State) → l.initial.w ≡ encode s → Sending s l.p l.q l.w l.left l.t.ready l.t.sent)

abbrev pub decreases-loop-left : goal.decreases-loop-left
decreases-loop-left l = l.left
