-- `limits::senders` meets its contract. The loop's invariant: the messages passed have their senders. Assumes nothing.
use mathlib.Core.Path.{refl}
use lib.ListN.{get_or-replicate}
use Rattle.limits.specs.Senders.{senders_none}
use Rattle.limits.proofs.senders.Goals as goal

pub loop-m-init : goal.loop-m-init
loop-m-init c = senders_none _ _ refl (λ m h. get_or-replicate 64 m 0 0 h)
