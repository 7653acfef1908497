-- `heads::messages` meets its contract. The loop's invariant: `ok` says whether the messages passed have
-- senders and masks that may be. Assumes nothing.
use mathlib.Core.Path.{◌≡◌}
use Rattle.definitions.specs.World.{view}
use Rattle.heads.specs.Messages.{heads_fine}
use Rattle.heads.proofs.messages.Given as goal

abbrev pub invariant-loop-m : goal.invariant-loop-m
invariant-loop-m l = l.ok ≡ heads_fine (view l.w) l.m
