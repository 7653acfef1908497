-- `blocks::messages` meets its contract. The loop's invariant: `ok` says whether the blocks passed may stand.
-- Assumes nothing.
use mathlib.Core.Path.{◌≡◌}
use Rattle.definitions.specs.World.{view}
use Rattle.blocks.specs.Message.{messages_fine}
use Rattle.blocks.proofs.messages.Given as goal

abbrev pub invariant-loop-m : goal.invariant-loop-m
invariant-loop-m l = l.ok ≡ messages_fine (view l.w) l.m
