-- `letters::up_mask` meets its contract. The loop's invariant: the mask names the up processes passed. Assumes nothing.
use mathlib.Core.Path.{◌≡◌}
use Rattle.definitions.specs.General.{mask_of}
use Rattle.definitions.specs.World.{view}
use Rattle.definitions.specs.Steps.{is_up}
use Rattle.letters.proofs.up_mask.Given as goal

abbrev pub invariant-loop-q : goal.invariant-loop-q
invariant-loop-q l = l.mask ≡ mask_of l.q (is_up (view l.w))
