-- `refusals::are_groups` meets its contract. The loop's invariant: the groups below g that the mask names
-- exist. Assumes nothing.
use mathlib.Core.Path.{◌≡◌}
use mathlib.Core.Bool.{true}
use Rattle.definitions.specs.General.{every}
use Rattle.definitions.specs.World.{view}
use Rattle.refusals.specs.Refused.{named_well}
use Rattle.refusals.proofs.are_groups.Given as goal

abbrev pub invariant-loop-g : goal.invariant-loop-g
invariant-loop-g l = every l.g (named_well (view l.w) l.groups) ≡ true
