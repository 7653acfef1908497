-- `blocks::processes` meets its contract. The loop's invariant: the blocks passed may stand, and their sets are stored.
-- Assumes nothing.
use mathlib.Core.Path.{◌≡◌}
use mathlib.Core.Bool.{true}
use Rattle.definitions.specs.World.{view}
use Rattle.blocks.specs.Process.{processes_fine}
use Rattle.blocks.specs.Places.{Rows}
use Rattle.blocks.proofs.processes.Given as goal

abbrev pub invariant-loop-p : goal.invariant-loop-p
invariant-loop-p l = (true ≡ processes_fine (view l.w) l.p) × Rows (view l.w) l.p true l.initial.x l.x
