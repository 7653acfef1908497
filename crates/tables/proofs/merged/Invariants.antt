-- `tables::merged` meets its contract. The loop's invariant: the rows below g are merged. Assumes nothing.
use mathlib.Core.Path.{◌≡◌}
use mathlib.Core.List.{[]}
use Rattle.tables.specs.Table.{max_row}
use Rattle.tables.specs.Zip.{part}
use Rattle.tables.proofs.merged.Given as goal

abbrev pub invariant-loop-g : goal.invariant-loop-g
invariant-loop-g l = l.t ≡ part max_row [] l.initial.t l.b l.g
