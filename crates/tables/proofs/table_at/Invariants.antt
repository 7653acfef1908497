-- `tables::table_at` meets its contract. The loop's invariant: the rows below g are read. Assumes nothing.
use mathlib.Core.Path.{◌≡◌}
use lib.ListN.{length, take, drop}
use Rattle.tables.specs.Table.{table_at}
use Rattle.tables.proofs.table_at.Given as goal

abbrev pub invariant-loop-g : goal.invariant-loop-g
invariant-loop-g l = (length l.t ≡ 8) × (take l.g l.t ≡ take l.g (table_at 8 16 (drop l.base l.w)))
