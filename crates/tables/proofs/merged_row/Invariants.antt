-- `tables::merged_row` meets its contract. The loop's invariant: the entries below i are merged. Assumes
-- nothing.
use Prim.Native.Nat.{max}
use mathlib.Core.Path.{◌≡◌}
use Rattle.tables.specs.Zip.{part}
use Rattle.tables.proofs.merged_row.Given as goal

abbrev pub invariant-loop-i : goal.invariant-loop-i
invariant-loop-i l = l.r ≡ part max 0 l.initial.r l.b l.i
