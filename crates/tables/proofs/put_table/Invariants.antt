-- `tables::put_table` meets its contract. The loop's invariant: the rows below g are stored. Assumes
-- nothing.
use mathlib.Core.Path.{◌≡◌}
use Prim.Native.Nat.{◌*◌}
use lib.ListN.{length, take}
use Rattle.base.specs.Tabulate.{splice}
use Rattle.tables.specs.Table.{concat}
use Rattle.tables.proofs.put_table.Given as goal

abbrev pub invariant-loop-g : goal.invariant-loop-g
invariant-loop-g l =
    (l.w ≡ splice l.initial.w l.base (concat (take l.g l.t))) × (length (concat (take l.g l.t)) ≡ l.g * 16)
