-- `regions::rows` meets its contract. The loop's invariant: nothing is gathered exactly if the flags and
-- marks passed may be. Assumes nothing.
use mathlib.Core.Path.{◌≡◌}
use Prim.Native.Nat.{◌+◌, ◌*◌}
use lib.Dec.{eqb}
use lib.ListN.{get_or}
use Rattle.definitions.specs.General.{every}
use Rattle.regions.specs.Rows.{row_ok}
use Rattle.regions.proofs.rows.Given as goal

abbrev pub invariant-loop-m : goal.invariant-loop-m
invariant-loop-m l =
    eqb l.any 0 ≡ every l.m
    (λ x. row_ok (get_or l.w (3 + l.p * 429 + 173 + x) 0) (get_or l.w (3 + l.p * 429 + 237 + x) 0) (get_or l.addressees x 0)
    l.p)
