-- `parts::all_zero` meets its contract. The loop's invariant: `any` is zero exactly where the bytes passed
-- are all zero. Assumes nothing.
use Rattle.std.proofs.Common.{◌≡◌, take}
use Rattle.std.proofs.Math.Dec.{eqb}
use Rattle.definitions.specs.General.{all_zero}
use Rattle.parts.proofs.all_zero.Given as goal

abbrev pub invariant-loop-x : goal.invariant-loop-x
invariant-loop-x l = eqb l.any 0 ≡ all_zero (take l.x-index l.s)
