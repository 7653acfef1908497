-- `copy` meets its contract. The loop's invariant: the items passed are those of the source. Assumes nothing.
use Rattle.std.proofs.Common.{◌≡◌, length, take}
use Rattle.slices.proofs.copy.Given as goal

abbrev pub invariant-loop-i : goal.invariant-loop-i
invariant-loop-i g l = (length l.dst ≡ length l.initial.dst) × (take l.i l.dst ≡ take l.i l.src)
