-- `regions::nexts` meets its contract. The loop's invariant: `ok` says whether the words passed are as
-- expected. Assumes nothing.
use mathlib.Core.Path.{◌≡◌}
use Prim.Native.Nat.{◌+◌}
use lib.Dec.{eqb}
use lib.ListN.{get_or}
use Rattle.definitions.specs.General.{every}
use Rattle.regions.specs.Nexts.{next_of}
use Rattle.regions.proofs.nexts.Given as goal

abbrev pub invariant-loop-q : goal.invariant-loop-q
invariant-loop-q l = l.ok ≡ every l.q (λ x. eqb (get_or l.w (l.a + x) 0) (next_of (get_or l.t x 0) l.n x))
