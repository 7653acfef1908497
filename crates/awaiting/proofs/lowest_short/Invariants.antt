-- `awaiting::lowest_short` meets its contract. The loop's invariant: the search goes on from where it stands. Assumes
-- nothing.
use mathlib.Core.Path.{◌≡◌}
use mathlib.Core.Bool.{not}
use Prim.Native.Nat.{◌-◌}
use Rattle.definitions.specs.General.{first_from}
use Rattle.definitions.specs.World.{size, view}
use Rattle.definitions.specs.Machine.{fits, lowest_short}
use Rattle.awaiting.proofs.lowest_short.Given as goal

abbrev pub invariant-loop-q : goal.invariant-loop-q
invariant-loop-q l = lowest_short (view l.w) l.p l.m ≡ first_from (view l.w size - l.q) l.q (λ r. not (fits (view l.w) l.p l.m r))
