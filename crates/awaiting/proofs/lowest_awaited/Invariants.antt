-- `awaiting::lowest_awaited` meets its contract. The loop's invariant: the search goes on from where it stands. Assumes
-- nothing.
use mathlib.Core.Path.{◌≡◌}
use Prim.Native.Nat.{◌-◌}
use Rattle.definitions.specs.General.{first_from}
use Rattle.definitions.specs.World.{count, view}
use Rattle.definitions.specs.Machine.{is_awaited, lowest_awaited}
use Rattle.awaiting.proofs.lowest_awaited.Given as goal

abbrev pub invariant-loop-x : goal.invariant-loop-x
invariant-loop-x l = lowest_awaited (view l.w) l.p l.q ≡ first_from (view l.w count - l.x) l.x (is_awaited (view l.w) l.p l.q)
