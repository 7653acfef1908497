-- `multicasts::raise_all` meets its contract. The loop's invariant: the record is raised for the groups
-- below g, and no entry is large. Assumes nothing.
use mathlib.Core.Path.{◌≡◌}
use Prim.Native.Nat.{◌+◌}
use Rattle.multicasts.specs.Raise.{raised_below, Below}
use Rattle.multicasts.proofs.raise_all.Given as goal

abbrev pub invariant-loop-g : goal.invariant-loop-g
invariant-loop-g l =
    (l.q ≡ raised_below l.g l.p l.groups l.initial.q) × (Below (1000 + l.g) l.q.counters) ×
    (Below (1000 + l.g) l.q.sequences)
