-- `letters::lowest_letter` meets its contract. Each loop's invariant speaks of its own level: nothing is found yet,
-- and the search goes on from where the loops stand. Assumes nothing.
use mathlib.Core.Path.{◌≡◌}
use mathlib.Core.Logic.{◌⊎◌}
use Prim.Native.Nat.{ℕ, ◌-◌, ◌≤◌, ◌<◌}
use lib.Dec.{ltb}
use Rattle.definitions.specs.General.{first_from}
use Rattle.definitions.specs.World.{State, size, count, view}
use Rattle.definitions.specs.Settle.{receiver, origin, kind, movable, any}
use Rattle.std.specs.Prelude.{None}
use Rattle.letters.proofs.lowest_letter.Given as goal

-- from origin q on; from kind k on; from message m on
abbrev pub Origins : State → ℕ → ℕ → ℕ → Type 0
Origins s m k q = origin any s m k ≡ first_from (s size - q) q (λ r. ltb (receiver any s m k r) (s size))

abbrev pub Kinds : State → ℕ → ℕ → Type 0
Kinds s m k = kind any s m ≡ first_from (3 - k) k (λ j. ltb (origin any s m j) (s size))

abbrev pub Messages : State → ℕ → Type 0
Messages s m = first_from (s count) 0 (movable any s) ≡ first_from (s count - m) m (movable any s)

abbrev pub invariant-loop-q : goal.invariant-loop-q
invariant-loop-q l = (l.q ≤ l.n) × (l.found ≡ None) × Origins (view l.w) l.m l.k l.q

abbrev pub decreases-loop-q : goal.decreases-loop-q
decreases-loop-q l = l.n - l.q

abbrev pub invariant-loop-k : goal.invariant-loop-k
invariant-loop-k l =
    (l.k ≤ 3) × (l.q ≤ l.n) × (l.found ≡ None) × Kinds (view l.w) l.m l.k × Origins (view l.w) l.m l.k l.q
    × ((l.k < 3) ⊎ (l.q ≡ 0))

abbrev pub decreases-loop-k : goal.decreases-loop-k
decreases-loop-k l = 3 - l.k

abbrev pub invariant-search : goal.invariant-search
invariant-search l =
    (l.m ≤ l.messages) × (l.k < 3) × (l.q ≤ l.n) × (l.found ≡ None) × Messages (view l.w) l.m × Kinds
    (view l.w) l.m l.k
    × Origins (view l.w) l.m l.k l.q

abbrev pub decreases-search : goal.decreases-search
decreases-search l = l.messages - l.m
