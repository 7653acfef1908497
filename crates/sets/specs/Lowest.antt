-- A set of numbers below 64 as the bits of a number, and its lowest member. Assumes nothing.
use Rattle.std.specs.Prelude.{◌≡◌, Bool, true, ◌≢◌, ℕ, ◌^◌, ◌<◌}
use Rattle.definitions.specs.General.{first_from, bit}
use Rattle.base.specs.Search.{first_law}
use Rattle.base.specs.Sets as sets

-- The set has just the numbers below 64 that pass.
abbrev pub Has : ℕ → (ℕ → Bool) → Type 0
Has set f = (i : ℕ) → i < 64 → bit set i ≡ f i

-- The lowest member, 64 where there is none.
abbrev pub lowest : ℕ → ℕ
lowest set = first_from 64 0 (bit set)

pub lowest_low : (m : ℕ) → m < 2 ^ 64 → m ≢ 0 → lowest m < 64
lowest_low = sets.lowest_low 64

pub lowest_in : (m : ℕ) → lowest m < 64 → bit m (lowest m) ≡ true
lowest_in m h = (first_law 64 0 (bit m)).hit h
