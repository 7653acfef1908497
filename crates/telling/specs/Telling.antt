-- Numbers that are given through 32 bits.
use Rattle.std.specs.Prelude.{◌≡◌, ℕ, ◌<◌}
use Rattle.definitions.specs.General.{Reply, gives}

-- A number read off the value of a reply fits 32 bits.
abbrev pub Small : {A : Type 0} → (A → ℕ) → Reply A → Type 0
Small {A} f r = (a : A) → gives a ≡ r → f a < 4294967296
