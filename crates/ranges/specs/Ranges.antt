-- Tests over a run of words: all zero, and each at most its limit. Assumes nothing.
use Rattle.std.specs.Prelude.{Bool, List, ℕ, ◌+◌, leb, eqb, length, get_or}
use Rattle.definitions.specs.General.{every}

-- The n words of w from a on are zero.
unfoldable pub zeros_at : List ℕ → ℕ → ℕ → Bool
zeros_at w a n = every n (λ i. eqb (get_or w (a + i) 0) 0)

-- All words of a list are zero.
unfoldable pub all_zero : List ℕ → Bool
all_zero part = every (length part) (λ i. eqb (get_or part i 0) 0)

-- The words of a list are each at most the limit at the same place.
unfoldable pub all_within : List ℕ → List ℕ → Bool
all_within part limits = every (length part) (λ i. leb (get_or part i 0) (get_or limits i 0))

-- The n words of w from a on are at most the n limits from b on.
unfoldable pub within_at : List ℕ → ℕ → List ℕ → ℕ → ℕ → Bool
within_at w a limits b n = every n (λ i. leb (get_or w (a + i) 0) (get_or limits (b + i) 0))
