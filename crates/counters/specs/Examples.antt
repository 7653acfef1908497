-- Two rows of 16 words compared, by computation: for each slip that the comparison is to shut out, rows that it would
-- get wrong. Assumes nothing.
use Rattle.std.specs.Prelude.{◌≡◌, refl, Bool, true, false, List, ℕ, set, replicate}
use Rattle.definitions.specs.General.{every}
use Rattle.counters.specs.Counters.{rows_at_most}

-- What `at_most` answers.
abbrev answer : List ℕ → List ℕ → ℕ → ℕ → Bool
answer c d own n = every n (rows_at_most own c d)

abbrev twos : List ℕ
twos = replicate 16 2

-- with one entry above
abbrev above : ℕ → List ℕ
above q = set twos q 3

-- equal entries are at most del
pub equal : answer twos twos 0 16 ≡ true
unfolding every
equal = refl

-- the sender's own entry is not compared
pub own_above : answer (above 5) twos 5 16 ≡ true
unfolding every
own_above = refl

pub other_above : answer (above 5) twos 6 16 ≡ false
unfolding every
other_above = refl

-- the sixteenth entry is, and not one past the last process
pub last_above : answer (above 15) twos 5 16 ≡ false
unfolding every
last_above = refl

pub past_above : answer (above 15) twos 5 15 ≡ true
unfolding every
past_above = refl
