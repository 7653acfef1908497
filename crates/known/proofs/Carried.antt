use Rattle.std.specs.Prelude.{◌≡◌, List, ℕ, length}
use Rattle.known.specs.Runs.{table, known_runs}
use Rattle.known.specs.Carried.{TableHolds, table_carried}

-- The known runs, on any lent words of the right length.
pub known_runs_words : (w : List ℕ) → length w ≡ 20480 → TableHolds w table
known_runs_words w l = table_carried w l table known_runs
