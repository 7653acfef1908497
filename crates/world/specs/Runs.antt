-- Runs over states, which the proofs follow; demand 3 speaks of those over lent words (Words). Assumes nothing.
use Rattle.std.specs.Prelude.{true, List, [], ℕ}
use Rattle.definitions.specs.World.{State}
use Rattle.definitions.specs.Setup.{made}
use Rattle.definitions.specs.Steps.{step}
use Rattle.definitions.specs.History.{Engine, Run}

abbrev pub on_states : Engine State
on_states = record { reads = λ s. s; world = λ s. true; does = step }

abbrev pub started : List ℕ → Run State
started setup = record { now = made setup; seen = [] }
