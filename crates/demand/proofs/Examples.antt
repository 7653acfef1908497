-- What the theorem says of the second run of specs/Examples, for which the trust rule holds. Assumes nothing.
use Rattle.std.specs.Prelude.{◌≡◌, refl, List, ℕ, length}
use Rattle.std.proofs.Common.{arith}
use Rattle.definitions.specs.General.{every}
use Rattle.definitions.specs.Setup.{setup_bits, setup_group, good_setup, setup_refusal}
use Rattle.definitions.specs.Settle.{Manner}
use Rattle.definitions.specs.History.{run, TrustRule}
use Rattle.definitions.specs.Words.{settled_words, on_words, started_words}
use Rattle.definitions.specs.Demand.{Agreed as AgreedWords}
use Rattle.world.specs.Runs.{on_states, started}
use Rattle.keeps.specs.Keeps.{fresh_sound}
use Rattle.agreement.specs.Agreement.{Agreed}
use Rattle.carried.specs.Carried.{start_carried}
use Rattle.demand.specs.States.{settled, demand_3_states}
use Rattle.demand.specs.Words.{rule_written}
use Rattle.demand.specs.Theorem.{demand_3}
use Rattle.demand.specs.Examples.{pair, crashing, crash_rule, pair_taken}

-- so after either settle with 33,792 arrivals what one process has FIFO-delivered every live addressee has
pub crash_agreed : (o : Manner) → Agreed (settled o (run on_states (started pair) crashing) 33792).world.now
unfolding setup_refusal good_setup setup_bits setup_group every
crash_agreed o = (demand_3_states pair crashing refl).agreed crash_rule o 33792 (omega arith)

-- ---- over any lent words, as a caller has it
module _ (w : List ℕ) (long : length w ≡ 20480) where
  -- the trust rule holds
  pub crash_rule_words : TrustRule on_words (started_words w pair) crashing
  unfolding setup_refusal good_setup setup_bits setup_group every
  crash_rule_words =
      rw (start_carried w pair (pair_taken w long))
      (rule_written (started pair) crashing (fresh_sound pair refl) crash_rule)

  -- so the FIFO logs agree after either settle
  pub crash_agreed_words : (o : Manner)
      → AgreedWords (settled_words o (run on_words (started_words w pair) crashing).now 33792)
  crash_agreed_words o = ((demand_3 w pair crashing (pair_taken w long)).settles crash_rule_words o 33792 (omega arith)).1
