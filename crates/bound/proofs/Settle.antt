-- A settle of a reached world makes at most the sum of A + 2 × A × A arrivals, so at most 33,792, and says done with that
-- budget, in both manners. Assumes nothing.
use Rattle.std.specs.Prelude.{◌≡◌, List}
use Prim.Native.Nat.{ℕ, ◌≤◌}
use native.Mathlib.Omega.{arith}
use Rattle.definitions.specs.General.{sum}
use Rattle.definitions.specs.World.{count, State}
use Rattle.definitions.specs.Setup.{setup_refusal}
use Rattle.definitions.specs.Settle.{Manner}
use Rattle.definitions.specs.History.{Item, run}
use Rattle.world.specs.SoundLaws.{Sound}
use Rattle.world.specs.SettleLaws.{settle}
use Rattle.world.specs.Runs.{on_states, started}
use Rattle.keeps.specs.Keeps.{reached_sound}
use Rattle.bound.specs.Once.{flying_spent}
use Rattle.bound.specs.Potential.{addressee_count, potential}
use Rattle.bound.specs.Bound.{ceiling, reached_potential, ceiling_most}
use Rattle.bound.specs.Settle.{arrivals, SaysDone, ended}

-- of a reached world at most the sum of A + 2 × A × A
module _ (setup : List ℕ) (items : List Item) (ok : setup_refusal setup ≡ 0) where
  -- the state after the list
  abbrev end : State
  end = (run on_states (started setup) items).now

  -- it is sound
  sound_end : Sound (run on_states (started setup) items).now
  sound_end = reached_sound setup items ok

  -- its potential
  few : potential (run on_states (started setup) items).now
      ≤ sum ((run on_states (started setup) items).now count)
      (λ m. ceiling (addressee_count (run on_states (started setup) items).now m))
  few = reached_potential end sound_end (flying_spent setup items)

  -- is at most 33,792
  pub reached_low : potential (run on_states (started setup) items).now ≤ 33792
  reached_low = omega (arith, few, ceiling_most end sound_end)

  -- the bound of document 01
  pub reached_settle_bound : (o : Manner) (b : ℕ) → arrivals (settle o end b).ending
      ≤ sum (end count) (λ m. ceiling (addressee_count end m))
  reached_settle_bound o b = omega (arith, (ended o end b sound_end).few, few)

  -- so at most 33,792
  pub reached_settle_most : (o : Manner) (b : ℕ)
      → arrivals (settle o (run on_states (started setup) items).now b).ending ≤ 33792
  reached_settle_most o b = omega (arith, (ended o end b sound_end).few, reached_low)

  -- a settle with at least 33,792 arrivals says done, without the trust rule
  pub reached_settle_done : (o : Manner) (b : ℕ) → 33792 ≤ b
      → SaysDone (settle o (run on_states (started setup) items).now b).ending
  reached_settle_done o b l = (ended o end b sound_end).finishes (omega (arith, reached_low))
