-- Runs that meet the hypotheses of `nothing_to_come`, computed on states and carried to any lent words: a process multicasts
-- and crashes, and its letters still arrive, those to itself stay; a settle with a smaller budget is stopped before them;
-- and the letter is lost with its sender. Assumes nothing.
use Rattle.std.specs.Prelude.{◌≡◌, true, List, [], ◌∷◌, ℕ}
use Rattle.std.proofs.Math.Path.{refl}
use Rattle.std.proofs.Math.Decide.{ℕ_discrete}
use Rattle.definitions.specs.General.{every, some, first_from, absent, chosen, loop, bit, with, without, mask_of, only}
use Rattle.definitions.specs.World.{up, State, put, has_group}
use Rattle.definitions.specs.Setup.{fresh, setup_bits, setup_group, good_setup, setup_refusal, made}
use Rattle.definitions.specs.Machine.{with_tables, ready, lowest_short, lowest_awaited, short_of, awaited, deliverable, deliverable_at, merge, causal_one, causal_all, appended, raised_next, due, send_ok, send_oks, fifo_one, cascade, raised, stamped, numbered, posted, multicast, leave, mark, hold, arrival, trust_set, crash}
use Rattle.definitions.specs.Steps.{read, good_mask, in_flight, refusal, step}
use Rattle.definitions.specs.Settle.{moves, receiver, origin, kind, movable, letter_of, lowest, lowest_first, done, stopped, settle_from}
use Rattle.definitions.specs.History.{Item, given, tick, act, run}
use Rattle.world.specs.SettleLaws.{settle}
use Rattle.world.specs.Runs.{on_states, started}

-- ---- process 0 of two multicasts to both groups and crashes
abbrev pub apart : List ℕ
apart = 0 ∷ 2 ∷ 8 ∷ 0 ∷ 0 ∷ 0 ∷ 0 ∷ 0 ∷ []

abbrev pub dead : List Item
dead = given (1 ∷ 0 ∷ 3 ∷ 0 ∷ 0 ∷ 0 ∷ 0 ∷ 0 ∷ []) ∷ given (5 ∷ 0 ∷ 0 ∷ 0 ∷ 0 ∷ 0 ∷ 0 ∷ 0 ∷ []) ∷ []

-- the first letter to process 1 is lost
abbrev pub losing : List ℕ
losing = 3 ∷ 0 ∷ 0 ∷ 0 ∷ 1 ∷ 0 ∷ 0 ∷ 0 ∷ []

abbrev pub end : State
end = (run on_states (started apart) dead).now

-- computed: the setup record is taken; a settle makes two arrivals, and with one it is stopped; the letter to process 0
-- stays in flight; the loss is taken
pub computed : (setup_refusal apart ≡ 0)
    × ((settle lowest_first end 33792).ending ≡ done 2)
    × ((settle lowest_first end 1).ending ≡ stopped 1)
    × (in_flight (settle lowest_first end 33792).world 0 0 0 0 ≡ true)
    × ((settle lowest_first end 33792).world (up 1) ≡ 1)
    × ((settle lowest_first end 33792).world (up 0) ≡ 0)
    × (refusal end (read losing) ≡ 0)
unfolding ℕ_discrete every some first_from absent chosen loop bit with without mask_of only put fresh setup_bits
    setup_group good_setup setup_refusal made with_tables ready lowest_short lowest_awaited short_of awaited deliverable deliverable_at merge causal_one causal_all
    appended raised_next due send_ok send_oks fifo_one cascade raised stamped numbered posted multicast leave mark hold
    arrival trust_set crash read has_group good_mask refusal step tick act run moves receiver origin kind movable letter_of
    lowest settle_from settle
computed = (refl, refl, refl, refl, refl, refl, refl)
