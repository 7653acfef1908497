-- Runs that meet the hypotheses of `no_starving`, computed on states and carried to any lent words: a letter waits for
-- process 2 while process 1 is served; both settles end with the same messages, in another order. And a sound world that no
-- list reaches, in which they end with different ones. Assumes nothing.
use Rattle.std.specs.Prelude.{◌≡◌, refl, true, false, List, [], ◌∷◌, ℕ}
use Rattle.std.proofs.Math.Decide.{ℕ_discrete}
use Rattle.definitions.specs.General.{every, some, first_from, absent, chosen, loop, bit, with, without, mask_of, only, tab_from, tabulate}
use Rattle.definitions.specs.World.{size, fifo_length, causal_length, fifo, causal, up, number, State, put, has_group}
use Rattle.definitions.specs.Setup.{fresh, setup_bits, setup_group, good_setup, setup_refusal, made}
use Rattle.definitions.specs.Machine.{with_tables, ready, lowest_short, lowest_awaited, short_of, awaited, deliverable, deliverable_at, merge, causal_one, causal_all, appended, raised_next, due, send_ok, send_oks, fifo_one, cascade, raised, stamped, numbered, posted, multicast, leave, mark, hold, arrival}
use Rattle.definitions.specs.Steps.{read, good_mask, in_flight, refusal, step}
use Rattle.definitions.specs.Settle.{moves, receiver, origin, kind, movable, letter_of, lowest, has_letter, served, fair, Manner, lowest_first, by_turns, done, settle_from}
use Rattle.definitions.specs.History.{Item, tick, act, run}
use Rattle.world.specs.SettleLaws.{settle}
use Rattle.world.specs.Items.{multicasting, three}
use Rattle.world.specs.Runs.{on_states, started}

-- ---- processes 0, 1, 2 in groups 0, 1, 2: process 0 multicasts messages 0 and 1 to group 1 and message 2 to both others,
-- process 1 message 3 to group 2
abbrev pub sent : List Item
sent = multicasting 0 2 ∷ multicasting 0 2 ∷ multicasting 0 6 ∷ multicasting 1 4 ∷ []

abbrev pub end : State
end = (run on_states (started three) sent).now

-- the logs of process 2
abbrev pub fifo_2 : State → List ℕ
fifo_2 s = tabulate (s (fifo_length 2)) (λ i. s (fifo 2 i))

abbrev pub causal_2 : State → List ℕ
causal_2 s = tabulate (s (causal_length 2)) (λ i. s (causal 2 i))

-- the settles end with the same messages in the logs of process 2, in the one order and in the other
pub record Orders (o : Manner) (log : List ℕ) : Type 0 where
  pub ends : (settle o end 33792).ending ≡ done 12
  pub sized : (settle o end 33792).world size ≡ 3
  pub fifo_log : fifo_2 (settle o end 33792).world ≡ log
  pub causal_log : causal_2 (settle o end 33792).world ≡ log

-- computed: by turns, after one arrival, at process 1, a letter waits for process 2, and it has arrived before three more
-- are made; of the lowest first four are made before it
pub computed : (setup_refusal three ≡ 0)
    × (end size ≡ 3)
    × ((settle by_turns end 1).world size ≡ 3)
    × ((settle by_turns end 1).world (up 2) ≡ 1)
    × (in_flight (settle by_turns end 1).world 0 2 0 2 ≡ true)
    × (in_flight (settle by_turns end 4).world 0 2 0 2 ≡ false)
    × (in_flight (settle lowest_first end 4).world 0 2 0 2 ≡ true)
    × Orders by_turns (3 ∷ 2 ∷ [])
    × Orders lowest_first (2 ∷ 3 ∷ [])
unfolding ℕ_discrete every some first_from absent chosen loop bit with without mask_of only tab_from tabulate put fresh
    setup_bits setup_group good_setup setup_refusal made with_tables ready lowest_short lowest_awaited short_of awaited
    deliverable deliverable_at merge causal_one causal_all appended raised_next due send_ok send_oks fifo_one cascade
    raised stamped numbered posted multicast leave mark hold arrival read has_group good_mask refusal step tick act run
    moves receiver origin kind movable letter_of lowest has_letter served fair
    settle_from settle
computed = (
  refl,
  refl,
  refl,
  refl,
  refl,
  refl,
  refl,
  record { ends = refl; sized = refl; fifo_log = refl; causal_log = refl },
  record { ends = refl; sized = refl; fifo_log = refl; causal_log = refl },
)

-- ---- a sound world that no list reaches: message 3 is of process 0, too, and has the number of message 2 for group 2. Of
-- two messages with one number a process delivers one, and each settle brings another first: so `same_end` is of reached
-- worlds
abbrev pub four_of_0 : List Item
four_of_0 = multicasting 0 2 ∷ multicasting 0 2 ∷ multicasting 0 6 ∷ multicasting 0 4 ∷ []

abbrev pub one_number : State
one_number = put (run on_states (started three) four_of_0).now (number 3 2) 1
