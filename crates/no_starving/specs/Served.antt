-- Whom the settle by turns serves, and with which letter: the arrivals of one call and of two, computed. Other readings of
-- card 7 make other arrivals here. Assumes nothing.
use Rattle.std.specs.Prelude.{◌≡◌, refl, List, [], ◌∷◌, ◌++◌, ℕ}
use Rattle.std.proofs.Math.Decide.{ℕ_discrete}
use Rattle.definitions.specs.General.{every, some, first_from, absent, chosen, loop, bit, with, without, mask_of, only}
use Rattle.definitions.specs.World.{State, put, has_group}
use Rattle.definitions.specs.Setup.{fresh, setup_bits, setup_group, made}
use Rattle.definitions.specs.Machine.{with_tables, ready, lowest_short, lowest_awaited, short_of, awaited, deliverable, deliverable_at, merge, causal_one, causal_all, appended, raised_next, due, send_ok, send_oks, fifo_one, cascade, raised, stamped, numbered, posted, multicast, leave, mark, hold, arrival}
use Rattle.definitions.specs.Steps.{read, good_mask, refusal, step}
use Rattle.definitions.specs.Settle.{Choice, letter, moves, receiver, origin, kind, movable, letter_of, lowest, has_letter, served, fair, Manner, lowest_first, by_turns, choice, Settled, settle_from, settle_afresh}
use Rattle.definitions.specs.History.{Item, tick, act, run}
use Rattle.world.specs.Items.{multicasting, three}
use Rattle.world.specs.Runs.{on_states, started}

-- processes 0, 1, 2 in groups 0, 1, 2: process 2 multicasts message 0 to group 0 and message 1 to all
abbrev sent : List Item
sent = multicasting 2 1 ∷ multicasting 2 7 ∷ []

-- a state, and the letters that have arrived
record Traced : Type 0 where
  pub now : State
  pub letters : List Choice

abbrev start : Traced
start = record { now = (run on_states (started three) sent).now; letters = [] }

-- a call from there
abbrev call : Manner → Traced → ℕ → Settled Traced
call o s b =
    settle_afresh (λ t u. choice o t u.now)
    (λ u k m q p. record { now = arrival u.now k m q p; letters = u.letters ++ (letter k m q p ∷ []) }) b s

pub in_turn :
    -- One call allowed five: at 0, at 1, at 2, and around at 0, at 1. Process 0 takes the letters of message 0 while one of
    -- message 1 is in flight to it, process 2 the first letter, from itself, before the OK of process 1, and process 1 its
    -- own OK before that of process 2. Between the two at 0, for which a letter waits all the while, two of three processes
    -- are served: n − 1 pass elsewhere.
    ((call by_turns start 5).world.letters
    ≡ letter 0 0 2 0 ∷ letter 0 1 2 1 ∷ letter 0 1 2 2 ∷ letter 2 0 0 0 ∷ letter 2 1 1 1 ∷ [])
    -- Two calls, each allowed one: both at 0, since each starts afresh.
    × ((call by_turns (call by_turns start 1).world 1).world.letters ≡ letter 0 0 2 0 ∷ letter 2 0 0 0 ∷ [])
    -- The lowest first ends message 0 before.
    × ((call lowest_first start 4).world.letters
    ≡ letter 0 0 2 0 ∷ letter 2 0 0 0 ∷ letter 0 1 2 0 ∷ letter 0 1 2 1 ∷ [])
unfolding ℕ_discrete every some first_from absent chosen loop bit with without mask_of only put fresh setup_bits
    setup_group made with_tables ready lowest_short lowest_awaited short_of awaited deliverable deliverable_at merge
    causal_one causal_all appended raised_next due send_ok send_oks fifo_one cascade raised stamped numbered posted
    multicast leave mark hold arrival read has_group good_mask refusal step tick act run moves receiver origin kind movable
    letter_of lowest has_letter served fair settle_from
in_turn = (refl, refl, refl)
