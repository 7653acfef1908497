-- Runs and worlds that meet the hypotheses of `awaits`, computed on states: a chain of two links, carried to any lent
-- words; and sound worlds that no list reaches, each a reached one with a word or two changed, in which every case of the
-- answer occurs and each slip that no reached world shows would answer otherwise. Assumes nothing.
use Rattle.std.specs.Prelude.{◌≡◌, refl, true, false, ℕ, length}
use Rattle.std.proofs.Common.{◌∙◌, arith}
use mathlib.Core.List.{List, [], ◌∷◌}
use Rattle.std.proofs.Math.Decide.{ℕ_discrete}
use Rattle.definitions.specs.General.{every, some, first_from, absent, chosen, loop, bit, with, without, mask_of, only, in_at}
use Rattle.definitions.specs.World.{size, fifo_length, causal_length, fifo, delivered, stamp, State, put, has_group}
use Rattle.definitions.specs.Sound.{fit, sends}
use Rattle.definitions.specs.Setup.{fresh, setup_bits, setup_group, good_setup, setup_refusal, made}
use Rattle.definitions.specs.Machine.{with_tables, ready, Awaited, yes_now, message_of, process_alone, lowest_short, lowest_awaited, short_of, awaited, deliverable, deliverable_at, merge, causal_one, causal_all, appended, raised_next, due, send_ok, send_oks, fifo_one, cascade, raised, stamped, numbered, posted, multicast, leave, mark, hold, arrival, trust_set, crash}
use Rattle.definitions.specs.Steps.{read, good_mask, refusal, step}
use Rattle.definitions.specs.History.{Item, tick, act, run}
use Rattle.definitions.specs.Words.{making_refusal, is_waiting, on_words, started_words}
use Rattle.definitions.specs.Awaits.{Waits}
use Rattle.world.specs.SoundLaws.{Sound}
use Rattle.world.specs.Items.{multicasting, arriving, three, until_overtaken}
use Rattle.world.specs.Runs.{on_states, started}
use Rattle.keeps.specs.Changes.{put_sound}
use Rattle.keeps.specs.Keeps.{run_sound, reached_sound}
use Rattle.order.specs.Runs.{with_history}
use Rattle.carried.specs.Calls.{making_carried, log_carried, listed_in, in_listed}
use Rattle.carried.specs.Carried.{words_after}

-- in a sound world s, message m waits at process p and gets this answer
pub record Gets (s : State) (p m : ℕ) (a : Awaited) : Type 0 where
  pub sound : Sound s
  pub waits : is_waiting s p m ≡ true
  pub answer : awaited s p m ≡ a

-- ---- two links: process p is in group p. At process 2 message 4 of process 0 waits for 2 of process 1, which has arrived
-- and waits for 0 of process 3, which has not
abbrev pub four : List ℕ
four = 0 ∷ 4 ∷ 136 ∷ 6 ∷ 0 ∷ 0 ∷ 0 ∷ 0 ∷ []

abbrev pub linked : List Item
linked =
    multicasting 3 4
    ∷ multicasting 3 2
    ∷ arriving 0 1 3 1
    ∷ arriving 2 1 1 1
    ∷ multicasting 1 4
    ∷ multicasting 1 1
    ∷ arriving 0 3 1 0
    ∷ arriving 2 3 0 0
    ∷ multicasting 0 4
    ∷ arriving 0 2 1 2
    ∷ arriving 2 2 2 2
    ∷ arriving 0 4 0 2
    ∷ arriving 2 4 2 2
    ∷ []

abbrev pub end : State
end = (run on_states (started four) linked).now

pub computed : (setup_refusal four ≡ 0)
    × (end size ≡ 4)
    × (end (fifo_length 2) ≡ 2)
    × (end (fifo 2 1) ≡ 4)
    × (end (causal_length 2) ≡ 0)
    × (awaited end 2 4 ≡ message_of 1 2)
    × (awaited end 2 2 ≡ message_of 3 0)
unfolding ℕ_discrete every some first_from absent chosen loop bit with without mask_of only put fresh setup_bits
    setup_group good_setup setup_refusal made with_tables ready lowest_short lowest_awaited short_of awaited deliverable
    deliverable_at merge causal_one causal_all appended raised_next due send_ok send_oks fifo_one cascade raised stamped
    numbered posted multicast leave mark hold arrival trust_set crash read has_group good_mask refusal step tick act run
computed = (refl, refl, refl, refl, refl, refl, refl)

pub sound_end : Sound (run on_states (started four) linked).now
sound_end = reached_sound four linked computed.0

-- as a caller has it, over any lent words
module _ (w : List ℕ) (long : length w ≡ 20480) where
  pub made_taken : making_refusal w four ≡ 0
  made_taken = making_carried w four long ∙ computed.0

  pub linked_waits : Waits (run on_words (started_words w four) linked).now 2 4
  linked_waits =
      rw (words_after w four made_taken linked) (
        in_listed (log_carried end sound_end 2 (omega (arith, computed.1)) false)
            (in_at 1 (omega (arith, computed.2)) computed.3),
        λ c. elim (listed_in (log_carried end sound_end 2 (omega (arith, computed.1)) true) c) [
          | in_at i l e ↦ omega (arith, computed.4)
        ],
      )

-- ---- from the setup of the third known run, processes 0, 1, 2 in groups 0, 1, 2
abbrev after_items : List Item → State
after_items items = (run on_states (started three) items).now

abbrev after_more : State → List Item → State
after_more s items = (run on_states (with_history s []) items).now

three_taken : setup_refusal three ≡ 0
unfolding every some first_from bit fresh setup_bits setup_group good_setup setup_refusal made has_group
three_taken = refl

items_sound : (items : List Item) → Sound (run on_states (started three) items).now
items_sound items = reached_sound three items three_taken

abbrev overtaken : State
overtaken = after_items until_overtaken

-- two messages of process 0 to group 2 have the count 1; message 2 of process 1 knows of one
abbrev before_fit : State
before_fit = after_items (multicasting 0 4 ∷ multicasting 0 4 ∷ multicasting 1 4 ∷ [])

abbrev two_fit : State
two_fit = put (put before_fit (stamp 1 2 0) 1) (stamp 2 2 0) 1

abbrev fit_arrived : List Item
fit_arrived = arriving 0 2 1 2 ∷ arriving 2 2 2 2 ∷ []

-- message 1 of process 2 waits for processes 0 and 1; only 1 has a message
abbrev before_short : State
before_short = after_items (multicasting 1 4 ∷ multicasting 2 4 ∷ [])

abbrev two_short : State
two_short = put (put before_short (stamp 1 2 0) 1) (stamp 1 2 1) 1

abbrev short_arrived : List Item
short_arrived = arriving 0 1 2 2 ∷ arriving 2 1 2 2 ∷ []

-- every case, and each slip
pub every_case :
    -- with a message: 0 of process 0
    Gets overtaken 2 2 (message_of 0 0)
    -- yes: del[0] of process 2 is 1, though it delivered nothing
    × Gets (put overtaken (delivered 2 0) 1) 2 2 yes_now
    -- a process alone: message 0 does not count itself. Message 1 of process 0, to another group, would fit
    × Gets (put overtaken (stamp 0 2 0) 0) 2 2 (process_alone 0)
    -- a process alone: the count of message 0 is above del, and not next
    × Gets (put overtaken (stamp 0 2 0) 2) 2 2 (process_alone 0)
    -- the lowest message is named
    × Gets (after_more two_fit fit_arrived) 2 2 (message_of 0 0)
    -- the lowest process is named, alone
    × Gets (after_more two_short short_arrived) 2 1 (process_alone 0)
unfolding ℕ_discrete every some first_from absent chosen loop bit with without mask_of only put fresh setup_bits
    setup_group good_setup setup_refusal made with_tables ready lowest_short lowest_awaited short_of awaited deliverable
    deliverable_at merge causal_one causal_all appended raised_next due send_ok send_oks fifo_one cascade raised stamped
    numbered posted multicast leave mark hold arrival trust_set crash read has_group good_mask refusal step tick act run
    is_waiting fit sends
every_case = (
  record { sound = items_sound until_overtaken; waits = refl; answer = refl },
  record {
    sound = put_sound overtaken (delivered 2 0) 1 (λ z. z) refl (items_sound until_overtaken);
    waits = refl;
    answer = refl;
  },
  record {
    sound = put_sound overtaken (stamp 0 2 0) 0 (λ z. z) refl (items_sound until_overtaken);
    waits = refl;
    answer = refl;
  },
  record {
    sound = put_sound overtaken (stamp 0 2 0) 2 (λ z. z) refl (items_sound until_overtaken);
    waits = refl;
    answer = refl;
  },
  record {
    sound =
        run_sound (with_history two_fit []) fit_arrived
        (put_sound (put before_fit (stamp 1 2 0) 1) (stamp 2 2 0) 1 (λ z. z) refl
        (put_sound before_fit (stamp 1 2 0) 1 (λ z. z) refl
        (items_sound (multicasting 0 4 ∷ multicasting 0 4 ∷ multicasting 1 4 ∷ []))));
    waits = refl;
    answer = refl;
  },
  record {
    sound =
        run_sound (with_history two_short []) short_arrived
        (put_sound (put before_short (stamp 1 2 0) 1) (stamp 1 2 1) 1 (λ z. z) refl
        (put_sound before_short (stamp 1 2 0) 1 (λ z. z) refl (items_sound (multicasting 1 4 ∷ multicasting 2 4 ∷ []))));
    waits = refl;
    answer = refl;
  },
)

-- ---- messages 0 of process 0 and 1 of process 1, each claimed to know of the other, in the FIFO log of process 2: in a
-- world that no list reaches, following the answers need not end
abbrev before_round : State
before_round = after_items (multicasting 0 4 ∷ multicasting 1 4 ∷ [])

abbrev each_other : State
each_other = put (put before_round (stamp 0 2 1) 1) (stamp 1 2 0) 1

abbrev round_arrived : List Item
round_arrived = arriving 0 0 0 2 ∷ arriving 2 0 2 2 ∷ arriving 0 1 1 2 ∷ arriving 2 1 2 2 ∷ []

pub goes_round : Gets (after_more each_other round_arrived) 2 0 (message_of 1 1)
    × Gets (after_more each_other round_arrived) 2 1 (message_of 0 0)
unfolding ℕ_discrete every some first_from absent chosen loop bit with without mask_of only put fresh setup_bits
    setup_group good_setup setup_refusal made with_tables ready lowest_short lowest_awaited short_of awaited deliverable
    deliverable_at merge causal_one causal_all appended raised_next due send_ok send_oks fifo_one cascade raised stamped
    numbered posted multicast leave mark hold arrival trust_set crash read has_group good_mask refusal step tick act run
    is_waiting fit sends
goes_round =
    let sound = run_sound (with_history each_other []) round_arrived
    (put_sound (put before_round (stamp 0 2 1) 1) (stamp 1 2 0) 1 (λ z. z) refl
    (put_sound before_round (stamp 0 2 1) 1 (λ z. z) refl (items_sound (multicasting 0 4 ∷ multicasting 1 4 ∷ [])))) in
    (record { sound = sound; waits = refl; answer = refl }, record { sound = sound; waits = refl; answer = refl })
