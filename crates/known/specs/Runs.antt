-- The known runs of document 01 as one table under one theorem, computed on states; and rows that rule out
-- the slips and the false engines that it names. It rests on Setup, Steps and Settle of the world, and on
-- the block of the journal. Assumes nothing.
use Rattle.std.specs.Prelude.{◌≡◌, refl, Bool, true, false, not, ◌&&◌, List, [], ◌∷◌, ◌++◌, ℕ, zero, suc, eqb}
use Rattle.std.proofs.Math.Decide.{ℕ_discrete}
use Rattle.definitions.specs.General.{every, some, first_from, absent, chosen, loop, bit, with, without, mask_of, only, tab_from, tabulate, filled}
use Rattle.definitions.specs.World.{fifo_length, causal_length, fifo, causal, State, put, has_group, is_process}
use Rattle.definitions.specs.Setup.{fresh, setup_bits, setup_group, good_setup, setup_refusal, made}
use Rattle.definitions.specs.Machine.{with_tables, ready, lowest_short, lowest_awaited, short_of, awaited, deliverable, deliverable_at, merge, causal_one, causal_all, appended, raised_next, due, send_ok, send_oks, fifo_one, cascade, raised, stamped, numbered, posted, multicast, leave, mark, hold, arrival, trust_set, crash}
use Rattle.definitions.specs.Steps.{read, good_mask, is_up, refusal, step, after}
use Rattle.definitions.specs.Settle.{moves, receiver, origin, kind, movable, letter_of, lowest, has_letter, served, fair, Manner, lowest_first, by_turns, Ending, done, stopped, settle_from}
use Rattle.definitions.specs.Checksum.{ones_sum, checksum}
use Rattle.definitions.specs.Block.{body, block, check_of}
use Rattle.world.specs.SettleLaws.{settle}

-- ---- a row, and its lines: each something done and what is to be seen of it
pub data Line : Type 0 where
  -- bytes given as a step, and the number of its refusal (0: taken)
  takes : List ℕ → ℕ → Line
  -- a settle of either manner with a budget, and its answer
  settles : Manner → ℕ → Ending → Line
  -- process p: whether it is up, its FIFO log and its causal log
  shows : ℕ → Bool → List ℕ → List ℕ → Line

pub data Row : Type 0 where
  -- a setup record, the number of its refusal (0: taken), and what follows in the world that it makes
  plays : List ℕ → ℕ → List Line → Row
  -- the records of a journal of one block, and the block's check
  checks : List ℕ → ℕ → Row

-- ---- what passes
abbrev pub same_list : List ℕ → List ℕ → Bool
same_list [] [] = true
same_list [] (y ∷ ys) = false
same_list (x ∷ xs) [] = false
same_list (x ∷ xs) (y ∷ ys) = eqb x y && same_list xs ys

abbrev pub same_flag : Bool → Bool → Bool
same_flag true b = b
same_flag false b = not b

abbrev pub same_ending : Ending → Ending → Bool
same_ending (done m) (done n) = eqb m n
same_ending (done m) (stopped n) = false
same_ending (stopped m) (done n) = false
same_ending (stopped m) (stopped n) = eqb m n

-- The lines pass from s on.
unfoldable pub lines_pass : State → List Line → Bool
lines_pass s [] = true
lines_pass s (takes bytes n ∷ ls) = eqb (refusal s (read bytes)) n && lines_pass (after s (read bytes)) ls
lines_pass s (settles o b e ∷ ls) = same_ending (settle o s b).ending e && lines_pass (settle o s b).world ls
lines_pass s (shows p live fs cs ∷ ls) =
    is_process s p
    && same_flag (is_up s p) live
    && same_list (tabulate (s (fifo_length p)) (λ i. s (fifo p i))) fs
    && same_list (tabulate (s (causal_length p)) (λ i. s (causal p i))) cs
    && lines_pass s ls

unfoldable pub row_passes : Row → Bool
row_passes (plays setup n ls) = eqb (setup_refusal setup) n && lines_pass (made setup) ls
row_passes (checks records n) = eqb (check_of (block 0 records)) n

unfoldable pub all_pass : List Row → Bool
all_pass [] = true
all_pass (r ∷ rs) = row_passes r && all_pass rs

-- ---- steps as bytes
abbrev pub multicasting : ℕ → ℕ → List ℕ
multicasting p groups = 1 ∷ p ∷ groups ∷ 0 ∷ 0 ∷ 0 ∷ 0 ∷ 0 ∷ []

abbrev ordering : ℕ → ℕ → ℕ → ℕ → List ℕ
ordering p groups low high = 1 ∷ p ∷ groups ∷ low ∷ high ∷ 0 ∷ 0 ∷ 0 ∷ []

abbrev pub arriving : ℕ → ℕ → ℕ → ℕ → List ℕ
arriving k m q p = 2 ∷ k ∷ m ∷ q ∷ p ∷ 0 ∷ 0 ∷ 0 ∷ []

abbrev pub losing : ℕ → ℕ → ℕ → ℕ → List ℕ
losing k m q p = 3 ∷ k ∷ m ∷ q ∷ p ∷ 0 ∷ 0 ∷ 0 ∷ []

abbrev pub trusting : ℕ → ℕ → List ℕ
trusting p set = 4 ∷ p ∷ set ∷ 0 ∷ 0 ∷ 0 ∷ 0 ∷ 0 ∷ []

abbrev pub crashing : ℕ → List ℕ
crashing p = 5 ∷ p ∷ 0 ∷ 0 ∷ 0 ∷ 0 ∷ 0 ∷ 0 ∷ []

-- the same line n times, then others
abbrev times : ℕ → Line → List Line → List Line
times zero l ls = ls
times (suc n) l ls = l ∷ times n l ls

-- ---- setups: one process; processes 0, 1, 2 in groups 0, 1, 2; two of one group; 0 and 1 of group 0, 2 of
-- group 1
abbrev one : List ℕ
one = 0 ∷ 1 ∷ 0 ∷ 0 ∷ 0 ∷ 0 ∷ 0 ∷ 0 ∷ []

abbrev pub three : List ℕ
three = 0 ∷ 3 ∷ 136 ∷ 0 ∷ 0 ∷ 0 ∷ 0 ∷ 0 ∷ []

abbrev pair : List ℕ
pair = 0 ∷ 2 ∷ 0 ∷ 0 ∷ 0 ∷ 0 ∷ 0 ∷ 0 ∷ []

abbrev two_and_one : List ℕ
two_and_one = 0 ∷ 3 ∷ 64 ∷ 0 ∷ 0 ∷ 0 ∷ 0 ∷ 0 ∷ []

-- ---- the known runs
abbrev run_1 : Row
run_1 = plays one 0
    (takes (multicasting 0 1) 0
    ∷ takes (arriving 0 0 0 0) 0
    ∷ takes (arriving 2 0 0 0) 0
    ∷ takes (arriving 2 0 0 0) 11
    ∷ shows 0 true (0 ∷ []) (0 ∷ [])
    ∷ [])

-- "That setup alone in a block has check FEFE (hexadecimal)."
abbrev run_2 : Row
run_2 = checks one 0xfefe

-- Runs 3 and 4 up to where message 2 has arrived at process 2.
abbrev overtaken : List Line
overtaken =
    takes (multicasting 0 4) 0
    ∷ takes (multicasting 0 2) 0
    ∷ takes (arriving 0 1 0 1) 0
    ∷ takes (arriving 2 1 1 1) 0
    ∷ shows 1 true (1 ∷ []) (1 ∷ [])
    ∷ takes (multicasting 1 4) 0
    ∷ takes (arriving 0 2 1 2) 0
    ∷ takes (arriving 2 2 2 2) 0
    ∷ shows 2 true (2 ∷ []) []
    ∷ []

abbrev run_3 : Row
run_3 = plays three 0
    (overtaken
    ++ (takes (arriving 0 0 0 2) 0
    ∷ takes (arriving 2 0 2 2) 0
    ∷ shows 2 true (2 ∷ 0 ∷ []) (0 ∷ 2 ∷ [])
    ∷ []))

-- "after any further steps message 2 is not in c": here, after a settle; after any steps, in Lost.
abbrev run_4 : Row
run_4 = plays three 0
    (overtaken
    ++ (takes (crashing 0) 0
    ∷ takes (losing 0 0 0 2) 0
    ∷ shows 2 true (2 ∷ []) []
    ∷ settles lowest_first 33792 (done 0)
    ∷ shows 2 true (2 ∷ []) []
    ∷ shows 0 false [] []
    ∷ []))

abbrev run_5 : List Row
run_5 =
    plays (0 ∷ 16 ∷ 0 ∷ 0 ∷ 0 ∷ 0 ∷ 0 ∷ 0 ∷ []) 0 []
    ∷ plays (0 ∷ 17 ∷ 0 ∷ 0 ∷ 0 ∷ 0 ∷ 0 ∷ 0 ∷ []) 3 []
    ∷ plays (0 ∷ 2 ∷ 16 ∷ 0 ∷ 0 ∷ 0 ∷ 0 ∷ 0 ∷ []) 3 []
    ∷ []

abbrev run_6 : Row
run_6 = plays one 0 (times 64 (takes (multicasting 0 1) 0) (takes (multicasting 0 1) 10 ∷ []))

abbrev run_7 : Row
run_7 = plays one 0 (settles lowest_first 0 (done 0) ∷ [])

abbrev run_8 : Row
run_8 = plays one 0 (takes (crashing 0) 0 ∷ takes (crashing 0) 9 ∷ [])

-- ---- the slips
-- Copied before raised: run 1 (number 0 would never be in turn). Deliveries counted where multicasts are
-- meant: run 3 (process 1 learns of message 0 from message 1's counters only). The sender's own entry
-- tested: run 1.

-- An OK taken without holding its message: the OK of 0 reaches 1 before the first letter; 1 holds the message
-- now and sends its own OK.
abbrev ok_holds : Row
ok_holds = plays pair 0
    (takes (multicasting 0 1) 0
    ∷ takes (arriving 0 0 0 0) 0
    ∷ takes (arriving 2 0 0 1) 0
    ∷ takes (arriving 2 0 1 0) 0
    ∷ takes (arriving 2 0 1 1) 0
    ∷ shows 1 true (0 ∷ []) (0 ∷ [])
    ∷ [])

-- The OK of line 21 sent for one message of any sender: at process 2 message 1 of sender 0 and message 3 of
-- sender 1 wait, each as its sender's second. Once message 0 is delivered, the OK goes out for message 1 and
-- not for message 3.
abbrev same_sender : Row
same_sender = plays two_and_one 0
    (takes (multicasting 0 2) 0
    ∷ takes (multicasting 0 2) 0
    ∷ takes (multicasting 1 2) 0
    ∷ takes (multicasting 1 2) 0
    ∷ takes (arriving 0 1 0 2) 0
    ∷ takes (arriving 0 3 1 2) 0
    ∷ takes (arriving 0 0 0 2) 0
    ∷ takes (arriving 2 0 2 2) 0
    ∷ takes (arriving 2 3 2 2) 11
    ∷ takes (arriving 2 1 2 2) 0
    ∷ shows 2 true (0 ∷ 1 ∷ []) (0 ∷ 1 ∷ [])
    ∷ [])

-- ---- the false engines
-- One that refuses all steps or leaves the world untouched, one that moves only the first letter, one fixed
-- log: runs 1 and 3.

-- A settle that stops or is done before it has moved a letter, or invents its number: with too small a
-- budget, and with enough.
abbrev settled : Row
settled = plays pair 0
    (takes (multicasting 0 1) 0
    ∷ settles lowest_first 0 (stopped 0)
    ∷ settles lowest_first 1 (stopped 1)
    ∷ shows 0 true [] []
    ∷ settles lowest_first 5 (done 5)
    ∷ shows 0 true (0 ∷ []) (0 ∷ [])
    ∷ shows 1 true (0 ∷ []) (0 ∷ [])
    ∷ settles lowest_first 33792 (done 0)
    ∷ [])

-- ---- each refusal by its condition, the lowest number first
abbrev refusals : Row
refusals = plays pair 0
    (takes [] 4
    ∷ takes (6 ∷ 0 ∷ 0 ∷ 0 ∷ 0 ∷ 0 ∷ 0 ∷ 0 ∷ []) 4
    ∷ takes (1 ∷ 0 ∷ 1 ∷ 0 ∷ 0 ∷ 1 ∷ 0 ∷ 0 ∷ []) 4
    ∷ takes (arriving 3 0 0 0) 4
    ∷ takes (multicasting 2 1) 5
    ∷ takes (ordering 2 1 249 3) 5
    ∷ takes (arriving 0 0 2 0) 5
    ∷ takes (multicasting 0 0) 6
    ∷ takes (multicasting 0 2) 6
    ∷ takes (ordering 0 2 0 1) 6
    ∷ takes (arriving 0 0 0 1) 7
    ∷ takes (trusting 0 4) 8
    ∷ takes (ordering 0 1 249 3) 0
    ∷ takes (arriving 1 0 0 1) 11
    ∷ takes (losing 0 0 0 1) 12
    ∷ takes (crashing 1) 0
    ∷ takes (multicasting 1 1) 9
    ∷ takes (ordering 1 1 1 0) 9
    ∷ takes (trusting 1 1) 9
    ∷ takes (arriving 0 0 0 1) 9
    ∷ takes (losing 0 0 0 1) 0
    ∷ takes (losing 0 0 0 1) 11
    ∷ [])

-- ---- a trust step ends in the cascade: without the mark of 1, process 0 delivers once it no longer trusts 1
abbrev trust_cascades : Row
trust_cascades = plays pair 0
    (takes (multicasting 0 1) 0
    ∷ takes (arriving 0 0 0 0) 0
    ∷ takes (arriving 2 0 0 0) 0
    ∷ shows 0 true [] []
    ∷ takes (trusting 0 1) 0
    ∷ shows 0 true (0 ∷ []) (0 ∷ [])
    ∷ [])

-- ---- of a crashed sender: arrivals and a settle take its letters; those to it stay, and a down receiver (9) comes before
-- what is not in flight (11)
abbrev down_sender : Row
down_sender = plays pair 0
    (takes (multicasting 0 1) 0
    ∷ takes (crashing 0) 0
    ∷ settles lowest_first 0 (stopped 0)
    ∷ takes (arriving 0 0 0 1) 0
    ∷ settles lowest_first 5 (done 1)
    ∷ takes (arriving 0 0 0 0) 9
    ∷ takes (losing 0 0 0 0) 0
    ∷ takes (arriving 1 0 1 0) 9
    ∷ [])

-- ---- request 4: process 0 multicasts message 0 to group 1, that is process 1, and crashes; the first letter and the OK
-- still arrive
abbrev dead_sender : Row
dead_sender = plays three 0
    (takes (multicasting 0 2) 0
    ∷ takes (crashing 0) 0
    ∷ settles lowest_first 33792 (done 2)
    ∷ shows 1 true (0 ∷ []) (0 ∷ [])
    ∷ shows 0 false [] []
    ∷ [])

-- ---- request 7: by turns
-- Process 0 multicasts messages 0 and 1 to process 1 and 2 to process 2. Lowest first, four arrivals bring 1 both
-- its messages; by turns they bring 1 and 2 one each, and the end is the same.
abbrev three_sent : List Line → List Line
three_sent ls = takes (multicasting 0 2) 0 ∷ takes (multicasting 0 2) 0 ∷ takes (multicasting 0 4) 0 ∷ ls

abbrev by_lowest : Row
by_lowest = plays three 0 (three_sent
    (settles lowest_first 4 (stopped 4)
    ∷ shows 1 true (0 ∷ 1 ∷ []) (0 ∷ 1 ∷ [])
    ∷ shows 2 true [] []
    ∷ settles lowest_first 2 (done 2)
    ∷ shows 2 true (2 ∷ []) (2 ∷ [])
    ∷ []))

abbrev in_turns : Row
in_turns = plays three 0 (three_sent
    (settles by_turns 2 (stopped 2)
    ∷ settles by_turns 2 (stopped 2)
    ∷ shows 1 true (0 ∷ []) (0 ∷ [])
    ∷ shows 2 true (2 ∷ []) (2 ∷ [])
    ∷ settles by_turns 33792 (done 2)
    ∷ shows 1 true (0 ∷ 1 ∷ []) (0 ∷ 1 ∷ [])
    ∷ []))

abbrev pub table : List Row
table =
    run_1 ∷ run_2 ∷ run_3 ∷ run_4 ∷ run_5
    ++ (run_6 ∷ run_7 ∷ run_8 ∷ ok_holds ∷ same_sender ∷ settled ∷ refusals ∷ trust_cascades ∷ down_sender
    ∷ dead_sender ∷ by_lowest ∷ in_turns ∷ [])

pub known_runs : all_pass table ≡ true
unfolding ℕ_discrete lines_pass row_passes all_pass every some first_from absent chosen loop bit with
    without mask_of only tab_from tabulate put fresh setup_bits setup_group good_setup
    setup_refusal made with_tables ready lowest_short lowest_awaited short_of awaited deliverable deliverable_at merge causal_one causal_all
    appended raised_next due send_ok send_oks fifo_one cascade raised stamped numbered posted
    block body filled checksum ones_sum multicast leave mark hold arrival trust_set crash read has_group
    good_mask refusal step after
    moves receiver origin kind movable letter_of lowest has_letter served fair
    settle_from settle
known_runs = refl
