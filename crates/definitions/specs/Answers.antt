-- What each case of an answer means: for every answer enum of the code, document 01's number and values
-- ("Where an answer is an enum, there is a definition that gives this paper's number and values for each of
-- its cases"). It rests on the replies of General. Assumes nothing.
use Rattle.std.specs.Prelude.{ℕ, Result, Ok, Err}
use Rattle.definitions.specs.General.{Reply, gives, refuses}
use Rattle.definitions.specs.Machine.{Awaited, yes_now, message_of, process_alone}
use Rattle.definitions.specs.Settle.{Ending, done, stopped}
use Rattle.definitions.specs.Words.{NewDeliveries}
use Rattle.definitions.specs.Replay.{Counts}
use Rattle.definitions.specs.declared.Refusal.{Refusal}
use Rattle.definitions.specs.declared.Refusal.TheVariants.{WorldLength, WorldUnsound, BadSetup, Malformed, NoProcess, BadMask, NoMessage, BadTrust, Down, Full, NotInFlight, BothUp, JournalLength, WrongCheck, WrongForm, RecordsLength, OutputLength, NotWaiting, PairsLength}
use Rattle.definitions.specs.declared.Awaiting.{Awaiting}
use Rattle.definitions.specs.declared.Awaiting.TheVariants as awaiting
use Rattle.definitions.specs.declared.Previewing.{Previewing}
use Rattle.definitions.specs.declared.Settling.{Settling}
use Rattle.definitions.specs.declared.Settling.TheVariants as settling
use Rattle.definitions.specs.declared.Replaying.{Replaying}

-- The refusals by number.
abbrev pub refusal_number : Refusal → ℕ
refusal_number WorldLength = 1
refusal_number WorldUnsound = 2
refusal_number BadSetup = 3
refusal_number Malformed = 4
refusal_number NoProcess = 5
refusal_number BadMask = 6
refusal_number NoMessage = 7
refusal_number BadTrust = 8
refusal_number Down = 9
refusal_number Full = 10
refusal_number NotInFlight = 11
refusal_number BothUp = 12
refusal_number JournalLength = 13
refusal_number WrongCheck = 14
refusal_number WrongForm = 15
refusal_number RecordsLength = 16
refusal_number OutputLength = 17
refusal_number NotWaiting = 18
refusal_number PairsLength = 19

-- Whether a call is done, as making a world, a step, writing and reading a journal: 0 where it is, else the refusal's number.
abbrev pub outcome_number : {A : Type 0} → Result A Refusal → ℕ
outcome_number (Ok _) = 0
outcome_number (Err r) = refusal_number r

-- What gives a value: that value as f reads it, or the refusal.
abbrev pub reply_by : {A B : Type 0} → (A → B) → Result A Refusal → Reply B
reply_by f (Ok a) = gives (f a)
reply_by f (Err r) = refuses (refusal_number r)

-- How many, or the order number of a message.
abbrev pub amount_reply : Result ℕ Refusal → Reply ℕ
amount_reply = reply_by (λ n. n)

-- Whose message is awaited: yes, a process q with its message, q alone.
abbrev pub awaited_of : Awaiting → Awaited
awaited_of awaiting.Nothing = yes_now
awaited_of (awaiting.Message q x) = message_of q x
awaited_of (awaiting.Process q) = process_alone q

abbrev pub awaiting_reply : Result Awaiting Refusal → Reply Awaited
awaiting_reply = reply_by awaited_of

-- Preview: how many FIFO and how many causal deliveries the step adds.
abbrev pub previewing_reply : Result Previewing Refusal → Reply NewDeliveries
previewing_reply = reply_by (λ d. record { fifo_number = d.fifo; causal_number = d.causal })

-- Settle: the number of arrivals with done or stopped.
abbrev pub ending_of : Settling → Ending
ending_of (settling.Done n) = done n
ending_of (settling.Stopped n) = stopped n

abbrev pub settling_reply : Result Settling Refusal → Reply Ending
settling_reply = reply_by ending_of

-- Replay: the number of records after the setup and how many were refused.
abbrev pub replaying_reply : Result Replaying Refusal → Reply Counts
replaying_reply = reply_by (λ c. record { steps = c.steps; refused = c.refused })

-- ---- the numbers that an exported function gives, read off a value
-- Of how settle ended: the number of arrivals, and 1 for done or 0 for stopped.
abbrev pub arrivals_in : Ending → ℕ
arrivals_in (done n) = n
arrivals_in (stopped n) = n

abbrev pub done_in : Ending → ℕ
done_in (done n) = 1
done_in (stopped n) = 0

-- Of whose message is awaited: 0 for yes, 1 for a process with its message, 2 for a process alone; the process, and the
-- message. What a case does not have is what stood there before.
abbrev pub kind_in : Awaited → ℕ
kind_in yes_now = 0
kind_in (message_of q x) = 1
kind_in (process_alone q) = 2

abbrev pub process_in : ℕ → Awaited → ℕ
process_in before yes_now = before
process_in before (message_of q x) = q
process_in before (process_alone q) = q

abbrev pub message_in : ℕ → Awaited → ℕ
message_in before yes_now = before
message_in before (message_of q x) = x
message_in before (process_alone q) = before

-- The version of the engine, 9.6.0: a million times its first number, a thousand times its second, and its third.
abbrev pub version : ℕ
version = 9006000
