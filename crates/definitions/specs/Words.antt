-- What the public calls do to lent words and bytes: document 01, sections "Logs and journal" and
-- "Refusals". Each call first refuses words that are no sound world (1, 2), then what its own sentence
-- refuses, lowest number first; a refusal leaves the words as they were. It rests on Sound, Setup, Steps,
-- Settle and History. Assumes nothing.
use Rattle.std.specs.Prelude.{Bool, true, false, not, ◌&&◌, List, [], ℕ, ◌+◌, ◌-◌, ◌*◌, ◌/◌, ◌%◌, leb, eqb, length, take, drop, get_or}
use Rattle.definitions.specs.General.{pick, needs, unless-refused, Reply, reply, every, tally, sum, first-from, absent, tabulate, bit}
use Rattle.definitions.specs.World.{size, count, fifo-length, causal-length, fifo, causal, sender, mask, stamp, order, addr, State, encode, view, is-process, is-message, outside-fifo, outside-causal}
use Rattle.definitions.specs.Sound.{sound}
use Rattle.definitions.specs.Setup.{setup-refusal, made}
use Rattle.definitions.specs.Machine.{Awaited, awaited, arrival}
use Rattle.definitions.specs.Steps.{Step, read, refusal, step}
use Rattle.definitions.specs.Settle.{Ending, Settled, Manner, choice, settle-afresh}
use Rattle.definitions.specs.History.{Engine, Run}

-- ---- refusals 1 and 2
-- "1 world not 20,480 words; 2 world not sound", else what follows.
abbrev pub needs-world : List ℕ → ℕ → ℕ
needs-world w rest = needs 1 (eqb (length w) 20480) (needs 2 (sound (view w)) rest)

-- ---- making a world from a setup record
-- "Making a world from a setup record gives 1, then 3"; it overwrites any words and never gives 2.
unfoldable pub making-refusal : List ℕ → List ℕ → ℕ
making-refusal w bytes = needs 1 (eqb (length w) 20480) (setup-refusal bytes)

unfoldable pub made-words : List ℕ → List ℕ → List ℕ
made-words w bytes = unless-refused (making-refusal w bytes) (encode (made bytes)) w

-- ---- a step: 1, 2, then 4 to 12
-- The words after an accepted step.
abbrev pub step_words : List ℕ → Step → List ℕ
step_words w x = encode (step (view w) x)

unfoldable pub step-refusal : List ℕ → List ℕ → ℕ
step-refusal w bytes = needs-world w (refusal (view w) (read bytes))

unfoldable pub stepped-words : List ℕ → List ℕ → List ℕ
stepped-words w bytes = unless-refused (step-refusal w bytes) (step_words w (read bytes)) w

-- ---- settle, of either manner: "Its refusals are 1 and 2."
-- The arrivals that it makes, on words.
unfoldable pub settle-words : Manner → List ℕ → ℕ → Settled (List ℕ)
settle-words o w b =
    settle-afresh (λ t u. choice o t (view u)) (λ u k m q p. encode (arrival (view u) k m q p)) b w

unfoldable pub settled-words : Manner → List ℕ → ℕ → List ℕ
settled-words o w b = unless-refused (needs-world w 0) (settle-words o w b).world w

unfoldable pub settle-reply : Manner → List ℕ → ℕ → Reply Ending
settle-reply o w b = reply (needs-world w 0) (settle-words o w b).ending

-- ---- logs: "a bool picks FIFO or causal": true picks causal
abbrev pub log-length : State → ℕ → Bool → ℕ
log-length s p true = s (causal-length p)
log-length s p false = s (fifo-length p)

-- Where the log of p begins among the words.
abbrev pub log-start : ℕ → Bool → ℕ
log-start p true = addr (causal p 0)
log-start p false = addr (fifo p 0)

-- "the refusal, 1, 2 or 5"
unfoldable pub log-refusal : List ℕ → ℕ → ℕ
log-refusal w p = needs-world w (needs 5 (is-process (view w) p) 0)

-- "A log is read as a part of the lent world itself, empty on refusal"
unfoldable pub log-words : List ℕ → ℕ → Bool → List ℕ
log-words w p log =
    unless-refused (log-refusal w p) (take (log-length (view w) p log) (drop (log-start p log) w)) []

-- "a second call gives its length or the refusal"
unfoldable pub length-reply : List ℕ → ℕ → Bool → Reply ℕ
length-reply w p log = reply (log-refusal w p) (log-length (view w) p log)

-- ---- the order number of a message (document 02, card 1): "with refusals 1, 2 and 7 as in document 01"
unfoldable pub order-refusal : List ℕ → ℕ → ℕ
order-refusal w m = needs-world w (needs 7 (is-message (view w) m) 0)

-- "a call returns the order number of a message"
unfoldable pub order-reply : List ℕ → ℕ → Reply ℕ
order-reply w m = reply (order-refusal w m) (view w (order m))

-- ---- whose message is awaited (document 02, card 5)
-- Not "a message that isn't in that process's FIFO log or is already in its causal log".
unfoldable pub is-waiting : State → ℕ → ℕ → Bool
is-waiting s p m = not (outside-fifo s p m) && outside-causal s p m

-- "It refuses with 18, after 7"; 1, 2 and 5 as for a log, 7 as for an order number.
unfoldable pub awaited-refusal : List ℕ → ℕ → ℕ → ℕ
awaited-refusal w p m =
    needs-world w
    (needs 5 (is-process (view w) p) (needs 7 (is-message (view w) m) (needs 18 (is-waiting (view w) p m) 0)))

-- "A call gives it for a process and a message."
unfoldable pub awaited-reply : List ℕ → ℕ → ℕ → Reply Awaited
awaited-reply w p m = reply (awaited-refusal w p m) (awaited (view w) p m)

-- ---- which of two messages came first, for many pairs (document 02, card 6)
-- "the lowest of its groups": of message x, of the 8 that there may be.
abbrev pub lowest-group : State → ℕ → ℕ
lowest-group s x = first-from 8 0 (bit (s (mask x)))

-- "the first's own sender's entry for the lowest of its groups against the second's entry there": x is the first, and the
-- entry is that on m, which is x itself or the second.
abbrev pub entry-on : State → ℕ → ℕ → ℕ
entry-on s x m = s (stamp m (lowest-group s x) (s (sender x)))

-- "the byte is 1 when the first's is at most the second's and the two messages differ"; it is "0 or 1".
unfoldable pub precedes-byte : State → ℕ → ℕ → ℕ
precedes-byte s x m = pick (leb (entry-on s x x) (entry-on s x m) && not (eqb x m)) 1 0

-- "Pairs come as a lent slice of 16-bit words, two to a pair": the first and the second of pair i.
abbrev pub first_of : List ℕ → ℕ → ℕ
first_of pairs i = get_or pairs (i * 2) 0

abbrev pub second-of : List ℕ → ℕ → ℕ
second-of pairs i = get_or pairs (i * 2 + 1) 0

-- Not "an odd or over-long pair slice or an answer slice of another length than the number of pairs": "up to 256 pairs".
unfoldable pub good-lengths : ℕ → ℕ → Bool
good-lengths words bytes = eqb (words % 2) 0 && leb words 512 && eqb bytes (words / 2)

-- Not "a pair naming no message": every word names one.
unfoldable pub all_named : State → List ℕ → Bool
all_named s pairs = every (length pairs) (λ i. is-message s (get_or pairs i 0))

-- "It refuses with 19, after 2", other lengths; "after 19, a pair naming no message gets 7".
unfoldable pub precedes-refusal : List ℕ → List ℕ → List ℕ → ℕ
precedes-refusal w pairs answers =
    needs-world w
    (needs 19 (good-lengths (length pairs) (length answers)) (needs 7 (all_named (view w) pairs) 0))

-- "one answer byte each, 0 or 1, goes to a second slice"
unfoldable pub precedes-bytes : List ℕ → List ℕ → List ℕ → List ℕ
precedes-bytes w pairs answers =
    unless-refused (precedes-refusal w pairs answers)
    (tabulate (length answers) (λ i. precedes-byte (view w) (first_of pairs i) (second-of pairs i))) answers

-- "The number of different messages named in the pairs": how many of the messages stand among the words.
unfoldable pub different : State → List ℕ → ℕ
different s pairs = tally (s count) (λ m. not (absent (length pairs) m (λ i. get_or pairs i 0)))

unfoldable pub precedes-reply : List ℕ → List ℕ → List ℕ → Reply ℕ
precedes-reply w pairs answers = reply (precedes-refusal w pairs answers) (different (view w) pairs)

-- ---- preview of a step (document 02, card 2): "Preview takes a world, a step and a second slice of world length"
-- "Refusal 1 covers either slice", and "A step that would be refused gives the same refusal": 2 is of the world only.
unfoldable pub preview-refusal : List ℕ → List ℕ → List ℕ → ℕ
preview-refusal w bytes second = needs 1 (eqb (length second) 20480) (step-refusal w bytes)

-- "The second slice then holds exactly what doing the step on a copy would give"; a refusal "leaves the second slice
-- as lent".
unfoldable pub previewed-words : List ℕ → List ℕ → List ℕ → List ℕ
previewed-words w bytes second =
    unless-refused (preview-refusal w bytes second) (stepped-words w bytes) second

-- By how much the FIFO or the causal logs of all processes together are longer in t than in s.
abbrev pub log-growth : Bool → State → State → ℕ
log-growth log s t = sum (s size) (λ p. log-length t p log - log-length s p log)

-- "how many FIFO and how many causal deliveries the step adds": s is the state before it, t the one after it.
pub record NewDeliveries : Type 0 where
  pub fifo-number : ℕ
  pub causal-number : ℕ

abbrev pub new-deliveries : State → State → NewDeliveries
new-deliveries s t = record {
  fifo-number = log-growth false s t;
  causal-number = log-growth true s t;
}

unfoldable pub preview-reply : List ℕ → List ℕ → List ℕ → Reply NewDeliveries
preview-reply w bytes second =
    reply (preview-refusal w bytes second) (new-deliveries (view w) (step (view w) (read bytes)))

-- ---- a list of items on lent words (History): a step or a settle is refused where these are no sound world
abbrev pub on-words : Engine (List ℕ)
on-words = record { reads = view; world = λ w. eqb (needs-world w 0) 0; does = step_words }

-- "The list of demand 3 starts from a fresh world, one just made from a setup record."
abbrev pub started-words : List ℕ → List ℕ → Run (List ℕ)
started-words w setup = record { now = made-words w setup; seen = [] }
