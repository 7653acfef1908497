-- Order numbers: what card 1 of document 02 claims of them beside the contract of the call that gives one. The number
-- kept is the one multicast, and no number changes anything else: each step, list and journal does the same with
-- zeros for all of them. It rests on Words, History and Replay. Assumes nothing.
use Rattle.std.specs.Prelude.{◌≡◌, Bool, ◌&&◌, ◌||◌, List, [], ◌∷◌, ◌++◌, ◌↔◌, ℕ, ◌*◌, ◌/◌, ◌%◌, eqb, length}
use Rattle.definitions.specs.General.{pick, gives, byte, tabulate}
use Rattle.definitions.specs.World.{size, count, rule, group, trust, counter, sequence, next, delivered, up, fifo_length, causal_length, held, marks, fifo, causal, sender, mask, stamp, number, flight, order, unused, State, encode, view}
use Rattle.definitions.specs.Steps.{Step, multicasts, arrives, loses, trusts, crashes, malformed, read, refusal, step}
use Rattle.definitions.specs.Settle.{Manner}
use Rattle.definitions.specs.History.{sent, Run, Item, given, settling, act, run}
use Rattle.definitions.specs.Words.{making_refusal, step_refusal, settle_reply, log_words, order_reply, on_words, started_words}
use Rattle.definitions.specs.Journal.{journal_refusal, records_of}
use Rattle.definitions.specs.Replay.{replay_refusal, replayed_words, replay_reply}

-- ---- zeros for all order numbers
-- In a state.
unfoldable pub erased : State → State
erased s (order m) = 0
erased s size = s size
erased s count = s count
erased s rule = s rule
erased s (group p) = s (group p)
erased s (trust p) = s (trust p)
erased s (counter p g q) = s (counter p g q)
erased s (sequence p g) = s (sequence p g)
erased s (next p q) = s (next p q)
erased s (delivered p q) = s (delivered p q)
erased s (up p) = s (up p)
erased s (fifo_length p) = s (fifo_length p)
erased s (causal_length p) = s (causal_length p)
erased s (held p m) = s (held p m)
erased s (marks p m) = s (marks p m)
erased s (fifo p i) = s (fifo p i)
erased s (causal p i) = s (causal p i)
erased s (sender m) = s (sender m)
erased s (mask m) = s (mask m)
erased s (stamp m g q) = s (stamp m g q)
erased s (number m g) = s (number m g)
erased s (flight m k q) = s (flight m k q)
erased s (unused i) = s (unused i)

-- In the words of a world.
abbrev pub erased_words : List ℕ → List ℕ
erased_words w = encode (erased (view w))

-- In a step.
abbrev pub erased_step : Step → Step
erased_step (multicasts p groups o) = multicasts p groups 0
erased_step (arrives k m q p) = arrives k m q p
erased_step (loses k m q p) = loses k m q p
erased_step (trusts p set) = trusts p set
erased_step (crashes p) = crashes p
erased_step malformed = malformed

-- In records of 8 bytes: "bytes 3 and 4" of those that begin with 1, the multicasts. Byte i is such a one.
abbrev pub of_order : List ℕ → ℕ → Bool
of_order bytes i = eqb (byte bytes (i / 8 * 8)) 1 && (eqb (i % 8) 3 || eqb (i % 8) 4)

unfoldable pub erased_bytes : List ℕ → List ℕ
erased_bytes bytes = tabulate (length bytes) (λ i. pick (of_order bytes i) 0 (byte bytes i))

-- In a list of items.
unfoldable pub erased_items : List Item → List Item
erased_items [] = []
erased_items (given bytes ∷ is) = given (erased_bytes bytes) ∷ erased_items is
erased_items (settling h b ∷ is) = settling h b ∷ erased_items is

-- ---- "this number, which must be the one multicast"
-- One of the items is the accepted multicast of m, the one whose event is `sent _ m`, and carries the number o.
pub data Carries (start : Run (List ℕ)) (items : List Item) (m o : ℕ) : Type 0 where
  carries : (before after : List Item) (bytes : List ℕ) (p groups : ℕ)
      → items ≡ before ++ (given bytes ∷ after)
      → read bytes ≡ multicasts p groups o
      → (act on_words (run on_words start before) (given bytes)).seen ≡ sent p m ∷ (run on_words start before).seen
      → Carries start items m o

-- ---- "The comparison with the report's algorithms is of everything but this number"
-- After a list of items, and after the same list with zeros: the same events, the same words but for the order
-- words, the same logs, and the same answer to whatever is next.
pub record Apart (all zeros : Run (List ℕ)) : Type 0 where
  pub events : zeros.seen ≡ all.seen
  pub words : zeros.now ≡ erased_words all.now
  pub logs : (p : ℕ) (log : Bool) → log_words zeros.now p log ≡ log_words all.now p log
  pub steps : (bytes : List ℕ) → step_refusal zeros.now (erased_bytes bytes) ≡ step_refusal all.now bytes
  pub settles : (h : Manner) (b : ℕ) → settle_reply h zeros.now b ≡ settle_reply h all.now b

-- "Journals whose multicast records have zeros there replay to the same logs": a journal, and one that has its
-- records with zeros.
pub record ReplaysApart (w journal zeros : List ℕ) : Type 0 where
  pub answer : replay_reply w zeros ≡ replay_reply w journal
  pub words : replay_refusal w journal ≡ 0 → replayed_words w zeros ≡ erased_words (replayed_words w journal)
  pub logs : replay_refusal w journal ≡ 0 → (p : ℕ) (log : Bool)
      → log_words (replayed_words w zeros) p log ≡ log_words (replayed_words w journal) p log

-- ---- the claims of card 1
pub record OrderNumbers : Type 0 where
  -- The number that the call gives is the one that the message was multicast with, after any list of items.
  pub kept : (w setup : List ℕ) (items : List Item) → making_refusal w setup ≡ 0 → (m o : ℕ)
      → (order_reply (run on_words (started_words w setup) items).now m ≡ gives o)
      ↔ Carries (started_words w setup) items m o
  -- In any state, numbers have no part in what a step is refused for, nor in what it does to anything but numbers.
  pub step_apart : (s : State) (x : Step)
      → (refusal (erased s) (erased_step x) ≡ refusal s x) × (step (erased s) (erased_step x) ≡ erased (step s x))
  -- "a record refused 4 for these bytes alone no longer is": bytes are a step with zeros there exactly as without.
  pub read_apart : (bytes : List ℕ) → read (erased_bytes bytes) ≡ erased_step (read bytes)
  -- So of every list of items, and of every journal that is accepted.
  pub run_apart : (w setup : List ℕ) (items : List Item) → making_refusal w setup ≡ 0
      → Apart (run on_words (started_words w setup) items) (run on_words (started_words w setup) (erased_items items))
  pub replay_apart : (w journal zeros : List ℕ) → journal_refusal journal ≡ 0 → journal_refusal zeros ≡ 0
      → records_of zeros ≡ erased_bytes (records_of journal) → ReplaysApart w journal zeros
