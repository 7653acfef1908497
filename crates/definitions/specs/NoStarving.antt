-- No machine starves: what card 7 of document 02 claims of its settle, and of both, beside demand 3 (Demand) and what is
-- left to come (NothingToCome). It rests on Words, Answers, Demand and NothingToCome. Assumes nothing.
use Rattle.std.specs.Prelude.{◌≡◌, List, ◌↔◌, ℕ, ◌+◌, ◌≤◌, ◌<◌}
use Rattle.definitions.specs.General.{gives}
use Rattle.definitions.specs.World.{size, view}
use Rattle.definitions.specs.Steps.{arrives}
use Rattle.definitions.specs.Settle.{Ending, Manner, by_turns}
use Rattle.definitions.specs.History.{Item, run}
use Rattle.definitions.specs.Words.{needs_world, making_refusal, step_words, settled_words, settle_reply, on_words, started_words}
use Rattle.definitions.specs.Answers.{arrivals_in}
use Rattle.definitions.specs.Demand.{Process, Fifo, Causal}
use Rattle.definitions.specs.NothingToCome.{ToCome}

-- ---- "Within a call": after j of its arrivals the words are those that a call leaves which is allowed j
-- The next arrival is at p: the one that a call makes which is allowed one more.
pub data ArrivesAt (o : Manner) (w : List ℕ) (j p : ℕ) : Type 0 where
  arrives_at : (k m q : ℕ) → ToCome (settled_words o w j) k m q p
      → settled_words o w (j + 1) ≡ step_words (settled_words o w j) (arrives k m q p)
      → ArrivesAt o w j p

-- One of the n arrivals after i is at p, so that "at most n − 1 arrivals elsewhere pass before".
pub data ArrivesWithin (o : Manner) (w : List ℕ) (i n p : ℕ) : Type 0 where
  arrives_within : (j : ℕ) → i ≤ j → j < i + n → ArrivesAt o w j p → ArrivesWithin o w i n p

-- A call that made n arrivals leaves what one leaves that is allowed n, and each of the n is an arrival.
pub record Made (o : Manner) (w : List ℕ) (b n : ℕ) : Type 0 where
  pub allowed : n ≤ b
  pub leaves : settled_words o w b ≡ settled_words o w n
  pub each : (j : ℕ) → j < n → (p : ℕ) × ArrivesAt o w j p

-- ---- "the same messages in every FIFO log, though the logs' order may differ"
-- Beyond the card: in every causal log too.
pub record SameMessages (w u : List ℕ) : Type 0 where
  pub processes : view w size ≡ view u size
  pub fifo : (p m : ℕ) → Process w p → Fifo w p m ↔ Fifo u p m
  pub causal : (p m : ℕ) → Process w p → Causal w p m ↔ Causal u p m

-- ---- the claims of card 7
pub record NoStarving : Type 0 where
  -- Each settle makes its arrivals one by one: of all lent words.
  pub one_by_one : (o : Manner) (w : List ℕ) (b : ℕ) (e : Ending) → settle_reply o w b ≡ gives e
      → Made o w b (arrivals_in e)
  -- "while a letter waits for an up process among n, at most n − 1 arrivals elsewhere pass before one arrives there":
  -- of all words that are a sound world.
  pub starves_none : (w : List ℕ) (i k m q p : ℕ) → needs_world w 0 ≡ 0
      → ToCome (settled_words by_turns w i) k m q p
      → ArrivesWithin by_turns w i (view w size) p
  -- "From any world that a list of steps reached .. both settles, each allowed 33,792 arrivals, end with the same
  -- messages": whether the trust rule held or not.
  pub same_end : (w setup : List ℕ) (items : List Item) → making_refusal w setup ≡ 0
      → (o h : Manner) (a b : ℕ) → 33792 ≤ a → 33792 ≤ b
      → SameMessages (settled_words o (run on_words (started_words w setup) items).now a)
      (settled_words h (run on_words (started_words w setup) items).now b)
