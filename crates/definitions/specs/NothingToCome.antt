-- Nothing to come: what card 4 of document 02 claims of settle beside demand 3 (Demand), of both settles. What its answer
-- says of the letters that are left, for all lent words; and the limit of its arrivals, and lost letters, after any list of
-- items. It rests on Words and Demand. Assumes nothing.
use Rattle.std.specs.Prelude.{◌≡◌, true, false, List, ◌∷◌, ◌++◌, ℕ, ◌≤◌, ◌<◌}
use Rattle.definitions.specs.General.{gives}
use Rattle.definitions.specs.World.{view}
use Rattle.definitions.specs.Steps.{loses, read, in_flight}
use Rattle.definitions.specs.Settle.{done, stopped, Manner}
use Rattle.definitions.specs.History.{Item, given, run}
use Rattle.definitions.specs.Words.{making_refusal, step_refusal, settled_words, settle_reply, on_words, started_words}
use Rattle.definitions.specs.Demand.{Live, SaysDone}

-- "letter whose receiver is up, from origins up or down": that of kind k for m from q to p, one of all that a world has
-- room for, is in flight on the words w.
abbrev pub ToCome : List ℕ → ℕ → ℕ → ℕ → ℕ → Type 0
ToCome w k m q p = (k < 3) × (m < 64) × (q < 16) × Live w p × (in_flight (view w) k m q p ≡ true)

-- There is one.
pub data SomeToCome (w : List ℕ) : Type 0 where
  to_come : (k m q p : ℕ) → ToCome w k m q p → SomeToCome w

-- ---- the claims of card 4
pub record NothingToCome : Type 0 where
  -- "nothing was left to come": after a settle that says done no such letter is in flight.
  pub after_done : (o : Manner) (w : List ℕ) (b n : ℕ) → settle_reply o w b ≡ gives (done n)
      → SomeToCome (settled_words o w b) → ⊥
  -- "Stopped means that the budget is used and such a letter remains."
  pub after_stopped : (o : Manner) (w : List ℕ) (b n : ℕ) → settle_reply o w b ≡ gives (stopped n)
      → (n ≡ b) × SomeToCome (settled_words o w b)
  -- "The limit of 33,792 is the old one": allowed as many it says done, whether the trust rule held or not.
  pub within_limit : (o : Manner) (w setup : List ℕ) (items : List Item) → making_refusal w setup ≡ 0 → (b : ℕ)
      → 33792 ≤ b
      → SaysDone (settle_reply o (run on_words (started_words w setup) items).now b)
  -- "A letter already lost is gone": after its loss, and whatever items follow, it is not in flight.
  pub lost_gone : (w setup bytes : List ℕ) (before after : List Item) (k m q p : ℕ) → making_refusal w setup ≡ 0
      → read bytes ≡ loses k m q p → step_refusal (run on_words (started_words w setup) before).now bytes ≡ 0
      → in_flight (view (run on_words (started_words w setup) (before ++ (given bytes ∷ after))).now) k m q p ≡ false
