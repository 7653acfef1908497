-- The sentences on the letters that a settle leaves as a reader takes them from `nothing_to_come`, on the words that the
-- calls give: each with its hypotheses written out, and no more. A weaker statement would not give them. Assumes nothing.
use Rattle.std.specs.Prelude.{◌≡◌, refl, Bool, true, false, List, [], ◌∷◌, ◌++◌, ℕ, ◌≤◌, ◌<◌}
use Rattle.std.proofs.Common.{lt-ltb}
use Rattle.definitions.specs.General.{Reply, gives, bit, every}
use Rattle.definitions.specs.World.{size, up, flight, view}
use Rattle.definitions.specs.Steps.{loses, read}
use Rattle.definitions.specs.Settle.{Ending, done, stopped, Manner}
use Rattle.definitions.specs.History.{Item, given, run}
use Rattle.definitions.specs.Words.{making_refusal, step_refusal, settled_words, settle_reply, on_words, started_words}
use Rattle.definitions.specs.Demand.{SaysDone, says_done}
use Rattle.definitions.specs.NothingToCome.{SomeToCome, to_come}
use Rattle.nothing_to_come.proofs.Theorem.{nothing_to_come}

-- ---- any lent words, either settle: what its answer says of the words that it leaves
module _ (o : Manner) (w : List ℕ) (b n : ℕ) where
  abbrev left : List ℕ
  left = settled_words o w b

  -- done: no letter is in flight to a process that is up, wherever it comes from
  pub none_in_flight : settle_reply o w b ≡ gives (done n) → (k m q p : ℕ) → k < 3 → m < 64 → q < 16
      → p < view left size → view left (up p) ≡ 1 → bit (view left (flight m k q)) p ≡ false
  none_in_flight e k m q p hk hm hq hp u = go (bit (view left (flight m k q)) p) refl
    where
      go : (x : Bool) → bit (view left (flight m k q)) p ≡ x → x ≡ false
      go false z = refl
      go true z = absurd (nothing_to_come.after_done o w b n e (to_come k m q p (hk, hm, hq, (hp, u), z)))

  -- stopped: the budget is used
  pub budget_used : settle_reply o w b ≡ gives (stopped n) → n ≡ b
  budget_used e = (nothing_to_come.after_stopped o w b n e).0

  -- and a letter is in flight to a process that is up
  pub one_in_flight : settle_reply o w b ≡ gives (stopped n)
      → (k : ℕ) × (m : ℕ) × (q : ℕ) × (p : ℕ) × (k < 3) × (m < 64) × (q < 16) × (p < view left size)
      × (view left (up p) ≡ 1) × (bit (view left (flight m k q)) p ≡ true)
  one_in_flight e = go (nothing_to_come.after_stopped o w b n e).1
    where
      go : SomeToCome (settled_words o w b)
          → (k : ℕ) × (m : ℕ) × (q : ℕ) × (p : ℕ) × (k < 3) × (m < 64) × (q < 16) × (p < view (settled_words o w b) size)
          × (view (settled_words o w b) (up p) ≡ 1) × (bit (view (settled_words o w b) (flight m k q)) p ≡ true)
      go (to_come k m q p (hk, hm, hq, (hp, u), z)) = (k, m, q, p, hk, hm, hq, hp, u, z)

-- ---- after a list of items from a fresh world
answer : {x : Reply Ending} → SaysDone x → (n : ℕ) × (x ≡ gives (done n))
answer (says_done n) = (n, refl)

module _ (w setup : List ℕ) (taken : making_refusal w setup ≡ 0) where
  abbrev after : List Item → List ℕ
  after items = (run on_words (started_words w setup) items).now

  -- a settle allowed 33,792 arrivals says done, and nothing is left to come to a process that is up
  pub at_limit : (o : Manner) (items : List Item) (b : ℕ) → 33792 ≤ b
      → (n : ℕ) × (settle_reply o (after items) b ≡ gives (done n))
  at_limit o items b l = answer (nothing_to_come.within_limit o w setup items taken b l)

  pub none_at_limit : (o : Manner) (items : List Item) (b : ℕ) → 33792 ≤ b → (k m q p : ℕ) → k < 3 → m < 64 → q < 16
      → p < view (settled_words o (after items) b) size → view (settled_words o (after items) b) (up p) ≡ 1
      → bit (view (settled_words o (after items) b) (flight m k q)) p ≡ false
  none_at_limit o items b l =
      let (n, e) = at_limit o items b l in none_in_flight o (after items) b n e

  -- a letter whose loss was taken is in flight no more, whatever steps and settles follow
  pub lost_for_good : (before more : List Item) (k m q p : ℕ) → k < 3
      → step_refusal (after before) (3 ∷ k ∷ m ∷ q ∷ p ∷ 0 ∷ 0 ∷ 0 ∷ []) ≡ 0
      → bit (view (after (before ++ (given (3 ∷ k ∷ m ∷ q ∷ p ∷ 0 ∷ 0 ∷ 0 ∷ []) ∷ more))) (flight m k q)) p ≡ false
  unfolding read every
  lost_for_good before more k m q p hk ok =
      nothing_to_come.lost_gone w setup (3 ∷ k ∷ m ∷ q ∷ p ∷ 0 ∷ 0 ∷ 0 ∷ []) before more k m q p taken is_loss ok
    where
      is_loss : read (3 ∷ k ∷ m ∷ q ∷ p ∷ 0 ∷ 0 ∷ 0 ∷ []) ≡ loses k m q p
      is_loss = rw (lt-ltb k 3 hk)
