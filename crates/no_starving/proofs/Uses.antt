-- The sentences on the arrivals of the two settles as a reader takes them from `no_starving`, on the words that the calls
-- leave: each with its hypotheses written out, and no more. A weaker statement would not give them. Assumes nothing.
use Rattle.std.specs.Prelude.{◌≡◌, true, false, List, ℕ, ◌+◌, ◌-◌, ◌≤◌, ◌<◌, length, get_or}
use Rattle.std.proofs.Common.{arith}
use Rattle.definitions.specs.General.{gives, In, bit}
use Rattle.definitions.specs.World.{size, up, flight, view}
use Rattle.definitions.specs.Steps.{arrives}
use Rattle.definitions.specs.Settle.{Ending, Manner, lowest_first, by_turns}
use Rattle.definitions.specs.History.{Item, run}
use Rattle.definitions.specs.Words.{needs_world, making_refusal, step_words, settled_words, settle_reply, log_words, on_words, started_words}
use Rattle.definitions.specs.Answers.{arrivals_in}
use Rattle.definitions.specs.NoStarving.{ArrivesAt, arrives_at, ArrivesWithin, arrives_within}
use Rattle.no_starving.proofs.Theorem.{no_starving}

-- m stands in the list.
abbrev Has : List ℕ → ℕ → Type 0
Has xs m = In (length xs) (λ i. get_or xs i 0) m

-- the letter of kind k for m from q to p is in flight on the words w, and p is up
abbrev Waits : List ℕ → ℕ → ℕ → ℕ → ℕ → Type 0
Waits w k m q p =
    (k < 3) × (m < 64) × (q < 16) × (p < view w size) × (view w (up p) ≡ 1) × (bit (view w (flight m k q)) p ≡ true)

-- a letter that waits for p arrives, and that leads from the words w to the words u
abbrev ArrivalAt : List ℕ → List ℕ → ℕ → Type 0
ArrivalAt w u p = (k : ℕ) × (m : ℕ) × (q : ℕ) × Waits w k m q p × (u ≡ step_words w (arrives k m q p))

read : {o : Manner} {w : List ℕ} {j p : ℕ} → ArrivesAt o w j p
    → ArrivalAt (settled_words o w j) (settled_words o w (j + 1)) p
read (arrives_at k m q (hk, hm, hq, (hp, u), z) e) = (k, m, q, (hk, hm, hq, hp, u, z), e)

-- ---- any lent words, either settle: what it leaves and answers, arrival by arrival
module _ (o : Manner) (w : List ℕ) (b : ℕ) (e : Ending) (says : settle_reply o w b ≡ gives e) where
  -- it makes no more than it is allowed
  pub no_more_than_allowed : arrivals_in e ≤ b
  no_more_than_allowed = (no_starving.one_by_one o w b e says).allowed

  -- and leaves what it leaves where it is allowed just as many
  pub allowed_as_many : settled_words o w b ≡ settled_words o w (arrivals_in e)
  allowed_as_many = (no_starving.one_by_one o w b e says).leaves

  -- each of them is the arrival of a letter that waits for a process that is up
  pub arrival_after : (j : ℕ) → j < arrivals_in e
      → (p : ℕ) × ArrivalAt (settled_words o w j) (settled_words o w (j + 1)) p
  arrival_after j l = let (p, a) = (no_starving.one_by_one o w b e says).each j l in (p, read a)

-- ---- any words that are a world, the settle by turns
module _ (w : List ℕ) (world : needs_world w 0 ≡ 0) where
  abbrev left : ℕ → List ℕ
  left i = settled_words by_turns w i

  -- if after i arrivals a letter waits for p, there is one at p before n more have passed
  pub no_process_starves : (i k m q p : ℕ) → Waits (left i) k m q p
      → (j : ℕ) × (i ≤ j) × (j < i + view w size) × ArrivalAt (left j) (left (j + 1)) p
  no_process_starves i k m q p (hk, hm, hq, hp, u, z) =
      go (no_starving.starves_none w i k m q p world (hk, hm, hq, (hp, u), z))
    where
      go : ArrivesWithin by_turns w i (view w size) p
          → (j : ℕ) × (i ≤ j) × (j < i + view w size) × ArrivalAt (left j) (left (j + 1)) p
      go (arrives_within j l h a) = (j, l, h, read a)

  -- so at most n − 1 arrivals elsewhere pass before it
  pub few_elsewhere : (i k m q p : ℕ) → Waits (left i) k m q p
      → (d : ℕ) × (d ≤ view w size - 1) × ArrivalAt (left (i + d)) (left (i + d + 1)) p
  few_elsewhere i k m q p h =
      let (j, l, g, a) = no_process_starves i k m q p h in
      let e : i + (j - i) ≡ j = omega arith in
      (j - i, omega arith, rw e a)

-- ---- after a list of items from a fresh world
module _ (w setup : List ℕ) (taken : making_refusal w setup ≡ 0) (items : List Item) where
  -- the words that a settle leaves there
  abbrev end : Manner → ℕ → List ℕ
  end o b = settled_words o (run on_words (started_words w setup) items).now b

  -- two settles of either manner, each allowed at least 33,792 arrivals
  module _ (o h : Manner) (a b : ℕ) (ha : 33792 ≤ a) (hb : 33792 ≤ b) where
    pub same_processes : view (end o a) size ≡ view (end h b) size
    same_processes = (no_starving.same_end w setup items taken o h a b ha hb).processes

    -- end with the same messages in the FIFO log of every process, up or down
    pub fifo_of_both : (p m : ℕ) → p < view (end o a) size
        → Has (log_words (end o a) p false) m → Has (log_words (end h b) p false) m
    fifo_of_both p m hp = ((no_starving.same_end w setup items taken o h a b ha hb).fifo p m hp).0

    -- and in its causal log
    pub causal_of_both : (p m : ℕ) → p < view (end o a) size
        → Has (log_words (end o a) p true) m → Has (log_words (end h b) p true) m
    causal_of_both p m hp = ((no_starving.same_end w setup items taken o h a b ha hb).causal p m hp).0

  -- the lowest first, and by turns
  pub lowest_and_turns : (p m : ℕ) → p < view (end lowest_first 33792) size
      → (Has (log_words (end lowest_first 33792) p false) m → Has (log_words (end by_turns 33792) p false) m)
      × (Has (log_words (end by_turns 33792) p false) m → Has (log_words (end lowest_first 33792) p false) m)
  lowest_and_turns p m hp =
      let same = no_starving.same_end w setup items taken lowest_first by_turns 33792 33792 (omega arith) (omega arith) in
      ((same.fifo p m hp).0, (same.fifo p m hp).1)
