-- A log in words: its items, and what one pass over the FIFO log of a process tells. Assumes nothing.
use Rattle.std.specs.Prelude.{◌≡◌, Bool, ◌&&◌, List, ℕ, ◌+◌, ◌≤◌, ◌<◌, eqb, length, get_or}
use Rattle.definitions.specs.General.{every, tally, absent, bit}
use Rattle.sets.specs.Members.{Members}
use Rattle.sets.specs.Powers.{Powers, Low}

-- The items of the log that stands from a on.
abbrev pub log_at : List ℕ → ℕ → ℕ → ℕ
log_at w a i = get_or w (a + i) 0

-- Item i passes the test, and is none of the items before it.
unfoldable pub item_ok : (ℕ → ℕ) → (ℕ → Bool) → ℕ → Bool
item_ok log test i = test (log i) && absent i (log i) log

-- The items of a log are below 64, and so many have their places in the tables of addressees, senders and bits.
pub record Passable (log to from bits : List ℕ) : Type 0 where
  pub items : Low log
  pub few : length log ≤ 64
  pub addressees : length to ≡ 64
  pub senders : length from ≡ 64
  pub small : (m : ℕ) → m < 64 → get_or from m 0 < 16
  pub powers : Powers bits

-- Of n items: their set, the processes that every item is addressed to, and how many are of each sender.
pub record Passed (log : ℕ → ℕ) (n : ℕ) (to from : List ℕ) (set all : ℕ) (counts : List ℕ) : Type 0 where
  pub members : Members set n log
  pub common : (p : ℕ) → p < 16 → bit all p ≡ every n (λ i. bit (get_or to (log i) 0) p)
  pub long : length counts ≡ 16
  pub counted : (q : ℕ) → q < 16 → get_or counts q 0 ≡ tally n (λ i. eqb (get_or from (log i) 0) q)
