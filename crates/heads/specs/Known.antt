-- What a part of the soundness test knows from the parts before it. Assumes nothing.
use Rattle.std.specs.Prelude.{◌≡◌, true, List, ℕ, ◌≤◌, ◌<◌, length}
use Rattle.definitions.specs.General.{bit}
use Rattle.definitions.specs.World.{State, size, count, rule, group, sender, mask, view, has_group}
use Rattle.definitions.specs.Sound.{fine}

-- The words are 20,480; n and the number of messages are theirs and obey their limits; the word for a later
-- rule is zero.
pub record Sized (w : List ℕ) (n messages : ℕ) : Type 0 where
  pub long : length w ≡ 20480
  pub size_is : n ≡ view w size
  pub low : 1 ≤ n
  pub high : n ≤ 16
  pub count_is : messages ≡ view w count
  pub few : messages ≤ 64
  pub spare : view w rule ≡ 0

-- groups is the set of the groups that exist.
pub record Grouped (s : State) (groups : ℕ) : Type 0 where
  pub exist : (g : ℕ) → bit groups g ≡ has_group s g

-- Each process has a group that may be.
pub record Placed (s : State) : Type 0 where
  pub fine_groups : (p : ℕ) → p < s size → fine s (group p) ≡ true

-- Each message has a sender and a mask that may be.
pub record Headed (s : State) : Type 0 where
  pub fine_senders : (m : ℕ) → m < s count → fine s (sender m) ≡ true
  pub fine_masks : (m : ℕ) → m < s count → fine s (mask m) ≡ true
