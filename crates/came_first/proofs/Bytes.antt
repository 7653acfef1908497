-- The byte is precedence, for every run, over states (specs/Bytes says why). Assumes nothing.
use Rattle.std.specs.Prelude.{◌≡◌, ◌↔◌, ℕ, ◌<◌}
use Rattle.definitions.specs.General.{bit}
use Rattle.definitions.specs.World.{count, sender, mask, State}
use Rattle.definitions.specs.History.{Before, Run}
use Rattle.definitions.specs.Words.{lowest_group, precedes_byte}
use Rattle.base.specs.Search.{first_law}
use Rattle.order.specs.Precedence.{precedes_before, before_precedes}
use Rattle.order.specs.Counters.{stamp_le, counter_before}
use Rattle.order.specs.Runs.{Whole}
use Rattle.came_first.specs.Bytes.{byte_of, byte_says}

module _ {r : Run State} (w : Whole r) where
  -- 1 exactly when the first precedes the second
  pub byte_exact : (x m : ℕ) → x < r.now count → m < r.now count → lowest_group r.now x < 8
      → (precedes_byte r.now x m ≡ 1) ↔ Before r.seen x m
  byte_exact x m hx hm low =
      let s = r.now in
      let g = lowest_group s x in (
        (λ e.
            let (l, n) = byte_says s x m e in
            before_precedes r.seen (s count) w.formed x m
            (counter_before w.meaning.counting x m g hx hm ((first_law 8 0 (bit (s (mask x)))).hit low) l) n),
        (λ b.
            let (k, n) = precedes_before r.seen (s count) w.formed x m b in
            byte_of s x m (stamp_le w.meaning.counting m x g (s (sender x)) k) n),
      )
