-- The bytes that a call leaves for a pair of messages of a run are precedence (specs/Words). Assumes nothing.
use Rattle.std.specs.Prelude.{◌≡◌, ◌↔◌, ℕ, ◌<◌}
use Rattle.std.proofs.Common.{◌∙◌, arith}
use Rattle.definitions.specs.World.{count, State, encode}
use Rattle.definitions.specs.History.{Before, Run}
use Rattle.definitions.specs.CameFirst.{Says, Exact}
use Rattle.order.specs.Runs.{Whole}
use Rattle.carried.specs.Same.{same}
use Rattle.carried.specs.Calls.{view_agree}
use Rattle.carried.specs.Carried.{written}
use Rattle.came_first.specs.Masks.{Masked, lowest_there}
use Rattle.came_first.specs.Bytes.{never_itself, before_chain}
use Rattle.came_first.specs.Words.{says_asked, byte_read}
use Rattle.came_first.proofs.Bytes.{byte_exact}

-- ---- on the words of a run
module _ (r : Run State) (w : Whole r) (masked : Masked r.now) where
  -- a call's byte is precedence
  exact_said : (x m b : ℕ) → Says (encode r.now) x m b → (b ≡ 1) ↔ Before r.seen x m
  exact_said x m b y =
      let a = says_asked y in
      let e = same (view_agree r.now w.sound) count tt in
      let hx : x < r.now count = omega (arith, a.first_there) in
      let hm : m < r.now count = omega (arith, a.second_there) in
      let low = lowest_there r.now w.sound masked x hx in
      rw (← (byte_read r.now w.sound x m hx hm low ∙ a.is_byte)) (byte_exact w x m hx hm low)

  pub exact_written : Exact (written r)
  exact_written = record {
    exact = exact_said;
    never = never_itself w;
    chain = before_chain w;
  }
