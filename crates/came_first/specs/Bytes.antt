-- The byte is precedence, for every run, over states: of one sender's messages to one group those before a message are a
-- prefix, so that one counter tells whether a message is among them (Counters of order), and the lowest group of a message
-- is one of its groups. Precedence is a strict partial order. Assumes nothing.
use Rattle.std.specs.Prelude.{◌≡◌, Bool, ◌≢◌, ℕ, ◌≤◌, eqb}
use Rattle.std.proofs.Math.Path.{refl}
use Rattle.std.proofs.Math.Bool.{true, false, not}
use Rattle.std.proofs.Common.{arith}
use Rattle.std.proofs.Math.Dec.{leb}
use borrow.Author.Tests.{leb-true, le-leb, eqb-false, not-true}
use Rattle.definitions.specs.General.{pick}
use Rattle.definitions.specs.World.{count, State}
use Rattle.definitions.specs.History.{Before, Run}
use Rattle.definitions.specs.Words.{entry_on, precedes_byte}
use Rattle.base.specs.Tests.{both, both_l, both_r, both_i, and_false, pick_yes, pick_le, eqb_refl, is_other}
use Rattle.order.specs.Precedence.{precedes_before, before_precedes}
use Rattle.order.specs.Runs.{Whole}
use Rattle.order.specs.Order.{lower}

-- ---- of any state
-- 0 of a message and itself
pub byte_itself : (s : State) (x : ℕ) → precedes_byte s x x ≡ 0
unfolding precedes_byte
byte_itself s x = rw (eqb_refl x, and_false)

-- 1 exactly when the first's entry is at most the second's and the two differ
module _ (s : State) (x m : ℕ) where
  pub byte_of : entry_on s x x ≤ entry_on s x m → x ≢ m → precedes_byte s x m ≡ 1
  unfolding precedes_byte
  byte_of l n =
      pick_yes 1 0
      (both_i (leb (entry_on s x x) (entry_on s x m)) (not (eqb x m)) (le-leb (entry_on s x x) (entry_on s x m) l)
      (is_other x m n))

  pub byte_says : precedes_byte s x m ≡ 1 → (entry_on s x x ≤ entry_on s x m) × (x ≢ m)
  unfolding precedes_byte
  byte_says e =
      let at_most = leb (entry_on s x x) (entry_on s x m) in
      let other = not (eqb x m) in
      let t = go (both at_most other) e in (
        leb-true (entry_on s x x) (entry_on s x m) (both_l at_most other t),
        eqb-false x m (not-true (eqb x m) (both_r at_most other t)),
      )
    where
      go : (b : Bool) → pick {A = ℕ} b 1 0 ≡ 1 → b ≡ true
      go true e = refl
      go false e = absurd (omega arith)

  -- else 0
  pub byte_small : precedes_byte s x m ≤ 1
  unfolding precedes_byte
  byte_small = pick_le (both (leb (entry_on s x x) (entry_on s x m)) (not (eqb x m))) (omega arith) (omega arith)

-- ---- of a run
module _ {r : Run State} (w : Whole r) where
  -- a message never precedes itself, since what precedes is lower
  pub never_itself : (x : ℕ) → ¬ Before r.seen x x
  never_itself x b = omega (arith, lower w x x b)

  -- what precedes one that precedes another precedes that
  pub before_chain : (x y z : ℕ) → Before r.seen x y → Before r.seen y z → Before r.seen x z
  before_chain x y z a b =
      let k = (precedes_before r.seen (r.now count) w.formed x y a).0 in
      let l = (precedes_before r.seen (r.now count) w.formed y z b).0 in
      before_precedes r.seen (r.now count) w.formed x z
      ((w.meaning.counting.closed.before z).chain y x l k) (omega (arith, lower w x y a, lower w y z b))
