-- The sender of each message as a table. Assumes nothing.
use Rattle.std.specs.Prelude.{◌≡◌, List, ℕ, ◌+◌, ◌≤◌, ◌<◌, length, get_or, set}
use Rattle.std.proofs.Common.{◌∙◌, arith, length-set, get_or-set_other}
use Rattle.definitions.specs.World.{State, sender}
use Rattle.sets.specs.Powers.{stored_more}

-- t has the sender of each of the first k messages, and 0 past them.
pub record Senders (s : State) (k : ℕ) (t : List ℕ) : Type 0 where
  pub long : length t ≡ 64
  pub at : (m : ℕ) → m < k → get_or t m 0 ≡ s (sender m)
  pub past : (m : ℕ) → k ≤ m → m < 64 → get_or t m 0 ≡ 0

pub senders_none : (s : State) (t : List ℕ) → length t ≡ 64 → ((m : ℕ) → m < 64 → get_or t m 0 ≡ 0) → Senders s 0 t
senders_none s t l h = record { long = l; at = λ m k. absurd (omega arith); past = λ m _ k. h m k }

pub senders_more : (s : State) (k v : ℕ) (t : List ℕ) → k < 64 → v ≡ s (sender k) → Senders s k t
    → Senders s (k + 1) (set t k v)
senders_more s k v t hk ev h = record {
  long = simp length-set h.long;
  at = stored_more t (λ m. s (sender m)) k v (let z = h.long in omega arith) ev h.at;
  past = λ m a b. get_or-set_other t k m v 0 (λ e. omega arith) ∙ h.past m (omega arith) b;
}
