-- What the OKs leave (specs/Sends): the bounds. Assumes nothing.
use Rattle.std.specs.Prelude.{ℕ}
use Rattle.definitions.specs.World.{State, put}
use Rattle.definitions.specs.Machine.{send_oks}
use Rattle.bounds.specs.Bounds.{Bounds}
use Rattle.sends.specs.Sends.{oks_keep}

pub bounds_oks : (p q k : ℕ) (s : State) → Bounds s → Bounds (send_oks s p q k)
unfolding put
bounds_oks p q k s h = oks_keep p q (λ t. Bounds t) (λ t m z. z) k s h
