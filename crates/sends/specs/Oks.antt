-- The OKs that a process owes after a delivery, found from the set of the sender's messages: what is sent, and which of
-- these messages are ready. Assumes nothing.
use Rattle.std.specs.Prelude.{◌≡◌, Bool, true, false, List, ℕ, ◌<◌, min, ltb, eqb}
use Rattle.std.proofs.Math.Path.{refl}
use Rattle.std.proofs.Common.{sym, ap, ◌∙◌, lt-ltb}
use Rattle.definitions.specs.General.{every}
use Rattle.base.specs.Tests.{both, eqb_refl}
use Rattle.sets.specs.Lowest.{Has, lowest}
use Rattle.sets.specs.Sweep.{Sweep}
use Rattle.index.specs.Index.{is_from, frame}
use Rattle.sends.specs.Ready.{cleared}
use Rattle.definitions.specs.World.{size, count, held, sender, State, encode, outside_fifo}
use Rattle.definitions.specs.Machine.{in_turn, marked, ready, due, send_oks}

-- p owes an OK for m.
abbrev pub owed : State → ℕ → ℕ → Bool
owed s p m = due s p (s (sender m)) m

-- what is ready is owed one
pub ready_owed : (s : State) (p m : ℕ) → ready s p m ≡ both (owed s p m) (cleared s p m)
unfolding ready due
ready_owed s p m =
    turned (eqb (s (held p m)) 1) (outside_fifo s p m) (in_turn s p m) (every (s size) (marked s p m))
    ∙ sym (ap (λ (b : Bool). both (both (both (eqb (s (held p m)) 1) b) (in_turn s p m)) (cleared s p m)) (eqb_refl (s (sender m))))
  where
    turned : (h o i a : Bool) → both (both (both h o) i) a ≡ both (both (both h true) i) (both o a)
    turned true true i a = refl
    turned true false true a = refl
    turned true false false a = refl
    turned false o i a = refl

-- of a message that is not of q none is owed
pub not_from : (s : State) (p q m : ℕ) → m < s count → is_from (frame s) q m ≡ false → due s p q m ≡ false
unfolding due
not_from s p q m l e =
    ap (λ (b : Bool). both (both (eqb (s (held p m)) 1) b) (in_turn s p m))
    (sym (ap (λ (b : Bool). both b (eqb (s (sender m)) q)) (lt-ltb m (s count) l)) ∙ e)
    ∙ go (eqb (s (held p m)) 1)
  where
    go : (a : Bool) → both (both a false) (in_turn s p m) ≡ false
    go true = refl
    go false = refl

-- ---- the loop over the messages of q
pub record Sending (s : State) (p q : ℕ) (w : List ℕ) (left now_ready now_sent : ℕ) : Type 0 where
  pub members : Sweep (is_from (frame s) q) (λ _. Unit {0}) left
  pub words : w ≡ encode (send_oks s p q (min (lowest left) (s count)))
  pub ready_are : Has now_ready (λ m. both (ltb m (lowest left)) (both (is_from (frame s) q m) (ready s p m)))
  pub sent_are : Has now_sent (λ m. both (ltb m (lowest left)) (both (is_from (frame s) q m) (due s p q m)))
