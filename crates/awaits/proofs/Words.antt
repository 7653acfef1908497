-- After a list of items the call names on the words what the state's answer names, so that following the answers goes down to
-- a message that is not in the FIFO log. Assumes nothing.
use Rattle.std.specs.Prelude.{true, List, [], ◌∷◌, ℕ, zero, suc, ◌<◌, length}
use Rattle.std.proofs.Math.Path.{sym, ap}
use Rattle.std.proofs.Common.{◌∙◌, arith, not-suc-le-zero}
use Rattle.std.proofs.Math.Bool.{false}
use Rattle.definitions.specs.General.{gives, reply}
use Rattle.definitions.specs.World.{size, count, sender, State, encode, view}
use Rattle.definitions.specs.Machine.{awaited}
use Rattle.definitions.specs.History.{Run}
use Rattle.definitions.specs.Words.{log_words, awaited_reply}
use Rattle.definitions.specs.Demand.{Fifo}
use Rattle.definitions.specs.Awaits.{Waits, Named, Chain, ends, goes}
use Rattle.world.specs.SoundLaws.{size_high, count_high}
use Rattle.order.specs.Cascade.{Fifo as FifoIn, Causal as CausalIn}
use Rattle.order.specs.Runs.{Whole}
use Rattle.order.specs.Order.{lower}
use Rattle.carried.specs.Same.{Agree, same, awaited_agree, to_agree}
use Rattle.carried.specs.Calls.{view_agree, log_carried, listed_in, in_listed}
use Rattle.carried.specs.Carried.{written}
use Rattle.awaits.specs.Next.{Told, message_low}
use Rattle.awaits.proofs.Next.{all_told}
use Rattle.awaits.specs.Words.{listed_dec, logged, waits_taken, Ended}

-- ---- on the words of a run
module _ (r : Run State) (w : Whole r) where
  agree : Agree r.now (view (encode r.now))
  agree = view_agree r.now w.sound

  low : (m : ℕ) → m < r.now count → m < 64
  low m l = omega (arith, count_high r.now w.sound)

  module _ (p : ℕ) where
    process_there : {m : ℕ} → Fifo (encode r.now) p m → p < r.now size
    process_there f = omega (arith, (logged (encode r.now) p false f).1, same agree size tt)

    -- what waits by the log call's words waits in the state
    module _ (m : ℕ) (y : Waits (encode r.now) p m) where
      in_fifo : FifoIn r.now p m
      in_fifo = listed_in (log_carried r.now w.sound p (process_there y.0) false) y.0

      not_in_causal : CausalIn r.now p m → ⊥
      not_in_causal c = y.1 (in_listed (log_carried r.now w.sound p (process_there y.0) true) c)

      told : Told r p m
      told = all_told w p m in_fifo not_in_causal

      waiting_low : m < 64
      waiting_low = low m (message_low w p m in_fifo not_in_causal)

    -- the call names what the state's answer names
    pub named_written : (m : ℕ) → Waits (encode r.now) p m → Named (written r) p m
    unfolding awaited_reply
    named_written m y =
        let t = told m y in
        let hp = process_there y.0 in
        let p16 : p < 16 = omega (arith, size_high r.now w.sound) in
        let x64 = low t.message t.exists in
        record {
          of = t.of;
          message = t.message;
          answer = ap (λ (n : ℕ). reply n (awaited (view (encode r.now)) p m)) (waits_taken (encode r.now) p m y)
              ∙ ap gives (sym (awaited_agree agree p p16 m (waiting_low m y)) ∙ t.answer);
          sent_by = sym (same agree (sender t.message) x64) ∙ t.next.of;
          to = sym (to_agree agree t.message p x64 p16) ∙ t.next.to;
          exists = omega (arith, t.exists, same agree count tt);
          precedes = t.precedes;
          undelivered = λ c. t.undelivered (listed_in (log_carried r.now w.sound p hp true) c);
        }

    -- following the answers: each message named is lower
    chain_down : (k m : ℕ) → m < k → Waits (encode r.now) p m → Ended r p m
    chain_down zero m h y = absurd (not-suc-le-zero h)
    chain_down (suc k) m h y =
        go (named_written m y) (λ x l z. chain_down k x (omega arith) z)
      where
        go : Named (written r) p m → ((x : ℕ) → x < m → Waits (encode r.now) p x → Ended r p x) → Ended r p m
        go n rest =
            let x = n.message in
            let down = lower w x m n.precedes in
            elim (listed_dec (log_words (encode r.now) p false) x) [
              | yes f ↦
                  let (xs, c, l) = rest x down (f, n.undelivered) in
                  (x ∷ xs, goes n.answer n.precedes c, omega arith)
              | no f ↦ (x ∷ [], goes n.answer n.precedes (ends f), omega arith)
            ]

    pub chain_written : (m : ℕ) → Waits (encode r.now) p m
        → (xs : List ℕ) × Chain (written r) p m xs × (length xs < 64)
    chain_written m y =
        let (xs, c, l) = chain_down (suc m) m (omega arith) y in
        (xs, c, omega (arith, waiting_low m y))
