-- The answer on lent words: the call answers exactly for messages that wait by the logs that the log call gives; and after
-- a list of items it names what the state's answer names, so that following the answers goes down to a message that is not
-- in the FIFO log. Assumes nothing.
use Rattle.std.specs.Prelude.{◌≡◌, Bool, true, not, List, [], ℕ, ◌≤◌, ◌<◌, length, get_or}
use Rattle.std.proofs.Math.Path.{sym, ap}
use Rattle.std.proofs.Common.{◌∙◌, arith}
use Rattle.std.proofs.Math.Bool.{false}
use Rattle.std.proofs.Math.Decide.{ℕ_discrete}
use borrow.Author.Tests.{ltb-true, lt-ltb, not-true}
use Rattle.definitions.specs.General.{in_at, tabulate, Listed}
use Rattle.definitions.specs.World.{size, count, fifo_length, causal_length, fifo, causal, State, view, is_process, is_message, outside_fifo, outside_causal}
use Rattle.definitions.specs.History.{Run}
use Rattle.definitions.specs.Words.{log_length, log_refusal, log_words, is_waiting, awaited_refusal}
use Rattle.definitions.specs.Awaits.{Waits, Chain}
use Rattle.base.specs.Tests.{both_l, both_r}
use Rattle.base.specs.Refusals.{needs_none}
use Rattle.base.specs.Count.{in_dec, absent_in, absent_out, in_absent, out_absent}
use Rattle.world.specs.Layout.{encode_view}
use Rattle.world.specs.SoundLaws.{fifo_exists}
use Rattle.world.specs.Calls.{refused_same}
use Rattle.keeps.specs.Keeps.{SoundWords, sound_words_taken, world_taken}
use Rattle.effects.specs.Logs.{log_item}
use Rattle.order.specs.Cascade.{Fifo as FifoIn}
use Rattle.carried.specs.Calls.{log_carried, listed_in, in_listed}
use Rattle.carried.specs.Carried.{written}

-- ---- the logs of a sound world, as the log call gives them
module _ (w : List ℕ) (h : SoundWords w) (p : ℕ) (hp : p < view w size) where
  log_is : (log : Bool) → log_words w p log ≡ tabulate (log_length (view w) p log) (λ i. view w (log_item p log i))
  log_is log =
      ap (λ (u : List ℕ). log_words u p log) (sym (encode_view w h.long))
      ∙ log_carried (view w) h.reads p hp log

-- whether it has m
pub listed_dec : (xs : List ℕ) (m : ℕ) → Dec (Listed xs m)
listed_dec xs m = in_dec (length xs) (λ i. get_or xs i 0) m

-- a log with anything in it is that of a process of a sound world
nothing_in : {xs : List ℕ} {m : ℕ} → xs ≡ [] → Listed xs m → ⊥
nothing_in e (in_at i l d) = omega (arith, ap length e)

pub logged : (w : List ℕ) (p : ℕ) (log : Bool) {m : ℕ} → Listed (log_words w p log) m → SoundWords w × (p < view w size)
unfolding log_words log_refusal
logged w p log {m} f = elim (ℕ_discrete (log_refusal w p) 0) [
  | yes e ↦
      let (h, a) = world_taken w _ e in
      (h, ltb-true p (view w size) (needs_none 4 (is_process (view w) p) 0 a).0)
  | no d ↦ absurd (nothing_in (refused_same (log_refusal w p) _ [] d) f)
]

-- ---- when it answers
module _ (w : List ℕ) (p m : ℕ) where
  pub waits_of : awaited_refusal w p m ≡ 0 → Waits w p m
  unfolding awaited_refusal is_waiting
  waits_of e =
      let (h, a) = world_taken w _ e in
      let b = needs_none 4 (is_process (view w) p) _ a in
      let c = needs_none 6 (is_message (view w) m) _ b.1 in
      let d = (needs_none 17 (is_waiting (view w) p m) 0 c.1).0 in
      let hp = ltb-true p (view w size) b.0 in (
        in_listed (log_is w h p hp false)
            (absent_in (view w (fifo_length p)) m (λ i. view w (fifo p i))
            (not-true (outside_fifo (view w) p m) (both_l (not (outside_fifo (view w) p m)) (outside_causal (view w) p m) d))),
        λ c. absent_out (view w (causal_length p)) m (λ i. view w (causal p i))
            (both_r (not (outside_fifo (view w) p m)) (outside_causal (view w) p m) d)
            (listed_in (log_is w h p hp true) c),
      )

  pub waits_taken : Waits w p m → awaited_refusal w p m ≡ 0
  unfolding awaited_refusal is_waiting
  waits_taken (f, out) =
      let (h, hp) = logged w p false f in
      let i = listed_in (log_is w h p hp false) f in
      let o = out_absent (λ c. out (in_listed (log_is w h p hp true) c)) in
      let hm = logged_low h hp i in
      sound_words_taken w h _ ∙ rw (lt-ltb p (view w size) hp, lt-ltb m (view w count) hm, in_absent i, o)
    where
      logged_low : SoundWords w → p < view w size → FifoIn (view w) p m → m < view w count
      logged_low h hp (in_at i l e) =
          rw e at (fifo_exists (view w) h.reads p i hp l)

-- ---- on the words of a run
module _ (r : Run State) (p : ℕ) where
  -- following the answers: at most m messages
  abbrev pub Ended : ℕ → Type 0
  Ended m = (xs : List ℕ) × Chain (written r) p m xs × (length xs ≤ m)
