-- Demand 3: for every lent world of 20,480 words, every setup record that is taken and every list of items,
-- what the calls give has causal order, either settle makes at most 33,792 arrivals, and under the trust rule a
-- settle allowed that many says done and leaves the FIFO logs agreed. No hypothesis but the trust rule where
-- the demand names it. It is the demand over states (States), read off the words of the run's state (Words).
-- Assumes nothing.
use Rattle.std.specs.Prelude.{◌≡◌, true, false, List, ℕ, ◌≤◌, ◌<◌, length, get_or}
use Rattle.std.proofs.Common.{sym, ◌∙◌, arith}
use Rattle.std.proofs.Math.Path.{ap}
use Rattle.definitions.specs.General.{in_at, gives}
use Rattle.definitions.specs.World.{size, count, up, causal_length, causal, sender, State, encode, view, addressed}
use Rattle.definitions.specs.Setup.{setup_refusal}
use Rattle.definitions.specs.Settle.{Ending, done, stopped, Manner}
use Rattle.definitions.specs.History.{Before, casts, Run, Item, run}
use Rattle.definitions.specs.Words.{settle_reply, log_words, on_words}
use Rattle.definitions.specs.Demand.{CausalOrder, Agreed, AtMost, done_within, stopped_within, SaysDone, says_done, Demand3, Demand3Always}
use Rattle.base.specs.Tabulate.{length_tabulate, get_d_tabulate}
use Rattle.world.specs.Layout.{get_encode}
use Rattle.world.specs.SoundLaws.{Sound, size_high, count_high, sender_low, fifo_exists}
use Rattle.world.specs.Runs.{on_states, started}
use Rattle.keeps.specs.Keeps.{fresh_sound, reached_sound}
use Rattle.order.specs.Precedence.{cast_low}
use Rattle.order.specs.Runs.{Whole}
use Rattle.order.specs.Cascade.{Fifo}
use Rattle.order.specs.Order.{causal_past, past_causal, causal_once, causal_ordered}
use Rattle.agreement.specs.Agreement.{Agreed as AgreedStates}
use Rattle.bound.specs.Settle.{arrivals, SaysDone as EndsDone}
use Rattle.carried.specs.Calls.{log_carried, listed_in, in_listed}
use Rattle.carried.specs.Carried.{written, settled_sound, settled_carried, answer_carried, run_carried, setup_taken, start_carried}
use Rattle.demand.specs.States.{settled, Demand3States, demand_3_states}
use Rattle.demand.specs.Words.{size_read, to_read, rule_read}

-- ---- conclusions 1 and 2
module _ (r : Run State) (h : Sound r.now) (w : Whole r) where
  process_low : (p : ℕ) → p < view (encode r.now) size → p < r.now size
  process_low p l = omega (arith, size_read r.now h)

  -- a message that precedes another is below the count, so that its mask is read right
  to_same : (x m p : ℕ) → Before r.seen x m → p < r.now size
      → addressed (view (encode r.now)) x p ≡ addressed r.now x p
  to_same x m p (casts q q' i j z) hp =
      to_read r.now h x p (omega (arith, cast_low r.seen w.formed i, count_high r.now h))
      (omega (arith, size_high r.now h))

  -- on the words of a run
  causal_order : CausalOrder (written r)
  causal_order = record {
    exact = λ p m l. let hp = process_low p l in (
      (λ c.
          let y = causal_past w p m (listed_in (log_carried r.now h p hp true) c) in (
            in_listed (log_carried r.now h p hp false) y.0,
            λ x b t. in_listed (log_carried r.now h p hp false) (y.1 x b (sym (to_same x m p b hp) ∙ t)),
          )),
      (λ y. in_listed (log_carried r.now h p hp true)
          (past_causal w p m (listed_in (log_carried r.now h p hp false) y.0)
          (λ x b t. listed_in (log_carried r.now h p hp false) (y.1 x b (to_same x m p b hp ∙ t))))),
    );
    once = λ p l i j a k e.
        let hp = process_low p l in
        let kj : j < r.now (causal_length p) = omega (arith, long p hp) in
        causal_once w p i j a kj (sym (item p hp i (omega arith)) ∙ e ∙ item p hp j kj);
    ordered = λ p i j l hi hj b.
        let hp = process_low p l in
        let ki : i < r.now (causal_length p) = omega (arith, long p hp) in
        let kj : j < r.now (causal_length p) = omega (arith, long p hp) in
        causal_ordered w p i j ki kj (rw (item p hp j kj, item p hp i ki) at b);
  }
    where
      long : (p : ℕ) → p < r.now size
          → length (log_words (encode r.now) p true) ≡ r.now (causal_length p)
      long p hp = ap length (log_carried r.now h p hp true)
          ∙ length_tabulate (r.now (causal_length p)) (λ i. r.now (causal p i))

      item : (p : ℕ) (hp : p < r.now size) (i : ℕ) → i < r.now (causal_length p)
          → get_or (log_words (encode r.now) p true) i 0 ≡ r.now (causal p i)
      item p hp i l =
          ap (λ (xs : List ℕ). get_or xs i 0) (log_carried r.now h p hp true)
          ∙ get_d_tabulate (r.now (causal_length p)) (λ i. r.now (causal p i)) i 0 l

-- ---- conclusion 3: agreement
module _ (s : State) (h : Sound s) (a : AgreedStates s) where
  low : (p : ℕ) → p < s size → p < 16
  low p l = omega (arith, size_high s h)

  -- what is in a log is a message
  logged : (p m : ℕ) → p < s size → Fifo s p m → m < s count
  logged p m hp (in_at i l e) = rw e at (fifo_exists s h p i hp l)

  -- who is up on the words is up
  up_read : (q : ℕ) → q < s size → view (encode s) (up q) ≡ 1 → s (up q) ≡ 1
  up_read q hq e = sym (get_encode s (up q) (low q hq)) ∙ e

  -- on the words of a state
  agreed_words : Agreed (encode s)
  agreed_words = record {
    valid = λ m q l us u t.
        let hm : m < s count = omega (arith, get_encode s count tt) in
        let m64 : m < 64 = omega (arith, count_high s h) in
        let hq : q < s size = omega (arith, u.0, size_read s h) in
        let from = ap (λ (x : ℕ). view (encode s) (up x)) (get_encode s (sender m) m64) in
        in_listed (log_carried s h q hq false)
        (a.valid m q hm (up_read (s (sender m)) (sender_low s h m hm) (sym from ∙ us.1))
        (hq, up_read q hq u.1)
        (sym (to_read s h m q m64 (low q hq)) ∙ t));
    uniform = λ m p q l f u t.
        let hp : p < s size = omega (arith, size_read s h) in
        let hq : q < s size = omega (arith, u.0, size_read s h) in
        let g = listed_in (log_carried s h p hp false) f in
        let m64 : m < 64 = omega (arith, logged p m hp g, count_high s h) in
        in_listed (log_carried s h q hq false)
        (a.uniform m p q hp g (hq, up_read q hq u.1) (sym (to_read s h m q m64 (low q hq)) ∙ t));
  }

-- ---- settle's answer
at_most : (n : ℕ) (e : Ending) → arrivals e ≤ n → AtMost n (gives e)
at_most n (done i) l = done_within i l
at_most n (stopped i) l = stopped_within i l

-- an answer that says done
says : (e : Ending) → EndsDone e → SaysDone (gives e)
says e d = rw d (says_done (arrivals e))

-- ---- the theorem, from the words of a fresh state
module _ (setup : List ℕ) (items : List Item) (ok : setup_refusal setup ≡ 0) where
  -- the run over states
  abbrev r : Run State
  r = run on_states (started setup) items

  -- the first state is sound
  sound_first : Sound (started setup).now
  sound_first = fresh_sound setup ok

  -- and the last
  sound_last : Sound (run on_states (started setup) items).now
  sound_last = reached_sound setup items ok

  -- the run over words is its words
  carried : run on_words (written (started setup)) items ≡ written (run on_states (started setup) items)
  carried = run_carried (started setup) items sound_first

  -- the demand over states
  on_states_3 : Demand3States (started setup) items
  on_states_3 = demand_3_states setup items ok

  -- the demand on words
  demand_3_written : Demand3 (written (started setup)) items
  unfolding settled
  demand_3_written = record {
    order = rw carried (causal_order r sound_last on_states_3.whole);
    bounded = λ o b. rw (reply o b) (at_most 33792 (settled o r b).ending (on_states_3.bounded o b));
    settles = λ t o b l. (
      rw (reply o b) (says (settled o r b).ending (on_states_3.finishes o b l)),
      rw (carried, settled_carried o r sound_last b)
          (agreed_words (settled o r b).world.now (settled_sound o r sound_last b)
          (on_states_3.agreed (rule_read (started setup) items sound_first t) o b l)),
    );
  }
    where
      reply : (o : Manner) (b : ℕ)
          → settle_reply o (run on_words (written (started setup)) items).now b ≡ gives (settled o r b).ending
      reply o b = ap (λ (x : Run (List ℕ)). settle_reply o x.now b) carried ∙ answer_carried o r sound_last b

-- Demand 3. Why it is true: a process delivers causally only what every other sender's counter allows, and
-- counters count the multicasts known of; so a message goes in exactly when all that precede it and are to
-- the group are in the FIFO log, and after them. Every letter in flight, and every one that may still be
-- sent, is counted by a number that no step but a multicast raises and each arrival lowers; so a settle of
-- 33,792 arrivals ends, with no letter left to an up process. Then whoever holds a message has told all
-- live addressees, and each has told all that it is its turn; what one process delivered was vouched for by a
-- live member of each group, which the trust rule gives.
pub demand_3 : Demand3Always
demand_3 w setup items e = rw (start_carried w setup e) (demand_3_written setup items (setup_taken w setup e))
