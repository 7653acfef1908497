-- What a step does to the logs. At its process they go on behind what they held, at every other process they stay; so
-- the growth of all logs is that of the logs of its process. A step without a cascade leaves them all. Assumes nothing.
use Rattle.std.specs.Prelude.{◌≡◌, refl, Bool, ◌≢◌, ℕ, ◌-◌, ◌≤◌, ◌<◌}
use Rattle.std.proofs.Math.Path.{ap}
use Rattle.std.proofs.Common.{◌∙◌, arith, ne_eqb}
use Rattle.std.proofs.Math.Bool.{true, false}
use Rattle.definitions.specs.World.{Cell, size, count, trust, fifo_length, causal_length, fifo, causal, State, put, encode, view}
use Rattle.definitions.specs.Machine.{with_tables, ready, deliverable_at, causal_one, causal_all, fifo_one, cascade, raised, stamped, numbered, posted, multicast, leave, received, arrival, trust_set, crash}
use Rattle.definitions.specs.Steps.{Step, multicasts, arrives, loses, trusts, crashes, malformed, refusal, accepted, step}
use Rattle.definitions.specs.Words.{log_length, log_growth}
use Rattle.definitions.specs.Previews.{step_process, has_cascade}
use Rattle.base.specs.Tests.{pick_no, clash}
use Rattle.base.specs.Loop.{loop_keeps}
use Rattle.base.specs.Sums.{sum_one}
use Rattle.world.specs.Layout.{get_encode}
use Rattle.world.specs.Local.{arrival_local, trust_local}
use Rattle.world.specs.StepLaws.{accepted_multicast, accepted_arrival, accepted_loss, accepted_trust, accepted_crash}
use Rattle.effects.specs.Views.{Process, process, process_local, Scene}
use Rattle.effects.specs.Cascade.{at_place, fifo_started, fifo_started_here, fifo_delivered, causal_delivered, causal_one_here, fifo_middle, fifo_one_scene}
use Rattle.effects.specs.Arrival.{received_process}

-- ---- the FIFO or the causal log
-- its item i, as a cell
abbrev pub log_item : ℕ → Bool → ℕ → Cell
log_item p true i = causal p i
log_item p false i = fifo p i

-- its length, read off the words of a state
pub encoded_length : (s : State) (p : ℕ) → p < 16 → (log : Bool) → log_length (view (encode s)) p log ≡ log_length s p log
encoded_length s p l true = get_encode s (causal_length p) l
encoded_length s p l false = get_encode s (fifo_length p) l

-- it goes on from s to t at p: what it held it holds
pub record Onward (s t : State) (p : ℕ) (log : Bool) : Type 0 where
  pub longer : log_length s p log ≤ log_length t p log
  pub kept : (i : ℕ) → i < log_length s p log → t (log_item p log i) ≡ s (log_item p log i)

-- it stays
pub record Stays (s t : State) (p : ℕ) (log : Bool) : Type 0 where
  pub as_long : log_length t p log ≡ log_length s p log
  pub same : (i : ℕ) → t (log_item p log i) ≡ s (log_item p log i)

stays_onward : {s t : State} {p : ℕ} {log : Bool} → Stays s t p log → Onward s t p log
stays_onward h = record { longer = omega (arith, h.as_long); kept = λ i l. h.same i }

onward_then : {s t u : State} {p : ℕ} {log : Bool} → Onward s t p log → Onward t u p log → Onward s u p log
onward_then a b = record {
  longer = omega (arith, a.longer, b.longer);
  kept = λ i l. b.kept i (omega (arith, a.longer)) ∙ a.kept i l;
}

-- a process with the same record has the same logs
process_stays : (s t : State) (p : ℕ) → process t p ≡ process s p → (log : Bool) → Stays s t p log
process_stays s t p e true =
    record { as_long = ap (λ (r : Process). r.causal_length) e; same = λ i. ap (λ (r : Process). r.causal i) e }
process_stays s t p e false =
    record { as_long = ap (λ (r : Process). r.fifo_length) e; same = λ i. ap (λ (r : Process). r.fifo i) e }

-- ---- the cascade at p
-- an item put behind the others leaves them
behind : (f : ℕ → ℕ) (n m i : ℕ) → i < n → {v : ℕ} → v ≡ at_place f n m i → v ≡ f i
behind f n m i l e = e ∙ pick_no m (f i) (ne_eqb n i (λ z. omega (arith, z)))

module _ (p : ℕ) where
  started_onward : (s : State) (m : ℕ) (log : Bool) → Onward s (fifo_started s p m) p log
  unfolding fifo_delivered
  started_onward s m true =
      let e = fifo_started_here s p m in
      record {
        longer = omega (arith, ap (λ (r : Process). r.causal_length) e);
        kept = λ i l. ap (λ (r : Process). r.causal i) e;
      }
  started_onward s m false =
      let e = fifo_started_here s p m in
      record {
        longer = omega (arith, ap (λ (r : Process). r.fifo_length) e);
        kept = λ i l.
            behind (λ j. s (fifo p j)) (s (fifo_length p)) m i l (ap (λ (r : Process). r.fifo i) e);
      }

  causal_one_onward : (s : State) (i : ℕ) (log : Bool) → Onward s (causal_one s p i) p log
  unfolding causal_delivered
  causal_one_onward s i true =
      let e = causal_one_here s p i in
      record {
        longer = omega (arith, ap (λ (r : Process). r.causal_length) e);
        kept = λ j l.
            behind (λ k. s (causal p k)) (s (causal_length p)) (s (fifo p i)) j l
            (ap (λ (r : Process). r.causal j) e);
      }
  causal_one_onward s i false =
      let e = causal_one_here s p i in
      record {
        longer = omega (arith, ap (λ (r : Process). r.fifo_length) e);
        kept = λ j l. ap (λ (r : Process). r.fifo j) e;
      }

  onward_self : (s : State) (log : Bool) → Onward s s p log
  onward_self s log = stays_onward (process_stays s s p refl log)

  causal_all_onward : (s : State) (log : Bool) → Onward s (causal_all s p) p log
  unfolding causal_all
  causal_all_onward s log =
      loop_keeps (λ t. t (fifo_length p)) (λ t. deliverable_at t p) (λ t. causal_one t p)
      (λ t. Onward s t p log) (λ t i _ _ _ h. onward_then h (causal_one_onward t i log))
      (s (fifo_length p) - s (causal_length p)) s (onward_self s log)

  fifo_one_onward : (s : State) (m : ℕ) (log : Bool) → Onward s (fifo_one s p m) p log
  fifo_one_onward s m log =
      onward_then (started_onward s m log)
      (onward_then (causal_all_onward (fifo_started s p m) log)
      (stays_onward (process_stays (fifo_middle s p m) (fifo_one s p m) p
      (ap (λ (v : Scene). v.own p) (fifo_one_scene s p m)) log)))

  cascade_onward : (s : State) (log : Bool) → Onward s (cascade s p) p log
  unfolding cascade
  cascade_onward s log =
      loop_keeps (λ t. t count) (λ t. ready t p) (λ t. fifo_one t p) (λ t. Onward s t p log)
      (λ t m _ _ _ h. onward_then h (fifo_one_onward t m log)) (s count - s (fifo_length p)) s (onward_self s log)

-- ---- the steps
-- a step without a cascade leaves all logs
pub no_cascade_stays : (s : State) (x : Step) → has_cascade x ≡ false → (r : ℕ) (log : Bool) → Stays s (step s x) r log
unfolding step multicast posted numbered stamped raised with_tables leave crash put
no_cascade_stays s (multicasts p groups o) e r true = record { as_long = refl; same = λ i. refl }
no_cascade_stays s (multicasts p groups o) e r false = record { as_long = refl; same = λ i. refl }
no_cascade_stays s (arrives k m q p) e r log = clash {b = true} refl e
no_cascade_stays s (loses k m q p) e r true = record { as_long = refl; same = λ i. refl }
no_cascade_stays s (loses k m q p) e r false = record { as_long = refl; same = λ i. refl }
no_cascade_stays s (trusts p set) e r log = clash {b = true} refl e
no_cascade_stays s (crashes p) e r true = record { as_long = refl; same = λ i. refl }
no_cascade_stays s (crashes p) e r false = record { as_long = refl; same = λ i. refl }
no_cascade_stays s malformed e r log = process_stays s s r refl log

-- at its process the logs go on
pub step_onward : (s : State) (x : Step) (log : Bool) → Onward s (step s x) (step_process x) log
unfolding step arrival trust_set put
step_onward s (multicasts p groups o) log = stays_onward (no_cascade_stays s (multicasts p groups o) refl p log)
step_onward s (arrives k m q p) log =
    onward_then (stays_onward (process_stays s (received s k m q p) p (received_process s k m q p p) log))
    (cascade_onward p (received s k m q p) log)
step_onward s (loses k m q p) log = stays_onward (no_cascade_stays s (loses k m q p) refl p log)
step_onward s (trusts p set) log =
    onward_then (stays_onward (process_stays s (put s (trust p) set) p refl log))
    (cascade_onward p (put s (trust p) set) log)
step_onward s (crashes p) log = stays_onward (no_cascade_stays s (crashes p) refl p log)
step_onward s malformed log = stays_onward (no_cascade_stays s malformed refl 0 log)

-- at every other process they stay
pub step_stays : (s : State) (x : Step) (r : ℕ) → step_process x ≢ r → (log : Bool) → Stays s (step s x) r log
unfolding step
step_stays s (multicasts p groups o) r n log = no_cascade_stays s (multicasts p groups o) refl r log
step_stays s (arrives k m q p) r n log =
    process_stays s (arrival s k m q p) r
    (process_local s (arrival s k m q p) r (λ c o. arrival_local p r n c o s k m q)) log
step_stays s (loses k m q p) r n log = no_cascade_stays s (loses k m q p) refl r log
step_stays s (trusts p set) r n log =
    process_stays s (trust_set s p set) r
    (process_local s (trust_set s p set) r (λ c o. trust_local p r n c o s set)) log
step_stays s (crashes p) r n log = no_cascade_stays s (crashes p) refl r log
step_stays s malformed r n log = no_cascade_stays s malformed refl r log

-- ---- the growth of all logs
-- after a step it is that of the process of the step
pub step_growth : (s : State) (x : Step) (log : Bool) → step_process x < s size
    → log_growth log s (step s x)
    ≡ log_length (step s x) (step_process x) log - log_length s (step_process x) log
step_growth s x log l =
    sum_one (s size) (step_process x) (λ r. log_length (step s x) r log - log_length s r log) l
    (λ r d. let e = (step_stays s x r d log).as_long in omega arith)

-- the process of a step that is taken is one
pub taken_process : (s : State) (x : Step) → accepted s x ≡ true → step_process x < s size
unfolding refusal
taken_process s (multicasts p groups o) e = (accepted_multicast s p groups o e).process
taken_process s (arrives k m q p) e = (accepted_arrival s k m q p e).letter.to
taken_process s (loses k m q p) e = (accepted_loss s k m q p e).to
taken_process s (trusts p set) e = (accepted_trust s p set e).process
taken_process s (crashes p) e = (accepted_crash s p e).0
taken_process s malformed e = clash {b = false} e refl
