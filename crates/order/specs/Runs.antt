-- What holds of every run: its state is sound, its counters and logs mean what Meaning says of its history,
-- nothing is left to deliver causally, and each message is multicast once in the history, in the order of the
-- numbers. A step at a process changes that process's own record in its cascade and no other. Assumes
-- nothing.
use Rattle.std.specs.Prelude.{◌≡◌, refl, true, List, [], ◌∷◌, ℕ, suc, ◌<◌, ltb}
use Rattle.std.proofs.Common.{sym, ap, ◌∙◌, subst, arith, not-suc-le-zero}
use Rattle.definitions.specs.General.{tally, byte}
use Rattle.definitions.specs.World.{size, count, trust, causal_length, sender, up, State, put}
use Rattle.definitions.specs.Setup.{fresh, setup_group, setup_refusal, made}
use Rattle.definitions.specs.Machine.{cascade, multicast, leave, received, arrival, trust_set, crash}
use Rattle.definitions.specs.Steps.{Step, multicasts, arrives, loses, trusts, crashes, malformed, accepted, step}
use Rattle.definitions.specs.History.{Event, sent, At, here, there, gained, Run, Item, taken, act, run}
use Rattle.base.specs.Tests.{pick_le, both}
use Rattle.world.specs.SoundLaws.{Sound}
use Rattle.world.specs.StepLaws.{accepted_multicast, accepted_arrival, accepted_trust}
use Rattle.world.specs.Runs.{on_states, started}
use Rattle.keeps.specs.Keeps.{fresh_sound, step_sound}
use Rattle.effects.specs.Views.{Messages, messages, Process, Scene, scene, Still}
use Rattle.effects.specs.Arrival.{received_scene}
use Rattle.effects.specs.Events.{gained_keeps, grown_none, gained_none, gained_one}
use Rattle.effects.specs.Runs.{act_keeps, run_keeps}
use Rattle.effects.specs.Holding.{HeldTo, received_to, trusted_held}
use Rattle.order.specs.Knowledge.{knowledge, closed_fresh}
use Rattle.order.specs.Precedence.{Formed, no_event, old_cast, cast_low}
use Rattle.order.specs.Multicast.{one_more, meaning_multicast, quiet_multicast, multicast_logs, multicast_count}
use Rattle.order.specs.Cascade.{MeaningIn, MeaningOf, QuietIn, QuietOf, Cascading, cascading_all}

-- ---- the invariant of a run
-- a state and its history
abbrev pub with_history : State → List Event → Run State
with_history s es = record { now = s; seen = es }

pub record Whole (r : Run State) : Type 0 where
  pub sound : Sound r.now
  pub meaning : MeaningOf r.now r.seen
  pub quiet : QuietOf r.now
  pub formed : Formed (r.now count) r.seen
  -- who multicast a message is its sender
  pub senders : (i q m : ℕ) → At r.seen i (sent q m) → r.now (sender m) ≡ q

-- ---- a fresh world
fresh_meaning : (n : ℕ) (groups : ℕ → ℕ) → MeaningOf (fresh n groups) []
unfolding fresh tally knowledge
fresh_meaning n groups = record {
  counting = record {
    closed = closed_fresh (λ m. 0);
    senders = λ m h. absurd (not-suc-le-zero h);
    stamps = λ m g q h. absurd (not-suc-le-zero h);
    numbers = λ m g h. absurd (not-suc-le-zero h);
  };
  each = λ p. record {
    counters = λ g q. refl;
    sequences = λ g. refl;
    fifo_log = record {
      old = λ i h. absurd (not-suc-le-zero h);
      to_group = λ i h. absurd (not-suc-le-zero h);
      once = λ i j l h. absurd (not-suc-le-zero h);
      order = λ i x h. absurd (not-suc-le-zero h);
      prefix = record {
        in_below = λ i h. absurd (not-suc-le-zero h);
        below_in = λ m h. absurd (not-suc-le-zero h);
        most = λ q. pick_le (both (ltb p n) (ltb q n)) (omega arith) (omega arith);
      };
    };
    causal_log = record {
      in_fifo = λ i h. absurd (not-suc-le-zero h);
      once = λ i j l h. absurd (not-suc-le-zero h);
      order = λ i x h. absurd (not-suc-le-zero h);
      prefix = record {
        in_below = λ i h. absurd (not-suc-le-zero h);
        below_in = λ m h. absurd (not-suc-le-zero h);
        most = λ q. omega arith;
      };
    };
  };
}

-- the invariant holds at the start
pub whole_started : (setup : List ℕ) → setup_refusal setup ≡ 0 → Whole (started setup)
unfolding made fresh
whole_started setup ok = record {
  sound = fresh_sound setup ok;
  meaning = fresh_meaning (byte setup 1) (setup_group setup);
  quiet = λ p i h. absurd (not-suc-le-zero h);
  formed = refl;
  senders = λ i q m a. absurd (no_event a);
}

-- ---- the multicasts of a longer history are those of the shorter
old_sent : (s t : State) (es : List Event) {i q m : ℕ} → At (gained (s size) s t es) i (sent q m)
    → At es i (sent q m)
old_sent s t es {i} {q} {m} =
    gained_keeps (λ l. At l i (sent q m) → At es i (sent q m)) (λ _ _ _ h a. h (old_cast a)) (s size) s t es
    (λ a. a)

-- ---- a step that adds no message
whole_after : (s t : State) (es : List Event) → messages t ≡ messages s → Sound t
    → MeaningOf t (gained (s size) s t es) → QuietOf t
    → Whole (with_history s es) → Whole (with_history t (gained (s size) s t es))
whole_after s t es e d o q w = record {
  sound = d;
  meaning = o;
  quiet = q;
  formed = rw (ap (λ (v : Messages). v.total) e)
      (gained_keeps (Formed (s count)) (λ _ _ _ h. h) (s size) s t es w.formed);
  senders = λ i q m a. ap (λ (v : Messages). v.sender m) e
      ∙ w.senders i q m (old_sent s t es a);
}

-- a step at p up to its cascade, or a step without one: t is the state then
module _ (s t : State) (es : List Event) (e : scene t ≡ scene s) where
  -- no log has grown
  as_long : (r : ℕ) → t (causal_length r) ≡ s (causal_length r)
  as_long r = ap (λ (v : Scene). (v.own r).causal_length) e

  -- the cascade begins
  pub cascade_begins : (p : ℕ) → MeaningOf s es → QuietOf s → Cascading p (s (causal_length p)) es t t
  cascade_begins p o q = record {
    order = rw e (record {
      meaning = rw (grown_none p s s es refl) o;
      quiet = q;
      start = omega arith;
    });
    same = refl;
    there = λ r n. refl;
  }

  -- and ends
  whole_cascade : (p : ℕ) → p < s size → HeldTo t p → Sound (cascade t p) → Whole (with_history s es)
      → Whole (with_history (cascade t p) (gained (s size) s (cascade t p) es))
  whole_cascade p hp h d w =
      let c = cascading_all p (s (causal_length p)) es t h (cascade_begins p w.meaning w.quiet) in
      let only = gained_one (s size) p s (cascade t p) es hp
      (λ r n. ap (λ (x : Process). x.causal_length) (c.there r n) ∙ as_long r) in
      whole_after s (cascade t p) es
      (ap (λ (v : Still). v.ground.messages) c.same ∙ ap (λ (v : Scene). v.messages) e) d
      (rw only c.order.meaning) c.order.quiet w

  -- without a cascade nothing is delivered
  whole_plain : Sound t → Whole (with_history s es) → Whole (with_history t (gained (s size) s t es))
  whole_plain d w =
      whole_after s t es (ap (λ (v : Scene). v.messages) e) d
      (rw (gained_none (s size) s t es (λ r _. as_long r)) (subst (MeaningIn es) (sym e) w.meaning))
      (subst QuietIn (sym e) w.quiet) w

-- who multicast a message is its sender, after a multicast
multicast_senders : (s : State) (es : List Event) (p groups order_no : ℕ) → Whole (with_history s es) → (i q m : ℕ)
    → At (sent p (s count) ∷ es) i (sent q m) → multicast s p groups order_no (sender m) ≡ q
multicast_senders s es p groups order_no w i q m (here h) = (one_more s es p groups order_no w.meaning).new_sender
multicast_senders s es p groups order_no w i q m (there a) =
    (one_more s es p groups order_no w.meaning).old_sender m (cast_low es w.formed a) ∙ w.senders i q m a

-- every accepted step keeps the invariant
pub whole_step : (s : State) (es : List Event) (x : Step) → accepted s x ≡ true → Whole (with_history s es)
    → Whole (taken on_states (with_history s es) x)
unfolding step trust_set crash arrival leave put
whole_step s es (multicasts p groups order_no) e w =
    let a = accepted_multicast s p groups order_no e in
    let t = multicast s p groups order_no in
    let none = gained_none (s size) s t (sent p (s count) ∷ es) (λ r _. multicast_logs s p groups order_no r) in
    record {
      sound = step_sound s (multicasts p groups order_no) e w.sound;
      meaning = rw none (meaning_multicast s es p groups order_no w.meaning a.process);
      quiet = quiet_multicast s es p groups order_no w.meaning w.quiet;
      formed =
          rw (multicast_count s p groups order_no)
          (gained_keeps (Formed (suc (s count))) (λ _ _ _ h. h) (s size) s t (sent p (s count) ∷ es)
          (refl, w.formed));
      senders = λ i q m b.
          multicast_senders s es p groups order_no w i q m (old_sent s t (sent p (s count) ∷ es) b);
    }
whole_step s es (arrives k m q p) e w =
    let l = (accepted_arrival s k m q p e).letter in
    whole_cascade s (received s k m q p) es (received_scene s k m q p) p l.to
    (received_to s w.sound k m q p l) (step_sound s (arrives k m q p) e w.sound) w
whole_step s es (loses k m q p) e w =
    whole_plain s (leave s k m q p) es refl (step_sound s (loses k m q p) e w.sound) w
whole_step s es (trusts p set) e w =
    let a = accepted_trust s p set e in
    whole_cascade s (put s (trust p) set) es refl p a.process
    (trusted_held s w.sound p set a.process) (step_sound s (trusts p set) e w.sound) w
whole_step s es (crashes p) e w =
    whole_plain s (put s (up p) 0) es refl (step_sound s (crashes p) e w.sound) w
whole_step s es malformed e w = whole_plain s s es refl w.sound w

-- ---- every item and every list keeps it
pub whole_act : (r : Run State) (i : Item) → Whole r → Whole (act on_states r i)
whole_act = act_keeps Whole (λ r. whole_step r.now r.seen)

pub whole_run : (r : Run State) (items : List Item) → Whole r → Whole (run on_states r items)
whole_run = run_keeps Whole (λ r. whole_step r.now r.seen)
