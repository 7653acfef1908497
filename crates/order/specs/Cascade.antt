-- What the counters and logs of a state mean, given its history (Meaning), and that the cascade keeps it:
-- each causal delivery, each FIFO delivery with next raised, the OKs, and so the two loops. At the end
-- nothing is left to deliver causally, since the fuel suffices (Fuel of world). Assumes nothing.
use Rattle.std.specs.Prelude.{◌≡◌, Bool, true, false, ◌&&◌, List, ◌∷◌, ◌≢◌, ℕ, suc, ◌+◌, ◌-◌, ◌≤◌, ◌<◌, eqb}
use Rattle.std.proofs.Common.{sym, ap, ap₂, ◌∙◌, subst₂, inl, inr, arith}
use borrow.Author.Tests.{eqb-true, ne_eqb, leb-true}
use Rattle.definitions.specs.General.{every, In}
use Rattle.definitions.specs.World.{size, count, group, fifo_length, causal_length, fifo, causal, next, delivered, held, sender, stamp, number, State, put, addressed, outside_fifo, outside_causal}
use Rattle.definitions.specs.Machine.{with_tables, in_turn, marked, ready, fits, deliverable, deliverable_at, merge, causal_one, causal_all, appended, raised_next, fifo_one, cascade}
use Rattle.definitions.specs.History.{Event, got, deliveries, grown}
use Rattle.base.specs.Tests.{both_l, both_r, at_or_off}
use Rattle.base.specs.Search.{every_true, every_false}
use Rattle.base.specs.Loop.{loop_keeps}
use Rattle.base.specs.Count.{absent_out, out_absent, in_dec}
use Rattle.world.specs.Fuel.{causal_ends}
use Rattle.world.specs.Awaited.{short_facts, deliverable_every}
use Rattle.effects.specs.Holding.{HeldTo, held_to}
use Rattle.effects.specs.Events.{deliveries_same}
use Rattle.effects.specs.Views.{Messages, messages, Process, process, Scene, scene, Still, still}
use Rattle.effects.specs.Cascade.{fifo_delivered, causal_delivered, fifo_started, fifo_started_here, fifo_started_there, causal_one_here, causal_one_there, fifo_middle, fifo_middle_still, fifo_one_scene, fifo_one_still, fifo_one_there}
use Rattle.order.specs.Knowledge.{Knowledge, learn, knowledge}
use Rattle.order.specs.Counters.{counted, all_of, Counting, counting_got, counter_here, counter_there}
use Rattle.order.specs.Logs.{at_here, at_else, FifoLogOf, fifo_log_more, CausalLogOf, causal_log_fifo, causal_log_more, Waits, waits, Stuck, Quiet}

-- ---- the logs of a state
-- "A process has FIFO-delivered or causally delivered exactly the messages in its log of that name"
abbrev pub Fifo : State → ℕ → ℕ → Type 0
Fifo s p m = In (s (fifo_length p)) (λ i. s (fifo p i)) m

-- the same of the causal log
abbrev pub Causal : State → ℕ → ℕ → Type 0
Causal s p m = In (s (causal_length p)) (λ i. s (causal p i)) m

-- ---- what a state's counters and logs mean
-- of process p, given its record
pub record Means (w : Messages) (k : Knowledge) (p : ℕ) (r : Process) : Type 0 where
  pub counters : (g q : ℕ) → r.counter g q ≡ counted w (k.past p) q g
  pub sequences : (g : ℕ) → r.sequence g ≡ all_of w p g
  pub fifo_log : FifoLogOf w r
  pub causal_log : CausalLogOf w k.before r

-- of the messages and all processes
pub record Meaning (n : ℕ) (w : Messages) (ps : ℕ → Process) (k : Knowledge) : Type 0 where
  pub counting : Counting n w k
  pub each : (p : ℕ) → Means w k p (ps p)

-- the meaning of a state's cells, given the events
abbrev pub MeaningIn : List Event → Scene → Type 0
MeaningIn es v = Meaning v.size v.messages v.own (knowledge es)

abbrev pub MeaningOf : State → List Event → Type 0
MeaningOf s es = MeaningIn es (scene s)

-- nothing is left to deliver causally, at any process
abbrev pub QuietIn : Scene → Type 0
QuietIn v = (p : ℕ) → Quiet v.size v.messages (v.own p)

abbrev pub QuietOf : State → Type 0
QuietOf s = QuietIn (scene s)

-- ---- the tests, as facts
-- "for all q other than the sender, the message's C[group of p][q] is at most del[q]"
pub record Deliverable (s : State) (p i : ℕ) : Type 0 where
  pub outside : ¬ In (s (causal_length p)) (λ j. s (causal p j)) (s (fifo p i))
  pub free : (q : ℕ) → q < s size → q ≢ s (sender (s (fifo p i)))
      → s (stamp (s (fifo p i)) (s (group p)) q) ≤ s (delivered p q)

module _ (s : State) (p i : ℕ) where
  -- the message
  x : ℕ
  x = s (fifo p i)

  -- a message that passes the test
  deliverable_facts : deliverable_at s p i ≡ true → Deliverable s p i
  unfolding deliverable_at x
  deliverable_facts e = record {
    outside =
        absent_out (s (causal_length p)) x (λ j. s (causal p j))
        (both_l (outside_causal s p x) (deliverable s p x) e);
    free =
        λ q h ne. leb-true (s (stamp x (s (group p)) q)) (s (delivered p q))
        (simp (ne_eqb q (s (sender x)) ne) at
        (every_true (s size) (fits s p x)
        (sym (deliverable_every s p x) ∙ both_r (outside_causal s p x) (deliverable s p x) e) q h));
  }

  -- one that fails it is delivered, or waits
  stuck_facts : deliverable_at s p i ≡ false → Stuck (s size) (messages s) (process s p) (s (fifo p i))
  unfolding deliverable_at x
  stuck_facts e = go (in_dec (s (causal_length p)) (λ j. s (causal p j)) x)
    where
      found : (q : ℕ) × (q < s size) × (fits s p (s (fifo p i)) q ≡ false)
          → Waits (s size) (messages s) (s (group p)) (λ q. s (delivered p q)) (s (fifo p i))
      found (q, h, z) = let d = short_facts s p x q z in waits q h d.other d.above

      go : Dec (In (s (causal_length p)) (λ j. s (causal p j)) (s (fifo p i)))
          → Stuck (s size) (messages s) (process s p) (s (fifo p i))
      go (yes a) = inl a
      go (no a) =
          inr (found (every_false (s size) (fits s p x) (sym (deliverable_every s p x) ∙ (simp (out_absent a) at e))))

-- a message that is ready: held, outside the FIFO log, in turn, marked
pub record Ready (s : State) (p m : ℕ) : Type 0 where
  pub has : s (held p m) ≡ 1
  pub outside : ¬ In (s (fifo_length p)) (λ j. s (fifo p j)) m
  pub turn : s (number m (s (group p))) ≡ s (next p (s (sender m)))
  pub marks : every (s size) (marked s p m) ≡ true

-- a message that passes the test of the cascade
pub ready_facts : (s : State) (p m : ℕ) → ready s p m ≡ true → Ready s p m
unfolding ready
ready_facts s p m e =
    let has : Bool = eqb (s (held p m)) 1 in
    let new : Bool = outside_fifo s p m in
    let three = both_l (has && new && in_turn s p m) (every (s size) (marked s p m)) e in
    let two = both_l (has && new) (in_turn s p m) three in
    record {
      has = eqb-true (s (held p m)) 1 (both_l has new two);
      outside = absent_out (s (fifo_length p)) m (λ j. s (fifo p j)) (both_r has new two);
      turn = eqb-true (s (number m (s (group p)))) (s (next p (s (sender m))))
          (both_r (has && new) (in_turn s p m) three);
      marks = both_r (has && new && in_turn s p m) (every (s size) (marked s p m)) e;
    }

-- ---- one causal delivery
module _ (s : State) (es : List Event) (p i : ℕ) (hi : i < s (fifo_length p)) (d : Deliverable s p i)
    (first : (j : ℕ) → j < i → Stuck (s size) (messages s) (process s p) (s (fifo p j)))
    (o : MeaningOf s es) where
  pub meaning_causal : MeaningOf (causal_one s p i) (got p (s (fifo p i)) ∷ es)
  unfolding causal_one merge with_tables put knowledge causal_delivered
  meaning_causal = record {
    counting = counting_got o.counting p (s (fifo p i));
    each = at_or_off p
        (λ x. Means (messages s) (learn (got p (s (fifo p i))) (knowledge es)) x (process (causal_one s p i) x))
        (rw (causal_one_here s p i) (record {
          counters = λ g q. counter_here o.counting p (s (fifo p i)) (mine.fifo_log.old i hi) g q
              ((process s p).counter g q) (mine.counters g q);
          sequences = mine.sequences;
          fifo_log = mine.fifo_log;
          causal_log =
              causal_log_more (process s p) o.counting mine.fifo_log mine.causal_log i hi d.outside d.free
              first;
        }))
        (λ x n. rw (causal_one_there s p i x n) (record {
          counters = λ g q. counter_there o.counting p (s (fifo p i)) x g q ((process s x).counter g q) n
              ((o.each x).counters g q);
          sequences = (o.each x).sequences;
          fifo_log = (o.each x).fifo_log;
          causal_log = (o.each x).causal_log;
        }));
  }
    where
      mine : Means (messages s) (knowledge es) p (process s p)
      mine = o.each p

-- ---- a FIFO delivery, with next raised
pub meaning_fifo : (s : State) (es : List Event) (p m : ℕ) → Ready s p m → m < s count
    → addressed s m p ≡ true
    → MeaningOf s es → MeaningOf (fifo_started s p m) es
unfolding raised_next appended put fifo_delivered
meaning_fifo s es p m y hm tm o = record {
  counting = o.counting;
  each = at_or_off p (λ x. Means (messages s) (knowledge es) x (process (fifo_started s p m) x))
      (rw (fifo_started_here s p m) (record {
        counters = (o.each p).counters;
        sequences = (o.each p).sequences;
        fifo_log = fifo_log_more o.counting (o.each p).fifo_log m hm tm y.outside y.turn;
        causal_log = causal_log_fifo (process s p) m (o.each p).causal_log;
      }))
      (λ x n. rw (fifo_started_there s p m x n) (o.each x));
}

-- ---- the events of a step, read off the causal log
-- those of the log of p from place a on, given the process's record
abbrev pub events : ℕ → ℕ → Process → List Event → List Event
events p a r es = deliveries p a (r.causal_length - a) r.causal es

-- one causal delivery adds its event
grown_one : (p a i : ℕ) (s : State) (es : List Event) → a ≤ s (causal_length p)
    → grown p a (causal_one s p i) es ≡ got p (s (fifo p i)) ∷ grown p a s es
unfolding deliveries causal_delivered
grown_one p a i s es h =
    let n : ℕ = s (causal_length p) in
    let m : ℕ = s (fifo p i) in
    let log : ℕ → ℕ = (process s p).causal in
    let e : n + 1 - a ≡ suc (n - a) = omega arith in
    let f : a + (n - a) ≡ n = omega arith in
    ap (λ (r : Process). events p a r es) (causal_one_here s p i)
    ∙ ap (λ (k : ℕ). deliveries p a k (causal_delivered (messages s) (process s p) m).causal es) e
    ∙ ap₂ (λ (x : ℕ) (l : List Event). got p x ∷ l)
    (ap (causal_delivered (messages s) (process s p) m).causal f ∙ at_here log n m)
    (deliveries_same p a (n - a) (causal_delivered (messages s) (process s p) m).causal log es
    (λ j l. at_else log n m (a + j) (omega arith)))

-- ---- the causal deliveries, all
-- the causal deliveries at p that are under way; a is where its causal log ended before the step
record Delivering (p a : ℕ) (es : List Event) (t : State) : Type 0 where
  pub meaning : MeaningOf t (grown p a t es)
  pub start : a ≤ t (causal_length p)

-- all of them keep what the state means
delivering_all : (p a : ℕ) (es : List Event) (s : State) → Delivering p a es s
    → Delivering p a es (causal_all s p)
unfolding causal_all causal_delivered
delivering_all p a es s =
    loop_keeps (λ u. u (fifo_length p)) (λ u. deliverable_at u p) (λ u. causal_one u p) (Delivering p a es)
    (λ t i hi e first m. record {
      meaning = rw (grown_one p a i t es m.start)
          (meaning_causal t (grown p a t es) p i hi (deliverable_facts t p i e)
          (λ j l. stuck_facts t p j (first j l)) m.meaning);
      start = omega (arith, ap (λ (r : Process). r.causal_length) (causal_one_here t p i), m.start);
    }) (s (fifo_length p) - s (causal_length p)) s

-- ---- a turn of the cascade
-- between two turns of a step that began with p's causal log ending at a
pub record Ordered (p a : ℕ) (es : List Event) (v : Scene) : Type 0 where
  pub meaning : MeaningIn (events p a (v.own p) es) v
  pub quiet : QuietIn v
  pub start : a ≤ (v.own p).causal_length

-- the cascade at p, which began in b
pub record Cascading (p a : ℕ) (es : List Event) (b t : State) : Type 0 where
  pub order : Ordered p a es (scene t)
  pub same : still t ≡ still b
  pub there : (r : ℕ) → p ≢ r → process t r ≡ process b r

module _ (p a : ℕ) (es : List Event) (b t : State) (h : HeldTo b p) (m : ℕ) (hm : m < t count)
    (y : Ready t p m)
    (o : Cascading p a es b t) where
  -- when the causal deliveries of the turn begin
  begun : Delivering p a es (fifo_started t p m)
  unfolding raised_next appended put
  begun = record {
    meaning =
        meaning_fifo t (grown p a t es) p m y hm (held_to p b t o.same h m hm y.has) o.order.meaning;
    start = o.order.start;
  }

  -- and when they have ended
  middle : Delivering p a es (fifo_middle t p m)
  middle = delivering_all p a es (fifo_started t p m) begun

  -- at p nothing is left to deliver
  quiet_here : Quiet (fifo_middle t p m size) (messages (fifo_middle t p m)) (process (fifo_middle t p m) p)
  quiet_here i l =
      let c = (begun.meaning.each p).causal_log in
      stuck_facts (fifo_middle t p m) p i (causal_ends p (fifo_started t p m) c.once c.in_fifo i l)

  -- nor elsewhere, where nothing changed
  quiet_middle : QuietOf (fifo_middle t p m)
  quiet_middle r =
      at_or_off p
      (λ x. Quiet (fifo_middle t p m size) (messages (fifo_middle t p m)) (process (fifo_middle t p m) x))
      quiet_here
      (λ x n. subst₂ (λ (v : Still) (r : Process). Quiet v.ground.size v.ground.messages r)
      (sym (fifo_middle_still t p m))
      (sym (fifo_one_there t p m x n) ∙ ap (λ (v : Scene). v.own x) (fifo_one_scene t p m))
      (o.order.quiet x)) r

  -- so a turn keeps it
  pub cascading_more : Cascading p a es b (fifo_one t p m)
  cascading_more = record {
    order = rw (fifo_one_scene t p m)
        (record { meaning = middle.meaning; quiet = quiet_middle; start = middle.start });
    same = fifo_one_still t p m ∙ o.same;
    there = λ r n. fifo_one_there t p m r n ∙ o.there r n;
  }

-- ---- the cascade keeps it too
pub cascading_all : (p a : ℕ) (es : List Event) (b : State) → HeldTo b p → Cascading p a es b b
    → Cascading p a es b (cascade b p)
unfolding cascade
cascading_all p a es b h =
    loop_keeps (λ u. u count) (λ u. ready u p) (λ u. fifo_one u p) (Cascading p a es b)
    (λ u m hm e _ k. cascading_more p a es b u h m hm (ready_facts u p m e) k) (b count - b (fifo_length p)) b
