-- The order of the logs, for every run: conclusions 1 and 2 of demand 3, and what others cite: uniform
-- integrity, FIFO order, what each counter means, no repeats in either log. Conclusion 1 from right to left:
-- among the messages of the FIFO log outside the causal one that are m or before m, the lowest has all that
-- is before it in the causal log, so del lets it in, and nothing was left to deliver. Assumes nothing.
use Rattle.std.specs.Prelude.{◌≡◌, true, List, ◌≢◌, ◌↔◌, ℕ, ◌+◌, ◌≤◌, ◌<◌}
use Rattle.std.proofs.Common.{sym, ap, ◌∙◌, subst, inl, inr, arith}
use Rattle.std.proofs.Math.Decide.{ℕ_discrete}
use Rattle.definitions.specs.General.{In, in_at}
use Rattle.definitions.specs.World.{count, group, counter, sequence, next, delivered, fifo_length, causal_length, fifo, causal, sender, stamp, number, State, addressed}
use Rattle.definitions.specs.Setup.{setup_refusal}
use Rattle.definitions.specs.History.{Event, sent, At, Before, Run, Item, run}
use Rattle.base.specs.Tests.{le_or_lt, strong, both, both_l, both_r, both_i}
use Rattle.base.specs.Count.{tally_mono, Last, never, last_at, last_of}
use Rattle.world.specs.Runs.{on_states, started}
use Rattle.effects.specs.Views.{Messages, messages, Process, process}
use Rattle.order.specs.Knowledge.{Knowledge, knowledge}
use Rattle.order.specs.Precedence.{cast_at, cast_there, precedes_before, before_precedes}
use Rattle.order.specs.Counters.{To, of_to, of, to, counted, all_of, Counting, sender_before}
use Rattle.order.specs.Logs.{FifoLogOf, CausalLogOf, waits, Stuck, Quiet}
use Rattle.order.specs.Cascade.{Fifo, Causal, MeaningOf}
use Rattle.order.specs.Runs.{Whole, whole_started, whole_run}

-- ---- conclusion 1 from right to left, over the views
module _ {n : ℕ} {w : Messages} {k : Knowledge} (r : Process) (c : Counting n w k) (f : FifoLogOf w r)
    (o : CausalLogOf w k.before r) (quiet : Quiet n w r) where
  -- all that is before m and to the group is in the FIFO log
  abbrev PastIn : ℕ → Type 0
  PastIn m = (x : ℕ) → k.before m x ≡ true → x ≢ m → To w r.group x → In r.fifo_length r.fifo x

  -- what is in the causal log is counted by del
  in_del : (x : ℕ) → In r.causal_length r.causal x
      → w.stamp x r.group (w.sender x) ≤ r.delivered (w.sender x)
  in_del x (in_at j hj e) =
      subst (λ (y : ℕ). w.stamp y r.group (w.sender y) ≤ r.delivered (w.sender y)) e
      (omega (arith, o.prefix.in_below j hj))

  -- if all that is before m and to the group is in the causal log, m waits for nobody
  module _ (m : ℕ) (hm : m < w.total)
      (all : (x : ℕ) → k.before m x ≡ true → x ≢ m → To w r.group x
      → In r.causal_length r.causal x) where
    -- of the messages of q before m and to the group, the last has del count them all
    no_wait : (q : ℕ) → q ≢ w.sender m → w.stamp m r.group q ≤ r.delivered q
    no_wait q ne = go (last_of w.total (λ x. both (k.before m x) (of_to w q g x)))
      where
        g : ℕ
        g = r.group

        go : Last w.total (λ x. both (k.before m x) (of_to w q r.group x))
            → w.stamp m r.group q ≤ r.delivered q
        go (never z) = omega (arith, c.stamps m g q hm)
        go (last_at x hx p top) =
            let bx = both_l (k.before m x) (of_to w q g x) p in
            let cx = both_r (k.before m x) (of_to w q g x) p in
            let sx = of w q g x cx in
            let less =
            tally_mono w.total (λ y. both (k.before x y) (of_to w q g y))
            (λ y. both (k.before m y) (of_to w q g y))
            (λ y hy py.
            let cy = both_r (k.before m y) (of_to w q g y) py in
            both_i (k.before x y) (of_to w q g y)
            (sender_before c x y hx (top y hy py) (of w q g y cy ∙ sym sx)) cy) in
            let dx = in_del x (all x bx (λ y. ne (sym sx ∙ ap w.sender y)) (to w q g x cx)) in
            omega (
              arith,
              less,
              c.stamps m g q hm,
              c.stamps x g q hx,
              dx,
              ap (λ (y : ℕ). w.stamp x g y) sx,
              ap r.delivered sx,
            )

  -- what is in the FIFO log, with all that is before it, is in the causal log
  pub all_delivered : (m : ℕ) → In r.fifo_length r.fifo m → PastIn m
      → In r.causal_length r.causal m
  all_delivered =
      strong (λ m. In r.fifo_length r.fifo m → PastIn m → In r.causal_length r.causal m) one
    where
      one : (m : ℕ)
          → ((y : ℕ) → y < m → In r.fifo_length r.fifo y → PastIn y
          → In r.causal_length r.causal y)
          → In r.fifo_length r.fifo m → PastIn m → In r.causal_length r.causal m
      one m ih (in_at i hi e) past = go (quiet i hi)
        where
          all : (x : ℕ) → k.before m x ≡ true → x ≢ m → To w r.group x
              → In r.causal_length r.causal x
          all x b ne t =
              let l = (c.closed.before m).low x b in
              ih x (omega arith) (past x b ne t) (λ y b' ne' t'.
              let l' = (c.closed.before x).low y b' in
              past y ((c.closed.before m).chain x y b b') (omega arith) t')

          go : Stuck n w r (r.fifo i) → In r.causal_length r.causal m
          go (inl a) = rw e at a
          go (inr (waits q hq ne lt)) =
              absurd (omega (
                arith,
                no_wait m (rw e at (f.old i hi)) all q
                    (λ y. ne (y ∙ ap w.sender (sym e))),
                ap (λ (y : ℕ). w.stamp y r.group q) e,
              ))

-- ---- the two conclusions
module _ {r : Run State} (w : Whole r) (p : ℕ) where
  -- x precedes m exactly when it is before m, and not m
  to_before : (x m : ℕ) → Before r.seen x m → ((knowledge r.seen).before m x ≡ true) × (x ≢ m)
  to_before x m b = precedes_before r.seen (r.now count) w.formed x m b

  -- conclusion 1, from left to right
  pub causal_past : (m : ℕ) → Causal r.now p m
      → Fifo r.now p m
      × ((x : ℕ) → Before r.seen x m → addressed r.now x p ≡ true → Fifo r.now p x)
  causal_past m (in_at i h e) =
      let o = (w.meaning.each p).causal_log in (
        rw e at (o.in_fifo i h),
        λ x b t. (let y = to_before x m b in
            elim (o.order i x h (rw e y.0)
            (λ d. y.1 (d ∙ e)) t) [
              | in_at j l d ↦ rw d at (o.in_fifo j (omega arith))
            ]),
      )

  -- and from right to left
  pub past_causal : (m : ℕ) → Fifo r.now p m
      → ((x : ℕ) → Before r.seen x m → addressed r.now x p ≡ true → Fifo r.now p x)
      → Causal r.now p m
  past_causal m f all =
      let o = w.meaning.each p in
      all_delivered (process r.now p) w.meaning.counting o.fifo_log o.causal_log (w.quiet p) m f
      (λ x b ne t. all x (before_precedes r.seen (r.now count) w.formed x m b ne) t)

  -- conclusion 2: no causal log holds a message twice
  pub causal_once : (i j : ℕ) → i < j → j < r.now (causal_length p)
      → r.now (causal p i) ≢ r.now (causal p j)
  causal_once = (w.meaning.each p).causal_log.once

  -- or ahead of one that precedes it
  pub causal_ordered : (i j : ℕ) → i < r.now (causal_length p) → j < r.now (causal_length p)
      → Before r.seen (r.now (causal p j)) (r.now (causal p i)) → j < i
  causal_ordered i j hi hj b =
      let o = (w.meaning.each p).causal_log in
      let y = to_before (r.now (causal p j)) (r.now (causal p i)) b in
      elim (o.order i (r.now (causal p j)) hi y.0 y.1 (to_p (o.in_fifo j hj))) [
        | in_at l h e ↦ elim (ℕ_discrete l j) [
          | yes q ↦ omega arith
          | no q ↦ elim (le_or_lt l j) [
            | inl v ↦ absurd (causal_once l j (omega arith) hj e)
            | inr v ↦ absurd (causal_once j l v (omega arith) (sym e))
          ]
        ]
      ]
    where
      to_p : Fifo r.now p (r.now (causal p j)) → addressed r.now (r.now (causal p j)) p ≡ true
      to_p (in_at l h e) = rw e at ((w.meaning.each p).fifo_log.to_group l h)

  -- ---- the FIFO logs
  -- FIFO order: the earlier messages of the same sender to its group stand ahead in the FIFO log of p
  pub fifo_order : (i x : ℕ) → i < r.now (fifo_length p) → x < r.now (fifo p i)
      → r.now (sender x) ≡ r.now (sender (r.now (fifo p i))) → addressed r.now x p ≡ true
      → In i (λ j. r.now (fifo p j)) x
  fifo_order = (w.meaning.each p).fifo_log.order

  -- the second conclusion for the FIFO logs: no FIFO log holds a message twice
  pub fifo_once : (i j : ℕ) → i < j → j < r.now (fifo_length p) → r.now (fifo p i) ≢ r.now (fifo p j)
  fifo_once = (w.meaning.each p).fifo_log.once

-- p multicast m
pub data Multicast (es : List Event) (p m : ℕ) : Type 0 where
  multicast_at : (i : ℕ) → At es i (sent p m) → Multicast es p m

-- every message was multicast by its sender
pub was_multicast : {r : Run State} → Whole r → (m : ℕ) → m < r.now count
    → Multicast r.seen (r.now (sender m)) m
was_multicast {r} w m h = elim (cast_there r.seen w.formed m h) [
  | cast_at i q a ↦ multicast_at i (rw (w.senders i q m a) a)
]

-- ---- uniform integrity: a process delivers a message at most once, only one that was multicast, and only to
-- an addressee
pub record Integrity (s : State) (es : List Event) (p : ℕ) : Type 0 where
  pub fifo_multicast : (i : ℕ) → i < s (fifo_length p)
      → Multicast es (s (sender (s (fifo p i)))) (s (fifo p i))
  pub fifo_addressee : (i : ℕ) → i < s (fifo_length p) → addressed s (s (fifo p i)) p ≡ true
  pub fifo_at_most_once : (i j : ℕ) → i < j → j < s (fifo_length p) → s (fifo p i) ≢ s (fifo p j)
  pub causal_in_fifo : (i : ℕ) → i < s (causal_length p) → Fifo s p (s (causal p i))
  pub causal_at_most_once : (i j : ℕ) → i < j → j < s (causal_length p) → s (causal p i) ≢ s (causal p j)

-- of every process after every run
pub uniform_integrity : {r : Run State} → Whole r → (p : ℕ) → Integrity r.now r.seen p
uniform_integrity {r} w p = record {
  fifo_multicast = λ i h. was_multicast w (r.now (fifo p i)) ((w.meaning.each p).fifo_log.old i h);
  fifo_addressee = (w.meaning.each p).fifo_log.to_group;
  fifo_at_most_once = (w.meaning.each p).fifo_log.once;
  causal_in_fifo = (w.meaning.each p).causal_log.in_fifo;
  causal_at_most_once = (w.meaning.each p).causal_log.once;
}

-- ---- what each counter means. The past of p, and what is before m, are those of the history (Knowledge).
pub record CounterMeaning (s : State) (k : Knowledge) : Type 0 where
  -- C[g][q] of p: the messages of q to g in p's past; b[g] of p: all of p's messages to g
  pub counters : (p g q : ℕ) → s (counter p g q) ≡ counted (messages s) (k.past p) q g
  pub sequences : (p g : ℕ) → s (sequence p g) ≡ all_of (messages s) p g
  -- C[g][q] on m: the messages of q to g before m, m included; s[g] on m: those of m's sender
  pub stamps : (m g q : ℕ) → m < s count → s (stamp m g q) ≡ counted (messages s) (k.before m) q g
  pub numbers : (m g : ℕ) → m < s count → s (number m g) ≡ counted (messages s) (k.before m) (s (sender m)) g
  -- next[q] of p: p has FIFO-delivered a message to its group exactly when the number is below it
  pub nexts : (p m : ℕ) → m < s count → addressed s m p ≡ true
      → Fifo s p m ↔ (s (number m (s (group p))) < s (next p (s (sender m))))
  -- del[q] of p: p has causally delivered a message to its group exactly when the number is at most it
  pub dels : (p m : ℕ) → m < s count → addressed s m p ≡ true
      → Causal s p m ↔ (s (number m (s (group p))) ≤ s (delivered p (s (sender m))))

-- of every run
pub counter_meaning : {r : Run State} → Whole r → CounterMeaning r.now (knowledge r.seen)
counter_meaning {r} w = record {
  counters = λ p. (o.each p).counters;
  sequences = λ p. (o.each p).sequences;
  stamps = o.counting.stamps;
  numbers = λ m g h. o.counting.numbers m g h ∙ o.counting.stamps m g (r.now (sender m)) h;
  nexts = λ p m h t. (
    (λ f. let b = below 1 (λ x. r.now (next p x)) (r.now (group p)) f (o.each p).fifo_log.prefix.in_below in
        omega (arith, b, o.counting.numbers m (r.now (group p)) h)),
    (λ l. (o.each p).fifo_log.prefix.below_in m h t (omega (arith, o.counting.numbers m (r.now (group p)) h))),
  );
  dels = λ p m h t. (
    (λ f. let b = below 0 (λ x. r.now (delivered p x)) (r.now (group p)) f
        (o.each p).causal_log.prefix.in_below in
        omega (arith, b, o.counting.numbers m (r.now (group p)) h)),
    (λ l. (o.each p).causal_log.prefix.below_in m h t (omega (arith, o.counting.numbers m (r.now (group p)) h))),
  );
}
  where
    o : MeaningOf r.now r.seen
    o = w.meaning

    below : (e : ℕ) (bound : ℕ → ℕ) (g : ℕ) {n m : ℕ} {log : ℕ → ℕ} → In n log m
        → ((i : ℕ) → i < n
        → e + r.now (stamp (log i) g (r.now (sender (log i)))) ≤ bound (r.now (sender (log i))))
        → e + r.now (stamp m g (r.now (sender m))) ≤ bound (r.now (sender m))
    below e bound g (in_at i l d) h = rw d at (h i l)

-- ---- a message that precedes another is lower
pub lower : {r : Run State} → Whole r → (x m : ℕ) → Before r.seen x m → x < m
lower {r} w x m b =
    let (y, z) = precedes_before r.seen (r.now count) w.formed x m b in
    omega (arith, (w.meaning.counting.closed.before m).low x y, z)

-- ---- for every setup record that is taken and every list of items
pub reached : (setup : List ℕ) (items : List Item) → setup_refusal setup ≡ 0
    → Whole (run on_states (started setup) items)
reached setup items ok = whole_run (started setup) items (whole_started setup ok)
