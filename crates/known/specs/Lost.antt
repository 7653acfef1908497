-- Known run 4, "after any further steps message 2 is not in c". Message 0 precedes message 2 and is to the group
-- of process 2. Nobody holds message 0 and none of its letters flies; so nobody ever holds it, for only a holder
-- could send one again. So it never enters a FIFO log, and by conclusion 1 of demand 3 message 2 never enters the
-- causal log of process 2. The facts hold after the run, which is computed, and each step keeps them. Assumes
-- nothing.
use Rattle.std.specs.Prelude.{◌≡◌, refl, Bool, true, false, not, List, [], ◌∷◌, ◌++◌, ◌≢◌, ℕ, zero, suc, ◌<◌, eqb, length, get_or}
use Rattle.std.proofs.Common.{ap, ap₂, ◌∙◌, inl, inr, arith, eqb-true}
use Rattle.std.proofs.Math.Decide.{ℕ_discrete}
use Rattle.definitions.specs.General.{every, some, first_from, absent, in_at, tabulate, chosen, loop, bit, with, without, mask_of, only}
use Rattle.definitions.specs.World.{size, count, causal_length, held, causal, flight, State, put, addressed, has_group}
use Rattle.definitions.specs.Setup.{fresh, setup_bits, setup_group, good_setup, setup_refusal, made}
use Rattle.definitions.specs.Machine.{with_tables, ready, lowest_short, lowest_awaited, short_of, awaited, deliverable, deliverable_at, merge, causal_one, causal_all, appended, raised_next, due, send_ok, send_oks, fifo_one, cascade, raised, stamped, numbered, posted, multicast, leave, mark, hold, arrival, trust_set, crash}
use Rattle.definitions.specs.Steps.{Step, multicasts, arrives, loses, trusts, crashes, malformed, read, good_mask, refusal, accepted, step}
use Rattle.definitions.specs.History.{casted, gained, deliveries, Run, Item, given, taken, tick, act, run, InForce}
use Rattle.definitions.specs.Words.{log_words, on_words, started_words}
use Rattle.base.specs.Tests.{clash, is_same}
use Rattle.base.specs.Search.{every_true}
use Rattle.base.specs.Bits.{bit_zero}
use Rattle.world.specs.Runs.{on_states, started}
use Rattle.effects.specs.Arrival.{Held, Fly}
use Rattle.effects.specs.Holding.{lands, step_held, step_lasting}
use Rattle.effects.specs.Spent.{Spent, Once, step_once}
use Rattle.effects.specs.Events.{gained_keeps}
use Rattle.effects.specs.Runs.{run_keeps, run_append}
use Rattle.order.specs.Knowledge.{knowledge, before_old}
use Rattle.order.specs.Precedence.{before_precedes}
use Rattle.order.specs.Cascade.{Fifo}
use Rattle.order.specs.Runs.{Whole, whole_started, whole_step}
use Rattle.order.specs.Order.{causal_past}
use Rattle.agreement.specs.Turns.{Live}
use Rattle.agreement.specs.Runs.{live_started, live_step}
use Rattle.carried.specs.Carried.{written, from_setup}
use Rattle.carried.specs.Calls.{making_carried, log_carried, listed_in}
use Rattle.known.specs.Runs.{multicasting, arriving, losing, crashing, three}

-- ---- what holds of every run, with no trust rule: no trust set has to name anybody
abbrev nobody : ℕ → Bool
nobody q = false

in_force : (s : State) → InForce nobody s
in_force s p q hp hq u l = clash {b = false} l refl

-- the counters and logs mean what they should; what is in a FIFO log is held
abbrev Reached : Run State → Type 0
Reached r = Whole r × Live nobody r.now

reached_step : (r : Run State) (x : Step) → accepted r.now x ≡ true → Reached r → Reached (taken on_states r x)
reached_step r x e o = (
  whole_step r.now r.seen x e o.0,
  live_step nobody r.now r.seen o.0 o.1 x e (in_force r.now) (in_force (step r.now x)),
)

-- ---- the facts
record Lost (r : Run State) : Type 0 where
  pub known : Reached r
  pub three : r.now size ≡ 3
  pub many : 2 < r.now count
  -- nobody holds message 0, and none of its letters flies
  pub unheld : (p : ℕ) → p < 3 → ¬ Held r.now p 0
  pub silent : (k q p : ℕ) → k < 3 → q < 3 → p < 3 → ¬ Fly r.now 0 k q p
  -- it precedes message 2, and is to the group of process 2
  pub precedes : (knowledge r.seen).before 2 0 ≡ true
  pub to : addressed r.now 0 2 ≡ true

-- each step keeps them
lost_step : (r : Run State) (x : Step) → accepted r.now x ≡ true → Lost r → Lost (taken on_states r x)
unfolding knowledge
lost_step r x e o = record {
  known = reached_step r x e o.known;
  three = (step_lasting s x).0 ∙ o.three;
  many = omega (arith, once.grows, o.many);
  unheld = unheld;
  silent = λ k q p hk hq hp f. elim (once.new_letter k 0 q p f) [
    | inl a ↦ o.silent k q p hk hq hp a
    | inr a ↦ unsent k q hq a.0 a.1
  ];
  precedes = gained_keeps (λ l. (knowledge l).before 2 0 ≡ true) (λ _ _ _ h. h) (s size) s (step s x)
      (casted x s r.seen) (cast x);
  to = ap₂ bit ((step_lasting s x).2 0 (omega (arith, o.many))) ((step_lasting s x).1 2) ∙ o.to;
}
  where
    s : State
    s = r.now

    once : Once r.now (step r.now x)
    once = step_once r.now x e

    -- to be held, a letter of it would have to arrive
    unheld : (p : ℕ) → p < 3 → ¬ Held (step r.now x) p 0
    unheld p hp h = elim (step_held r.now x e p 0 h) [
      | inl a ↦ o.unheld p hp a
      | inr (lands k q l) ↦ o.silent k q p l.kind (omega (arith, l.from, o.three)) hp l.flies
    ]

    -- a letter that is sent was not spent, and its origin holds it
    unsent : (k q : ℕ) → q < 3 → (¬ Spent r.now k 0 q) → Spent (step r.now x) k 0 q → ⊥
    unsent zero q hq n y = n (omega (arith, o.many), tt)
    unsent (suc zero) q hq n y = unheld q hq y.1
    unsent (suc (suc k)) q hq n y = unheld q hq y.1.0

    cast : (x : Step) → (knowledge (casted x r.now r.seen)).before 2 0 ≡ true
    cast (multicasts p groups order_no) =
        before_old (knowledge r.seen) p (r.now count) 2 0 (omega (arith, o.many)) ∙ o.precedes
    cast (arrives k m q p) = o.precedes
    cast (loses k m q p) = o.precedes
    cast (trusts p set) = o.precedes
    cast (crashes p) = o.precedes
    cast malformed = o.precedes

-- ---- the run itself, as items
abbrev pub case_4 : List Item
case_4 =
    given (multicasting 0 4)
    ∷ given (multicasting 0 2)
    ∷ given (arriving 0 1 0 1)
    ∷ given (arriving 2 1 1 1)
    ∷ given (multicasting 1 4)
    ∷ given (arriving 0 2 1 2)
    ∷ given (arriving 2 2 2 2)
    ∷ given (crashing 0)
    ∷ given (losing 0 0 0 2)
    ∷ []

end_4 : Run State
end_4 = run on_states (started three) case_4

-- the facts after it, computed
case_4_facts : (end_4.now size ≡ 3) × (end_4.now count ≡ 3)
    × (every 3 (λ p. not (eqb (end_4.now (held p 0)) 1)) ≡ true)
    × (every 3 (λ k. every 3 (λ q. eqb (end_4.now (flight 0 k q)) 0)) ≡ true)
    × ((knowledge end_4.seen).before 2 0 ≡ true) × (addressed end_4.now 0 2 ≡ true)
unfolding end_4 ℕ_discrete run act tick gained deliveries knowledge every some first_from absent chosen loop
    bit with without mask_of only put fresh setup_bits setup_group made with_tables ready lowest_short lowest_awaited short_of awaited deliverable
    deliverable_at merge causal_one causal_all appended raised_next due send_ok send_oks fifo_one cascade
    raised stamped numbered posted multicast leave mark hold arrival trust_set crash read has_group good_mask
    refusal step
case_4_facts = (refl, refl, refl, refl, refl, refl)

setup_taken : setup_refusal three ≡ 0
unfolding setup_refusal good_setup has_group made fresh setup_group setup_bits every some
setup_taken = refl

end_4_lost : Lost end_4
unfolding end_4
end_4_lost =
    let (n, c, unheld, silent, precedes, to) = case_4_facts in
    record {
      known = run_keeps Reached reached_step (started three) case_4
          (whole_started three setup_taken, live_started nobody three);
      three = n;
      many = omega arith;
      unheld = λ p l h.
          clash (every_true 3 (λ p. not (eqb (end_4.now (held p 0)) 1)) unheld p l)
          (is_same (end_4.now (held p 0)) 1 h);
      silent = λ k q p hk hq hp f.
          let none = eqb-true (end_4.now (flight 0 k q)) 0
          (every_true 3 (λ q. eqb (end_4.now (flight 0 k q)) 0)
          (every_true 3 (λ k. every 3 (λ q. eqb (end_4.now (flight 0 k q)) 0)) silent k hk) q hq) in
          clash f (ap (λ (v : ℕ). bit v p) none ∙ bit_zero p);
      precedes = precedes;
      to = to;
    }

-- ---- after any further items
abbrev pub then : List Item → Run State
then items = run on_states (started three) (case_4 ++ items)

after_lost : (items : List Item) → Lost (then items)
unfolding end_4
after_lost items =
    rw (run_append (started three) case_4 items) (run_keeps Lost lost_step end_4 items end_4_lost)

-- After the run and any further items, message 2 is not in the causal log of process 2.
pub run_4_stays : (items : List Item) (i : ℕ) → i < (then items).now (causal_length 2)
    → (then items).now (causal 2 i) ≢ 2
run_4_stays items i l e =
    let o = after_lost items in
    let w = o.known.0 in
    not_there o ((causal_past w 2 2 (in_at i l e)).1 0
    (before_precedes (then items).seen ((then items).now count) w.formed 0 2 o.precedes
    (λ z. omega arith)) o.to)
  where
    not_there : Lost (then items) → Fifo (then items).now 2 0 → ⊥
    not_there o (in_at j h d) =
        o.unheld 2 (omega arith)
        (rw d at (o.known.1.net.kept 2 j (omega (arith, o.three)) h))

-- The same of what the log call returns, on any lent words.
pub run_4_words : (w : List ℕ) → length w ≡ 20480 → (items : List Item) (i : ℕ)
    → i < length (log_words (run on_words (started_words w three) (case_4 ++ items)).now 2 true)
    → get_or (log_words (run on_words (started_words w three) (case_4 ++ items)).now 2 true) i 0 ≢ 2
run_4_words w l items i k e =
    elim (listed_in log (in_at i k e)) [ in_at j h d ↦ run_4_stays items j h d ]
  where
    words : run on_words (started_words w three) (case_4 ++ items) ≡ written (then items)
    words = from_setup w three (making_carried w three l ∙ setup_taken) (case_4 ++ items)

    log : log_words (run on_words (started_words w three) (case_4 ++ items)).now 2 true
        ≡ tabulate ((then items).now (causal_length 2)) (λ i. (then items).now (causal 2 i))
    log =
        ap (λ (r : Run (List ℕ)). log_words r.now 2 true) words
        ∙ log_carried (then items).now (after_lost items).known.0.sound 2
        (omega (arith, (after_lost items).three)) true
