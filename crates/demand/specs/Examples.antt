-- Runs that meet the hypotheses of demand 3, computed on states: one in which a message is overtaken by one
-- that it precedes, and waits; and one in which a process crashes and the trust rule holds, so that the FIFO
-- logs agree after a settle; the second over lent words too. Assumes nothing.
use Rattle.std.specs.Prelude.{◌≡◌, refl, Bool, true, false, ◌&&◌, List, [], ◌∷◌, ℕ, ◌<◌, eqb, length}
use Rattle.std.proofs.Common.{sym, arith, eq-eqb}
use Rattle.std.proofs.Math.Decide.{ℕ_discrete}
use Rattle.definitions.specs.General.{every, some, first_from, absent, chosen, loop, bit, with, without, mask_of, only}
use Rattle.definitions.specs.World.{size, group, trust, up, fifo_length, causal_length, fifo, causal, State, put, has_group}
use Rattle.definitions.specs.Setup.{fresh, setup_bits, setup_group, good_setup, setup_refusal, made}
use Rattle.definitions.specs.Machine.{with_tables, ready, lowest_short, lowest_awaited, short_of, awaited, deliverable, deliverable_at, merge, causal_one, causal_all, appended, raised_next, due, send_ok, send_oks, fifo_one, cascade, raised, stamped, numbered, posted, multicast, leave, mark, hold, arrival, trust_set, crash}
use Rattle.definitions.specs.Steps.{read, good_mask, is_up, refusal, step}
use Rattle.definitions.specs.Settle.{moves, receiver, origin, kind, movable, letter_of, lowest, lowest_first, settle_from}
use Rattle.definitions.specs.History.{Event, sent, got, here, there, same, carried, chain, Before, casts, deliveries, gained, Run, Item, given, tick, act, run, names, InForce, AllAlong, TrustRule}
use Rattle.definitions.specs.Words.{making_refusal}
use Rattle.base.specs.Tests.{clash, at_or_off}
use Rattle.world.specs.Items.{multicasting, arriving, three, until_overtaken}
use Rattle.world.specs.Runs.{on_states, started}
use Rattle.demand.specs.States.{settled}

-- ---- the third known run, until message 2's letters have arrived: what it has seen
abbrev seen_so_far : List Event
seen_so_far = sent 1 2 ∷ got 1 1 ∷ sent 0 1 ∷ sent 0 0 ∷ []

-- two histories are the same
abbrev same_events : List Event → List Event → Bool
same_events [] [] = true
same_events [] (y ∷ ys) = false
same_events (x ∷ xs) [] = false
same_events (sent p m ∷ xs) (sent q n ∷ ys) = eqb p q && eqb m n && same_events xs ys
same_events (sent p m ∷ xs) (got q n ∷ ys) = false
same_events (got p m ∷ xs) (sent q n ∷ ys) = false
same_events (got p m ∷ xs) (got q n ∷ ys) = eqb p q && eqb m n && same_events xs ys

-- process 2 has FIFO-delivered message 2, and nothing causally: message 2 waits. Message 0 is in no log of 2.
abbrev waits : Run State → Bool
waits r =
    eqb (r.now (fifo_length 2)) 1
    && eqb (r.now (fifo 2 0)) 2
    && eqb (r.now (causal_length 2)) 0
    && same_events r.seen seen_so_far

-- it is so
pub overtaken_waits : waits (run on_states (started three) until_overtaken) ≡ true
unfolding ℕ_discrete every some first_from absent chosen loop bit with without mask_of only put with_tables
    ready lowest_short lowest_awaited short_of awaited deliverable deliverable_at merge causal_one causal_all appended raised_next due send_ok send_oks
    fifo_one cascade raised stamped numbered posted multicast leave mark hold arrival trust_set crash fresh
    setup_bits setup_group made read has_group good_mask refusal step tick act run gained deliveries
overtaken_waits = refl

-- message 0 precedes message 2: process 0 multicast 1 after it, and process 1 delivered 1 before it multicast 2
pub overtaken_precedes : Before seen_so_far 0 2
overtaken_precedes =
    casts {i = 0} {j = 3} 0 1 (there (there (there (here refl)))) (here refl)
    (chain {j = 1}
    (same {i = 0} {j = 1} (sent 0 0) (sent 0 1) (omega arith) (there (there (there (here refl))))
    (there (there (here refl))) refl)
    (chain {j = 2}
    (carried {i = 1} {j = 2} 0 1 1 (omega arith) (there (there (here refl))) (there (here refl)))
    (same {i = 2} {j = 3} (got 1 1) (sent 1 2) (omega arith) (there (here refl)) (here refl) refl)))

-- then message 0 arrives, and both are delivered causally, message 0 first
abbrev until_delivered : List Item
until_delivered = arriving 0 0 0 2 ∷ arriving 2 0 2 2 ∷ []

-- that is seen of it
abbrev delivered : Run State → Bool
delivered r =
    eqb (r.now (fifo_length 2)) 2
    && eqb (r.now (fifo 2 1)) 0
    && eqb (r.now (causal_length 2)) 2
    && eqb (r.now (causal 2 0)) 0
    && eqb (r.now (causal 2 1)) 2
    && same_events r.seen (got 2 2 ∷ got 2 0 ∷ seen_so_far)

-- it is so
pub overtaken_delivered : delivered
    (run on_states (run on_states (started three) until_overtaken) until_delivered) ≡ true
unfolding ℕ_discrete every some first_from absent chosen loop bit with without mask_of only put with_tables
    ready lowest_short lowest_awaited short_of awaited deliverable deliverable_at merge causal_one causal_all appended raised_next due send_ok send_oks
    fifo_one cascade raised stamped numbered posted multicast leave mark hold arrival trust_set crash fresh
    setup_bits setup_group made read has_group good_mask refusal step tick act run gained deliveries
overtaken_delivered = refl

-- ---- two processes of one group: 0 multicasts, its letter reaches 1, 0 crashes, and 1 trusts only itself
abbrev pub pair : List ℕ
pair = 0 ∷ 2 ∷ 0 ∷ 0 ∷ 0 ∷ 0 ∷ 0 ∷ 0 ∷ []

-- the steps
abbrev pub crashing : List Item
crashing =
    multicasting 0 1
    ∷ arriving 0 0 0 1
    ∷ given (5 ∷ 0 ∷ 0 ∷ 0 ∷ 0 ∷ 0 ∷ 0 ∷ 0 ∷ [])
    ∷ given (4 ∷ 1 ∷ 2 ∷ 0 ∷ 0 ∷ 0 ∷ 0 ∷ 0 ∷ [])
    ∷ []

-- what holds of 0 and 1 holds below 2
two : (P : ℕ → Type 0) → P 0 → P 1 → (x : ℕ) → x < 2 → P x
two P a b x h =
    at_or_off 0 (λ y. y < 2 → P y) (λ _. a) (λ y n l. let e : 1 ≡ y = omega arith in rw e at b) x h

-- the runs after no, one, two, three and all four steps
abbrev r₀ : Run State
r₀ = started pair

-- after the multicast
abbrev r₁ : Run State
r₁ = act on_states r₀ (multicasting 0 1)

-- after the arrival
abbrev r₂ : Run State
r₂ = act on_states r₁ (arriving 0 0 0 1)

-- after the crash
abbrev r₃ : Run State
r₃ = act on_states r₂ (given (5 ∷ 0 ∷ 0 ∷ 0 ∷ 0 ∷ 0 ∷ 0 ∷ 0 ∷ []))

-- after all of them
abbrev r₄ : Run State
r₄ = run on_states (started pair) crashing

-- both trust 1, which is up at the end and of the only group
abbrev Both : State → Type 0
Both s =
    (s size ≡ 2) × (s (group 0) ≡ s (group 1)) × (bit (s (trust 0)) 1 ≡ true) × (bit (s (trust 1)) 1 ≡ true)

-- then the trust sets name a live process for it
both_trust : (live : ℕ → Bool) → live 1 ≡ true → (s : State) → Both s → InForce live s
both_trust live l s (z, g, t0, t1) p q hp hq u lq =
    names 1 (omega arith) l (two (λ x. s (group 1) ≡ s (group x)) (sym g) refl q (omega arith))
    (two (λ x. bit (s (trust x)) 1 ≡ true) t0 t1 p (omega arith))

-- the trust rule holds
pub crash_rule : TrustRule on_states (started pair) crashing
unfolding ℕ_discrete every some first_from absent chosen loop bit with without mask_of only put with_tables
    ready lowest_short lowest_awaited short_of awaited deliverable deliverable_at merge causal_one causal_all appended raised_next due send_ok send_oks
    fifo_one cascade raised stamped numbered posted multicast leave mark hold arrival trust_set crash fresh
    setup_bits setup_group made read has_group good_mask refusal step tick act run gained deliveries AllAlong
crash_rule = record {
  in_force = (
    trusts r₀.now (refl, refl, refl, refl),
    (
      trusts r₁.now (refl, refl, refl, refl),
      (
        trusts r₂.now (refl, refl, refl, refl),
        (trusts r₃.now (refl, refl, refl, refl), trusts r₄.now (refl, refl, refl, refl)),
      ),
    ),
  );
  -- process 0 is down, and 1 does not trust it
  fair = λ p q hp hq u b.
      two (λ x. r₄.now (up x) ≡ 1 → bit (r₄.now (trust x)) q ≡ true → r₄.now (up q) ≡ 1)
      (λ v _. absurd (let z : ◌≡◌ {A = ℕ} 0 1 = v in omega arith))
      (λ _ c. two (λ x. bit (r₄.now (trust 1)) x ≡ true → r₄.now (up x) ≡ 1) (λ d. clash d refl) (λ _. refl)
      q hq c) p hp u b;
}
  where
    trusts : (s : State) → Both s → InForce (is_up r₄.now) s
    trusts = both_trust (is_up r₄.now) refl

-- and the live process has: its own OK arrives in the settle, and the message of the process that crashed is
-- in both its logs
abbrev survived : State → Bool
survived s =
    eqb (s (fifo_length 1)) 1
    && eqb (s (fifo 1 0)) 0
    && eqb (s (causal_length 1)) 1
    && eqb (s (fifo_length 0)) 0

-- it is so
pub crash_delivered : survived (settled lowest_first (run on_states (started pair) crashing) 5).world.now ≡ true
unfolding ℕ_discrete every some first_from absent chosen loop bit with without mask_of only put with_tables
    ready lowest_short lowest_awaited short_of awaited deliverable deliverable_at merge causal_one causal_all appended raised_next due send_ok send_oks
    fifo_one cascade raised stamped numbered posted multicast leave mark hold arrival trust_set crash fresh
    setup_bits setup_group made read has_group good_mask refusal step tick act run gained deliveries
    moves receiver origin kind movable letter_of lowest settle_from settled
crash_delivered = refl

-- ---- the second run over any lent words, as a caller has it
module _ (w : List ℕ) (long : length w ≡ 20480) where
  -- the setup record is taken
  pub pair_taken : making_refusal w pair ≡ 0
  unfolding making_refusal setup_refusal good_setup setup_bits setup_group every
  pair_taken = rw (eq-eqb (length w) 20480 long)
