-- Every waiting message of a run is told a message that it awaits (specs/Next says why). Assumes nothing.
use Rattle.std.specs.Prelude.{◌≡◌, true, ◌≢◌}
use Rattle.std.proofs.Common.{sym, ap, ◌∙◌, arith, lt-ltb}
use Rattle.std.proofs.Math.Logic.{inl, inr}
use Prim.Native.Nat.{ℕ, ◌<◌}
use Rattle.std.proofs.lemmas.Bool.{not-true}
use Rattle.definitions.specs.General.{in_at}
use Rattle.definitions.specs.World.{size, count, group, delivered, sender, stamp, State}
use Rattle.definitions.specs.Machine.{fits, message_of, lowest_short, lowest_awaited, short_of, awaited}
use Rattle.definitions.specs.History.{Run}
use Rattle.base.specs.Tests.{le_or_lt, clash}
use Rattle.world.specs.Awaited.{Short, short_facts, lowest_short_law, Next, next_facts, next_is, lowest_awaited_law}
use Rattle.effects.specs.Views.{messages}
use Rattle.order.specs.Knowledge.{knowledge}
use Rattle.order.specs.Precedence.{before_precedes}
use Rattle.order.specs.Counters.{of, to, counter_before}
use Rattle.order.specs.Cascade.{Fifo, Causal}
use Rattle.order.specs.Runs.{Whole}
use Rattle.awaits.specs.Next.{one_with, next_there, Told, message_low, some_short}

module _ {r : Run State} (w : Whole r) (p m : ℕ) (f : Fifo r.now p m) (out : ¬ Causal r.now p m) where
  abbrev g : ℕ
  g = r.now (group p)

  -- a message that is next of a process that falls short
  module _ (q x : ℕ) (h : Short r.now p m q) (hx : x < r.now count) (n : Next r.now p q x) where
    -- its count is at most what m knows of, so it is before m
    before_it : (knowledge r.seen).before m x ≡ true
    before_it =
        counter_before w.meaning.counting x m g hx (message_low w p m f out) n.to
        (omega (
          arith,
          n.turn,
          h.above,
          ap (λ (y : ℕ). r.now (stamp x g y)) n.of,
          ap (λ (y : ℕ). r.now (stamp m g y)) n.of,
        ))

    another : x ≢ m
    another e = h.other (sym n.of ∙ ap (λ (v : ℕ). r.now (sender v)) e)

    -- and above what p has delivered
    outside : Causal r.now p x → ⊥
    outside (in_at i k e) =
        omega (
          arith,
          n.turn,
          (w.meaning.each p).causal_log.prefix.in_below i k,
          ap (λ (y : ℕ). r.now (stamp y g (r.now (sender y)))) e,
          ap (λ (y : ℕ). r.now (delivered p (r.now (sender y)))) e,
          ap (λ (y : ℕ). r.now (stamp x g y)) n.of,
          ap (λ (y : ℕ). r.now (delivered p y)) n.of,
        )

    told : awaited r.now p m ≡ message_of q x → Told r p m
    told a = record {
      of = q;
      message = x;
      answer = a;
      exists = hx;
      next = n;
      precedes = before_precedes r.seen (r.now count) w.formed x m before_it another;
      undelivered = outside;
    }

  -- there is one, and the search finds it
  found : (q : ℕ) → Short r.now p m q → awaited r.now p m ≡ short_of r.now p q → Told r p m
  unfolding short_of
  found q h a =
      let x = lowest_awaited r.now p q in
      let hx = there in
      told q x h hx (next_facts r.now p q x ((lowest_awaited_law r.now p q).hit (omega arith)))
      (a ∙ rw (lt-ltb x (r.now count) hx))
    where
      there : lowest_awaited r.now p q < r.now count
      there = elim (next_there w.meaning.counting m g q (r.now (delivered p q)) (message_low w p m f out) h.above) [
        | one_with y hy o t ↦ elim (le_or_lt (r.now count) (lowest_awaited r.now p q)) [
          | inr l ↦ l
          | inl l ↦ clash
              (next_is r.now p q y (record {
                of = of (messages r.now) q g y o;
                to = to (messages r.now) q g y o;
                turn = t;
              }))
              ((lowest_awaited_law r.now p q).miss y (omega arith) (omega arith))
        ]
      ]

  -- so every waiting message is told whose message it awaits, and which
  pub all_told : Told r p m
  unfolding awaited
  all_told =
      let q = lowest_short r.now p m in
      found q
      (short_facts r.now p m q
      (not-true (fits r.now p m q) ((lowest_short_law r.now p m).hit (omega (arith, (some_short w p m f out))))))
      (rw (lt-ltb q (r.now size) (some_short w p m f out)))
