-- Each letter flies at most once: once it has left flight, by arriving or by being lost, it never flies
-- again, whatever items follow. For every letter in flight is spent, and none that is spent is sent (Spent).
-- Assumes nothing.
use Rattle.std.specs.Prelude.{List, ℕ}
use Rattle.std.proofs.Common.{inl, inr}
use Rattle.definitions.specs.World.{State}
use Rattle.definitions.specs.Setup.{fresh, made}
use Rattle.definitions.specs.History.{Run, Item, run}
use Rattle.base.specs.Tests.{clash}
use Rattle.base.specs.Bits.{bit_zero}
use Rattle.world.specs.Runs.{on_states, started}
use Rattle.effects.specs.Arrival.{Fly}
use Rattle.effects.specs.Runs.{run_keeps}
use Rattle.effects.specs.Spent.{Spent, Once, spent_on, once_self, once_then, step_once}

-- ---- no list sends a letter twice
run_once : (r : Run State) (items : List Item) → Once r.now (run on_states r items).now
run_once r items =
    run_keeps (λ t. Once r.now t.now) (λ t x e o. once_then o (step_once t.now x e)) r items
    (once_self r.now)

-- ---- the theorem
-- in a fresh world no letter flies; so a letter that flies after a list is spent
fresh_silent : (setup : List ℕ) (k m q u : ℕ) → Fly (made setup) m k q u → ⊥
unfolding made fresh
fresh_silent setup k m q u f = clash f (bit_zero u)

-- after a list, what flies is spent
pub flying_spent : (setup : List ℕ) (items : List Item) (k m q u : ℕ)
    → Fly (run on_states (started setup) items).now m k q u
    → Spent (run on_states (started setup) items).now k m q
flying_spent setup items k m q u f = elim ((run_once (started setup) items).new_letter k m q u f) [
  | inl a ↦ absurd (fresh_silent setup k m q u a)
  | inr a ↦ a.1
]

-- Each letter flies at most once: if it flies after a list of items, and does not after more items, then it
-- does not after any further ones.
pub flies_once : (setup : List ℕ) (items more further : List Item) (k m q u : ℕ)
    → Fly (run on_states (started setup) items).now m k q u
    → (¬ Fly (run on_states (run on_states (started setup) items) more).now m k q u)
    → ¬ Fly (run on_states (run on_states (run on_states (started setup) items) more) further).now m k q u
flies_once setup items more further k m q u f gone again =
    elim ((run_once (run on_states (run on_states (started setup) items) more) further).new_letter k m q u
    again) [
      | inl a ↦ gone a
      | inr a ↦ a.0
          (spent_on (run_once (run on_states (started setup) items) more) k m q
          (flying_spent setup items k m q u f))
    ]
