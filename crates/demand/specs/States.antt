-- Demand 3 over states, for the run of any list of items from a fresh world, of both settles. Order comes from Runs and Order
-- (crate order), the bound from the potential (crate bound), agreement from letters and trust (crate
-- agreement): a settle that says done leaves no letter to an up process, and keeps the trust rule of the
-- list, its live processes and its trust sets. Assumes nothing.
use Rattle.std.specs.Prelude.{◌≡◌, refl, Bool, true, List, ℕ, ◌+◌, ◌≤◌, ◌<◌, eqb}
use Rattle.std.proofs.Common.{sym, ap, arith}
use Rattle.std.proofs.Math.Path.{subst, fun_ext}
use Rattle.definitions.specs.General.{bit}
use Rattle.definitions.specs.World.{State}
use Rattle.definitions.specs.Setup.{setup_refusal}
use Rattle.definitions.specs.Steps.{arrives, is_up, step}
use Rattle.definitions.specs.Settle.{nothing, Settled, Manner, choice, settle_from}
use Rattle.definitions.specs.History.{Run, Item, taken, run, TrustRule}
use Rattle.world.specs.StepLaws.{Chosen, none_flies, moves_taken}
use Rattle.world.specs.TurnLaws.{choice_chosen, choice_moves}
use Rattle.world.specs.SettleLaws.{settle, Says, settle_says}
use Rattle.world.specs.Runs.{on_states, started}
use Rattle.effects.specs.Views.{Ground}
use Rattle.order.specs.Runs.{Whole, whole_started}
use Rattle.order.specs.Order.{reached}
use Rattle.agreement.specs.Runs.{live_started, During, arrival_during, along_ends, live_run}
use Rattle.agreement.specs.Agreement.{Calm, Agreed, agrees}
use Rattle.bound.specs.Potential.{potential}
use Rattle.bound.specs.Settle.{arrivals, SaysDone, Ended, settle_ends, moved_falls}
use Rattle.bound.proofs.Settle.{reached_low, reached_settle_most, reached_settle_done}
use Rattle.carried.specs.Carried.{settle_now}

-- ---- the settle of a run, with its answer
unfoldable pub settled : Manner → Run State → ℕ → Settled (Run State)
settled o r b =
    settle_from (λ x t. choice o x t.now) (λ t k m q p. taken on_states t (arrives k m q p)) b 0 0 r

-- nothing to move: no letter flies between two up processes
calm : (s : State) → Chosen s nothing → Calm s
calm s c k m q p hk hm hq hp uq up_p = none_flies s c k m q p hk hm hq hp up_p

-- ---- demand 3, for the run of a list of items
pub record Demand3States (r : Run State) (items : List Item) : Type 0 where
  pub whole : Whole (run on_states r items)
  pub bounded : (o : Manner) (b : ℕ) → arrivals (settled o (run on_states r items) b).ending ≤ 33792
  pub finishes : (o : Manner) (b : ℕ) → 33792 ≤ b → SaysDone (settled o (run on_states r items) b).ending
  pub agreed : TrustRule on_states r items → (o : Manner) (b : ℕ) → 33792 ≤ b
      → Agreed (settled o (run on_states r items) b).world.now

-- up processes trust up processes only: that looks at the ground
abbrev FairIn : Ground → Type 0
FairIn v = (p q : ℕ) → p < v.size → q < v.size → v.up p ≡ 1 → bit (v.trust p) q ≡ true → v.up q ≡ 1

module _ (setup : List ℕ) (items : List Item) (ok : setup_refusal setup ≡ 0) where
  -- the run after the list
  abbrev r : Run State
  r = run on_states (started setup) items

  -- with the trust rule
  module _ (rule : TrustRule on_states (started setup) items) where
    -- the processes that are up after the list
    abbrev live : ℕ → Bool
    live = is_up (run on_states (started setup) items).now

    -- a settle ends, and keeps what letters and trust tell
    during : (o : Manner) (b : ℕ)
        → Ended (λ x t. choice o x t.now) (λ t k m q p. taken on_states t (arrives k m q p)) (During live r)
        (λ t. potential t.now) b 0 r (settled o r b)
    unfolding settled step
    during o b =
        settle_ends (λ x t. choice o x t.now) (λ t k m q p. taken on_states t (arrives k m q p)) (During live r)
        (λ t. potential t.now)
        (λ x t k m q p e d.
        let a = choice_moves o x t.now k m q p e in
        record {
          keeps = arrival_during live r t k m q p (along_ends live (started setup) items rule.in_force)
              (moves_taken t.now k m q p a) d;
          lowers = moved_falls t.now k m q p d.whole.sound a;
        })
        b 0 0 r (record {
          whole = reached setup items ok;
          lives =
              live_run live (started setup) items (whole_started setup ok) (live_started live setup)
              rule.in_force;
          ground_is = refl;
        })

    -- and leaves no letter to move
    none_left : (o : Manner) (b : ℕ) → 33792 ≤ b → Chosen (settled o r b).world.now nothing
    unfolding settled
    none_left o b l =
        let s : State = (settled o r b).world.now in
        let z =
        subst (Says (0 + b) (λ x. choice o x s)) ((during o b).finishes (omega (arith, reached_low setup items ok)))
        (settle_says (λ x t. choice o x t.now) (λ t k m q p. taken on_states t (arrives k m q p)) b 0 0 r) in
        subst (Chosen s) z.1 (choice_chosen o z.0 s)

    agreed_after : (o : Manner) (b : ℕ) → 33792 ≤ b → Agreed (settled o r b).world.now
    agreed_after o b l =
        let d = (during o b).kept in
        agrees d.whole
        (rw (fun_ext (λ q. ap (λ (g : Ground). eqb (g.up q) 1) (sym d.ground_is))) at d.lives)
        (calm (settled o r b).world.now (none_left o b l))
        (subst FairIn (sym d.ground_is) rule.fair)

  -- demand 3 over states
  pub demand_3_states : Demand3States (started setup) items
  unfolding settled settle step
  demand_3_states = record {
    whole = reached setup items ok;
    bounded = λ o b. rw (settle_now o on_states r b).endings (reached_settle_most setup items ok o b);
    finishes = λ o b l. rw (settle_now o on_states r b).endings (reached_settle_done setup items ok o b l);
    agreed = agreed_after;
  }
