-- The limit of a settle's arrivals and lost letters, on the words after any list of items from a fresh world. Assumes
-- nothing.
use Rattle.std.specs.Prelude.{◌≡◌, refl, true, false, List, [], ◌∷◌, ◌++◌, ℕ, ◌≤◌}
use Rattle.std.proofs.Common.{sym, ap, ◌∙◌, arith, eq-eqb}
use Rattle.std.proofs.Math.Logic.{inl, inr}
use Rattle.definitions.specs.General.{gives, bit}
use Rattle.definitions.specs.World.{flight, State, view}
use Rattle.definitions.specs.Machine.{leave}
use Rattle.definitions.specs.Steps.{loses, read, in_flight, refusal, accepted, step}
use Rattle.definitions.specs.Settle.{Manner}
use Rattle.definitions.specs.History.{Run, Item, given, tick, act, run}
use Rattle.definitions.specs.Words.{making_refusal, step_refusal, settle_reply, on_words, started_words}
use Rattle.definitions.specs.Demand.{SaysDone, says_done}
use Rattle.base.specs.Tests.{bool_cases, clash}
use Rattle.base.specs.Bits.{without_hit}
use Rattle.world.specs.Layout.{get_encode, put_same}
use Rattle.world.specs.SoundLaws.{Sound, size_high, count_high}
use Rattle.world.specs.StepLaws.{InFlight, accepted_loss}
use Rattle.world.specs.SettleLaws.{settle}
use Rattle.world.specs.Runs.{on_states, started}
use Rattle.keeps.specs.Keeps.{reached_sound}
use Rattle.effects.specs.Arrival.{Fly}
use Rattle.effects.specs.Runs.{run_append}
use Rattle.bound.specs.Once.{flies_once}
use Rattle.bound.specs.Settle.{arrivals}
use Rattle.bound.proofs.Settle.{reached_settle_done}
use Rattle.carried.specs.Calls.{refusal_carried}
use Rattle.carried.specs.Carried.{reply_carried, setup_taken, words_after}

module _ (w setup : List ℕ) (ok : making_refusal w setup ≡ 0) where
  -- the state after a list, which is sound
  abbrev state : List Item → State
  state items = (run on_states (started setup) items).now

  sound_state : (items : List Item) → Sound (state items)
  sound_state items = reached_sound setup items (setup_taken w setup ok)

  -- ---- the limit
  pub says_at_limit : (o : Manner) (items : List Item) (b : ℕ) → 33792 ≤ b
      → SaysDone (settle_reply o (run on_words (started_words w setup) items).now b)
  says_at_limit o items b l =
      rw (ap (λ (u : List ℕ). settle_reply o u b) (words_after w setup ok items)
      ∙ reply_carried o (state items) (sound_state items) b
      ∙ ap gives (reached_settle_done setup items (setup_taken w setup ok) o b l))
      (says_done (arrivals (settle o (state items) b).ending))

  -- ---- a letter that is lost
  module _ (bytes : List ℕ) (before after : List Item) (k m q p : ℕ) (reads : read bytes ≡ loses k m q p)
      (taken : step_refusal (run on_words (started_words w setup) before).now bytes ≡ 0) where
    -- the run until then, its state, and the run with the loss
    abbrev r : Run State
    r = run on_states (started setup) before

    abbrev s : State
    s = r.now

    abbrev with_loss : Run State
    with_loss = run on_states r (given bytes ∷ [])

    unrefused : accepted s (loses k m q p) ≡ true
    unrefused =
        eq-eqb _ 0
        (ap (refusal s) (sym reads) ∙ sym (refusal_carried s (sound_state before) bytes)
        ∙ ap (λ (u : List ℕ). step_refusal u bytes) (sym (words_after w setup ok before)) ∙ taken)

    letter : InFlight s k m q p
    letter = accepted_loss s k m q p unrefused

    -- it leaves flight
    lost_now : with_loss.now ≡ leave s k m q p
    unfolding run act tick step
    lost_now = rw (reads, unrefused)

    not_flying : ¬ Fly with_loss.now m k q p
    unfolding leave
    not_flying f =
        clash (sym (ap (λ (x : State). bit (x (flight m k q)) p) lost_now) ∙ f)
        (ap (λ (x : ℕ). bit x p) (put_same s (flight m k q) (flight m k q) _ refl) ∙ without_hit (s (flight m k q)) p)

    -- and so it flies no more
    abbrev items : List Item
    items = before ++ (given bytes ∷ after)

    gone_state : in_flight (state items) k m q p ≡ false
    unfolding run
    gone_state = elim (bool_cases (in_flight (state items) k m q p)) [
      | inr z ↦ z
      | inl z ↦ absurd
          (flies_once setup before (given bytes ∷ []) after k m q p letter.flies not_flying
          (sym (ap (λ (x : Run State). bit (x.now (flight m k q)) p) (run_append (started setup) before (given bytes ∷ after)))
          ∙ z))
    ]

    pub gone : in_flight (view (run on_words (started_words w setup) (before ++ (given bytes ∷ after))).now) k m q p ≡ false
    gone =
        let h = sound_state before in
        ap (λ (u : List ℕ). in_flight (view u) k m q p) (words_after w setup ok items)
        ∙ ap (λ (x : ℕ). bit x p)
        (get_encode (state items) (flight m k q)
        (omega (arith, letter.message, count_high s h), letter.kind, omega (arith, letter.from, size_high s h)))
        ∙ gone_state
