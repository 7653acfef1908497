-- Both settles of the words that a list reached, each allowed 33,792 arrivals, end with the same messages in every FIFO log
-- and in every causal log: each says done, and any two ways to settle that say done end so. No trust rule is needed.
-- Assumes nothing.
use Rattle.std.specs.Prelude.{◌≡◌, true, false, List, ◌↔◌, ℕ, ◌≤◌, ◌<◌}
use Rattle.std.proofs.Common.{sym, ap, ◌∙◌, arith}
use Rattle.definitions.specs.World.{size, State, encode, view}
use Rattle.definitions.specs.Setup.{setup_refusal}
use Rattle.definitions.specs.Steps.{step}
use Rattle.definitions.specs.Settle.{Manner, choice}
use Rattle.definitions.specs.History.{Run, Item, run}
use Rattle.definitions.specs.Words.{settled_words}
use Rattle.definitions.specs.NoStarving.{SameMessages}
use Rattle.world.specs.Layout.{get_encode}
use Rattle.world.specs.SoundLaws.{Sound}
use Rattle.world.specs.TurnLaws.{choice_chosen}
use Rattle.world.specs.SettleLaws.{settle}
use Rattle.world.specs.Runs.{on_states, started}
use Rattle.keeps.specs.Keeps.{reached_sound}
use Rattle.effects.specs.Views.{Ground}
use Rattle.order.specs.Cascade.{Fifo, Causal}
use Rattle.order.specs.Runs.{whole_started}
use Rattle.order.specs.Order.{reached}
use Rattle.agreement.specs.Turns.{Live}
use Rattle.agreement.specs.Runs.{live_started, live_run}
use Rattle.agreement.specs.Ends.{settled_by, along_none, same_ground, same_messages}
use Rattle.bound.specs.Settle.{SaysDone, arrivals}
use Rattle.bound.proofs.Settle.{reached_settle_done}
use Rattle.carried.specs.Calls.{log_carried, listed_in, in_listed}
use Rattle.carried.specs.Carried.{settle_now, settled_sound, settled_carried}

-- ---- two states whose logs have the same messages, on their words
module _ (s t : State) (hs : Sound s) (ht : Sound t) (n : s size ≡ t size)
    (fifos : (p m : ℕ) → Fifo s p m ↔ Fifo t p m) (causals : (p m : ℕ) → Causal s p m ↔ Causal t p m) where
  -- p is a process of both
  low_s : (p : ℕ) → p < view (encode s) size → p < s size
  low_s p l = omega (arith, get_encode s size tt)

  low_t : (p : ℕ) → p < view (encode s) size → p < t size
  low_t p l = omega (arith, get_encode s size tt)

  alike_words : SameMessages (encode s) (encode t)
  alike_words = record {
    processes = get_encode s size tt ∙ n ∙ sym (get_encode t size tt);
    fifo = λ p m l. (
      (λ x. in_listed (log_carried t ht p (low_t p l) false)
          ((fifos p m).0 (listed_in (log_carried s hs p (low_s p l) false) x))),
      (λ x. in_listed (log_carried s hs p (low_s p l) false)
          ((fifos p m).1 (listed_in (log_carried t ht p (low_t p l) false) x))),
    );
    causal = λ p m l. (
      (λ x. in_listed (log_carried t ht p (low_t p l) true)
          ((causals p m).0 (listed_in (log_carried s hs p (low_s p l) true) x))),
      (λ x. in_listed (log_carried s hs p (low_s p l) true)
          ((causals p m).1 (listed_in (log_carried t ht p (low_t p l) true) x))),
    );
  }

-- ---- after a list
module _ (setup : List ℕ) (items : List Item) (ok : setup_refusal setup ≡ 0) where
  -- the run, which is sound
  abbrev r : Run State
  r = run on_states (started setup) items

  sound_r : Sound (run on_states (started setup) items).now
  sound_r = reached_sound setup items ok

  -- what letters tell, with no trust rule
  lives : Live (λ _. false) (run on_states (started setup) items).now
  lives =
      live_run (λ _. false) (started setup) items (whole_started setup ok) (live_started (λ _. false) setup)
      (along_none (started setup) items)

  -- each says done
  finishes : (o : Manner) (b : ℕ) → 33792 ≤ b
      → SaysDone (settled_by (choice o) (run on_states (started setup) items) b).ending
  unfolding settle step
  finishes o b l = rw (settle_now o on_states r b).endings (reached_settle_done setup items ok o b l)

  -- so they end alike
  pub same_end_written : (o h : Manner) (a b : ℕ) → 33792 ≤ a → 33792 ≤ b
      → SameMessages (settled_words o (encode (run on_states (started setup) items).now) a)
      (settled_words h (encode (run on_states (started setup) items).now) b)
  same_end_written o h a b la lb =
      let whole = reached setup items ok in
      let c = settled_by (choice o) r a in
      let d = settled_by (choice h) r b in
      let e =
      same_messages r whole lives (choice o) (choice h) (choice_chosen o) (choice_chosen h) a b (arrivals c.ending)
      (arrivals d.ending) (finishes o a la) (finishes h b lb) in
      let g =
      same_ground r whole lives (choice o) (choice h) (choice_chosen o) (choice_chosen h) a b (arrivals d.ending)
      (finishes h b lb) in
      rw (settled_carried o r sound_r a, settled_carried h r sound_r b)
      (alike_words c.world.now d.world.now (settled_sound o r sound_r a) (settled_sound h r sound_r b)
      (ap (λ (x : Ground). x.size) g) (λ p m. (e p m).0) (λ p m. (e p m).1))
