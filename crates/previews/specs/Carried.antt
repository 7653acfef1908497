-- What preview answers on the words of a sound state: the refusal and the numbers of the state; and the words after a
-- list of items from a setup record that is taken. Assumes nothing.
use Rattle.std.specs.Prelude.{◌≡◌, Bool, true, false, List, ℕ, ◌-◌, ◌<◌, length}
use Rattle.std.proofs.Common.{sym, ap, ◌∙◌, arith, eq-eqb}
use Rattle.std.proofs.Math.Path.{ap₂}
use Rattle.definitions.specs.General.{gives, reply, sum}
use Rattle.definitions.specs.World.{size, fifo_length, causal_length, State, encode, view}
use Rattle.definitions.specs.Setup.{setup_refusal}
use Rattle.definitions.specs.Steps.{read, refusal, step}
use Rattle.definitions.specs.History.{Item, run}
use Rattle.definitions.specs.Words.{log_length, preview_refusal, log_growth, NewDeliveries, new_deliveries, preview_reply, on_words, started_words}
use Rattle.base.specs.Sums.{sum_cong}
use Rattle.world.specs.SoundLaws.{Sound, size_high}
use Rattle.world.specs.Calls.{preview_judged}
use Rattle.world.specs.Runs.{on_states, started}
use Rattle.carried.specs.Same.{Agree, same}
use Rattle.carried.specs.Calls.{making_carried, view_agree, step_agree, refusal_carried}
use Rattle.carried.specs.Carried.{words_after}

-- states that agree on the layout have logs of the same lengths
length_agree : {s t : State} (a : Agree s t) (r : ℕ) (log : Bool) → r < 16 → log_length t r log ≡ log_length s r log
length_agree a r true l = sym (same a (causal_length r) l)
length_agree a r false l = sym (same a (fifo_length r) l)

-- ---- on the words of a sound state
module _ (s : State) (h : Sound s) (bytes second : List ℕ) (long : length second ≡ 20480) where
  pub refusal_shown : preview_refusal (encode s) bytes second ≡ refusal s (read bytes)
  refusal_shown = preview_judged (encode s) bytes second long ∙ refusal_carried s h bytes

  -- the state that is read off them
  abbrev back : State
  back = view (encode s)

  pub numbers_shown : refusal s (read bytes) ≡ 0
      → preview_reply (encode s) bytes second ≡ gives (new_deliveries s (step s (read bytes)))
  unfolding preview_reply
  numbers_shown ok =
      ap₂ (λ (n : ℕ) (d : NewDeliveries). reply n d) (refusal_shown ∙ ok)
      (ap₂ (λ (x y : ℕ). record { fifo_number = x; causal_number = y }) (grown false) (grown true))
    where
      before : Agree s back
      before = view_agree s h

      after : Agree (step s (read bytes)) (step back (read bytes))
      after = step_agree before (read bytes) (eq-eqb (refusal s (read bytes)) 0 ok)

      grown : (log : Bool) → log_growth log back (step back (read bytes)) ≡ log_growth log s (step s (read bytes))
      grown log =
          ap (λ (n : ℕ). sum n (λ r. log_length (step back (read bytes)) r log - log_length back r log))
          (sym (same before size tt))
          ∙ sum_cong (s size) (λ r. log_length (step back (read bytes)) r log - log_length back r log)
          (λ r. log_length (step s (read bytes)) r log - log_length s r log)
          (λ r l. let low : r < 16 = omega (arith, size_high s h) in
          ap₂ (λ (x y : ℕ). x - y) (length_agree after r log low) (length_agree before r log low))

-- ---- after a list of items the words are those of the state, whatever words were lent
pub words_of_state : (w setup : List ℕ) (items : List Item) → length w ≡ 20480 → setup_refusal setup ≡ 0
    → (run on_words (started_words w setup) items).now ≡ encode (run on_states (started setup) items).now
words_of_state w setup items long taken = words_after w setup (making_carried w setup long ∙ taken) items
