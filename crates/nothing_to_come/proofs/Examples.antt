-- The run of specs/Examples on any lent words, and what `nothing_to_come` says of it. Assumes nothing.
use Rattle.std.specs.Prelude.{◌≡◌, true, false, List, [], ◌∷◌, ◌++◌, ℕ, length}
use Rattle.std.proofs.Math.Path.{refl}
use Rattle.std.proofs.Common.{ap, ◌∙◌, arith}
use Rattle.definitions.specs.General.{gives, every, bit}
use Rattle.definitions.specs.World.{flight, encode, view}
use Rattle.definitions.specs.Steps.{read, in_flight}
use Rattle.definitions.specs.Settle.{lowest_first, done, stopped}
use Rattle.definitions.specs.History.{given, settling, run}
use Rattle.definitions.specs.Words.{making_refusal, step_refusal, settled_words, settle_reply, on_words, started_words}
use Rattle.definitions.specs.NothingToCome.{SomeToCome}
use Rattle.world.specs.Layout.{get_encode}
use Rattle.world.specs.SoundLaws.{Sound}
use Rattle.world.specs.SettleLaws.{settle}
use Rattle.world.specs.Runs.{on_states, started}
use Rattle.keeps.specs.Keeps.{reached_sound}
use Rattle.carried.specs.Calls.{making_carried, refusal_carried}
use Rattle.carried.specs.Carried.{settle_carried, reply_carried, words_after}
use Rattle.nothing_to_come.proofs.Theorem.{nothing_to_come}
use Rattle.nothing_to_come.specs.Examples.{apart, dead, losing, end, computed}

sound_end : Sound (run on_states (started apart) dead).now
sound_end = reached_sound apart dead computed.0

-- ---- as a caller has it, over any lent words
module _ (w : List ℕ) (long : length w ≡ 20480) where
  made_taken : making_refusal w apart ≡ 0
  made_taken = making_carried w apart long ∙ computed.0

  abbrev now : List ℕ
  now = (run on_words (started_words w apart) dead).now

  now_is : (run on_words (started_words w apart) dead).now ≡ encode (run on_states (started apart) dead).now
  now_is = words_after w apart made_taken dead

  -- done after both
  pub dead_done : settle_reply lowest_first (run on_words (started_words w apart) dead).now 33792 ≡ gives (done 2)
  dead_done =
      ap (λ (u : List ℕ). settle_reply lowest_first u 33792) now_is ∙ reply_carried lowest_first end sound_end 33792
      ∙ ap gives computed.1

  -- so nothing is left to come
  pub dead_nothing : SomeToCome (settled_words lowest_first (run on_words (started_words w apart) dead).now 33792) → ⊥
  dead_nothing = nothing_to_come.after_done lowest_first now 33792 2 dead_done

  -- though a letter is in flight, to process 0, which is down
  pub dead_letter :
      in_flight (view (settled_words lowest_first (run on_words (started_words w apart) dead).now 33792)) 0 0 0 0 ≡ true
  dead_letter =
      ap (λ (u : List ℕ). in_flight (view u) 0 0 0 0)
      (ap (λ (u : List ℕ). settled_words lowest_first u 33792) now_is ∙ settle_carried lowest_first end sound_end 33792)
      ∙ ap (λ (x : ℕ). bit x 0)
      (get_encode (settle lowest_first end 33792).world (flight 0 0 0) (omega arith, omega arith, omega arith))
      ∙ computed.3

  -- stopped before the second
  pub dead_stopped : settle_reply lowest_first (run on_words (started_words w apart) dead).now 1 ≡ gives (stopped 1)
  dead_stopped =
      ap (λ (u : List ℕ). settle_reply lowest_first u 1) now_is ∙ reply_carried lowest_first end sound_end 1
      ∙ ap gives computed.2

  pub dead_remains : SomeToCome (settled_words lowest_first (run on_words (started_words w apart) dead).now 1)
  dead_remains = (nothing_to_come.after_stopped lowest_first now 1 1 dead_stopped).1

  -- lost, and not in flight after a settle
  lost_taken : step_refusal (run on_words (started_words w apart) dead).now losing ≡ 0
  lost_taken = ap (λ (u : List ℕ). step_refusal u losing) now_is ∙ refusal_carried end sound_end losing ∙ computed.6

  pub dead_lost : in_flight
      (view (run on_words (started_words w apart) (dead ++ (given losing ∷ settling lowest_first 33792 ∷ []))).now) 0 0 0 1
      ≡ false
  unfolding read every
  dead_lost =
      nothing_to_come.lost_gone w apart losing dead (settling lowest_first 33792 ∷ []) 0 0 0 1 made_taken refl lost_taken
