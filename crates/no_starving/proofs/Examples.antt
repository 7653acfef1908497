-- The runs of specs/Examples on any lent words, and what `no_starving` says of them. Assumes nothing.
use Rattle.std.specs.Prelude.{◌≡◌, refl, true, false, List, [], ◌∷◌, ℕ, length}
use Rattle.std.proofs.Common.{ap, ◌∙◌, arith}
use Rattle.std.proofs.Math.Decide.{ℕ_discrete}
use Rattle.definitions.specs.General.{gives, every, some, first_from, absent, chosen, loop, bit, with, without, mask_of, only, tab_from, tabulate}
use Rattle.definitions.specs.World.{Cell, size, up, flight, number, encode, put, view, has_group}
use Rattle.definitions.specs.Setup.{fresh, setup_bits, setup_group, made}
use Rattle.definitions.specs.Sound.{fit}
use Rattle.definitions.specs.Machine.{with_tables, ready, lowest_short, lowest_awaited, short_of, awaited, deliverable, deliverable_at, merge, causal_one, causal_all, appended, raised_next, due, send_ok, send_oks, fifo_one, cascade, raised, stamped, numbered, posted, multicast, leave, mark, hold, arrival}
use Rattle.definitions.specs.Steps.{read, good_mask, in_flight, refusal, step}
use Rattle.definitions.specs.Settle.{moves, receiver, origin, kind, movable, letter_of, lowest, has_letter, served, fair, Manner, lowest_first, by_turns, done, settle_from}
use Rattle.definitions.specs.History.{tick, act, run}
use Rattle.definitions.specs.Words.{making_refusal, settled_words, settle_reply, log_words, on_words, started_words}
use Rattle.definitions.specs.NothingToCome.{ToCome}
use Rattle.definitions.specs.NoStarving.{ArrivesWithin, Made, SameMessages}
use Rattle.world.specs.Layout.{Within, get_encode}
use Rattle.world.specs.SoundLaws.{Sound}
use Rattle.world.specs.SettleLaws.{settle}
use Rattle.world.specs.Items.{three}
use Rattle.world.specs.Runs.{on_states, started}
use Rattle.keeps.specs.Changes.{put_sound}
use Rattle.keeps.specs.Keeps.{settle_sound, reached_sound}
use Rattle.carried.specs.Calls.{making_carried, sound_world, log_carried}
use Rattle.carried.specs.Carried.{settle_carried, reply_carried, words_after}
use Rattle.no_starving.proofs.Theorem.{no_starving}
use Rattle.no_starving.specs.Examples.{sent, end, fifo_2, Orders, computed, four_of_0, one_number}

sound_end : Sound end
sound_end = reached_sound three sent computed.0

-- as a caller has it, over any lent words
module _ (w : List ℕ) (long : length w ≡ 20480) where
  made_taken : making_refusal w three ≡ 0
  made_taken = making_carried w three long ∙ computed.0

  abbrev now : List ℕ
  now = (run on_words (started_words w three) sent).now

  now_is : now ≡ encode end
  now_is = words_after w three made_taken sent

  left_is : (o : Manner) (b : ℕ) → settled_words o now b ≡ encode (settle o end b).world
  left_is o b = ap (λ (u : List ℕ). settled_words o u b) now_is ∙ settle_carried o end sound_end b

  word_is : (o : Manner) (b : ℕ) (c : Cell) → Within c → view (settled_words o now b) c ≡ (settle o end b).world c
  word_is o b c l = ap (λ (u : List ℕ). view u c) (left_is o b) ∙ get_encode (settle o end b).world c l

  -- ---- one by one: done with 12 arrivals, as a call allowed 12 makes them
  pub turns_done : settle_reply by_turns now 33792 ≡ gives (done 12)
  turns_done =
      ap (λ (u : List ℕ). settle_reply by_turns u 33792) now_is ∙ reply_carried by_turns end sound_end 33792
      ∙ ap gives computed.7.ends

  pub turns_made : Made by_turns now 33792 12
  turns_made = no_starving.one_by_one by_turns now 33792 (done 12) turns_done

  -- ---- the first letter of message 2 from process 0 to process 2
  flies_is : (o : Manner) (b : ℕ)
      → in_flight (view (settled_words o now b)) 0 2 0 2 ≡ in_flight (settle o end b).world 0 2 0 2
  flies_is o b = ap (λ (x : ℕ). bit x 2) (word_is o b (flight 2 0 0) (omega arith, omega arith, omega arith))

  -- after one arrival it waits
  pub one_waits : ToCome (settled_words by_turns now 1) 0 2 0 2
  one_waits = (
    omega arith,
    omega arith,
    omega arith,
    (omega (arith, word_is by_turns 1 size tt, computed.2), word_is by_turns 1 (up 2) (omega arith) ∙ computed.3),
    flies_is by_turns 1 ∙ computed.4,
  )

  -- and one of the next three is at process 2
  pub served_soon : ArrivesWithin by_turns now 1 3 2
  served_soon =
      rw (ap (λ (u : List ℕ). view u size) now_is ∙ get_encode end size tt ∙ computed.1)
      at (no_starving.starves_none now 1 0 2 0 2 (rw now_is (sound_world end sound_end 0)) one_waits)

  pub arrived_by_four : in_flight (view (settled_words by_turns now 4)) 0 2 0 2 ≡ false
  arrived_by_four = flies_is by_turns 4 ∙ computed.5

  -- the lowest first makes four elsewhere, though there are but three processes
  pub starved_by_four : in_flight (view (settled_words lowest_first now 4)) 0 2 0 2 ≡ true
  starved_by_four = flies_is lowest_first 4 ∙ computed.6

  -- ---- both settles end with the same messages, here in another order
  pub ends_alike : SameMessages (settled_words lowest_first now 33792) (settled_words by_turns now 33792)
  ends_alike = no_starving.same_end w three sent made_taken lowest_first by_turns 33792 33792 (omega arith) (omega arith)

  log_is : (o : Manner) (xs : List ℕ) → Orders o xs → log_words (settled_words o now 33792) 2 false ≡ xs
  log_is o xs h =
      ap (λ (u : List ℕ). log_words u 2 false) (left_is o 33792)
      ∙ log_carried (settle o end 33792).world (settle_sound o end 33792 sound_end) 2 (omega (arith, h.sized)) false
      ∙ h.fifo_log

  pub log_by_turns : log_words (settled_words by_turns now 33792) 2 false ≡ 3 ∷ 2 ∷ []
  log_by_turns = log_is by_turns (3 ∷ 2 ∷ []) computed.7

  pub log_lowest_first : log_words (settled_words lowest_first now 33792) 2 false ≡ 2 ∷ 3 ∷ []
  log_lowest_first = log_is lowest_first (2 ∷ 3 ∷ []) computed.8

-- ---- the sound world that no list reaches
pub told_apart : Sound one_number
    × ((settle by_turns one_number 33792).ending ≡ done 12)
    × ((settle lowest_first one_number 33792).ending ≡ done 12)
    × (fifo_2 (settle by_turns one_number 33792).world ≡ 3 ∷ [])
    × (fifo_2 (settle lowest_first one_number 33792).world ≡ 2 ∷ [])
unfolding ℕ_discrete every some first_from absent chosen loop bit with without mask_of only tab_from tabulate put fresh
    setup_bits setup_group made with_tables ready lowest_short lowest_awaited short_of awaited
    deliverable deliverable_at merge causal_one causal_all appended raised_next due send_ok send_oks fifo_one cascade
    raised stamped numbered posted multicast leave mark hold arrival read has_group good_mask refusal step tick act run
    moves receiver origin kind movable letter_of lowest has_letter served fair
    settle_from settle fit
told_apart =
    let reached = (run on_states (started three) four_of_0).now in (
      put_sound reached (number 3 2) 1 (λ z. z) refl (reached_sound three four_of_0 computed.0),
      refl,
      refl,
      refl,
      refl,
    )
