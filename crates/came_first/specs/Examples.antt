-- A run that meets the hypotheses of `came_first`, computed on states and carried to any lent words: a call with several
-- pairs. What the theorem says of it stands in proofs/Examples. Assumes nothing.
use Rattle.std.specs.Prelude.{◌≡◌, refl, true, false, List, [], ◌∷◌, ◌++◌, ℕ, ◌<◌, length, get_or}
use Rattle.std.proofs.Common.{sym, ap, ◌∙◌, arith, lt-ltb}
use Rattle.std.proofs.Math.Path.{ap₂}
use Rattle.std.proofs.Math.Decide.{ℕ_discrete}
use Rattle.std.proofs.Math.Dec.{ltb}
use Rattle.definitions.specs.General.{needs, gives, every, some, tally, first_from, absent, tab_from, tabulate, chosen, loop, bit, with, mask_of, only}
use Rattle.definitions.specs.World.{count, State, put, has_group, encode, view}
use Rattle.definitions.specs.Setup.{fresh, setup_bits, setup_group, made}
use Rattle.definitions.specs.Machine.{with_tables, ready, lowest_short, lowest_awaited, short_of, awaited, deliverable, deliverable_at, merge, causal_one, causal_all, appended, raised_next, due, send_ok, send_oks, fifo_one, cascade, raised, stamped, numbered, posted, multicast, leave, mark, hold, arrival}
use Rattle.definitions.specs.Steps.{read, good_mask, refusal, step}
use Rattle.definitions.specs.History.{Run, Item, tick, act, run}
use Rattle.definitions.specs.Words.{making_refusal, precedes_byte, good_lengths, all_named, precedes_refusal, precedes_bytes, different, precedes_reply, on_words, started_words}
use Rattle.definitions.specs.CameFirst.{Says}
use Rattle.world.specs.SoundLaws.{Sound}
use Rattle.world.specs.Items.{multicasting, three, until_overtaken}
use Rattle.world.specs.Runs.{on_states, started}
use Rattle.world.specs.Pairs.{bytes_left}
use Rattle.keeps.specs.Keeps.{SoundWords, sound_words_taken, reached_sound}
use Rattle.carried.specs.Same.{same}
use Rattle.carried.specs.Calls.{making_carried, view_agree, sound_world}
use Rattle.carried.specs.Carried.{words_after}
use Rattle.came_first.specs.Masks.{reached_masked, lowest_there}
use Rattle.came_first.specs.Words.{byte_left, byte_read}
use Rattle.came_first.specs.Worlds.{three_taken}

-- ---- no pair, 256 pairs; 257, an odd number of words, another number of answers
pub lengths : (good_lengths 0 0 ≡ true)
    × (good_lengths 512 256 ≡ true)
    × (good_lengths 514 257 ≡ false)
    × (good_lengths 3 1 ≡ false)
    × (good_lengths 4 1 ≡ false)
unfolding good_lengths
lengths = (refl, refl, refl, refl, refl)

-- ---- every two messages of a sound world can be asked
pub asked : (w : List ℕ) → SoundWords w → (x m : ℕ) → x < view w count → m < view w count
    → Says w x m (precedes_byte (view w) x m)
unfolding precedes_refusal good_lengths all_named every
asked w h x m hx hm = record {
  pairs = x ∷ m ∷ [];
  answers = 0 ∷ [];
  allowed = allowed;
  place = 0;
  inside = omega arith;
  first = refl;
  second = refl;
  byte = byte_left w (x ∷ m ∷ []) (0 ∷ []) allowed 0 (omega arith);
}
  where
    allowed : precedes_refusal w (x ∷ m ∷ []) (0 ∷ []) ≡ 0
    allowed = sound_words_taken w h _ ∙ rw (lt-ltb m (view w count) hm, lt-ltb x (view w count) hx, every)

-- ---- the third known run until message 2 has overtaken message 0, then message 3 of process 2: 0 precedes 2 by way of 1,
-- and 2, which is in the FIFO log of process 2 and not delivered there causally, does not precede 3
abbrev pub items : List Item
items = until_overtaken ++ (multicasting 2 1 ∷ [])

abbrev pub end : State
end = (run on_states (started three) items).now

-- 0 and 2, 2 and 0, 2 and 3, 0 and itself
abbrev pub pairs : List ℕ
pairs = 0 ∷ 2 ∷ 2 ∷ 0 ∷ 2 ∷ 3 ∷ 0 ∷ 0 ∷ []

computed : (end count ≡ 4)
    × (precedes_byte end 0 2 ≡ 1)
    × (precedes_byte end 2 0 ≡ 0)
    × (precedes_byte end 2 3 ≡ 0)
    × (precedes_byte end 0 0 ≡ 0)
    × (different end pairs ≡ 3)
unfolding ℕ_discrete every some tally first_from absent chosen loop bit with mask_of only put fresh setup_bits
    setup_group made with_tables ready lowest_short lowest_awaited short_of awaited deliverable deliverable_at merge
    causal_one causal_all appended raised_next due send_ok send_oks fifo_one cascade raised stamped numbered posted
    multicast leave mark hold arrival read has_group good_mask refusal step tick act run precedes_byte different
computed = (refl, refl, refl, refl, refl, refl)

sound_end : Sound end
sound_end = reached_sound three items three_taken

-- as a caller has it, over any lent words and any four answers
module _ (w answers : List ℕ) (long : length w ≡ 20480) (four : length answers ≡ 4) where
  abbrev pub r : Run (List ℕ)
  r = run on_words (started_words w three) items

  pub made_taken : making_refusal w three ≡ 0
  made_taken = making_carried w three long ∙ three_taken

  pub now_is : r.now ≡ encode end
  now_is = words_after w three made_taken items

  count_read : view (encode end) count ≡ 4
  count_read = sym (same (view_agree end sound_end) count tt) ∙ computed.0

  pub taken : precedes_refusal (encode end) pairs answers ≡ 0
  unfolding precedes_refusal good_lengths all_named every
  taken =
      sound_world end sound_end _
      ∙ ap₂ (λ (k n : ℕ). needs 19 (good_lengths 8 k) (needs 7 (every 8 (λ i. ltb (get_or pairs i 0) n)) 0)) four count_read

  byte_is : (x m : ℕ) {b : ℕ} → x < 4 → m < 4 → precedes_byte end x m ≡ b → precedes_byte (view (encode end)) x m ≡ b
  byte_is x m hx hm e =
      let kx : x < end count = omega (arith, computed.0) in
      let km : m < end count = omega (arith, computed.0) in
      sym (byte_read end sound_end x m kx km (lowest_there end sound_end (reached_masked three items) x kx)) ∙ e

  pub bytes_are : precedes_bytes r.now pairs answers ≡ 1 ∷ 0 ∷ 0 ∷ 0 ∷ []
  unfolding tabulate tab_from
  bytes_are =
      rw (now_is, bytes_left (encode end) pairs answers taken, four)
      (cc (
        byte_is 0 2 (omega arith) (omega arith) computed.1,
        byte_is 2 0 (omega arith) (omega arith) computed.2,
        byte_is 2 3 (omega arith) (omega arith) computed.3,
        byte_is 0 0 (omega arith) (omega arith) computed.4,
      ))

  -- three different messages are named
  pub number_is : precedes_reply r.now pairs answers ≡ gives 3
  unfolding precedes_reply different
  number_is = rw (now_is, taken, count_read, ← computed.0) (ap gives computed.5)
