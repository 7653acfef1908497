-- What the comparing of pairs leans on: the lowest group of a message that exists, the words that name messages as a set,
-- and what an accepted call leaves. Assumes nothing.
use Rattle.std.specs.Prelude.{◌≡◌, refl, true, false, ◌&&◌, List, leb, eqb, length}
use Rattle.std.proofs.Math.Path.{sym}
use Rattle.std.proofs.Common.{ap, ◌∙◌, arith}
use Rattle.std.proofs.Math.Bool.{Bool, not}
use Prim.Native.Nat.{ℕ, ◌^◌, ◌≤◌, ◌<◌}
use mir.Val.{bool_byte}
use Rattle.std.proofs.Math.ListN.{get_or}
use Rattle.definitions.specs.General.{pick, needs, reply, tally, first_from, In, in_at, absent, tabulate, bit}
use Rattle.definitions.specs.World.{State, count, sender, mask, stamp, view}
use Rattle.definitions.specs.Words.{lowest_group, entry_on, precedes_byte, first_of, second_of, good_lengths, all_named, precedes_refusal, precedes_bytes, different, precedes_reply}
use Rattle.base.specs.Search.{first_law, first_among}
use Rattle.base.specs.Sets.{lowest_low}
use Rattle.base.specs.Count.{tally_cong, tally_past, out_absent}
use Rattle.world.specs.SoundLaws.{Sound, size_high, group_high, mask_some, mask_named}
use Rattle.world.specs.Calls.{refused_same}
use Rattle.world.specs.Pairs.{named_word, bytes_left}
use Rattle.keeps.specs.Keeps.{SoundWords, sound_words_taken}
use Rattle.sets.specs.Members.{Members}

-- ---- the lowest group: the lowest of a mask's 16 bits
-- of a message of a sound world whose mask is a word: it is one of the groups that exist
module _ (s : State) (h : Sound s) (x : ℕ) (l : x < s count) (low : s (mask x) < 2 ^ 16) where
  lowest_high : first_from 16 0 (bit (s (mask x))) < 8
  lowest_high =
      let k = lowest_low 16 (s (mask x)) low (mask_some s h x l) in
      let (p, a, e) = mask_named s h x (first_from 16 0 (bit (s (mask x)))) l k ((first_law 16 0 (bit (s (mask x)))).hit k) in
      omega (arith, e, group_high s h p (omega (arith, size_high s h)))

  pub lowest_is : (first_from 16 0 (bit (s (mask x))) < 8) × (first_from 16 0 (bit (s (mask x))) ≡ lowest_group s x)
  lowest_is = (lowest_high, first_among 16 8 0 (bit (s (mask x))) (omega arith) lowest_high)

-- ---- the byte, by the group and the sender that were read
pub byte_read : (s : State) (x m g q : ℕ) → g ≡ lowest_group s x → q ≡ s (sender x)
    → bool_byte (leb (s (stamp x g q)) (s (stamp m g q)) && not (eqb x m)) ≡ precedes_byte s x m
unfolding precedes_byte
byte_read s x m g q e d = rw (e, d) (as_pick (leb (entry_on s x x) (entry_on s x m) && not (eqb x m)))
  where
    as_pick : (b : Bool) → bool_byte b ≡ pick b 1 0
    as_pick true = refl
    as_pick false = refl

-- ---- words that all name messages
module _ (s : State) (pairs : List ℕ) (named : all_named s pairs ≡ true) where
  -- the members of their set are the different messages
  pub members_different : (set : ℕ) → s count ≤ 64 → Members set (length pairs) (λ i. get_or pairs i 0)
      → tally 64 (bit set) ≡ different s pairs
  unfolding different
  members_different set few h = tally_cong 64 (bit set) is_named h ∙ tally_past 64 (s count) is_named few beyond
    where
      is_named : ℕ → Bool
      is_named m = not (absent (length pairs) m (λ i. get_or pairs i 0))

      no_word : (m : ℕ) → s count ≤ m → ¬ In (length pairs) (λ i. get_or pairs i 0) m
      no_word m l (in_at i k e) = omega (arith, named_word s pairs named i k)

      beyond : (m : ℕ) → s count ≤ m → is_named m ≡ false
      beyond m l = ap not (out_absent (no_word m l))

-- ---- a sound world, and right lengths: what is left is whether all words name messages
module _ (w pairs answers : List ℕ) (h : SoundWords w) (g : good_lengths (length pairs) (length answers) ≡ true) where
  refused_as : precedes_refusal w pairs answers ≡ needs 7 (all_named (view w) pairs) 0
  unfolding precedes_refusal
  refused_as = sound_words_taken w h _ ∙ rw g

  pub reply_as : reply (needs 7 (all_named (view w) pairs) 0) (different (view w) pairs) ≡ precedes_reply w pairs answers
  unfolding precedes_reply
  reply_as = rw refused_as

  -- where one names none, the answers are as lent
  pub bytes_lent : (needs 7 (all_named (view w) pairs) 0 ≡ 0 → ⊥) → answers ≡ precedes_bytes w pairs answers
  unfolding precedes_bytes
  bytes_lent n = sym (refused_same (precedes_refusal w pairs answers) _ answers (λ e. n (sym refused_as ∙ e)))

  -- where all do, each pair has its byte
  pub bytes_all : needs 7 (all_named (view w) pairs) 0 ≡ 0
      → tabulate (length answers) (λ i. precedes_byte (view w) (first_of pairs i) (second_of pairs i))
      ≡ precedes_bytes w pairs answers
  bytes_all e = sym (bytes_left w pairs answers (refused_as ∙ e))
