-- The bytes on lent words: what a call leaves for a pair is the byte of the state that is read off them, which is a sound
-- world with both messages; that after a list of items it is precedence stands in proofs/Words. Assumes nothing.
use Rattle.std.specs.Prelude.{◌≡◌, true, not, List, ℕ, ◌+◌, ◌*◌, ◌<◌, leb, eqb, length, get_or}
use Rattle.std.proofs.Common.{sym, ◌∙◌, arith}
use Rattle.std.proofs.Math.Path.{ap₂}
use Rattle.definitions.specs.General.{pick, first_from, bit}
use Rattle.definitions.specs.World.{count, sender, mask, stamp, State, encode, view}
use Rattle.definitions.specs.Words.{lowest_group, entry_on, precedes_byte, first_of, second_of, good_lengths, all_named, precedes_refusal, precedes_bytes}
use Rattle.definitions.specs.CameFirst.{Says}
use Rattle.base.specs.Tests.{both}
use Rattle.base.specs.Tabulate.{get_d_tabulate}
use Rattle.base.specs.Refusals.{needs_none}
use Rattle.world.specs.SoundLaws.{Sound, count_high}
use Rattle.world.specs.Pairs.{two_each, named_word, bytes_left}
use Rattle.keeps.specs.Keeps.{world_taken}
use Rattle.carried.specs.Same.{Agree, same}
use Rattle.carried.specs.Calls.{view_agree}

-- ---- of any lent words
-- what an allowed call leaves, for each pair
module _ (w pairs answers : List ℕ) (e : precedes_refusal w pairs answers ≡ 0) where
  pub byte_left : (i : ℕ) → i < length answers
      → get_or (precedes_bytes w pairs answers) i 0 ≡ precedes_byte (view w) (first_of pairs i) (second_of pairs i)
  byte_left i l = rw (bytes_left w pairs answers e) (get_d_tabulate (length answers) _ i 0 l)

  -- the lengths are right, and each word names a message
  allowed : (good_lengths (length pairs) (length answers) ≡ true) × (all_named (view w) pairs ≡ true)
  unfolding precedes_refusal
  allowed =
      let (g, a) = needs_none 18 (good_lengths (length pairs) (length answers)) _ (world_taken w _ e).1 in
      (g, (needs_none 6 (all_named (view w) pairs) 0 a).0)

-- so of the two messages that a call has a byte for
pub record Asked (w : List ℕ) (x m b : ℕ) : Type 0 where
  pub first_there : x < view w count
  pub second_there : m < view w count
  pub is_byte : precedes_byte (view w) x m ≡ b

pub says_asked : {w : List ℕ} {x m b : ℕ} → Says w x m b → Asked w x m b
says_asked {w} y =
    let (g, a) = allowed w y.pairs y.answers y.allowed in
    let two = two_each (length y.pairs) (length y.answers) g in
    let named = named_word (view w) y.pairs a in
    record {
      first_there = rw y.first at (named (y.place * 2) (omega (arith, y.inside)));
      second_there = rw y.second at (named (y.place * 2 + 1) (omega (arith, y.inside)));
      is_byte =
          ap₂ (precedes_byte (view w)) (sym y.first) (sym y.second)
          ∙ sym (byte_left w y.pairs y.answers y.allowed y.place y.inside) ∙ y.byte;
    }

-- ---- on the words of a sound state
module _ (s : State) (h : Sound s) (x m : ℕ) (hx : x < s count) (hm : m < s count) (low : lowest_group s x < 8) where
  agree : Agree s (view (encode s))
  agree = view_agree s h

  -- the entries lie within the layout
  entry_read : (y : ℕ) → y < s count → entry_on s x y ≡ entry_on (view (encode s)) x y
  entry_read y hy =
      let x64 : x < 64 = omega (arith, count_high s h) in
      same agree (stamp y (lowest_group s x) (s (sender x)))
      (omega (arith, count_high s h), low, (agree.at (sender x) x64).1)
      ∙ ap₂ (λ (v q : ℕ). view (encode s) (stamp y (first_from 8 0 (bit v)) q)) (same agree (mask x) x64)
      (same agree (sender x) x64)

  pub byte_read : precedes_byte s x m ≡ precedes_byte (view (encode s)) x m
  unfolding precedes_byte
  byte_read =
      ap₂ (λ (u v : ℕ). pick {A = ℕ} (both (leb u v) (not (eqb x m))) 1 0) (entry_read x hx) (entry_read m hm)
