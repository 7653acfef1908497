-- Settle as its loop goes, of either manner: a letter more arrives, or there is none, or the budget is used up. What holds
-- of a sound world holds of it after each arrival. Assumes nothing.
use Rattle.std.specs.Prelude.{◌≡◌, Bool, true, false, ◌⊎◌, List}
use Rattle.std.proofs.Math.Path.{refl, ap}
use Rattle.std.proofs.Common.{sym, ◌∙◌, inl, inr}
use Prim.Native.Nat.{ℕ, zero, suc, ◌+◌, ◌-◌, ◌≤◌, ◌<◌}
use native.Mathlib.Omega.{arith}
use Rattle.definitions.specs.General.{bit, with, mask_of}
use Rattle.definitions.specs.World.{size, count, State, encode, view}
use Rattle.definitions.specs.Machine.{arrival}
use Rattle.definitions.specs.Steps.{arrives, step, is_up}
use Rattle.definitions.specs.Settle.{Choice, letter, nothing, done, stopped, Settled, lowest, any, Manner, lowest_first, choice, settle_from}
use Rattle.base.specs.Tests.{clash}
use Rattle.base.specs.Bits.{bit_zero, with_cases}
use Rattle.world.specs.SoundLaws.{size_high, count_high, sound_words}
use Rattle.world.specs.Layout.{length_encode}
use Rattle.world.specs.SettleLaws.{goes_on, turn_free}
use Rattle.world.specs.StepLaws.{Arrives, moves_taken}
use Rattle.keeps.specs.Keeps.{SoundWords, step_sound}
use Rattle.quiescence.specs.Quiescent.{Quiescent, QuiescentIf, arrival_quiescent}
use Rattle.bounds.specs.Bounds.{sound_bounds}
use Rattle.arrivals.specs.Arrival.{quiescent_words}
use Rattle.letters.specs.Places.{Passed, start_passed}
use Rattle.letters.specs.declared.Place.{Place}

-- The choice and the arrival, on words.
abbrev pub choose_words : Manner → ℕ → List ℕ → Choice
choose_words o t w = choice o t (view w)

abbrev pub arrive_words : List ℕ → ℕ → ℕ → ℕ → ℕ → List ℕ
arrive_words w k m q p = encode (arrival (view w) k m q p)

-- Settle from words w, with b arrivals left and n made, in the turn of t.
abbrev pub settling_from : Manner → ℕ → ℕ → ℕ → List ℕ → Settled (List ℕ)
settling_from o b n t w = settle_from (choose_words o) arrive_words b n t w

module _ (o : Manner) where
  pub settle_more : (b n t : ℕ) (w : List ℕ) (k m q p : ℕ) → n < b → choice o t (view w) ≡ letter k m q p
      → settling_from o (b - n) n t w ≡ settling_from o (b - (n + 1)) (n + 1) (p + 1) (arrive_words w k m q p)
  unfolding settle_from
  settle_more b n t w k m q p h e =
      let left : b - n ≡ suc (b - (n + 1)) = omega arith in
      ap (λ (x : ℕ). settling_from o x n t w) left
      ∙ ap (λ (c : Choice). goes_on c
      (λ k m q p. settling_from o (b - (n + 1)) (n + 1) (p + 1) (arrive_words w k m q p)) w n) e

  pub settle_done : (b n t : ℕ) (w : List ℕ) → choice o t (view w) ≡ nothing
      → settling_from o b n t w ≡ record { world = w; ending = done n }
  unfolding settle_from
  settle_done zero n t w e =
      ap (λ (c : Choice). goes_on c (λ k m q p. record { world = w; ending = stopped n }) w n) e
  settle_done (suc b) n t w e =
      ap (λ (c : Choice). goes_on c (λ k m q p. settling_from o b (n + 1) (p + 1) (arrive_words w k m q p)) w n) e

  pub settle_stopped : (b n t : ℕ) (w : List ℕ) (k m q p : ℕ) → b ≤ n → choice o t (view w) ≡ letter k m q p
      → settling_from o (b - n) n t w ≡ record { world = w; ending = stopped n }
  unfolding settle_from
  settle_stopped b n t w k m q p h e =
      let left : b - n ≡ 0 = omega arith in
      ap (λ (x : ℕ). settling_from o x n t w) left
      ∙ ap (λ (c : Choice). goes_on c (λ k m q p. record { world = w; ending = stopped n }) w n) e

-- With the lowest letter first it is nobody's turn.
abbrev pub lowest_from : ℕ → ℕ → List ℕ → Settled (List ℕ)
lowest_from b n w = settling_from lowest_first b n 0 w

pub lowest_more : (b n : ℕ) (w : List ℕ) (k m q p : ℕ) → n < b → lowest any (view w) ≡ letter k m q p
    → lowest_from (b - n) n w ≡ lowest_from (b - (n + 1)) (n + 1) (arrive_words w k m q p)
lowest_more b n w k m q p h e =
    settle_more lowest_first b n 0 w k m q p h e
    ∙ turn_free (λ u. lowest any (view u)) arrive_words (b - (n + 1)) (n + 1) (p + 1) 0 (arrive_words w k m q p)

-- ---- the processes of a mask are quiescent
abbrev pub Rested : ℕ → State → Type 0
Rested mask s = (r : ℕ) → r < 16 → bit mask r ≡ true → Quiescent s r

pub rested_none : (s : State) → Rested 0 s
rested_none s r l e = clash e (bit_zero r)

pub rested_known : (mask : ℕ) (s : State) (p : ℕ) (b : Bool) → Rested mask s → p < 16 → b ≡ bit mask p
    → QuiescentIf b s p
rested_known mask s p true h l e = h p l (sym e)
rested_known mask s p false h l e = tt

-- ---- a sound world, and a letter that can move
module _ (w : List ℕ) (k m q p : ℕ) (h : SoundWords w) (a : Arrives (view w) k m q p) where
  -- it is one of the world's
  pub letter_within : (k < 3) × (m < 64) × (q < 16) × (p < 16) × (m < view w count)
  letter_within =
      let l = a.letter in (
        l.kind,
        omega (arith, l.message, count_high (view w) h.reads),
        omega (arith, l.from, size_high (view w) h.reads),
        omega (arith, l.to, size_high (view w) h.reads),
        l.message,
      )

  -- after its arrival the world is sound
  pub arrived_sound : SoundWords (arrive_words w k m q p)
  unfolding step
  arrived_sound =
      let s : State = arrival (view w) k m q p in
      record {
        long = length_encode s;
        reads = sound_words (encode s) s refl
            (step_sound (view w) (arrives k m q p) (moves_taken (view w) k m q p a) h.reads);
      }

  -- its receiver is quiescent, and whoever was
  pub rested_on : (mask : ℕ) → Rested mask (view w) → Rested (with mask p) (view (arrive_words w k m q p))
  unfolding step
  rested_on mask old r l b =
      let s : State = arrival (view w) k m q p in
      let sound = step_sound (view w) (arrives k m q p) (moves_taken (view w) k m q p a) h.reads in
      quiescent_words s r (sound_bounds s sound) l
      (arrival_quiescent (view w) k m q p h.reads a.letter r (λ d. before d (with_cases mask p r b)))
    where
      before : (p ≡ r → ⊥) → (bit mask r ≡ true) ⊎ (p ≡ r) → Quiescent (view w) r
      before d (inl b) = old r l b
      before d (inr z) = absurd (d z)

-- ---- what the loop of settle keeps of words w: a mask of the up processes, one of quiescent processes, and a place
pub record Going (w : List ℕ) (live mask : ℕ) (at : Place) : Type 0 where
  pub sound : SoundWords w
  pub ups : live ≡ mask_of (view w size) (is_up (view w))
  pub rested : Rested mask (view w)
  pub passed : Passed (view w) at

pub going_first : (w : List ℕ) (live : ℕ) → SoundWords w → live ≡ mask_of (view w size) (is_up (view w))
    → Going w live 0 (record { message = 0; kind = 0; origin = 0 })
going_first w live h e = record {
  sound = h;
  ups = e;
  rested = rested_none (view w);
  passed = start_passed (view w);
}
