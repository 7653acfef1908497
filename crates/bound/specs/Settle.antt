-- Settle ends: each arrival lowers the potential, so a settle makes at most as many arrivals as the
-- potential, and with a budget of at least that it says done. For any choice of the next letter that names
-- only letters that can move, and names nothing only where none can; both manners have such a choice. Assumes
-- nothing.
use Rattle.std.specs.Prelude.{◌≡◌}
use Rattle.std.proofs.Math.Path.{refl}
use Rattle.std.proofs.Common.{ap}
use Prim.Native.Nat.{ℕ, zero, suc, ◌+◌, ◌*◌, ◌≤◌, ◌<◌}
use native.Mathlib.Omega.{arith}
use Rattle.definitions.specs.General.{sum}
use Rattle.definitions.specs.World.{count, State, put}
use Rattle.definitions.specs.Machine.{leave, arrival}
use Rattle.definitions.specs.Steps.{arrives, step}
use Rattle.definitions.specs.Settle.{Choice, letter, nothing, Manner, choice, Ending, done, stopped, Settled, settle_from}
use Rattle.world.specs.SoundLaws.{Sound}
use Rattle.world.specs.StepLaws.{Arrives, Chosen, moves_taken}
use Rattle.world.specs.TurnLaws.{choice_chosen}
use Rattle.world.specs.SettleLaws.{settle, goes_on}
use Rattle.keeps.specs.Keeps.{step_sound}
use Rattle.effects.specs.Views.{Ground}
use Rattle.effects.specs.Holding.{arrival_ground}
use Rattle.effects.specs.Spent.{arrived_once, step_once}
use Rattle.bound.specs.Potential.{addressee_count, potential, cost_lower, potential_falls, leave_falls}
use Rattle.bound.specs.Bound.{sound_potential}

-- ---- an answer: the arrivals that it names, and whether it says done
abbrev pub arrivals : Ending → ℕ
arrivals (done n) = n
arrivals (stopped n) = n

-- it says done
abbrev pub SaysDone : Ending → Type 0
SaysDone e = e ≡ done (arrivals e)

-- ---- any settle
module _ {S : Type 0} (choose : ℕ → S → Choice) (arrive : S → ℕ → ℕ → ℕ → ℕ → S) (P : S → Type 0)
    (left : S → ℕ) where
  -- what is kept, how many arrivals, and the end
  pub record Ended (b n : ℕ) (s : S) (u : Settled S) : Type 0 where
    pub kept : P u.world
    pub few : arrivals u.ending ≤ n + left s
    pub finishes : left s ≤ b → SaysDone u.ending

  -- what one arrival gives
  pub record Falls (s t : S) : Type 0 where
    pub keeps : P t
    pub lowers : left t < left s

  module _ (turn : (x : ℕ) (s : S) (k m q p : ℕ) → choose x s ≡ letter k m q p → P s → Falls s (arrive s k m q p))
    where
      pub settle_ends : (b n x : ℕ) (s : S) → P s → Ended b n s (settle_from choose arrive b n x s)
      unfolding settle_from
      settle_ends zero n x s p = go (choose x s) refl
        where
          go : (c : Choice) → choose x s ≡ c
              → Ended 0 n s (goes_on c (λ k m q p. record { world = s; ending = stopped n }) s n)
          go (letter k m q r) e = record {
            kept = p;
            few = omega arith;
            finishes = λ h. let f = (turn x s k m q r e p).lowers in absurd (omega arith);
          }
          go nothing e = record { kept = p; few = omega arith; finishes = λ h. refl }
      settle_ends (suc b) n x s p =
          go (choose x s) refl (λ k m q r z. settle_ends b (n + 1) (r + 1) (arrive s k m q r) z)
        where
          more : ℕ → ℕ → ℕ → ℕ → Settled S
          more k m q r = settle_from choose arrive b (n + 1) (r + 1) (arrive s k m q r)

          go : (c : Choice) → choose x s ≡ c
              → ((k m q r : ℕ) → P (arrive s k m q r) → Ended b (n + 1) (arrive s k m q r) (more k m q r))
              → Ended (suc b) n s (goes_on c more s n)
          go (letter k m q r) e ih =
              let f = turn x s k m q r e p in
              let i = ih k m q r f.keeps in
              record {
                kept = i.kept;
                few = omega (arith, i.few, f.lowers);
                finishes = λ h. i.finishes (omega (arith, f.lowers));
              }
          go nothing e ih = record { kept = p; few = omega arith; finishes = λ h. refl }

-- ---- a letter that can move, of a sound world
module _ (s : State) (k m q p : ℕ) (h : Sound s) (a : Arrives s k m q p) where
  -- its arrival leaves the world sound
  sound_arrival : Sound (arrival s k m q p)
  unfolding step
  sound_arrival = step_sound s (arrives k m q p) (moves_taken s k m q p a) h

  -- and lowers the potential
  pub moved_falls : potential (arrival s k m q p) < potential s
  unfolding step leave put
  moved_falls =
      let l = a.letter in
      let g = arrival_ground s k m q p in
      potential_falls s (arrival s k m q p) (ap (λ (v : Ground). v.messages.total) g)
      (ap (λ (v : Ground). v.size) g)
      (cost_lower (step_once s (arrives k m q p) (moves_taken s k m q p a)) g sound_arrival) k m q p
      l.kind l.message l.from l.to
      (omega (
        arith,
        cost_lower (arrived_once s k m q p l.message) g sound_arrival k m q p l.kind l.message
            l.from l.to,
        leave_falls s k m q p l.flies,
      ))

-- ---- settle on a sound world, with any such choice
module _ (choose : ℕ → State → Choice) (good : (x : ℕ) (s : State) → Chosen s (choose x s)) where
  pub choice_ends : (s : State) (b : ℕ) → Sound s
      → Ended choose arrival Sound potential b 0 s (settle_from choose arrival b 0 0 s)
  choice_ends s b h =
      settle_ends choose arrival Sound potential
      (λ x t k m q p e z. moved t k m q p (rw e at (good x t)) z) b 0 0 s h
    where
      moved : (t : State) (k m q p : ℕ) → Arrives t k m q p → Sound t
          → Falls choose arrival Sound potential t (arrival t k m q p)
      moved t k m q p a z = record { keeps = sound_arrival t k m q p z a; lowers = moved_falls t k m q p z a }

-- ---- the theorems, of both manners
module _ (o : Manner) (s : State) (b : ℕ) (h : Sound s) where
  pub ended : Ended (choice o) arrival Sound potential b 0 s (settle o s b)
  unfolding settle
  ended = choice_ends (choice o) (choice_chosen o) s b h

  -- a settle of any sound world makes at most the sum of A + 4 × A × A arrivals, and says done with such a
  -- budget
  pub sound_settle_bound : arrivals (settle o s b).ending
      ≤ sum (s count) (λ m. addressee_count s m + 4 * (addressee_count s m * addressee_count s m))
  sound_settle_bound = omega (arith, ended.few, sound_potential s h)

  -- with that budget it says done
  pub sound_settle_done : sum (s count)
      (λ m. addressee_count s m + 4 * (addressee_count s m * addressee_count s m)) ≤ b
      → SaysDone (settle o s b).ending
  sound_settle_done l = ended.finishes (omega (arith, sound_potential s h))
