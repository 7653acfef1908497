-- Sound worlds that no list reaches, each a reached one with a few words changed, in which other readings of card 6 answer
-- otherwise: in reached worlds most of them answer the same. The bytes are computed. Assumes nothing.
use Rattle.std.specs.Prelude.{◌≡◌, refl, Bool, true, false, not, ◌&&◌, ◌||◌, List, [], ◌∷◌, ℕ, ◌-◌, ◌<◌, ltb, leb}
use Rattle.std.proofs.Math.Decide.{ℕ_discrete}
use Rattle.std.proofs.Common.{arith}
use Rattle.definitions.specs.General.{every, some, first_from, bit, only}
use Rattle.definitions.specs.World.{count, sender, mask, stamp, number, State, put, has_group}
use Rattle.definitions.specs.Sound.{fit}
use Rattle.definitions.specs.Setup.{fresh, setup_bits, setup_group, good_setup, setup_refusal, made}
use Rattle.definitions.specs.Machine.{with_tables, raised, stamped, numbered, posted, multicast}
use Rattle.definitions.specs.Steps.{read, good_mask, refusal, step}
use Rattle.definitions.specs.History.{Item, tick, act, run}
use Rattle.definitions.specs.Words.{lowest_group, entry_on, precedes_byte}
use Rattle.world.specs.SoundLaws.{Sound}
use Rattle.world.specs.Items.{multicasting, three}
use Rattle.world.specs.Runs.{on_states, started}
use Rattle.keeps.specs.Changes.{put_sound}
use Rattle.keeps.specs.Keeps.{reached_sound}

-- ---- processes 0, 1, 2 in groups 0, 1, 2; message 0 of process 0 to groups 0 and 1, message 1 of process 1 to 1 and 2
pub three_taken : setup_refusal three ≡ 0
unfolding every some fresh setup_bits setup_group good_setup setup_refusal made has_group
three_taken = refl

abbrev two_items : List Item
two_items = multicasting 0 3 ∷ multicasting 1 6 ∷ []

abbrev two : State
two = (run on_states (started three) two_items).now

two_sound : Sound two
two_sound = reached_sound three two_items three_taken

-- message 1 knows of message 0 in group 0 alone; message 0's s is above its C, and it knows of message 1
abbrev lowest_alone : State
lowest_alone = put (put (put two (stamp 1 0 0) 1) (number 0 0) 2) (stamp 0 0 1) 1

-- message 1 knows of message 0 in group 1 alone; message 0's s is below its C
abbrev highest_alone : State
highest_alone = put (put two (stamp 1 1 0) 1) (number 0 0) 0

-- each knows of the other
abbrev each_other : State
each_other = put (put two (stamp 1 0 0) 1) (stamp 0 1 1) 1

-- in a sound world s, messages x and m get this byte
pub record Gets (s : State) (x m b : ℕ) : Type 0 where
  pub sound : Sound s
  pub both_there : (x < s count) × (m < s count)
  pub byte : precedes_byte s x m ≡ b

-- at most, by the entry of process q for group g
abbrev at_entry : State → ℕ → ℕ → ℕ → ℕ → Bool
at_entry s x m g q = leb (s (stamp x g q)) (s (stamp m g q))

-- what other readings answer: by the entry for the highest of the first's groups, for all of them, for a group that both
-- have; by the first's s in place of its C; by the second's sender's entry; by less in place of at most
abbrev others : State → ℕ → ℕ → List Bool
others s x m =
    let q = s (sender x) in
    let groups = bit (s (mask x)) in
    at_entry s x m (7 - first_from 8 0 (λ g. groups (7 - g))) q
    ∷ every 8 (λ g. not (groups g) || at_entry s x m g q)
    ∷ at_entry s x m (first_from 8 0 (λ g. groups g && bit (s (mask m)) g)) q
    ∷ leb (s (number x (lowest_group s x))) (entry_on s x m)
    ∷ at_entry s x m (lowest_group s x) (s (sender m))
    ∷ ltb (entry_on s x x) (entry_on s x m)
    ∷ []

pub told_apart :
    -- 0 for a message and itself
    Gets two 0 0 0
    -- 1, where they all answer 0
    × Gets lowest_alone 0 1 1
    × (others lowest_alone 0 1 ≡ false ∷ false ∷ false ∷ false ∷ false ∷ false ∷ [])
    -- 0, where those that can answer 1
    × Gets highest_alone 0 1 0
    × (others highest_alone 0 1 ≡ true ∷ false ∷ true ∷ true ∷ true ∷ false ∷ [])
    -- 1 both ways round: the bytes of such a world are no order
    × Gets each_other 0 1 1
    × Gets each_other 1 0 1
unfolding ℕ_discrete every some first_from bit only put fresh setup_bits setup_group made with_tables raised stamped
    numbered posted multicast read has_group good_mask refusal step tick act run precedes_byte fit
told_apart =
    let round = put_sound (put two (stamp 1 0 0) 1) (stamp 0 1 1) 1 (λ z. z) refl
    (put_sound two (stamp 1 0 0) 1 (λ z. z) refl two_sound) in (
      record { sound = two_sound; both_there = (omega arith, omega arith); byte = refl },
      record {
        sound = put_sound (put (put two (stamp 1 0 0) 1) (number 0 0) 2) (stamp 0 0 1) 1 (λ z. z) refl
            (put_sound (put two (stamp 1 0 0) 1) (number 0 0) 2 (λ z. z) refl
            (put_sound two (stamp 1 0 0) 1 (λ z. z) refl two_sound));
        both_there = (omega arith, omega arith);
        byte = refl;
      },
      refl,
      record {
        sound = put_sound (put two (stamp 1 1 0) 1) (number 0 0) 0 (λ z. z) refl
            (put_sound two (stamp 1 1 0) 1 (λ z. z) refl two_sound);
        both_there = (omega arith, omega arith);
        byte = refl;
      },
      refl,
      record { sound = round; both_there = (omega arith, omega arith); byte = refl },
      record { sound = round; both_there = (omega arith, omega arith); byte = refl },
    )
