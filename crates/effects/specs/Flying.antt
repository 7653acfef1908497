-- What has not left flight flies on: an arrival takes one letter out of flight, and every other letter to an
-- addressee still flies after it; where a word of letters is written anew, it is by all addressees. The receiver
-- holds the message then. Assumes nothing.
use Rattle.std.specs.Prelude.{◌≡◌, refl, ◌≢◌, ℕ, ◌-◌, ◌<◌}
use Rattle.std.proofs.Math.Path.{ap}
use Rattle.std.proofs.Common.{◌∙◌, arith}
use Rattle.std.proofs.Math.Bool.{true}
use Rattle.definitions.specs.General.{pick, bit}
use Rattle.definitions.specs.World.{size, count, fifo_length, held, State, put, addressed}
use Rattle.definitions.specs.Machine.{addressees, in_turn, ready, fifo_one, cascade, leave, mark, received, arrival}
use Rattle.base.specs.Loop.{loop_keeps}
use Rattle.base.specs.Bits.{bit_mask_of}
use Rattle.world.specs.Layout.{put_same}
use Rattle.world.specs.Kept.{hold_cases}
use Rattle.effects.specs.Views.{Ground, ground, Still}
use Rattle.effects.specs.Cascade.{letter_cases, fifo_one_still}
use Rattle.effects.specs.Arrival.{Held, Fly, put_letter, leave_cases, marked_flight, mark_ground, received_ground}

-- every addressee is in the mask of addressees
pub in_addressees : (s : State) (m u : ℕ) → u < s size → addressed s m u ≡ true
    → bit (addressees s m) u ≡ true
in_addressees s m u h a = bit_mask_of (s size) (addressed s m) u h ∙ a

-- the addressees are the same where the ground is
to_size : (s t : State) → ground t ≡ ground s → (u : ℕ) → u < s size → u < t size
to_size s t e u h = omega (arith, ap (λ (g : Ground). g.size) e)

to_same : (s t : State) → ground t ≡ ground s → (m u : ℕ) → addressed t m u ≡ addressed s m u
to_same s t e m u = ap (λ (g : Ground). bit (g.messages.mask m) (g.group u)) e

module _ (s : State) (k m q p : ℕ) where
  -- the state before p holds m
  abbrev t₁ : State
  t₁ = mark (leave s k m q p) k m q p

  -- p holds m
  pub received_holds : Held (received s k m q p) p m
  unfolding put
  received_holds = hold_cases (λ t. Held t p m) t₁ p m (λ e. e) (λ _. put_same t₁ (held p m) (held p m) 1 refl)

  module _ (x j o u : ℕ) (hu : u < s size) (au : addressed s x u ≡ true) (z : Fly (leave s k m q p) x j o u) where
    -- before the cascade
    pub received_flies : Fly (received s k m q p) x j o u
    unfolding put
    received_flies =
        hold_cases (λ t. Fly t x j o u) t₁ p m (λ _. on)
        (λ _. put_letter t₁ m (pick (in_turn t₁ p m) 2 1) p (addressees t₁ m)
        (λ x j o v. addressed s x u ≡ true → Fly t₁ x j o u → bit v u ≡ true)
        (λ a _. in_addressees t₁ m u (to_size s t₁ (mark_ground s k m q p) u hu)
        (to_same s t₁ (mark_ground s k m q p) m u ∙ a))
        (λ _ _ _ _ f. f) x j o au on)
      where
        on : Fly (mark (leave s k m q p) k m q p) x j o u
        on = rw (marked_flight s k m q p x j o) z

    -- and after it
    pub arrival_flies : Fly (arrival s k m q p) x j o u
    unfolding arrival cascade
    arrival_flies =
        let b : State = received s k m q p in
        (loop_keeps (λ t. t count) (λ t. ready t p) (λ t. fifo_one t p)
        (λ t. (ground t ≡ ground s) × Fly t x j o u)
        (λ t y _ _ _ f. (
          ap (λ (v : Still). v.ground) (fifo_one_still t p y) ∙ f.0,
          letter_cases t p y x (λ j o v. Fly t x j o u → bit v u ≡ true) (λ _ _ d. d)
              (λ _ _. in_addressees t x u (to_size s t f.0 u hu) (to_same s t f.0 x u ∙ au)) j o f.1,
        )) (b count - b (fifo_length p)) b (received_ground s k m q p, received_flies)).1

-- a letter to another process than the receiver flies on
pub flies_on : (s : State) (k m q p x j o u : ℕ) → u < s size → addressed s x u ≡ true → p ≢ u
    → Fly s x j o u → Fly (arrival s k m q p) x j o u
flies_on s k m q p x j o u hu au n f =
    leave_cases s k m q p
    (λ x j o u. u < s size → addressed s x u ≡ true → p ≢ u → Fly (arrival s k m q p) x j o u)
    (λ _ _ n. absurd (n refl)) (λ x j o u z hu au _. arrival_flies s k m q p x j o u hu au z) x j o u f hu au n
