-- Laws of settle: two settles over related states take the same letters, end in related states and answer
-- the same; what each arrival keeps, a settle keeps; what its answer says of the choice that is left. Of any choice,
-- which may look at whose turn it is. Assumes nothing.
use Rattle.std.specs.Prelude.{◌≡◌}
use Rattle.std.proofs.Math.Path.{refl}
use Rattle.std.proofs.Common.{ap, subst}
use Prim.Native.Nat.{ℕ, zero, suc, ◌+◌}
use native.Mathlib.Omega.{arith}
use Rattle.definitions.specs.World.{State}
use Rattle.definitions.specs.Machine.{arrival}
use Rattle.definitions.specs.Settle.{Choice, letter, nothing, Ending, done, stopped, Settled, Manner, choice, settle_from}

-- Settle on a state, of either manner, with a budget.
unfoldable pub settle : Manner → State → ℕ → Settled State
settle o s b = settle_from (choice o) arrival b 0 0 s

-- What follows a choice: more where it names a letter, else the end, with n arrivals made.
abbrev pub goes_on : {S : Type 0} → Choice → (ℕ → ℕ → ℕ → ℕ → Settled S) → S → ℕ → Settled S
goes_on {S} c more s n =
    elim c as (λ _. Settled S) [ letter k m q p ↦ more k m q p | nothing ↦ record { world = s; ending = done n } ]

-- Related worlds, and the same answer.
pub record Alike {S T : Type 0} (R : S → T → Type 0) (x : Settled S) (y : Settled T) : Type 0 where
  pub worlds : R x.world y.world
  pub endings : x.ending ≡ y.ending

module _ {S T : Type 0} (choose_s : ℕ → S → Choice) (arrive_s : S → ℕ → ℕ → ℕ → ℕ → S)
    (choose_t : ℕ → T → Choice) (arrive_t : T → ℕ → ℕ → ℕ → ℕ → T) (R : S → T → Type 0)
    (same_choice : (x : ℕ) (s : S) (t : T) → R s t → choose_s x s ≡ choose_t x t)
    (same_arrival : (x : ℕ) (s : S) (t : T) (k m q p : ℕ) → R s t → choose_s x s ≡ letter k m q p
    → R (arrive_s s k m q p) (arrive_t t k m q p)) where
  step_alike : (n x : ℕ) (s : S) (t : T) (f : ℕ → ℕ → ℕ → ℕ → Settled S) (g : ℕ → ℕ → ℕ → ℕ → Settled T) → R s t
      → ((k m q p : ℕ) → choose_s x s ≡ letter k m q p → Alike R (f k m q p) (g k m q p))
      → Alike R (goes_on (choose_s x s) f s n) (goes_on (choose_t x t) g t n)
  step_alike n x s t f g r same =
      subst (λ (c : Choice). Alike R (goes_on (choose_s x s) f s n) (goes_on c g t n)) (same_choice x s t r)
      (go (choose_s x s) refl)
    where
      go : (c : Choice) → choose_s x s ≡ c → Alike R (goes_on c f s n) (goes_on c g t n)
      go (letter k m q p) e = same k m q p e
      go nothing e = record { worlds = r; endings = refl }

  pub settle_related : (b n x : ℕ) (s : S) (t : T) → R s t
      → Alike R (settle_from choose_s arrive_s b n x s) (settle_from choose_t arrive_t b n x t)
  unfolding settle_from
  settle_related zero n x s t r =
      step_alike n x s t (λ k m q p. record { world = s; ending = stopped n })
      (λ k m q p. record { world = t; ending = stopped n }) r
      (λ k m q p e. record { worlds = r; endings = refl })
  settle_related (suc b) n x s t r =
      step_alike n x s t (λ k m q p. settle_from choose_s arrive_s b (n + 1) (p + 1) (arrive_s s k m q p))
      (λ k m q p. settle_from choose_t arrive_t b (n + 1) (p + 1) (arrive_t t k m q p)) r
      (λ k m q p e. settle_related b (n + 1) (p + 1) (arrive_s s k m q p) (arrive_t t k m q p)
      (same_arrival x s t k m q p r e))

-- what each arrival of a chosen letter keeps
module _ {S : Type 0} (choose : ℕ → S → Choice) (arrive : S → ℕ → ℕ → ℕ → ℕ → S) (P : S → Type 0)
    (keep : (x : ℕ) (s : S) (k m q p : ℕ) → choose x s ≡ letter k m q p → P s → P (arrive s k m q p)) where
  pub settle_keeps : (b n x : ℕ) (s : S) → P s → P (settle_from choose arrive b n x s).world
  settle_keeps b n x s h =
      (settle_related choose arrive choose arrive (λ u v. (u ≡ v) × P u) (λ y u v r. ap (choose y) r.0)
      (λ y u v k m q p r e. (ap (λ (z : S). arrive z k m q p) r.0, keep y u k m q p e r.1)) b n x s s
      (refl, h)
      ).worlds.1

-- a choice that does not look at the turn
pub turn_free : {S : Type 0} (choose : S → Choice) (arrive : S → ℕ → ℕ → ℕ → ℕ → S) (b n x y : ℕ) (s : S)
    → settle_from (λ _. choose) arrive b n x s ≡ settle_from (λ _. choose) arrive b n y s
unfolding settle_from
turn_free choose arrive zero n x y s = refl
turn_free choose arrive (suc b) n x y s = refl

-- ---- what an answer says of the choice that is left, where at most b arrivals were allowed: done, that at some turn it
-- names nothing; stopped, that all are made and at some turn it names a letter
pub data NamesLetter : Choice → Type 0 where
  names_letter : (k m q p : ℕ) → NamesLetter (letter k m q p)

abbrev pub Says : ℕ → (ℕ → Choice) → Ending → Type 0
Says b c (done i) = (x : ℕ) × (c x ≡ nothing)
Says b c (stopped i) = (i ≡ b) × ((x : ℕ) × NamesLetter (c x))

module _ {S : Type 0} (choose : ℕ → S → Choice) (arrive : S → ℕ → ℕ → ℕ → ℕ → S) where
  abbrev Tells : ℕ → Settled S → Type 0
  Tells b u = Says b (λ x. choose x u.world) u.ending

  tells_same : (a b : ℕ) (u : Settled S) → a ≡ b → Tells a u → Tells b u
  tells_same a b u e = subst (λ (x : ℕ). Tells x u) e

  pub settle_says : (b n x : ℕ) (s : S) → Tells (n + b) (settle_from choose arrive b n x s)
  unfolding settle_from
  settle_says zero n x s = go (choose x s) refl
    where
      go : (c : Choice) → choose x s ≡ c
          → Tells (n + 0) (goes_on c (λ k m q p. record { world = s; ending = stopped n }) s n)
      go (letter k m q p) e = (omega arith, (x, rw e (names_letter k m q p)))
      go nothing e = (x, e)
  settle_says (suc b) n x s = go (choose x s) refl (λ k m q p. settle_says b (n + 1) (p + 1) (arrive s k m q p))
    where
      more : ℕ → ℕ → ℕ → ℕ → Settled S
      more k m q p = settle_from choose arrive b (n + 1) (p + 1) (arrive s k m q p)

      go : (c : Choice) → choose x s ≡ c → ((k m q p : ℕ) → Tells (n + 1 + b) (more k m q p))
          → Tells (n + suc b) (goes_on c more s n)
      go (letter k m q p) e ih = tells_same (n + 1 + b) (n + suc b) (more k m q p) (omega arith) (ih k m q p)
      go nothing e ih = (x, e)
