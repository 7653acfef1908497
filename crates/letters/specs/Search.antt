-- The search for the lowest letter, as the code goes: by masks, the lowest receiver by trailing zeros. Assumes nothing.
use Rattle.std.specs.Prelude.{◌≡◌, Bool, true, false, ◌&&◌, ℕ, ◌+◌, ◌≤◌, ◌<◌, ltb}
use Rattle.std.proofs.Common.{sym, ap₂, ◌∙◌, add-one, arith, lt-ltb, le-ltb}
use Rattle.std.proofs.Math.Path.{ap}
use Rattle.std.specs.Int.Bits.{bit_and}
use Rattle.definitions.specs.General.{pick, first_from, bit, with, mask_of}
use Rattle.definitions.specs.World.{size, count, flight, State}
use Rattle.definitions.specs.Steps.{is_up}
use Rattle.definitions.specs.Settle.{Choice, letter, nothing, moves, receiver, origin, kind, movable, letter_of, lowest, any}
use Rattle.base.specs.Tests.{and_false}
use Rattle.base.specs.Search.{First, first_law, first_is, first_past}
use Rattle.base.specs.Bits.{bit_of_and, bit_mask_of, bit_mask_of_above}

-- ---- the lowest member below n
-- a mask whose bits below n are those that pass: its lowest member is the first that passes, or lies past n
module _ (n x : ℕ) (f : ℕ → Bool) (small : n ≤ 16) (same : (p : ℕ) → p < n → bit x p ≡ f p) where
  of_mask : First 16 0 (bit x) (first_from 16 0 (bit x))
  of_mask = first_law 16 0 (bit x)

  pub lowest_in : first_from 16 0 (bit x) < n → first_from n 0 f ≡ first_from 16 0 (bit x)
  lowest_in h =
      first_is n 0 f (first_from 16 0 (bit x)) (omega arith) (omega arith)
      (sym (same (first_from 16 0 (bit x)) h) ∙ of_mask.hit (omega arith))
      (λ p _ l. sym (same p (omega arith)) ∙ of_mask.miss p (omega arith) l)

  pub lowest_past : n ≤ first_from 16 0 (bit x) → first_from n 0 f ≡ n
  lowest_past h =
      let z =
      first_past n 0 f (λ p _ l. sym (same p (omega arith)) ∙ of_mask.miss p (omega arith) (omega arith)) in
      omega (arith, (first_law n 0 f).high)

-- ---- receivers
-- The up receivers of the letters of kind k for m from q.
unfoldable pub waiting : State → ℕ → ℕ → ℕ → ℕ
waiting s m k q = bit_and (s (flight m k q)) (mask_of (s size) (is_up s))

-- as the code makes it, from the mask of the up processes
pub waiting_up : (s : State) (m k q : ℕ) {x u : ℕ} → x ≡ s (flight m k q) → u ≡ mask_of (s size) (is_up s)
    → bit_and x u ≡ waiting s m k q
unfolding waiting
waiting_up s m k q ex eu = ap₂ bit_and ex eu

-- one process more in the mask
pub mask_more : (n : ℕ) (f : ℕ → Bool) → mask_of (n + 1) f ≡ pick (f n) (with (mask_of n f) n) (mask_of n f)
unfolding mask_of
mask_more n f = ap (λ (k : ℕ). mask_of k f) (add-one n)

-- those that a letter can move to
pub waiting_bit : (s : State) (m k q p : ℕ) → p < s size → bit (waiting s m k q) p ≡ moves s m k q p
unfolding waiting moves
waiting_bit s m k q p h =
    bit_of_and (s (flight m k q)) (mask_of (s size) (is_up s)) p
    ∙ ap (λ (b : Bool). bit (s (flight m k q)) p && b) (bit_mask_of (s size) (is_up s) p h)

-- and processes only
pub waiting_above : (s : State) (m k q p : ℕ) → s size ≤ p → bit (waiting s m k q) p ≡ false
unfolding waiting
waiting_above s m k q p h =
    bit_of_and (s (flight m k q)) (mask_of (s size) (is_up s)) p
    ∙ ap (λ (b : Bool). bit (s (flight m k q)) p && b) (bit_mask_of_above (s size) (is_up s) p h)
    ∙ and_false (bit (s (flight m k q)) p)

-- the lowest of them is the receiver, or there is none
pub receiver_in : (s : State) (m k q r : ℕ) → s size ≤ 16 → r ≡ first_from 16 0 (bit (waiting s m k q))
    → r < s size
    → receiver any s m k q ≡ r
unfolding receiver
receiver_in s m k q r small e h =
    lowest_in (s size) (waiting s m k q) (moves s m k q) small (waiting_bit s m k q) (rw (← e) h) ∙ sym e

pub receiver_none : (s : State) (m k q r : ℕ) → s size ≤ 16 → r ≡ first_from 16 0 (bit (waiting s m k q))
    → s size ≤ r → ltb (receiver any s m k q) (s size) ≡ false
unfolding receiver
receiver_none s m k q r small e h =
    ap (λ (x : ℕ). ltb x (s size))
    (lowest_past (s size) (waiting s m k q) (moves s m k q) small (waiting_bit s m k q) (rw (← e) h))
    ∙ le-ltb (s size) (s size) (omega arith)

-- ---- the letter found, and none
module _ (to : ℕ → Bool) (s : State) where
  -- what the lowest message decides
  choose : ℕ → Bool → Choice
  choose m b = elim b as (λ _. Choice) [ true ↦ letter_of to s m | false ↦ nothing ]

  pub lowest_found : (m k q r : ℕ) → first_from (s count) 0 (movable to s) ≡ m → m < s count → kind to s m ≡ k
      → origin to s m k ≡ q → receiver to s m k q ≡ r → lowest to s ≡ letter k m q r
  unfolding lowest letter_of choose
  lowest_found m k q r em h ek eq er =
      ap (λ (x : ℕ). choose x (ltb x (s count))) em
      ∙ ap (choose m) (lt-ltb m (s count) h)
      ∙ ap (λ (x : ℕ). letter x m (origin to s m x) (receiver to s m x (origin to s m x))) ek
      ∙ ap (λ (x : ℕ). letter k m x (receiver to s m k x)) eq
      ∙ ap (letter k m q) er

  pub lowest_none : first_from (s count) 0 (movable to s) ≡ s count → lowest to s ≡ nothing
  unfolding lowest choose
  lowest_none e =
      ap (λ (x : ℕ). choose x (ltb x (s count))) e
      ∙ ap (choose (s count)) (le-ltb (s count) (s count) (omega arith))
