-- The machine's count of ones is that of a mask as a set of the numbers below its width: the ones are its members.
-- Assumes nothing.
use Rattle.std.specs.Prelude.{◌≡◌, refl, Bool, true, false, ℕ, zero, suc, ◌+◌, ◌/◌, ◌%◌, ◌^◌, ◌<◌, eqb}
use Rattle.std.proofs.Common.{sym, ap, ap₂, ◌∙◌, mod-lt, div-one, not-suc-le-zero, le_of_suc-le-suc, add-one, arith, shr-shr, shr_lt, lit<}
use Rattle.std.proofs.Math.Arith.{lt-one}
use Rattle.std.specs.Int.Count.{ones, ones_in, ones_step}
use Rattle.definitions.specs.General.{pick, tally, bit}
use Rattle.base.specs.Count.{tally_cong}

-- a binary digit is 1 or 0
digit : (d : ℕ) → d < 2 → d ≡ pick (eqb d 1) 1 0
digit zero h = refl
digit (suc zero) h = refl
digit (suc (suc d)) h = absurd (not-suc-le-zero (le_of_suc-le-suc (le_of_suc-le-suc h)))

-- ---- the ones are the members
-- a count, with the first taken apart
tally_front : (k : ℕ) (f : ℕ → Bool) → tally (suc k) f ≡ pick (f 0) 1 0 + tally k (λ i. f (suc i))
unfolding tally
tally_front zero f = go (f 0)
  where
    go : (b : Bool) → pick b 1 0 ≡ pick b 1 0 + 0
    go true = refl
    go false = refl
tally_front (suc k) f = go (f (suc k)) (tally_front k f)
  where
    go : (b : Bool) → tally (suc k) f ≡ pick (f 0) 1 0 + tally k (λ i. f (suc i))
        → pick b (suc (tally (suc k) f)) (tally (suc k) f)
        ≡ pick (f 0) 1 0 + pick b (suc (tally k (λ i. f (suc i)))) (tally k (λ i. f (suc i)))
    go true e = omega (arith, e)
    go false e = e

-- the digits of m without the lowest
bit_half : (m i : ℕ) → bit (m / 2) i ≡ bit m (suc i)
unfolding bit
bit_half m i =
    ap (λ (x : ℕ). eqb (x % 2) 1) (shr-shr m 1 i
    ∙ ap (λ (x : ℕ). m / 2 ^ x) (let e : 1 + i ≡ suc i = omega arith in e))

bit_low : (m : ℕ) → m % 2 ≡ pick (bit m 0) 1 0
unfolding bit
bit_low m = digit (m % 2) (mod-lt m (lit< tt)) ∙ ap (λ (x : ℕ). pick (eqb (x % 2) 1) 1 0) (sym (div-one m))

ones_tally : (k m : ℕ) → ones_in k m ≡ tally k (bit m)
unfolding ones_in tally
ones_tally zero m = refl
ones_tally (suc k) m =
    ap₂ ◌+◌ (bit_low m) (ones_tally k (m / 2)
    ∙ tally_cong k (bit (m / 2)) (λ i. bit m (suc i)) (λ i h. bit_half m i))
    ∙ sym (tally_front k (bit m))

ones_within : (k n : ℕ) → n < 2 ^ k → ones n ≡ ones_in k n
unfolding ones_in ones
ones_within zero n h = ap ones (lt-one h)
ones_within (suc k) n h =
    ones_step n ∙ ap (λ (x : ℕ). n % 2 + x) (ones_within k (n / 2) (shr_lt k 1 (rw (add-one k) h)))

pub ones_members : (k m : ℕ) → m < 2 ^ k → ones m ≡ tally k (bit m)
ones_members k m h = ones_within k m h ∙ ones_tally k m
