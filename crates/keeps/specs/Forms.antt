-- Laws of the forms in which soundness is tested: a word in use that passes its test, or else is zero; a word
-- that is at most the count; a mask that names only what exists. It rests on the forms of Sound (world).
-- Assumes nothing.
use Rattle.std.specs.Prelude.{◌≡◌, refl, Bool, true, false, ℕ, ◌+◌, ◌≤◌, ◌<◌, ◌^◌, ◌/◌, ◌%◌, max, ltb, leb, eqb}
use Rattle.std.proofs.Common.{ap, ◌∙◌, arith, pow_mono, ltb-true, ltb-false, le-leb, leb-true, eq-eqb, eqb-true}
use Rattle.std.proofs.Math.Nat.{div-eq_of_lt}
use Rattle.definitions.specs.General.{pick, bit, only}
use Rattle.definitions.specs.Sound.{word}
use Rattle.base.specs.Tests.{clash}
use Rattle.base.specs.Bits.{bit_zero, only_i}
use Rattle.world.specs.SoundLaws.{word_out, word_is, word_leb}

-- a word and its test changed together
pub word_to : (b : Bool) (x y : ℕ) (t u : Bool) → (b ≡ true → t ≡ true → u ≡ true) → (b ≡ false → x ≡ 0 → y ≡ 0)
    → word b x t ≡ true → word b y u ≡ true
word_to true x y t u f g e = f refl e
word_to false x y t u f g e = eq-eqb y 0 (g refl (eqb-true x 0 e))

-- a word that is zero passes a test that zero passes
pub word_zero : (b : Bool) (x : ℕ) (t : ℕ → Bool) → x ≡ 0 → t 0 ≡ true → word b x (t x) ≡ true
word_zero b x t e f = word_is b x (t x) (λ _. ap t e ∙ f) (λ _. e)

-- ---- words that are at most n
-- a word that is at most n is at most n + 1
pub word_wider : (b : Bool) (x n : ℕ) → word b x (leb x n) ≡ true → word b x (leb x (n + 1)) ≡ true
word_wider b x n =
    word_to b x x (leb x n) (leb x (n + 1)) (λ _ t. le-leb x (n + 1) (omega (arith, leb-true x n t))) (λ _ z. z)

-- so is a word that rises by 1, if it is in use where it rises
pub word_raised : (b rises : Bool) (x n : ℕ) → (rises ≡ true → b ≡ true) → word b x (leb x n) ≡ true
    → word b (pick rises (x + 1) x) (leb (pick rises (x + 1) x) (n + 1)) ≡ true
word_raised b false x n used e = word_wider b x n e
word_raised b true x n used e =
    word_to b x (x + 1) (leb x n) (leb (x + 1) (n + 1))
    (λ _ t. le-leb (x + 1) (n + 1) (omega (arith, leb-true x n t)))
    (λ u z. clash (used refl) u) e

-- the larger of two words that are at most n is so too
pub word_max : (b : Bool) (x y n : ℕ) → word b x (leb x n) ≡ true → word b y (leb y n) ≡ true
    → word b (max x y) (leb (max x y) n) ≡ true
word_max b x y n e f =
    word_is b (max x y) (leb (max x y) n)
    (λ u. le-leb (max x y) n (omega (arith, word_leb b x n e, word_leb b y n f)))
    (λ u. omega (arith, word_out b x _ e u, word_out b y _ f u))

-- ---- masks
-- an empty mask names nothing else than f has
pub only_empty : (f : ℕ → Bool) → only 16 0 f ≡ true
only_empty f = only_i 16 0 f (λ i l e. clash e (bit_zero i))

-- a number below 2 ^ n has only bits below n
pub bit_below : (x n i : ℕ) → x < 2 ^ n → bit x i ≡ true → i < n
unfolding bit
bit_below x n i h e = go (ltb i n) refl
  where
    go : (b : Bool) → ltb i n ≡ b → i < n
    go true l = ltb-true i n l
    go false l =
        let p : 2 ^ n ≤ 2 ^ i = pow_mono {i = n} {j = i} (ltb-false i n l) in
        let z : x / 2 ^ i ≡ 0 = div-eq_of_lt {n = x} {m = 2 ^ i} (omega arith) in
        clash e (ap (λ (y : ℕ). eqb (y % 2) 1) z)
