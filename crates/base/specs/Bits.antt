-- A mask as a set of numbers: its bits, one put in or taken out, the mask of a test. Assumes nothing.
use Rattle.std.specs.Prelude.{Bool, true, false, not, ◌&&◌, ◌||◌, ◌≡◌, refl, ℕ, zero, suc, ◌+◌, ◌-◌, ◌*◌, ◌/◌, ◌%◌, ◌^◌, ◌≤◌, ◌<◌, eqb, ◌⊎◌}
use Rattle.std.proofs.Common.{sym, ap, ap₂, ◌∙◌, mod-lt, not-suc-le-zero, le_of_suc-le-suc, one-mul, zero-mul, mul-div_cancel, div-one, pow-suc, arith, shr-shr, pow_mono, shl_exact, pow-add, lit<, ne_eqb, eq-eqb, inl, inr}
use Rattle.std.proofs.Math.Nat.{zero-div, mul-mod_left, div-eq_of_lt}
use Rattle.std.specs.Int.Bits.{bit_and, bit_or, bit_xor, and_zero_r, or_add_and, xor_add_and}
use Rattle.std.proofs.lemmas.Nat.Bits.{and_high}
use Rattle.std.proofs.lemmas.Nat.{and_shr, and_mod, or_shr, or_mod, xor_shr, xor_mod}
use Rattle.std.proofs.Math.Dec.{eqb-suc-suc}
use Rattle.std.proofs.Math.Decide.{ℕ_discrete}
use Rattle.definitions.specs.General.{pick, bit, with, without, mask_of, only}
use Rattle.base.specs.Tests.{clash, either_l, either_r, le_or_lt, or_false}
use Rattle.base.specs.Search.{every_true, every_intro, every_cong}

-- 1 << p in k bits does not lose its bit
pub one_shl : (k p : ℕ) → p < k → (1 * 2 ^ p) % 2 ^ k ≡ 2 ^ p
one_shl k p h = shl_exact {a = 1} 1 p k (lit< tt) (omega arith) ∙ one-mul (2 ^ p)

-- the one bit of m under a mask of one
pub and_one : (m p : ℕ) → bit_and m (2 ^ p) ≡ (m / 2 ^ p % 2) * 2 ^ p
and_one m p =
    let e : 2 ^ (1 + p) - 2 ^ p ≡ 2 ^ p = rw (pow-add 2 1 p) (omega arith) in
    ap (bit_and m) (sym e) ∙ and_high m 1 p

with_digit : (d n m o : ℕ) → d < 2 → o + d * n ≡ m + n → o ≡ pick (eqb d 1) m (m + n)
with_digit zero n m o h e = omega arith
with_digit (suc zero) n m o h e = omega arith
with_digit (suc (suc d)) n m o h e = absurd (not-suc-le-zero (le_of_suc-le-suc (le_of_suc-le-suc h)))

pub or_with : (m p : ℕ) → bit_or m (2 ^ p) ≡ with m p
unfolding with bit
or_with m p =
    with_digit (m / 2 ^ p % 2) (2 ^ p) m (bit_or m (2 ^ p)) (mod-lt (m / 2 ^ p) (lit< tt))
    (rw (← and_one m p) (or_add_and m (2 ^ p)))

without_digit : (d n m : ℕ) → d < 2 → m - d * n ≡ pick (eqb d 1) (m - n) m
without_digit zero n m h = omega arith
without_digit (suc zero) n m h = omega arith
without_digit (suc (suc d)) n m h = absurd (not-suc-le-zero (le_of_suc-le-suc (le_of_suc-le-suc h)))

pub sub_without : (m p : ℕ) → m - bit_and m (2 ^ p) ≡ without m p
unfolding without bit
sub_without m p = rw (and_one m p) (without_digit (m / 2 ^ p % 2) (2 ^ p) m (mod-lt (m / 2 ^ p) (lit< tt)))

-- ---- bits of the operations

two_pos : 0 < 2
two_pos = lit< tt

low : (a q : ℕ) → a / 2 ^ q % 2 < 2
low a q = mod-lt (a / 2 ^ q) two_pos

-- a fact of two digits, by its four cases
module _ (f : ℕ → ℕ → ℕ) (g : Bool → Bool → Bool)
    (h00 : eqb (f 0 0) 1 ≡ g false false) (h01 : eqb (f 0 1) 1 ≡ g false true)
    (h10 : eqb (f 1 0) 1 ≡ g true false) (h11 : eqb (f 1 1) 1 ≡ g true true) where
  pub digits2 : (x y : ℕ) → x < 2 → y < 2 → eqb (f x y) 1 ≡ g (eqb x 1) (eqb y 1)
  digits2 zero zero hx hy = h00
  digits2 zero (suc zero) hx hy = h01
  digits2 (suc zero) zero hx hy = h10
  digits2 (suc zero) (suc zero) hx hy = h11
  digits2 (suc (suc x)) y hx hy = absurd (not-suc-le-zero (le_of_suc-le-suc (le_of_suc-le-suc hx)))
  digits2 zero (suc (suc y)) hx hy = absurd (not-suc-le-zero (le_of_suc-le-suc (le_of_suc-le-suc hy)))
  digits2 (suc zero) (suc (suc y)) hx hy = absurd (not-suc-le-zero (le_of_suc-le-suc (le_of_suc-le-suc hy)))

pub bit_of_and : (a b q : ℕ) → bit (bit_and a b) q ≡ (bit a q && bit b q)
unfolding bit
bit_of_and a b q =
    ap (λ (x : ℕ). eqb x 1) (ap (λ (x : ℕ). x % 2) (and_shr a b q) ∙ and_mod (a / 2 ^ q) (b / 2 ^ q) 1)
    ∙ digits2 bit_and ◌&&◌ refl refl refl refl (a / 2 ^ q % 2) (b / 2 ^ q % 2) (low a q) (low b q)

pub bit_of_or : (a b q : ℕ) → bit (bit_or a b) q ≡ (bit a q || bit b q)
unfolding bit
bit_of_or a b q =
    ap (λ (x : ℕ). eqb x 1) (ap (λ (x : ℕ). x % 2) (or_shr a b q) ∙ or_mod (a / 2 ^ q) (b / 2 ^ q) 1)
    ∙ digits2 bit_or ◌||◌ refl refl refl refl (a / 2 ^ q % 2) (b / 2 ^ q % 2) (low a q) (low b q)

abbrev pub differs : Bool → Bool → Bool
differs true y = not y
differs false y = y

pub bit_of_xor : (a b q : ℕ) → bit (bit_xor a b) q ≡ differs (bit a q) (bit b q)
unfolding bit
bit_of_xor a b q =
    ap (λ (x : ℕ). eqb x 1) (ap (λ (x : ℕ). x % 2) (xor_shr a b q) ∙ xor_mod (a / 2 ^ q) (b / 2 ^ q) 1)
    ∙ digits2 bit_xor differs refl refl refl refl (a / 2 ^ q % 2) (b / 2 ^ q % 2) (low a q) (low b q)

-- bit q + 1 of a is bit q of its half
half : (a q : ℕ) → a / 2 ^ suc q ≡ a / 2 / 2 ^ q
half a q = ap (λ (x : ℕ). a / 2 ^ x) (sym (one_plus q)) ∙ sym (shr-shr a 1 q)
  where
    one_plus : (q : ℕ) → 1 + q ≡ suc q
    one_plus q = omega arith

pub bit_pow : (p q : ℕ) → bit (2 ^ p) q ≡ eqb p q
unfolding bit
bit_pow zero zero = refl
bit_pow zero (suc q) =
    rw (half 1 q) (ap (λ (x : ℕ). eqb (x % 2) 1)
    (zero-div (2 ^ q)) ∙ sym (ne_eqb 0 (suc q) (λ e. omega arith)))
bit_pow (suc p) zero =
    rw (div-one (2 ^ suc p), pow-suc 2 p, mul-mod_left (2 ^ p) 2) (sym (ne_eqb (suc p) 0 (λ e. omega arith)))
bit_pow (suc p) (suc q) =
    rw (half (2 ^ suc p) q, pow-suc 2 p, mul-div_cancel (2 ^ p) two_pos) (bit_pow p q ∙ sym (eqb-suc-suc p q))

pub bit_with : (m p q : ℕ) → bit (with m p) q ≡ (bit m q || eqb p q)
bit_with m p q = rw (← or_with m p, bit_of_or m (2 ^ p) q, bit_pow p q)

and_absorb : (m p d : ℕ) → m / 2 ^ p % 2 ≡ d → d < 2 → bit_and m (d * 2 ^ p) ≡ d * 2 ^ p
and_absorb m p zero e h = rw (zero-mul (2 ^ p)) (and_zero_r m)
and_absorb m p (suc zero) e h =
    rw (one-mul (2 ^ p)) (and_one m p ∙ ap (λ (x : ℕ). x * 2 ^ p) e ∙ one-mul (2 ^ p))
and_absorb m p (suc (suc d)) e h = absurd (not-suc-le-zero (le_of_suc-le-suc (le_of_suc-le-suc h)))

pub bit_without : (m p q : ℕ) → bit (without m p) q ≡ differs (bit m q) (bit m q && eqb p q)
bit_without m p q =
    let b : ℕ = bit_and m (2 ^ p) in
    let g : bit_and m b ≡ b = rw (and_one m p) (and_absorb m p (m / 2 ^ p % 2) refl (low m p)) in
    let e : bit_xor m b ≡ m - b = omega (arith, xor_add_and m b, g) in
    rw (← sub_without m p, ← e, bit_of_xor m b q, bit_of_and m (2 ^ p) q, bit_pow p q)

-- ---- the same as facts
pub bit_zero : (i : ℕ) → bit 0 i ≡ false
unfolding bit
bit_zero i = ap (λ (x : ℕ). eqb (x % 2) 1) (zero-div (2 ^ i))

-- a number below 2 ^ n has no bit from n on
pub bit_high : (m n i : ℕ) → m < 2 ^ n → n ≤ i → bit m i ≡ false
unfolding bit
bit_high m n i h l =
    let k : 2 ^ n ≤ 2 ^ i = pow_mono l in
    let r : m < 2 ^ i = omega arith in
    ap (λ (x : ℕ). eqb (x % 2) 1) (div-eq_of_lt r)

pub with_old : (m p q : ℕ) → bit m q ≡ true → bit (with m p) q ≡ true
with_old m p q e = bit_with m p q ∙ either_l (bit m q) (eqb p q) e

pub with_hit : (m p : ℕ) → bit (with m p) p ≡ true
with_hit m p = bit_with m p p ∙ either_r (bit m p) (eqb p p) (eq-eqb p p refl)

pub with_other : (m p q : ℕ) → (p ≡ q → ⊥) → bit (with m p) q ≡ bit m q
with_other m p q n = bit_with m p q ∙ ap (λ (b : Bool). bit m q || b) (ne_eqb p q n) ∙ or_false (bit m q)

pub with_cases : (m p q : ℕ) → bit (with m p) q ≡ true → (bit m q ≡ true) ⊎ (p ≡ q)
with_cases m p q e = go (ℕ_discrete p q)
  where
    go : Dec (p ≡ q) → (bit m q ≡ true) ⊎ (p ≡ q)
    go (yes d) = inr d
    go (no d) = inl (sym (with_other m p q d) ∙ e)

pub without_hit : (m p : ℕ) → bit (without m p) p ≡ false
without_hit m p =
    bit_without m p p ∙ ap (λ (b : Bool). differs (bit m p) (bit m p && b)) (eq-eqb p p refl) ∙ gone (bit m p)
  where
    gone : (b : Bool) → differs b (b && true) ≡ false
    gone true = refl
    gone false = refl

pub without_other : (m p q : ℕ) → (p ≡ q → ⊥) → bit (without m p) q ≡ bit m q
without_other m p q n =
    bit_without m p q ∙ ap (λ (b : Bool). differs (bit m q) (bit m q && b)) (ne_eqb p q n) ∙ kept (bit m q)
  where
    kept : (b : Bool) → differs b (b && false) ≡ b
    kept true = refl
    kept false = refl

pub without_old : (m p q : ℕ) → bit (without m p) q ≡ true → bit m q ≡ true
without_old m p q e = go (ℕ_discrete p q)
  where
    go : Dec (p ≡ q) → bit m q ≡ true
    go (yes d) = clash e (ap (bit (without m p)) (sym d) ∙ without_hit m p)
    go (no d) = sym (without_other m p q d) ∙ e

pub bit_mask_of_above : (n : ℕ) (f : ℕ → Bool) (i : ℕ) → n ≤ i → bit (mask_of n f) i ≡ false
unfolding mask_of
bit_mask_of_above zero f i h = bit_zero i
bit_mask_of_above (suc n) f i h = go (f n) (bit_mask_of_above n f i (omega arith))
  where
    go : (b : Bool) → bit (mask_of n f) i ≡ false
        → bit (pick b (with (mask_of n f) n) (mask_of n f)) i ≡ false
    go true e = with_other (mask_of n f) n i (λ d. omega arith) ∙ e
    go false e = e

pub bit_mask_of : (n : ℕ) (f : ℕ → Bool) (i : ℕ) → i < n → bit (mask_of n f) i ≡ f i
unfolding mask_of
bit_mask_of zero f i h = absurd (not-suc-le-zero h)
bit_mask_of (suc n) f i h = go (f n) refl (ℕ_discrete n i) (λ l. bit_mask_of n f i l)
  where
    go : (b : Bool) → f n ≡ b → Dec (n ≡ i) → (i < n → bit (mask_of n f) i ≡ f i)
        → bit (pick b (with (mask_of n f) n) (mask_of n f)) i ≡ f i
    go true e (yes d) ih = ap (bit (with (mask_of n f) n)) (sym d) ∙ with_hit (mask_of n f) n ∙ sym e ∙ ap f d
    go false e (yes d) ih = bit_mask_of_above n f i (omega arith) ∙ sym e ∙ ap f d
    go true e (no d) ih = with_other (mask_of n f) n i d ∙ ih (omega arith)
    go false e (no d) ih = ih (omega arith)

pub mask_of_member : (n : ℕ) (f : ℕ → Bool) (i : ℕ) → bit (mask_of n f) i ≡ true → (i < n) × (f i ≡ true)
mask_of_member n f i e = go (le_or_lt n i)
  where
    go : (n ≤ i) ⊎ (i < n) → (i < n) × (f i ≡ true)
    go (inl l) = clash e (bit_mask_of_above n f i l)
    go (inr l) = (l, sym (bit_mask_of n f i l) ∙ e)

pub mask_of_cong : (n : ℕ) (f g : ℕ → Bool) → ((i : ℕ) → i < n → f i ≡ g i) → mask_of n f ≡ mask_of n g
unfolding mask_of
mask_of_cong zero f g h = refl
mask_of_cong (suc n) f g h =
    ap₂ (λ (b : Bool) (m : ℕ). pick b (with m n) m) (h n (omega arith))
    (mask_of_cong n f g (λ i l. h i (omega arith)))

-- ---- a mask that has only what passes
not_or : (a b : Bool) → (not a || b) ≡ true → a ≡ true → b ≡ true
not_or true b e p = e
not_or false b e p = clash {b = false} p refl

or_not : (a b : Bool) → (a ≡ true → b ≡ true) → (not a || b) ≡ true
or_not true b f = f refl
or_not false b f = refl

pub only_e : (n m : ℕ) (f : ℕ → Bool) → only n m f ≡ true → (i : ℕ) → i < n → bit m i ≡ true → f i ≡ true
unfolding only
only_e n m f e i h = not_or (bit m i) (f i) (every_true n (λ j. not (bit m j) || f j) e i h)

pub only_i : (n m : ℕ) (f : ℕ → Bool) → ((i : ℕ) → i < n → bit m i ≡ true → f i ≡ true) → only n m f ≡ true
unfolding only
only_i n m f h = every_intro n (λ j. not (bit m j) || f j) (λ i l. or_not (bit m i) (f i) (h i l))

pub only_cong : (n m : ℕ) (f g : ℕ → Bool) → ((i : ℕ) → i < n → f i ≡ g i) → only n m f ≡ only n m g
unfolding only
only_cong n m f g h =
    every_cong n (λ j. not (bit m j) || f j) (λ j. not (bit m j) || g j)
    (λ i l. ap (λ (b : Bool). not (bit m i) || b) (h i l))

pub only_none : (n : ℕ) (f : ℕ → Bool) → only n 0 f ≡ true
only_none n f = only_i n 0 f (λ i l e. clash e (bit_zero i))
