-- Numbers as sets by their bits: sets with the same members, a set within another, its lowest member. Assumes nothing.
use Rattle.std.specs.Prelude.{◌≡◌, refl, Bool, true, false, ◌&&◌, ◌⊎◌, ◌≢◌, ℕ, zero, suc, ◌+◌, ◌-◌, ◌*◌, ◌/◌, ◌%◌, ◌^◌, ◌≤◌, ◌<◌, min, ltb, eqb}
use Rattle.std.proofs.Common.{sym, ap, ◌∙◌, inl, inr, arith, div-one, div-le_self, mod-lt, not-suc-le-zero, le_of_suc-le-suc, add-one, lit<, shr-shr, pow_pos, eq-eqb, eqb-true, ltb-true, ltb-false, le-ltb}
use Rattle.std.proofs.Math.Nat.{pow-succ', div-div-eq-div-mul}
use Rattle.std.specs.Int.Count.{count_trailing_zeros, under}
use Rattle.std.specs.Int.Bits.{bit_and, and_step, and_self}
use Rattle.std.proofs.lemmas.Nat.{and_le_l}
use Rattle.std.proofs.lemmas.Bool.{eqb-false}
use Rattle.definitions.specs.General.{pick, first_from, bit, with, without, mask_of, only}
use Rattle.base.specs.Tests.{clash, bool_cases, same, le_or_lt}
use Rattle.base.specs.Search.{first_law}
use Rattle.base.specs.Bits.{bit_zero, bit_high, bit_of_and, only_i, only_e}

half : (a q : ℕ) → a / 2 ^ suc q ≡ a / 2 / 2 ^ q
half a q = ap (λ (x : ℕ). a / x) (pow-succ' 2 q) ∙ sym (div-div-eq-div-mul a 2 (2 ^ q))

-- ---- equal by bits
odd_same : (a b : ℕ) → eqb (a % 2) 1 ≡ eqb (b % 2) 1 → a % 2 ≡ b % 2
odd_same a b e = go (bool_cases (eqb (a % 2) 1))
  where
    go : (eqb (a % 2) 1 ≡ true) ⊎ (eqb (a % 2) 1 ≡ false) → a % 2 ≡ b % 2
    go (inl p) =
        let x = eqb-true (a % 2) 1 p in
        let y = eqb-true (b % 2) 1 (sym e ∙ p) in
        omega arith
    go (inr p) =
        let x : a % 2 ≢ 1 = eqb-false (a % 2) 1 p in
        let y : b % 2 ≢ 1 = eqb-false (b % 2) 1 (sym e ∙ p) in
        omega arith

bit_low : (a : ℕ) → bit a 0 ≡ eqb (a % 2) 1
unfolding bit
bit_low a = ap (λ (x : ℕ). eqb (x % 2) 1) (div-one a)

pub bit_up : (a i : ℕ) → bit a (suc i) ≡ bit (a / 2) i
unfolding bit
bit_up a i = ap (λ (x : ℕ). eqb (x % 2) 1) (half a i)

pub bit_ext : (n a b : ℕ) → a < 2 ^ n → b < 2 ^ n → ((i : ℕ) → i < n → bit a i ≡ bit b i) → a ≡ b
bit_ext zero a b ha hb h = omega arith
bit_ext (suc n) a b ha hb h =
    let k : 2 ^ suc n ≡ 2 * 2 ^ n = pow-succ' 2 n in
    let e = bit_ext n (a / 2) (b / 2) (omega arith) (omega arith)
    (λ i l. sym (bit_up a i) ∙ h (suc i) (omega arith) ∙ bit_up b i) in
    let o = odd_same a b (sym (bit_low a) ∙ h 0 (omega arith) ∙ bit_low b) in
    omega arith

-- ---- a set within another
pub subset_e : (a b : ℕ) → bit_and a b ≡ a → (x : ℕ) → bit a x ≡ true → bit b x ≡ true
subset_e a b e x p = go (bit a x) (bit b x) (ap (λ (y : ℕ). bit y x) (sym e) ∙ bit_of_and a b x) p
  where
    go : (u v : Bool) → u ≡ (u && v) → u ≡ true → v ≡ true
    go true v q r = sym q
    go false v q r = clash {b = false} r refl

pub subset_i : (n a b : ℕ) → a < 2 ^ n → ((x : ℕ) → x < n → bit a x ≡ true → bit b x ≡ true) → bit_and a b ≡ a
subset_i n a b l h =
    bit_ext n (bit_and a b) a (let z = and_le_l a b in omega arith) l
    (λ x k. bit_of_and a b x ∙ go (bit a x) (bit b x) (h x k))
  where
    go : (u v : Bool) → (u ≡ true → v ≡ true) → (u && v) ≡ u
    go true v f = f refl
    go false v f = refl

-- as a test: of the bits below n, a has only those that pass, where b has exactly those that pass
pub subset_only : (n a b : ℕ) (f : ℕ → Bool) → a < 2 ^ n → ((i : ℕ) → i < n → bit b i ≡ f i)
    → eqb (bit_and a b) a ≡ only n a f
subset_only n a b f l h =
    same (eqb (bit_and a b) a) (only n a f)
    (λ e. only_i n a f (λ i k p. sym (h i k) ∙ subset_e a b (eqb-true (bit_and a b) a e) i p))
    (λ e. eq-eqb (bit_and a b) a (subset_i n a b l (λ i k p. h i k ∙ only_e n a f e i k p)))

-- a number that no bit from k on has: as a test by a shift
pub shift_only : (n k a : ℕ) → a < 2 ^ n → k ≤ n → eqb (a / 2 ^ k) 0 ≡ only n a (λ i. ltb i k)
unfolding bit
shift_only n k a l h =
    same (eqb (a / 2 ^ k) 0) (only n a (λ i. ltb i k))
    (λ e. only_i n a (λ i. ltb i k) (λ i _ p. low i p (eqb-true (a / 2 ^ k) 0 e)))
    (λ e. eq-eqb (a / 2 ^ k) 0
    (bit_ext n (a / 2 ^ k) 0 (let z = div-le_self a (2 ^ k) in omega arith) (pow_pos n)
    (λ i _. none e i ∙ sym (bit_zero i))))
  where
    above : (i : ℕ) → bit (a / 2 ^ k) i ≡ bit a (k + i)
    above i = ap (λ (x : ℕ). eqb (x % 2) 1) (shr-shr a k i)

    low : (i : ℕ) → bit a i ≡ true → a / 2 ^ k ≡ 0 → ltb i k ≡ true
    low i p z = go (ltb i k) refl
      where
        go : (b : Bool) → ltb i k ≡ b → ltb i k ≡ true
        go true e = e
        go false e =
            let q : k + (i - k) ≡ i = let y = ltb-false i k e in omega arith in
            clash (above (i - k) ∙ ap (bit a) q ∙ p) (ap (λ (x : ℕ). bit x (i - k)) z ∙ bit_zero (i - k))

    none : only n a (λ i. ltb i k) ≡ true → (i : ℕ) → bit (a / 2 ^ k) i ≡ false
    none e i = go (bit (a / 2 ^ k) i) refl
      where
        go : (b : Bool) → bit (a / 2 ^ k) i ≡ b → bit (a / 2 ^ k) i ≡ false
        go false p = p
        go true p = at (ltb (k + i) n) refl
          where
            at : (b : Bool) → ltb (k + i) n ≡ b → bit (a / 2 ^ k) i ≡ false
            at true q =
                clash (only_e n a (λ j. ltb j k) e (k + i) (ltb-true (k + i) n q) (sym (above i) ∙ p))
                (le-ltb (k + i) k (omega arith))
            at false q = above i ∙ bit_high a n (k + i) l (ltb-false (k + i) n q)

-- ---- the mask of a test, and a mask without a member
pub mask_of_low : (n : ℕ) (f : ℕ → Bool) → mask_of n f < 2 ^ n
unfolding mask_of with
mask_of_low zero f = pow_pos 0
mask_of_low (suc n) f = go (f n) (bit (mask_of n f) n) (mask_of_low n f) (pow-succ' 2 n)
  where
    go : (a b : Bool) → mask_of n f < 2 ^ n → 2 ^ suc n ≡ 2 * 2 ^ n
        → pick a (pick b (mask_of n f) (mask_of n f + 2 ^ n)) (mask_of n f) < 2 ^ suc n
    go true true l e = omega arith
    go true false l e = omega arith
    go false b l e = omega arith

pub without_less : (x q : ℕ) → bit x q ≡ true → x ≢ 0 → without x q < x
unfolding without
without_less x q b n = let z = pow_pos q in rw b (omega (arith, z))

-- ---- the trailing zeros of k bits are the lowest member, or k
digit_under : (d p t l : ℕ) → d < 2 → suc p + t ≡ l
    → p + under d t ≡ elim (eqb d 1) as (λ _. ℕ) [ true ↦ p | false ↦ l ]
digit_under zero p t l h e = omega arith
digit_under (suc zero) p t l h e = omega arith
digit_under (suc (suc d)) p t l h e = absurd (not-suc-le-zero (le_of_suc-le-suc (le_of_suc-le-suc h)))

from_trailing : (k p m : ℕ) → p + count_trailing_zeros k (m / 2 ^ p) ≡ first_from k p (bit m)
unfolding count_trailing_zeros first_from bit
from_trailing zero p m = omega arith
from_trailing (suc k) p m =
    digit_under (m / 2 ^ p % 2) p (count_trailing_zeros k (m / 2 ^ p / 2)) (first_from k (suc p) (bit m))
    (mod-lt (m / 2 ^ p) (lit< tt))
    (ap (λ (x : ℕ). suc p + count_trailing_zeros k x) (shr-shr m p 1 ∙ ap (λ (x : ℕ). m / 2 ^ x) (add-one p))
    ∙ from_trailing k (suc p) m)

pub trailing_lowest : (k m : ℕ) → count_trailing_zeros k m ≡ first_from k 0 (bit m)
trailing_lowest k m =
    let e : 0 + count_trailing_zeros k (m / 1) ≡ first_from k 0 (bit m) = from_trailing k 0 m in
    let f : count_trailing_zeros k (m / 1) ≡ count_trailing_zeros k m = ap (count_trailing_zeros k) (div-one m) in
    omega arith

-- ---- a set that has members has a lowest
pub lowest_low : (k m : ℕ) → m < 2 ^ k → m ≢ 0 → first_from k 0 (bit m) < k
lowest_low k m h n = go (le_or_lt k (first_from k 0 (bit m)))
  where
    go : (k ≤ first_from k 0 (bit m)) ⊎ (first_from k 0 (bit m) < k) → first_from k 0 (bit m) < k
    go (inl e) = absurd (n (bit_ext k m 0 h (pow_pos k)
        (λ i l. (first_law k 0 (bit m)).miss i (omega arith) (omega arith) ∙ sym (bit_zero i))))
    go (inr l) = l

-- ---- m & (m - 1) is m without its lowest member
rest_trailing : (k m : ℕ) → 0 < m → m < 2 ^ k → bit_and m (m - 1) + 2 ^ count_trailing_zeros k m ≡ m
unfolding count_trailing_zeros
rest_trailing zero m a h = absurd (omega arith)
rest_trailing (suc k) m a h = go (m % 2) refl (rest_trailing k (m / 2))
  where
    step : bit_and m (m - 1) ≡ bit_and (m / 2) ((m - 1) / 2) * 2 + min (m % 2) ((m - 1) % 2)
    step = and_step m (m - 1)

    go : (d : ℕ) → m % 2 ≡ d
        → (0 < m / 2 → m / 2 < 2 ^ k → bit_and (m / 2) (m / 2 - 1) + 2 ^ count_trailing_zeros k (m / 2) ≡ m / 2)
        → bit_and m (m - 1) + 2 ^ under d (count_trailing_zeros k (m / 2)) ≡ m
    go zero e ih =
        let t = count_trailing_zeros k (m / 2) in
        let p : 2 ^ suc k ≡ 2 * 2 ^ k = pow-succ' 2 k in
        let q : 2 ^ suc t ≡ 2 * 2 ^ t = pow-succ' 2 t in
        let f : bit_and (m / 2) ((m - 1) / 2) ≡ bit_and (m / 2) (m / 2 - 1) = ap (bit_and (m / 2)) (omega arith) in
        let z : min (m % 2) ((m - 1) % 2) ≡ 0 = omega arith in
        omega (arith, step, ih (omega arith) (omega arith))
    go (suc zero) e ih =
        let f : bit_and (m / 2) ((m - 1) / 2) ≡ m / 2 =
        ap (bit_and (m / 2)) (let y : (m - 1) / 2 ≡ m / 2 = omega arith in y) ∙ and_self (m / 2) in
        let z : min (m % 2) ((m - 1) % 2) ≡ 0 = omega arith in
        omega (arith, step)
    go (suc (suc d)) e ih = let z : m % 2 < 2 = mod-lt m (lit< tt) in absurd (omega arith)

pub rest_lowest : (k m : ℕ) → m < 2 ^ k → m ≢ 0 → bit_and m (m - 1) ≡ without m (first_from k 0 (bit m))
unfolding without
rest_lowest k m h n =
    let e = rest_trailing k m (omega arith) h in
    let f : 2 ^ count_trailing_zeros k m ≡ 2 ^ first_from k 0 (bit m) = ap (λ (x : ℕ). 2 ^ x) (trailing_lowest k m) in
    let z : bit_and m (m - 1) ≡ m - 2 ^ first_from k 0 (bit m) = omega arith in
    z ∙ sym (ap (λ (b : Bool). pick b (m - 2 ^ first_from k 0 (bit m)) m)
    ((first_law k 0 (bit m)).hit (omega (arith, lowest_low k m h n))))
