-- Sums of f 0, .., f (n - 1): of equal numbers, of numbers that are at most others, and where one alone counts. Assumes
-- nothing.
use Rattle.std.specs.Prelude.{◌≡◌, refl, ◌≢◌, ℕ, zero, suc, ◌+◌, ◌≤◌, ◌<◌}
use Rattle.std.proofs.Common.{sym, ap, ap₂, ◌∙◌, arith, not-suc-le-zero}
use Rattle.std.proofs.Math.Decide.{ℕ_discrete}
use Rattle.definitions.specs.General.{sum}

pub sum_cong : (n : ℕ) (f g : ℕ → ℕ) → ((i : ℕ) → i < n → f i ≡ g i) → sum n f ≡ sum n g
unfolding sum
sum_cong zero f g h = refl
sum_cong (suc n) f g h = ap₂ (λ (x y : ℕ). x + y) (sum_cong n f g (λ i l. h i (omega arith))) (h n (omega arith))

-- of numbers that are at most others
pub sum_mono : (n : ℕ) (f g : ℕ → ℕ) → ((i : ℕ) → i < n → f i ≤ g i) → sum n f ≤ sum n g
unfolding sum
sum_mono zero f g h = omega arith
sum_mono (suc n) f g h = omega (arith, sum_mono n f g (λ i l. h i (omega arith)), h n (omega arith))

-- and one is below
pub sum_falls : (n : ℕ) (f g : ℕ → ℕ) → ((i : ℕ) → i < n → f i ≤ g i) → (j : ℕ) → j < n → f j < g j
    → sum n f < sum n g
unfolding sum
sum_falls zero f g h j l e = absurd (not-suc-le-zero l)
sum_falls (suc n) f g h j l e = elim (ℕ_discrete j n) [
  | yes q ↦
      let e' : f n < g n = rw q at e in
      omega (arith, sum_mono n f g (λ i a. h i (omega arith)))
  | no q ↦ omega (arith, sum_falls n f g (λ i a. h i (omega arith)) j (omega arith) e, h n (omega arith))
]

-- of zeros, and where only that at j is none
pub sum_none : (n : ℕ) (f : ℕ → ℕ) → ((i : ℕ) → i < n → f i ≡ 0) → sum n f ≡ 0
unfolding sum
sum_none zero f h = refl
sum_none (suc n) f h = omega (arith, sum_none n f (λ i l. h i (omega arith)), h n (omega arith))

pub sum_one : (n j : ℕ) (f : ℕ → ℕ) → j < n → ((i : ℕ) → j ≢ i → f i ≡ 0) → sum n f ≡ f j
unfolding sum
sum_one zero j f l h = absurd (not-suc-le-zero l)
sum_one (suc n) j f l h = elim (ℕ_discrete j n) [
  | yes e ↦
      let z : sum n f + f n ≡ f n = omega (arith, sum_none n f (λ i k. h i (omega arith))) in
      z ∙ ap f (sym e)
  | no e ↦ omega (arith, sum_one n j f (omega arith) h, h n e)
]
