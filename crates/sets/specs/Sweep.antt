-- A loop that takes the members of a set one after the other, lowest first: what is left has just the members from its
-- lowest on, and what was to be shown of a member is shown of those below. Assumes nothing.
use Rattle.std.specs.Prelude.{◌≡◌, Bool, true, false, ◌≢◌, ◌⊎◌, ℕ, ◌^◌, ◌≤◌, ◌<◌}
use Rattle.std.proofs.Common.{sym, ap, ◌∙◌, subst, inl, inr, arith}
use Rattle.std.proofs.Math.Decide.{ℕ_discrete}
use Rattle.base.specs.Tests.{clash, le_or_lt}
use Rattle.base.specs.Search.{first_law}
use Rattle.definitions.specs.General.{bit, without}
use Rattle.base.specs.Sets.{without_less}
use Rattle.base.specs.Bits.{bit_zero, without_hit, without_other}
use Rattle.sets.specs.Lowest.{Has, lowest, lowest_low, lowest_in}

pub record Sweep (f : ℕ → Bool) (P : ℕ → Type 0) (left : ℕ) : Type 0 where
  pub rest : (i : ℕ) → i < 64 → lowest left ≤ i → bit left i ≡ f i
  pub done : (i : ℕ) → i < lowest left → f i ≡ true → P i

lowest_high : (left : ℕ) → lowest left ≤ 64
lowest_high left = (first_law 64 0 (bit left)).high

below_lowest : (left i : ℕ) → i < lowest left → bit left i ≡ false
below_lowest left i l = (first_law 64 0 (bit left)).miss i (omega arith) l

-- nothing is left
pub sweep_none : (left : ℕ) → left ≡ 0 → lowest left ≡ 64
sweep_none left e = go (le_or_lt 64 (lowest left))
  where
    go : (64 ≤ lowest left) ⊎ (lowest left < 64) → lowest left ≡ 64
    go (inl l) = let k = lowest_high left in omega arith
    go (inr l) = clash (lowest_in left l) (ap (λ (y : ℕ). bit y (lowest left)) e ∙ bit_zero (lowest left))

module _ {f : ℕ → Bool} {P : ℕ → Type 0} where
  pub sweep_start : (set : ℕ) → Has set f → Sweep f P set
  sweep_start set h = record {
    rest = λ i l _. h i l;
    done = λ i l e. clash (h i (omega (arith, lowest_high set)) ∙ e) (below_lowest set i l);
  }

  module _ {left : ℕ} (z : Sweep f P left) (low : left < 2 ^ 64) (some : left ≢ 0) where
    -- the lowest is a member
    pub sweep_low : lowest left < 64
    sweep_low = lowest_low left low some

    pub sweep_hit : f (lowest left) ≡ true
    sweep_hit = sym (z.rest (lowest left) sweep_low (omega arith)) ∙ lowest_in left sweep_low

    module _ {next : ℕ} (en : next ≡ without left (lowest left)) where
      other : (i : ℕ) → lowest left ≢ i → bit next i ≡ bit left i
      other i d = ap (λ (y : ℕ). bit y i) en ∙ without_other left (lowest left) i d

      -- the next is higher
      pub sweep_higher : lowest left < lowest next
      sweep_higher = go (le_or_lt (lowest next) (lowest left))
        where
          at : lowest next ≤ lowest left → Dec (lowest left ≡ lowest next) → bit next (lowest next) ≡ false
          at l (yes e) =
              subst (λ (i : ℕ). bit next i ≡ false) e
              (ap (λ (y : ℕ). bit y (lowest left)) en ∙ without_hit left (lowest left))
          at l (no d) = other (lowest next) d ∙ below_lowest left (lowest next) (omega arith)

          go : (lowest next ≤ lowest left) ⊎ (lowest left < lowest next) → lowest left < lowest next
          go (inr l) = l
          go (inl l) =
              clash (lowest_in next (let k = sweep_low in omega arith)) (at l (ℕ_discrete (lowest left) (lowest next)))

      -- none is between them
      pub sweep_gap : (i : ℕ) → lowest left < i → i < lowest next → f i ≡ false
      sweep_gap i a b =
          let k = lowest_high next in
          sym (z.rest i (omega arith) (omega arith)) ∙ sym (other i (λ e. omega arith)) ∙ below_lowest next i b

      pub sweep_more : P (lowest left) → Sweep f P next
      sweep_more p = record {
        rest = λ i l k. let a = sweep_higher in other i (λ e. omega arith) ∙ z.rest i l (omega arith);
        done = λ i l e. which i l e (ℕ_discrete (lowest left) i) (le_or_lt (lowest left) i);
      }
        where
          which : (i : ℕ) → i < lowest next → f i ≡ true → Dec (lowest left ≡ i) → (lowest left ≤ i) ⊎ (i < lowest left)
              → P i
          which i l e (yes d) k = subst P d p
          which i l e (no d) (inl k) = clash e (sweep_gap i (omega arith) l)
          which i l e (no d) (inr k) = z.done i k e

  -- nothing is left
  pub sweep_end : {left : ℕ} → Sweep f P left → left ≡ 0 → (i : ℕ) → i < 64 → f i ≡ true → P i
  sweep_end {left} z e i l = z.done i (omega (arith, sweep_none left e))

pub sweep_less : {left next : ℕ} → left < 2 ^ 64 → left ≢ 0 → next ≡ without left (lowest left) → next < left
sweep_less {left} {next} low some en =
    omega (arith, en, without_less left (lowest left) (lowest_in left (lowest_low left low some)) some)
