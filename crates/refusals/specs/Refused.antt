-- What the refusals of steps have in common, test after test in the code's order. Assumes nothing.
use Rattle.std.specs.Prelude.{◌≡◌, refl, Bool, true, false, not, ◌&&◌, ◌||◌, ℕ, ◌/◌, ◌^◌, ◌≤◌, ltb, eqb}
use Rattle.std.proofs.Common.{le-div_iff_mul-le, one-mul, arith, pow_pos, eq-eqb, ne_eqb, ltb-true, ltb-false}
use Rattle.std.proofs.Math.Nat.{div-eq_of_lt}
use Rattle.definitions.specs.General.{bit, needs}
use Rattle.definitions.specs.World.{State, has_group, is_process, is_message}
use Rattle.definitions.specs.Steps.{is_up}

-- ---- the mask of a multicast
-- group g exists, if the mask names it
abbrev pub named_well : State → ℕ → ℕ → Bool
named_well s groups g = not (bit groups g) || has_group s g

-- ---- the mask of a trust step
pub below_power : (x n : ℕ) → eqb (x / 2 ^ n) 0 ≡ ltb x (2 ^ n)
below_power x n = go (ltb x (2 ^ n)) refl
  where
    go : (b : Bool) → ltb x (2 ^ n) ≡ b → eqb (x / 2 ^ n) 0 ≡ b
    go true e = eq-eqb (x / 2 ^ n) 0 (div-eq_of_lt (ltb-true x (2 ^ n) e))
    go false e =
        let l : 1 ≤ x / 2 ^ n = (le-div_iff_mul-le
        (pow_pos n)).1 (rw (one-mul (2 ^ n)) (ltb-false x (2 ^ n) e)) in
        ne_eqb (x / 2 ^ n) 0 (λ z. omega arith)

-- ---- the process of a step and its mask, of which the number is n
abbrev pub process_refusal : State → ℕ → Bool → ℕ → ℕ
process_refusal s p good n = needs 5 (is_process s p) (needs n good (needs 9 (is_up s p) 0))

-- ---- the operands of a letter
abbrev pub operands_refusal : State → ℕ → ℕ → ℕ → ℕ → ℕ
operands_refusal s k m q p =
    needs 4 (ltb k 3) (needs 5 (is_process s q && is_process s p) (needs 7 (is_message s m) 0))
