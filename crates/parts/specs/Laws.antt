-- Laws of filled lists and of lists that are all zero. Assumes nothing.
use Rattle.std.specs.Prelude.{◌≡◌, refl, Bool, true, false, ◌&&◌, ℕ, zero, suc, ◌+◌, ◌-◌, ◌≤◌, ◌<◌, eqb, get_or, replicate}
use Rattle.std.proofs.Common.{sym, ap₂, ◌∙◌, add-one, arith, length-append, take-suc, eq-eqb, ne_eqb, eqb-true}
use Rattle.std.proofs.Math.Path.{ap}
use mathlib.Core.List.{List, [], ◌∷◌, ◌++◌, append-nil}
use Rattle.std.proofs.Math.Decide.{ℕ_discrete}
use Rattle.std.specs.Int.Bits.{bit_or, bit_and, or_add_and}
use Rattle.std.proofs.lemmas.Nat.{and_le_l, and_le_r}
use Rattle.std.proofs.Math.ListN.{length, take, drop, length-drop, drop_of_length-le}
use Rattle.std.proofs.lemmas.List.{length-replicate}
use Rattle.std.proofs.Math.Seq.{take-length, take_at, length-take-le}
use Rattle.definitions.specs.General.{filled, all_zero}
use Rattle.base.specs.Tests.{both_l, both_r, and_true}

pub length_filled : (n : ℕ) (s : List ℕ) → length s ≤ n → length (filled n s) ≡ n
unfolding filled
length_filled n s h = simp (length-append, length-replicate) (omega arith)

-- ---- all zero
-- a bitwise or is zero exactly where both are
pub or_zero : (x y : ℕ) → eqb (bit_or x y) 0 ≡ (eqb x 0 && eqb y 0)
or_zero x y = go (ℕ_discrete x 0) (ℕ_discrete y 0)
  where
    sum : bit_or x y + bit_and x y ≡ x + y
    sum = or_add_and x y

    go : Dec (x ≡ 0) → Dec (y ≡ 0) → eqb (bit_or x y) 0 ≡ (eqb x 0 && eqb y 0)
    go (yes p) (yes q) = rw (eq-eqb x 0 p, eq-eqb y 0 q) (eq-eqb (bit_or x y) 0 (omega (arith, sum)))
    go (no p) d = rw (ne_eqb x 0 p) (ne_eqb (bit_or x y) 0 (λ e. omega (arith, sum, and_le_r x y)))
    go (yes p) (no q) =
        rw (eq-eqb x 0 p, ne_eqb y 0 q) (ne_eqb (bit_or x y) 0 (λ e. omega (arith, sum, and_le_l x y)))

-- one byte more
all_zero_snoc : (s : List ℕ) (b : ℕ) → all_zero (s ++ (b ∷ [])) ≡ (all_zero s && eqb b 0)
unfolding all_zero
all_zero_snoc [] b = and_true (eqb b 0)
all_zero_snoc (a ∷ s) b = ap (λ (x : Bool). eqb a 0 && x) (all_zero_snoc s b) ∙ go (eqb a 0)
  where
    go : (x : Bool) → (x && (all_zero s && eqb b 0)) ≡ ((x && all_zero s) && eqb b 0)
    go true = refl
    go false = refl

pub all_zero_more : (s : List ℕ) (i : ℕ) → i < length s
    → all_zero (take (i + 1) s) ≡ (all_zero (take i s) && eqb (get_or s i 0) 0)
all_zero_more s i h = rw (add-one i, take-suc s i 0 h) (all_zero_snoc (take i s) (get_or s i 0))

-- any has gathered the first i bytes; now it has gathered the next one too
pub gathered : (s : List ℕ) (i any : ℕ) → i < length s → eqb any 0 ≡ all_zero (take i s)
    → eqb (bit_or any (get_or s i 0)) 0 ≡ all_zero (take (i + 1) s)
gathered s i any h e = rw (or_zero any (get_or s i 0), e) (sym (all_zero_more s i h))

-- a list that is all zero, and the other way round
pub zeros_are : (s : List ℕ) → all_zero s ≡ true → s ≡ replicate (length s) 0
unfolding all_zero
zeros_are [] e = refl
zeros_are (b ∷ s) e =
    ap₂ ◌∷◌ (eqb-true b 0 (both_l (eqb b 0) (all_zero s) e)) (zeros_are s (both_r (eqb b 0) (all_zero s) e))

pub replicate_zero : (n : ℕ) → all_zero (replicate n 0) ≡ true
unfolding all_zero
replicate_zero zero = refl
replicate_zero (suc n) = replicate_zero n

-- s copied to the front of a part, and the rest of the part cleared: the part is filled
module _ (part s front ys : List ℕ) (n : ℕ) (fits : length s ≤ length part) (en : n ≡ length s)
    (ef : front ≡ take (length s) s ++ drop (length s) part)
    (ey : ys ≡ replicate (length (take (length front - n) (drop n front))) 0) where
  whole : front ≡ s ++ drop (length s) part
  whole = ef ∙ ap (λ (x : List ℕ). x ++ drop (length s) part) (take-length s)

  long : length front ≡ length part
  long = ap length whole ∙ simp (length-append, length-drop) (omega arith)

  pub filled_by : take n front ++ (ys ++ drop (length front - n) (drop n front)) ≡ filled (length part) s
  unfolding filled
  filled_by =
      let head : take n front ≡ s = ap (take n) whole ∙ take_at s (drop (length s) part) n (sym en) in
      let tail : drop (length front - n) (drop n front) ≡ [] =
      drop_of_length-le (drop n front) {i = length front - n} (simp length-drop (omega arith)) in
      let rest : length (take (length front - n) (drop n front)) ≡ length part - length s
      = length-take-le (length front - n) (drop n front) (simp length-drop (omega arith))
      ∙ omega (arith, long) in
      rw (head, tail, ey, rest) (ap (λ (x : List ℕ). s ++ x) (append-nil _))
