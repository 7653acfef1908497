-- Held flags and marks: "letters, held flags and marks concern only the origins and addressees named above".
-- Assumes nothing.
use Rattle.std.specs.Prelude.{◌≡◌, refl, Bool, true, false, ◌&&◌, List, ℕ, zero, suc, ◌+◌, ◌-◌, ◌*◌, ◌^◌, ◌≤◌, ◌<◌, leb, eqb, length, get_or}
use Rattle.std.proofs.Common.{sym, ap, ap₂, ◌∙◌, arith, eq-eqb, eqb-true}
use Rattle.std.specs.Int.Bits.{bit_and, bit_or, and_zero_r}
use Rattle.std.proofs.lemmas.Nat.{and_le_l}
use Rattle.definitions.specs.General.{pick, every, bit, only}
use Rattle.definitions.specs.World.{State, size, held, marks, view, is_message}
use Rattle.definitions.specs.Sound.{addressee, word, fit, fine}
use Rattle.base.specs.Tests.{both, both_l, same}
use Rattle.base.specs.Search.{every_cong}
use Rattle.base.specs.Sets.{subset_only}
use Rattle.limits.specs.Addressees.{Addressees, addressees_of, addressee_bit}
use Rattle.ranges.specs.Laws.{every_both, or_zero, excess_none}
use Rattle.regions.specs.Runs.{fine_run, run_of}

-- The block of process p is among the words, and p exists.
pub record Block (w : List ℕ) (p : ℕ) : Type 0 where
  pub long : length w ≡ 20480
  pub low : p < 16
  pub here : p < view w size

-- Process p may have this held flag and these marks for a message with the addressees to.
unfoldable pub row_ok : ℕ → ℕ → ℕ → ℕ → Bool
row_ok flag from to p = pick (bit to p) (leb flag 1 && eqb (bit_and from to) from) (eqb flag 0 && eqb from 0)

-- The held flags and the marks of p are fine.
abbrev pub rows_fine : State → ℕ → Bool
rows_fine s p = fine_run s (3 + p * 429 + 173) 64 && fine_run s (3 + p * 429 + 237) 64

-- ---- at most a mask, where it counts or not
pub counts_le : (mask counts : ℕ) → counts ≤ 1 → mask * counts ≤ mask
counts_le mask zero h = omega arith
counts_le mask (suc zero) h = omega arith
counts_le mask (suc (suc c)) h = absurd (omega arith)

-- ---- what a mask lacks: nothing, where it counts and has all of x, or where x is nothing
pub lacking_none : (x mask : ℕ) (b : Bool)
    → eqb (x - bit_and x (mask * pick b 1 0)) 0 ≡ pick b (eqb (bit_and x mask) x) (eqb x 0)
lacking_none x mask true =
    ap (λ (y : ℕ). eqb (x - bit_and x y) 0) (let e : mask * 1 ≡ mask = omega arith in e)
    ∙ same (eqb (x - bit_and x mask) 0) (eqb (bit_and x mask) x)
    (λ e. eq-eqb (bit_and x mask) x
    (let z = eqb-true (x - bit_and x mask) 0 e in let l = and_le_l x mask in omega arith))
    (λ e. eq-eqb (x - bit_and x mask) 0 (let z = eqb-true (bit_and x mask) x e in omega arith))
lacking_none x mask false =
    ap (λ (y : ℕ). eqb (x - bit_and x y) 0) (let e : mask * 0 ≡ 0 = omega arith in e)
    ∙ ap (λ (y : ℕ). eqb (x - y) 0) (and_zero_r x) ∙ ap (λ (y : ℕ). eqb y 0) (let e : x - 0 ≡ x = omega arith in e)

pub row_none : (flag from to p : ℕ)
    → eqb (bit_or (from - bit_and from (to * pick (bit to p) 1 0)) (flag - pick (bit to p) 1 0)) 0 ≡ row_ok flag from to p
unfolding row_ok
row_none flag from to p =
    or_zero (from - bit_and from (to * pick (bit to p) 1 0)) (flag - pick (bit to p) 1 0)
    ∙ ap₂ both (excess_none flag (pick (bit to p) 1 0)) (lacking_none from to (bit to p)) ∙ go (bit to p)
  where
    go : (b : Bool) → both (leb flag (pick b 1 0)) (pick b (eqb (bit_and from to) from) (eqb from 0))
        ≡ pick b (leb flag 1 && eqb (bit_and from to) from) (eqb flag 0 && eqb from 0)
    go true = refl
    go false =
        ap (λ (c : Bool). both c (eqb from 0))
        (sym (excess_none flag 0) ∙ ap (λ (y : ℕ). eqb y 0) (let e : flag - 0 ≡ flag = omega arith in e))

-- the addressees of a message, as the test of a mask
pub addressees_only : (s : State) (m x : ℕ) → x < 2 ^ 16 → is_message s m ≡ true
    → eqb (bit_and x (addressees_of s m)) x ≡ only 16 x (addressee s m)
addressees_only s m x l e =
    subset_only 16 x (addressees_of s m) (addressee s m) l
    (λ p _. addressee_bit s m p ∙ ap (λ (b : Bool). b && addressee s m p) e)

row_law : (s : State) (p m : ℕ) → s (marks p m) < 2 ^ 16
    → row_ok (s (held p m)) (s (marks p m)) (addressees_of s m) p ≡ (fine s (held p m) && fine s (marks p m))
unfolding row_ok fine fit
row_law s p m l =
    ap (λ (b : Bool). pick b (leb x 1 && eqb (bit_and y to) y) (eqb x 0 && eqb y 0)) (addressee_bit s m p)
    ∙ go (is_message s m && addressee s m p) refl
  where
    x : ℕ
    x = s (held p m)

    y : ℕ
    y = s (marks p m)

    to : ℕ
    to = addressees_of s m

    go : (b : Bool) → (is_message s m && addressee s m p) ≡ b
        → pick b (leb x 1 && eqb (bit_and y to) y) (eqb x 0 && eqb y 0)
        ≡ (word b x (leb x 1) && word b y (only 16 y (addressee s m)))
    go true e =
        ap (both (leb x 1)) (addressees_only s m y l (both_l (is_message s m) (addressee s m p) e))
    go false e = refl

-- the whole region
pub rows_law : (w t : List ℕ) (p : ℕ) → Block w p → Addressees (view w) t
    → ((i : ℕ) → get_or w i 0 < 2 ^ 16)
    → every 64 (λ m. row_ok (get_or w (3 + p * 429 + 173 + m) 0) (get_or w (3 + p * 429 + 237 + m) 0) (get_or t m 0)
    p)
    ≡ (fine_run (view w) (3 + p * 429 + 173) 64 && fine_run (view w) (3 + p * 429 + 237) 64)
rows_law w t p b a small =
    every_cong 64 (λ m. row_ok (view w (held p m)) (view w (marks p m)) (get_or t m 0) p)
    (λ m. fine (view w) (held p m) && fine (view w) (marks p m))
    (λ m l. ap (λ (x : ℕ). row_ok (view w (held p m)) (view w (marks p m)) x p) (a.at m l)
    ∙ row_law (view w) p m (small (3 + p * 429 + 237 + m)))
    ∙ every_both 64 (λ m. fine (view w) (held p m)) (λ m. fine (view w) (marks p m))
    ∙ ap₂ both
    (run_of (view w) (3 + p * 429 + 173) 64 (held p) (λ m. fine (view w) (held p m)) (λ i l. (b.low, l))
    (λ i l. refl) (λ i l. refl))
    (run_of (view w) (3 + p * 429 + 237) 64 (marks p) (λ m. fine (view w) (marks p m)) (λ i l. (b.low, l))
    (λ i l. refl) (λ i l. refl))
