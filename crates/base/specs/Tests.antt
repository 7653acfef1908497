-- Tests as values of Bool: what a test that passed or failed tells, the choice between two values, and
-- strong induction. Assumes nothing.
use Rattle.std.specs.Prelude.{◌≡◌, refl, Bool, true, false, not, ◌&&◌, ◌||◌, ◌⊎◌, ℕ, zero, suc, ◌≤◌, ◌<◌, leb, eqb}
use Rattle.std.proofs.Common.{sym, ◌∙◌, subst, true≢false, inl, inr, arith, not-suc-le-zero, leb-true, leb-false, ne_eqb, eq-eqb}
use Rattle.std.proofs.Math.Decide.{ℕ_discrete}
use Rattle.definitions.specs.General.{pick}

-- ---- a test passes or fails, and not both
pub bool_cases : (b : Bool) → (b ≡ true) ⊎ (b ≡ false)
bool_cases true = inl refl
bool_cases false = inr refl

pub clash : {A : Type 0} {b : Bool} → b ≡ true → b ≡ false → A
clash p q = absurd (true≢false (sym p ∙ q))

-- two tests that pass together are the same
pub same : (a b : Bool) → (a ≡ true → b ≡ true) → (b ≡ true → a ≡ true) → a ≡ b
same true b f g = sym (f refl)
same false true f g = g refl
same false false f g = refl

-- ---- and, or; as functions, for the laws that name their two sides
abbrev pub both : Bool → Bool → Bool
both a b = a && b

abbrev pub either : Bool → Bool → Bool
either a b = a || b

pub both_l : (a b : Bool) → both a b ≡ true → a ≡ true
both_l true b e = refl
both_l false b e = e

pub both_r : (a b : Bool) → both a b ≡ true → b ≡ true
both_r true b e = e
both_r false b e = clash {b = false} e refl

pub both_i : (a b : Bool) → a ≡ true → b ≡ true → both a b ≡ true
both_i true b p q = q
both_i false b p q = p

pub and_swap : (a b : Bool) → (a && b) ≡ (b && a)
and_swap true true = refl
and_swap true false = refl
and_swap false true = refl
and_swap false false = refl

pub and_true : (a : Bool) → (a && true) ≡ a
and_true true = refl
and_true false = refl

pub and_false : (a : Bool) → (a && false) ≡ false
and_false true = refl
and_false false = refl

pub or_false : (a : Bool) → (a || false) ≡ a
or_false true = refl
or_false false = refl

pub either_e : (a b : Bool) → either a b ≡ true → (a ≡ true) ⊎ (b ≡ true)
either_e true b e = inl refl
either_e false b e = inr e

pub either_l : (a b : Bool) → a ≡ true → either a b ≡ true
either_l true b e = refl
either_l false b e = clash e refl

pub either_r : (a b : Bool) → b ≡ true → either a b ≡ true
either_r true b e = refl
either_r false b e = e

-- ---- a where the test passes, else b
pub pick_yes : {A : Type 0} {b : Bool} (x y : A) → b ≡ true → pick b x y ≡ x
pick_yes x y e = rw e

pub pick_no : {A : Type 0} {b : Bool} (x y : A) → b ≡ false → pick b x y ≡ y
pick_no x y e = rw e

pub pick_le : (b : Bool) {x y k : ℕ} → x ≤ k → y ≤ k → pick b x y ≤ k
pick_le true h l = h
pick_le false h l = l

-- ---- numbers that are the same, or not
pub eqb_refl : (n : ℕ) → eqb n n ≡ true
eqb_refl n = eq-eqb n n refl

pub is_other : (x y : ℕ) → (x ≡ y → ⊥) → not (eqb x y) ≡ true
is_other x y n = rw (ne_eqb x y n)

pub is_same : (x y : ℕ) → x ≡ y → not (eqb x y) ≡ false
is_same x y e = rw (eq-eqb x y e)

pub le_or_lt : (a b : ℕ) → (a ≤ b) ⊎ (b < a)
le_or_lt a b = go (leb a b) refl
  where
    go : (x : Bool) → leb a b ≡ x → (a ≤ b) ⊎ (b < a)
    go true e = inl (leb-true a b e)
    go false e = inr (leb-false a b e)

-- what holds at p, and off p, holds everywhere
pub at_or_off : (p : ℕ) (P : ℕ → Type 0) → P p → ((x : ℕ) → (p ≡ x → ⊥) → P x) → (x : ℕ) → P x
at_or_off p P here there x = go (ℕ_discrete p x)
  where
    go : Dec (p ≡ x) → P x
    go (yes e) = subst P e here
    go (no n) = there x n

-- ---- strong induction: what holds of n if it holds of all below n, holds of every n
below : (P : ℕ → Type 0) → ((n : ℕ) → ((m : ℕ) → m < n → P m) → P n) → (k n : ℕ) → n < k → P n
below P f zero n h = absurd (not-suc-le-zero h)
below P f (suc k) n h = f n (λ m l. below P f k m (omega arith))

pub strong : (P : ℕ → Type 0) → ((n : ℕ) → ((m : ℕ) → m < n → P m) → P n) → (n : ℕ) → P n
strong P f n = below P f (suc n) n (omega arith)
