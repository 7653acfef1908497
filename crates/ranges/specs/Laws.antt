-- Laws of tests over a run: two runs side by side, one test more of some that pass, and what is gathered by or. Assumes nothing.
use Rattle.std.specs.Prelude.{◌≡◌, refl, Bool, true, false, not, ◌&&◌, ◌||◌, ℕ, ◌+◌, ◌-◌, ◌≤◌, ◌<◌, ltb, leb, eqb}
use Rattle.std.proofs.Common.{sym, ap, ap₂, ◌∙◌, arith, ltb-true, ltb-false, eq-eqb, ne_eqb, eqb-true, le-leb, leb-true}
use Rattle.std.proofs.Math.Decide.{ℕ_discrete}
use Rattle.std.specs.Int.Bits.{bit_or, bit_and, or_add_and}
use Rattle.std.proofs.lemmas.Nat.{and_le_l, and_le_r}
use Rattle.std.specs.Prelude.{List, length, get_or, take, drop}
use Rattle.std.proofs.lemmas.List.{get_or-take, get_or-drop, length-take-le, length-drop}
use Rattle.definitions.specs.General.{every, some}
use Rattle.base.specs.Tests.{both, both_l, both_r, both_i, same}
use Rattle.base.specs.Search.{every_next, every_true, every_intro, every_cong}
use Rattle.ranges.specs.Ranges.{zeros_at, within_at, all_zero, all_within}

-- ---- all below n + k, in two parts
pub every_split : (n k : ℕ) (f : ℕ → Bool) → every (n + k) f ≡ (every n f && every k (λ i. f (n + i)))
every_split n k f =
    same (every (n + k) f) (both (every n f) (every k (λ i. f (n + i))))
    (λ e. both_i (every n f) (every k (λ i. f (n + i)))
    (every_intro n f (λ i l. every_true (n + k) f e i (omega arith)))
    (every_intro k (λ i. f (n + i)) (λ i l. every_true (n + k) f e (n + i) (omega arith))))
    (λ e. every_intro (n + k) f (λ i l. go e i l (ltb i n) refl))
  where
    go : both (every n f) (every k (λ i. f (n + i))) ≡ true → (i : ℕ) → i < n + k
        → (b : Bool) → ltb i n ≡ b → f i ≡ true
    go e i l true q = every_true n f (both_l (every n f) (every k (λ i. f (n + i))) e) i (ltb-true i n q)
    go e i l false q =
        let m = ltb-false i n q in
        let z : n + (i - n) ≡ i = omega arith in
        ap f (sym z)
        ∙ every_true k (λ i. f (n + i)) (both_r (every n f) (every k (λ i. f (n + i))) e) (i - n)
        (omega arith)

-- two tests of each are both of the tests
pub every_both : (n : ℕ) (f g : ℕ → Bool) → every n (λ i. f i && g i) ≡ (every n f && every n g)
every_both n f g =
    same (every n (λ i. f i && g i)) (every n f && every n g)
    (λ e. both_i (every n f) (every n g)
    (every_intro n f (λ i l. both_l (f i) (g i) (every_true n (λ i. f i && g i) e i l)))
    (every_intro n g (λ i l. both_r (f i) (g i) (every_true n (λ i. f i && g i) e i l))))
    (λ e. every_intro n (λ i. f i && g i) (λ i l. both_i (f i) (g i)
    (every_true n f (both_l (every n f) (every n g) e) i l)
    (every_true n g (both_r (every n f) (every n g) e) i l)))

-- one of 0, .., i passes
pub some_next : (f : ℕ → Bool) (i : ℕ) → some (i + 1) f ≡ (some i f || f i)
unfolding some
some_next f i = ap not (every_next (λ j. not (f j)) i) ∙ go (f i) (every i (λ j. not (f j)))
  where
    go : (a b : Bool) → not (not a && b) ≡ (not b || a)
    go true true = refl
    go true false = refl
    go false true = refl
    go false false = refl

pub some_none : (f : ℕ → Bool) → some 0 f ≡ false
unfolding some every
some_none f = refl

-- a bitwise or is zero exactly where both are
pub or_zero : (x y : ℕ) → eqb (bit_or x y) 0 ≡ (eqb y 0 && eqb x 0)
or_zero x y = go (ℕ_discrete x 0) (ℕ_discrete y 0)
  where
    sum : bit_or x y + bit_and x y ≡ x + y
    sum = or_add_and x y

    go : Dec (x ≡ 0) → Dec (y ≡ 0) → eqb (bit_or x y) 0 ≡ (eqb y 0 && eqb x 0)
    go (yes p) (yes q) = rw (eq-eqb y 0 q, eq-eqb x 0 p) (eq-eqb (bit_or x y) 0 (omega (arith, sum)))
    go d (no q) = rw (ne_eqb y 0 q) (ne_eqb (bit_or x y) 0 (λ e. omega (arith, sum, and_le_l x y)))
    go (no p) (yes q) =
        rw (eq-eqb y 0 q, ne_eqb x 0 p) (ne_eqb (bit_or x y) 0 (λ e. omega (arith, sum, and_le_r x y)))

-- ---- a loop that gathers by or: nothing gathered exactly if every test passes
pub gathers_or : (f : ℕ → Bool) (i any x : ℕ) → eqb any 0 ≡ every i f → eqb x 0 ≡ f i
    → eqb (bit_or any x) 0 ≡ every (i + 1) f
gathers_or f i any x e h = or_zero any x ∙ ap₂ both h e ∙ sym (every_next f i)

-- no excess over a limit
pub excess_none : (x limit : ℕ) → eqb (x - limit) 0 ≡ leb x limit
excess_none x limit =
    same (eqb (x - limit) 0) (leb x limit)
    (λ e. le-leb x limit (let z = eqb-true (x - limit) 0 e in omega arith))
    (λ e. eq-eqb (x - limit) 0 (let z = leb-true x limit e in omega arith))

-- ---- a part of k words from a on: how long it is, and its words at their place among all
module _ (w : List ℕ) (a k : ℕ) where
  pub part_length : a + k ≤ length w → length (take k (drop a w)) ≡ k
  part_length h = length-take-le k (drop a w) (simp length-drop (omega arith))

  pub part_word : (i : ℕ) → i < k → get_or (take k (drop a w)) i 0 ≡ get_or w (a + i) 0
  part_word i l = get_or-take k (drop a w) i 0 l ∙ get_or-drop a w i 0

  pub zeros_part : (n : ℕ) → k ≡ n → a + n ≤ length w → all_zero (take k (drop a w)) ≡ zeros_at w a n
  unfolding zeros_at all_zero
  zeros_part n e h =
      ap (λ (x : ℕ). every x (λ i. eqb (get_or (take k (drop a w)) i 0) 0)) (part_length (omega arith) ∙ e)
      ∙ every_cong n (λ i. eqb (get_or (take k (drop a w)) i 0) 0) (λ i. eqb (get_or w (a + i) 0) 0)
      (λ i l. ap (λ (x : ℕ). eqb x 0) (part_word i (omega arith)))

  pub within_part : (t : List ℕ) (b n : ℕ) (limits : List ℕ) → k ≡ n → a + n ≤ length w
      → ((i : ℕ) → i < n → get_or limits i 0 ≡ get_or t (b + i) 0)
      → all_within (take k (drop a w)) limits ≡ within_at w a t b n
  unfolding within_at all_within
  within_part t b n limits e h s =
      ap (λ (x : ℕ). every x (λ i. leb (get_or (take k (drop a w)) i 0) (get_or limits i 0))) (part_length (omega arith) ∙ e)
      ∙ every_cong n (λ i. leb (get_or (take k (drop a w)) i 0) (get_or limits i 0))
      (λ i. leb (get_or w (a + i) 0) (get_or t (b + i) 0))
      (λ i l. ap₂ leb (part_word i (omega arith)) (s i l))
