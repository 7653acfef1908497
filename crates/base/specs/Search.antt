-- Bounded search: the least number that passes a test, the first from a place on, and "all below n pass",
-- with the laws that a loop which searches or gathers needs. Assumes nothing.
use Rattle.std.specs.Prelude.{◌≡◌, refl, Bool, true, false, not, ◌&&◌, ◌⊎◌, ℕ, zero, suc, ◌+◌, ◌-◌, ◌≤◌, ◌<◌}
use Rattle.std.proofs.Common.{sym, ap, ap₂, ◌∙◌, inl, inr, arith, add-one, not-suc-le-zero}
use Rattle.std.proofs.Math.Decide.{ℕ_discrete}
use Rattle.std.proofs.lemmas.Bool.{not-true, not-false}
use Rattle.definitions.specs.General.{first_from, every, some}
use Rattle.base.specs.Tests.{bool_cases, clash, both, and_swap, le_or_lt}

-- ---- the least below n that passes, or a proof that none does
pub data Found (f : ℕ → Bool) (n : ℕ) : Type 0 where
  at : (i : ℕ) → i < n → f i ≡ true → ((j : ℕ) → j < i → f j ≡ false) → Found f n
  none : ((i : ℕ) → i < n → f i ≡ false) → Found f n

pub find : (f : ℕ → Bool) (n : ℕ) → Found f n
find f zero = none (λ i h. absurd (not-suc-le-zero h))
find f (suc n) = more (find f n)
  where
    more : Found f n → Found f (suc n)
    more (at i h e l) = at i (omega arith) e l
    more (none l) = last (f n) refl
      where
        last : (b : Bool) → f n ≡ b → Found f (suc n)
        last true e = at n (omega arith) e l
        last false e = none (λ i h. which i h (ℕ_discrete i n))
          where
            which : (i : ℕ) → i < suc n → Dec (i ≡ n) → f i ≡ false
            which i h (yes q) = ap f q ∙ e
            which i h (no q) = l i (omega arith)

-- ---- the first of i, i + 1, .. (k of them) that passes; i + k where none does
-- what the first is
pub record First (k i : ℕ) (f : ℕ → Bool) (r : ℕ) : Type 0 where
  pub low : i ≤ r
  pub high : r ≤ i + k
  pub hit : r < i + k → f r ≡ true
  pub miss : (j : ℕ) → i ≤ j → j < r → f j ≡ false

pub first_law : (k i : ℕ) (f : ℕ → Bool) → First k i f (first_from k i f)
unfolding first_from
first_law zero i f = record {
  low = omega arith;
  high = omega arith;
  hit = λ h. absurd (omega arith);
  miss = λ j a b. absurd (omega arith);
}
first_law (suc k) i f = go (f i) refl (first_law k (suc i) f)
  where
    go : (b : Bool) → f i ≡ b → First k (suc i) f (first_from k (suc i) f)
        → First (suc k) i f (elim b [ true ↦ i | false ↦ first_from k (suc i) f ])
    go true e r = record {
      low = omega arith;
      high = omega arith;
      hit = λ h. e;
      miss = λ j a b. absurd (omega arith);
    }
    go false e r = record {
      low = omega (arith, r.low);
      high = omega (arith, r.high);
      hit = λ h. r.hit (omega arith);
      miss = λ j a b. which j a b (ℕ_discrete j i);
    }
      where
        which : (j : ℕ) → i ≤ j → j < first_from k (suc i) f → Dec (j ≡ i) → f j ≡ false
        which j a b (yes q) = ap f q ∙ e
        which j a b (no q) = r.miss j (omega arith) b

-- the same tests have the same first
pub first_cong : (k i : ℕ) (f g : ℕ → Bool) → ((j : ℕ) → i ≤ j → j < i + k → f j ≡ g j)
    → first_from k i f ≡ first_from k i g
unfolding first_from
first_cong zero i f g h = refl
first_cong (suc k) i f g h =
    ap₂ (λ (b : Bool) (r : ℕ). elim b as (λ _. ℕ) [ true ↦ i | false ↦ r ])
    (h i (omega arith) (omega arith))
    (first_cong k (suc i) f g (λ j a b. h j (omega arith) (omega arith)))

-- where it is
pub first_is : (k i : ℕ) (f : ℕ → Bool) (r : ℕ) → i ≤ r → r < i + k → f r ≡ true
    → ((j : ℕ) → i ≤ j → j < r → f j ≡ false)
    → first_from k i f ≡ r
first_is k i f r lo hi e fails = go (le_or_lt first r) (le_or_lt r first)
  where
    first : ℕ
    first = first_from k i f

    go : (first ≤ r) ⊎ (r < first) → (r ≤ first) ⊎ (first < r) → first ≡ r
    go (inr a) b = clash e ((first_law k i f).miss r lo a)
    go (inl a) (inr b) =
        clash ((first_law k i f).hit (omega arith)) (fails first (first_law k i f).low b)
    go (inl a) (inl b) = omega arith

-- where there is none
pub first_past : (k i : ℕ) (f : ℕ → Bool) → ((j : ℕ) → i ≤ j → j < i + k → f j ≡ false) → i + k ≤ first_from k i f
first_past k i f fails = elim (le_or_lt (i + k) (first_from k i f)) [
  | inl a ↦ a
  | inr a ↦ clash ((first_law k i f).hit a) (fails (first_from k i f) (first_law k i f).low a)
]

-- what is found among the first k is found there in more, too
pub first_among : (n k i : ℕ) (f : ℕ → Bool) → k ≤ n → first_from n i f < i + k → first_from n i f ≡ first_from k i f
first_among n k i f l h =
    let z = first_law n i f in sym (first_is k i f (first_from n i f) z.low h (z.hit (omega arith)) z.miss)

-- a loop that searches: past one that fails, at one that passes, at the end
pub first_skip : (f : ℕ → Bool) (n i : ℕ) → i < n → f i ≡ false
    → first_from (n - i) i f ≡ first_from (n - (i + 1)) (i + 1) f
unfolding first_from
first_skip f n i h e =
    let k : n - i ≡ suc (n - (i + 1)) = omega arith in
    rw (k, add-one i)
    (ap (λ (b : Bool). elim b [ true ↦ i | false ↦ first_from (n - suc i) (suc i) f ]) e)

pub first_hit : (f : ℕ → Bool) (n i : ℕ) → i < n → f i ≡ true → first_from (n - i) i f ≡ i
unfolding first_from
first_hit f n i h e =
    let k : n - i ≡ suc (n - (i + 1)) = omega arith in
    rw k (ap (λ (b : Bool). elim b [ true ↦ i | false ↦ first_from (n - (i + 1)) (suc i) f ]) e)

pub first_end : (f : ℕ → Bool) (n i : ℕ) → i ≡ n → first_from (n - i) i f ≡ n
unfolding first_from
first_end f n i h =
    let k : n - i ≡ 0 = omega arith in
    rw k h

-- ---- all of 0, .., n - 1 pass
pub every_true : (n : ℕ) (f : ℕ → Bool) → every n f ≡ true → (i : ℕ) → i < n → f i ≡ true
unfolding every
every_true zero f e i h = absurd (not-suc-le-zero h)
every_true (suc n) f e i h = go (f n) refl e (ℕ_discrete i n) (λ e' l. every_true n f e' i l)
  where
    go : (b : Bool) → f n ≡ b → elim b [ true ↦ every n f | false ↦ false ] ≡ true
        → Dec (i ≡ n) → (every n f ≡ true → i < n → f i ≡ true) → f i ≡ true
    go true q e' (yes p) ih = ap f p ∙ q
    go true q e' (no p) ih = ih e' (omega arith)
    go false q e' d ih = clash {b = false} e' refl

pub every_intro : (n : ℕ) (f : ℕ → Bool) → ((i : ℕ) → i < n → f i ≡ true) → every n f ≡ true
unfolding every
every_intro zero f h = refl
every_intro (suc n) f h = rw (h n (omega arith), every) (every_intro n f (λ i l. h i (omega arith)))

pub every_false : (n : ℕ) (f : ℕ → Bool) → every n f ≡ false → (i : ℕ) × (i < n) × (f i ≡ false)
every_false n f e = go (find (λ i. not (f i)) n)
  where
    go : Found (λ i. not (f i)) n → (i : ℕ) × (i < n) × (f i ≡ false)
    go (at i h p l) = (i, h, not-true (f i) p)
    go (none l) = clash (every_intro n f (λ i h. not-false (f i) (l i h))) e

pub every_fails : (n : ℕ) (f : ℕ → Bool) (i : ℕ) → i < n → f i ≡ false → every n f ≡ false
every_fails n f i h e = go (bool_cases (every n f))
  where
    go : (every n f ≡ true) ⊎ (every n f ≡ false) → every n f ≡ false
    go (inl t) = clash (every_true n f t i h) e
    go (inr t) = t

pub every_more : (n : ℕ) (f : ℕ → Bool) → every n f ≡ true → f n ≡ true → every (n + 1) f ≡ true
every_more n f h e = every_intro (n + 1) f (λ i l. go i l (ℕ_discrete i n))
  where
    go : (i : ℕ) → i < n + 1 → Dec (i ≡ n) → f i ≡ true
    go i l (yes q) = ap f q ∙ e
    go i l (no q) = every_true n f h i (omega arith)

pub every_cong : (n : ℕ) (f g : ℕ → Bool) → ((i : ℕ) → i < n → f i ≡ g i) → every n f ≡ every n g
unfolding every
every_cong zero f g h = refl
every_cong (suc n) f g h =
    ap₂ (λ (a b : Bool). elim a [ true ↦ b | false ↦ false ])
    (h n (omega arith))
    (every_cong n f g (λ i l. h i (omega arith)))

-- ---- a loop that gathers: none yet, one test more, the end
pub every_none : (f : ℕ → Bool) → true ≡ every 0 f
unfolding every
every_none f = refl

pub every_next : (f : ℕ → Bool) (i : ℕ) → every (i + 1) f ≡ (f i && every i f)
unfolding every
every_next f i = ap (λ (n : ℕ). every n f) (add-one i) ∙ go (f i)
  where
    go : (b : Bool) → elim b [ true ↦ every i f | false ↦ false ] ≡ (b && every i f)
    go true = refl
    go false = refl

pub gathers : (f : ℕ → Bool) (i : ℕ) (ok t : Bool) → ok ≡ every i f → t ≡ f i → (ok && t) ≡ every (i + 1) f
gathers f i ok t e h = ap₂ both e h ∙ and_swap (every i f) (f i) ∙ sym (every_next f i)

pub gathered : (f : ℕ → Bool) (i n : ℕ) {ok : Bool} → ok ≡ every i f → i ≡ n → ok ≡ every n f
gathered f i n e l = e ∙ ap (λ (k : ℕ). every k f) l

-- ---- one of 0, .., n - 1 passes
pub some_i : (n : ℕ) (f : ℕ → Bool) (i : ℕ) → i < n → f i ≡ true → some n f ≡ true
unfolding some
some_i n f i h e = ap not (every_fails n (λ j. not (f j)) i h (ap not e))

pub some_e : (n : ℕ) (f : ℕ → Bool) → some n f ≡ true → (i : ℕ) × (i < n) × (f i ≡ true)
unfolding some
some_e n f e =
    let z = every_false n (λ j. not (f j)) (not-true _ e) in
    (z.0, z.1, not-false (f z.0) z.2)

pub some_cong : (n : ℕ) (f g : ℕ → Bool) → ((i : ℕ) → i < n → f i ≡ g i) → some n f ≡ some n g
unfolding some
some_cong n f g h = ap not (every_cong n (λ i. not (f i)) (λ i. not (g i)) (λ i l. ap not (h i l)))
