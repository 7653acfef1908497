-- Counting: how many below n pass a test, the last that does, the one with j ahead of it, and what stands in a
-- list given by a function and its length; with the room that distinct numbers leave. Assumes nothing.
use Rattle.std.specs.Prelude.{◌≡◌, refl, Bool, true, false, not, ◌⊎◌, ◌≢◌, ℕ, zero, suc, ◌+◌, ◌≤◌, ◌<◌, max, ltb}
use Rattle.std.proofs.Common.{sym, ap, ◌∙◌, inl, inr, arith, not-suc-le-zero, ltb-true, ltb-false, eqb-true, eq-eqb}
use Rattle.std.proofs.Math.Decide.{ℕ_discrete}
use Rattle.std.proofs.Math.Dec.{eqb}
use Rattle.std.proofs.lemmas.Bool.{not-true, not-false}
use Rattle.definitions.specs.General.{pick, first_from, every, tally, In, in_at, absent}
use Rattle.base.specs.Tests.{bool_cases, clash, both, both_l, both_r, either, either_e, either_l, either_r, pick_le, le_or_lt}
use Rattle.base.specs.Search.{Found, at, none, find, First, first_law, every_true, every_false, every_cong}

-- ---- how many of 0, .., n - 1 pass
pub tally_le : (n : ℕ) (f : ℕ → Bool) → tally n f ≤ n
unfolding tally
tally_le zero f = omega arith
tally_le (suc n) f = pick_le (f n) (omega (arith, tally_le n f)) (omega (arith, tally_le n f))

pub tally_zero : (n : ℕ) (f : ℕ → Bool) → ((i : ℕ) → i < n → f i ≡ false) → tally n f ≡ 0
unfolding tally
tally_zero zero f h = refl
tally_zero (suc n) f h = rw (h n (omega arith)) (tally_zero n f (λ i l. h i (omega arith)))

pub tally_cong : (n : ℕ) (f g : ℕ → Bool) → ((i : ℕ) → i < n → f i ≡ g i) → tally n f ≡ tally n g
unfolding tally
tally_cong zero f g h = refl
tally_cong (suc n) f g h = rw (h n (omega arith), tally_cong n f g (λ i l. h i (omega arith)))

-- fewer pass a stricter test
pick_mono : (b b' : Bool) (x y : ℕ) → (b' ≡ true → b ≡ true) → x ≤ y → pick b' (suc x) x ≤ pick b (suc y) y
pick_mono true true x y h l = omega arith
pick_mono true false x y h l = omega arith
pick_mono false true x y h l = clash (h refl) refl
pick_mono false false x y h l = l

pub tally_mono : (n : ℕ) (f g : ℕ → Bool) → ((i : ℕ) → i < n → g i ≡ true → f i ≡ true)
    → tally n g ≤ tally n f
unfolding tally
tally_mono zero f g h = omega arith
tally_mono (suc n) f g h =
    pick_mono (f n) (g n) (tally n g) (tally n f) (h n (omega arith))
    (tally_mono n f g (λ i l. h i (omega arith)))

-- one that passed does not any more, and none is new
pick_strict : (b b' : Bool) (x y : ℕ) → (b' ≡ true → b ≡ true) → x < y → pick b' (suc x) x < pick b (suc y) y
pick_strict true true x y h l = omega arith
pick_strict true false x y h l = omega arith
pick_strict false true x y h l = clash (h refl) refl
pick_strict false false x y h l = l

pub tally_falls : (n : ℕ) (f g : ℕ → Bool) → ((i : ℕ) → g i ≡ true → f i ≡ true)
    → (m : ℕ) → m < n → f m ≡ true → g m ≡ false → tally n g < tally n f
unfolding tally
tally_falls zero f g h m l a b = absurd (not-suc-le-zero l)
tally_falls (suc n) f g h m l a b = go (ℕ_discrete m n) (λ k. tally_falls n f g h m k a b)
  where
    go : Dec (m ≡ n) → (m < n → tally n g < tally n f) → tally (suc n) g < tally (suc n) f
    go (yes e) ih =
        let a' : f n ≡ true = ap f (sym e) ∙ a in
        let b' : g n ≡ false = ap g (sym e) ∙ b in
        rw (a', b') (omega (arith, tally_mono n f g (λ i _. h i)))
    go (no e) ih = pick_strict (f n) (g n) (tally n g) (tally n f) (h n) (ih (omega arith))

-- a count past the last that passes
pub tally_past : (k n : ℕ) (f : ℕ → Bool) → n ≤ k → ((i : ℕ) → n ≤ i → f i ≡ false) → tally k f ≡ tally n f
unfolding tally
tally_past zero n f h e = let z : 0 ≡ n = omega arith in ap (λ (j : ℕ). tally j f) z
tally_past (suc k) n f h e = go (ℕ_discrete n (suc k)) (λ l. tally_past k n f l e)
  where
    go : Dec (n ≡ suc k) → (n ≤ k → tally k f ≡ tally n f) → tally (suc k) f ≡ tally n f
    go (yes d) ih = ap (λ (j : ℕ). tally j f) (sym d)
    go (no d) ih = rw (e k (omega arith)) (ih (omega arith))

-- one passes
pub tally_pos : (n : ℕ) (f : ℕ → Bool) (m : ℕ) → m < n → f m ≡ true → 0 < tally n f
tally_pos n f m h e =
    let l = tally_falls n f (λ _. false) (λ i z. clash z refl) m h e refl in
    omega arith

-- two sets, one of which has the other: the larger count is the count of the union
pub tally_max : (n : ℕ) (f g h : ℕ → Bool) → ((i : ℕ) → h i ≡ either (f i) (g i))
    → ((i j : ℕ) → f i ≡ true → g i ≡ false → g j ≡ true → f j ≡ true)
    → max (tally n f) (tally n g) ≡ tally n h
tally_max n f g h e d = go (find (λ i. both (f i) (not (g i))) n)
  where
    f_le : tally n f ≤ tally n h
    f_le = tally_mono n h f (λ i l p. e i ∙ either_l (f i) (g i) p)

    g_le : tally n g ≤ tally n h
    g_le = tally_mono n h g (λ i l p. e i ∙ either_r (f i) (g i) p)

    in_g : (i : ℕ) → both (f i) (not (g i)) ≡ false → (f i ≡ true) ⊎ (g i ≡ true) → g i ≡ true
    in_g i p (inr q) = q
    in_g i p (inl q) = not-false (g i) (rw q at p)

    go : Found (λ i. both (f i) (not (g i))) n → max (tally n f) (tally n g) ≡ tally n h
    go (at i l p _) =
        let fi = both_l (f i) (not (g i)) p in
        let gi = not-true (g i) (both_r (f i) (not (g i)) p) in
        let le = tally_mono n f h
        (λ j _ q. elim (either_e (f j) (g j) (sym (e j) ∙ q)) [ inl a ↦ a | inr b ↦ d i j fi gi b ]) in
        omega (arith, f_le, g_le)
    go (none l) =
        let le = tally_mono n g h (λ j k q. in_g j (l j k) (either_e (f j) (g j) (sym (e j) ∙ q))) in
        omega (arith, f_le, g_le)

-- ---- the last below n that passes, if any does
pub data Last (n : ℕ) (f : ℕ → Bool) : Type 0 where
  never : tally n f ≡ 0 → Last n f
  last_at : (x : ℕ) → x < n → f x ≡ true → ((j : ℕ) → j < n → f j ≡ true → j ≤ x) → Last n f

pub last_of : (n : ℕ) (f : ℕ → Bool) → Last n f
unfolding tally
last_of zero f = never refl
last_of (suc n) f = go (f n) refl (last_of n f)
  where
    go : (b : Bool) → f n ≡ b → Last n f → Last (suc n) f
    go true e r = last_at n (omega arith) e (λ j l _. omega arith)
    go false e (never z) = never (rw e z)
    go false e (last_at x l p m) = last_at x (omega arith) p (λ j k q. below_n j k q (ℕ_discrete j n))
      where
        below_n : (j : ℕ) → j < suc n → f j ≡ true → Dec (j ≡ n) → j ≤ x
        below_n j k q (yes a) = clash q (ap f a ∙ e)
        below_n j k q (no a) = m j (omega arith) q

-- ---- of those below n that pass, the one with j ahead of it
pub data Nth (n : ℕ) (f : ℕ → Bool) (j : ℕ) : Type 0 where
  nth : (y : ℕ) → y < n → f y ≡ true → tally y f ≡ j → Nth n f j

pub nth_of : (n : ℕ) (f : ℕ → Bool) (j : ℕ) → j < tally n f → Nth n f j
unfolding tally
nth_of zero f j h = absurd (not-suc-le-zero h)
nth_of (suc n) f j h = elim (le_or_lt (tally n f) j) [
  | inr l ↦ elim (nth_of n f j l) [ nth y hy e d ↦ nth y (omega arith) e d ]
  | inl l ↦ go (f n) refl h l
]
  where
    go : (b : Bool) → f n ≡ b → j < pick b (suc (tally n f)) (tally n f) → tally n f ≤ j → Nth (suc n) f j
    go true e k l = nth n (omega arith) e (omega arith)
    go false e k l = absurd (omega arith)

-- ---- m is one of f 0, .., f (n - 1)
pub in_wider : {n k : ℕ} {f : ℕ → ℕ} {m : ℕ} → n ≤ k → In n f m → In k f m
in_wider h (in_at i l e) = in_at i (omega arith) e

-- ---- m is none of them, as a test
pub absent_in : (n m : ℕ) (f : ℕ → ℕ) → absent n m f ≡ false → In n f m
unfolding absent
absent_in n m f e = go (every_false n (λ i. not (eqb (f i) m)) e)
  where
    go : (i : ℕ) × (i < n) × (not (eqb (f i) m) ≡ false) → In n f m
    go t = in_at t.0 t.1 (eqb-true (f t.0) m (not-false (eqb (f t.0) m) t.2))

pub absent_out : (n m : ℕ) (f : ℕ → ℕ) → absent n m f ≡ true → ¬ In n f m
unfolding absent
absent_out n m f e (in_at i l d) =
    clash (eq-eqb (f i) m d) (not-true (eqb (f i) m) (every_true n (λ i. not (eqb (f i) m)) e i l))

pub in_absent : {n m : ℕ} {f : ℕ → ℕ} → In n f m → absent n m f ≡ false
in_absent {n} {m} {f} i = go (bool_cases (absent n m f))
  where
    go : (absent n m f ≡ true) ⊎ (absent n m f ≡ false) → absent n m f ≡ false
    go (inl e) = absurd (absent_out n m f e i)
    go (inr e) = e

pub out_absent : {n m : ℕ} {f : ℕ → ℕ} → (¬ In n f m) → absent n m f ≡ true
out_absent {n} {m} {f} o = go (bool_cases (absent n m f))
  where
    go : (absent n m f ≡ true) ⊎ (absent n m f ≡ false) → absent n m f ≡ true
    go (inl e) = e
    go (inr e) = absurd (o (absent_in n m f e))

pub in_dec : (n : ℕ) (f : ℕ → ℕ) (m : ℕ) → Dec (In n f m)
in_dec n f m = go (bool_cases (absent n m f))
  where
    go : (absent n m f ≡ true) ⊎ (absent n m f ≡ false) → Dec (In n f m)
    go (inl e) = no (absent_out n m f e)
    go (inr e) = yes (absent_in n m f e)

pub absent_cong : (n n' m : ℕ) (f g : ℕ → ℕ) → n ≡ n' → ((i : ℕ) → i < n → f i ≡ g i)
    → absent n m f ≡ absent n' m g
unfolding absent
absent_cong n n' m f g e h =
    every_cong n (λ i. not (eqb (f i) m)) (λ i. not (eqb (g i) m))
    (λ i l. ap (λ (x : ℕ). not (eqb x m)) (h i l))
    ∙ ap (λ (k : ℕ). every k (λ i. not (eqb (g i) m))) e

-- ---- k distinct numbers below n leave at most n - k others: the room that the fuel of a loop counts on
pub absent_room : (n k : ℕ) (f : ℕ → ℕ) → ((i : ℕ) → i < k → f i < n)
    → ((i j : ℕ) → i < j → j < k → f i ≢ f j) → tally n (λ m. absent k m f) + k ≤ n
absent_room n zero f low distinct = omega (arith, tally_le n (λ m. absent 0 m f))
absent_room n (suc k) f low distinct =
    let ih = absent_room n k f (λ i h. low i (omega arith)) (λ i j h l. distinct i j h (omega arith)) in
    let falls = tally_falls n (λ m. absent k m f) (λ m. absent (suc k) m f)
    (λ m e. out_absent (λ (o : In k f m). elim o [ in_at i l d ↦ absent_out (suc k) m f e (in_at i (omega arith) d) ]))
    (f k) (low k (omega arith))
    (out_absent (λ o. elim o [ in_at i l d ↦ distinct i k l (omega arith) d ]))
    (in_absent (in_at k (omega arith) refl)) in
    omega (arith, ih, falls)

-- k distinct numbers, each among the n of f: k is at most n; and below n where some f i is not among them
module _ (n k : ℕ) (f g : ℕ → ℕ) (once : (i j : ℕ) → i < j → j < k → g i ≢ g j)
    (inside : (i : ℕ) → i < k → In n f (g i)) where
  place : ℕ → ℕ
  place j = first_from n 0 (λ x. eqb (f x) (g j))

  found : (j : ℕ) → j < k → (place j < n) × (f (place j) ≡ g j)
  unfolding place
  found j h = elim (inside j h) [ in_at x l d ↦ at_x x l d ]
    where
      r : First n 0 (λ x. eqb (f x) (g j)) (place j)
      r = first_law n 0 (λ x. eqb (f x) (g j))

      at_x : (x : ℕ) → x < n → f x ≡ g j → (place j < n) × (f (place j) ≡ g j)
      at_x x l d = which (ltb (place j) n) refl
        where
          which : (b : Bool) → ltb (place j) n ≡ b → (place j < n) × (f (place j) ≡ g j)
          which true e =
              let p = ltb-true (place j) n e in
              (p, eqb-true (f (place j)) (g j) (r.hit (omega arith)))
          which false e =
              let p = ltb-false (place j) n e in
              clash (eq-eqb (f x) (g j) d) (r.miss x (omega arith) (omega arith))

  places : tally n (λ m. absent k m place) + k ≤ n
  places = absent_room n k place (λ j h. (found j h).0)
      (λ a b l h e. once a b l h (sym (found a (omega arith)).1 ∙ ap f e ∙ (found b h).1))

  pub room_within : k ≤ n
  room_within = omega (arith, places)

  -- the places of f that hold none of them are at most n - k
  pub room_outside : tally n (λ i. absent k (f i) g) + k ≤ n
  room_outside =
      let fewer = tally_mono n (λ m. absent k m place) (λ i. absent k (f i) g)
      (λ i _ e. out_absent (λ o. elim o [
        | in_at j l d ↦ absent_out k (f i) g e (in_at j l (sym (found j l).1 ∙ ap f d))
      ])) in
      omega (arith, places, fewer)

  pub room_left : (i : ℕ) → i < n → (¬ In k g (f i)) → k < n
  room_left i hi out =
      let new : absent k i place ≡ true =
      out_absent (λ o. elim o [ in_at j l d ↦ out (in_at j l (sym (found j l).1 ∙ ap f d)) ]) in
      let one = tally_falls n (λ m. absent k m place) (λ m. false) (λ m e. clash e refl) i hi new refl in
      omega (arith, places, one)
