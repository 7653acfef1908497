-- A set of the numbers below k that pass a test, made from k = 0 up. Assumes nothing.
use Rattle.std.specs.Prelude.{◌≡◌, refl, Bool, true, false, not, ◌≢◌, ◌⊎◌, ℕ, ◌+◌, ◌-◌, ◌^◌, ◌≤◌, ◌<◌, ltb, eqb}
use Rattle.std.proofs.Common.{sym, ap, ap₂, ◌∙◌, inl, inr, arith, lt-ltb, le-ltb, ltb-true, ltb-false, eq-eqb, ne_eqb}
use Rattle.std.proofs.Math.Decide.{ℕ_discrete}
use Rattle.base.specs.Tests.{both, both_l, both_r, either, le_or_lt, or_false}
use Rattle.definitions.specs.General.{pick, bit, with, first_from}
use Rattle.base.specs.Bits.{bit_zero, bit_with, bit_of_and, bit_of_xor, differs}
use Rattle.base.specs.Search.{first_law, first_is, first_past}
use Rattle.base.specs.Sets.{bit_ext}
use Rattle.std.specs.Int.Bits.{bit_and, bit_xor, xor_add_and}
use Rattle.std.proofs.lemmas.Nat.{and_le_l}
use Rattle.sets.specs.Lowest.{Has, lowest, lowest_low, lowest_in}

-- ---- one more number below k
one_more : (k m : ℕ) (f : ℕ → Bool) → Dec (k ≡ m)
    → both (ltb m (k + 1)) (f m) ≡ either (both (ltb m k) (f m)) (both (eqb k m) (f m))
one_more k m f (yes e) =
    ap (λ (b : Bool). both b (f m)) (lt-ltb m (k + 1) (omega arith))
    ∙ sym (ap₂ (λ (a b : Bool). either (both a (f m)) (both b (f m))) (le-ltb m k (omega arith)) (eq-eqb k m e))
one_more k m f (no d) =
    ap (λ (b : Bool). both b (f m)) (below (ltb m k) refl)
    ∙ sym (or_false (both (ltb m k) (f m)))
    ∙ sym (ap (λ (b : Bool). either (both (ltb m k) (f m)) (both b (f m))) (ne_eqb k m d))
  where
    below : (c : Bool) → ltb m k ≡ c → ltb m (k + 1) ≡ ltb m k
    below true e = lt-ltb m (k + 1) (omega (arith, ltb-true m k e)) ∙ sym e
    below false e = le-ltb m (k + 1) (omega (arith, ltb-false m k e)) ∙ sym e

-- a set of numbers below k that pass, with k if it passes
pub has_more : (set new k : ℕ) (f : ℕ → Bool) (b : Bool) → Has set (λ m. both (ltb m k) (f m)) → b ≡ f k
    → new ≡ pick b (with set k) set → Has new (λ m. both (ltb m (k + 1)) (f m))
has_more set new k f b h eb en m l =
    ap (λ (y : ℕ). bit y m) en ∙ go b eb ∙ sym (one_more k m f (ℕ_discrete k m))
  where
    yes_at : f k ≡ true → both (eqb k m) (f m) ≡ eqb k m
    yes_at e = at (ℕ_discrete k m)
      where
        at : Dec (k ≡ m) → both (eqb k m) (f m) ≡ eqb k m
        at (yes d) = ap₂ both (eq-eqb k m d) (ap f (sym d) ∙ e) ∙ sym (eq-eqb k m d)
        at (no d) = ap (λ (c : Bool). both c (f m)) (ne_eqb k m d) ∙ sym (ne_eqb k m d)

    no_at : f k ≡ false → both (eqb k m) (f m) ≡ false
    no_at e = at (ℕ_discrete k m)
      where
        at : Dec (k ≡ m) → both (eqb k m) (f m) ≡ false
        at (yes d) = ap₂ both (eq-eqb k m d) (ap f (sym d) ∙ e)
        at (no d) = ap (λ (c : Bool). both c (f m)) (ne_eqb k m d)

    go : (c : Bool) → c ≡ f k → bit (pick c (with set k) set) m ≡ either (both (ltb m k) (f m)) (both (eqb k m) (f m))
    go true e = bit_with set k m ∙ ap₂ either (h m l) (sym (yes_at (sym e)))
    go false e = h m l ∙ sym (or_false (both (ltb m k) (f m))) ∙ ap (either (both (ltb m k) (f m))) (sym (no_at (sym e)))

pub has_none : (f : ℕ → Bool) → Has 0 (λ m. both (ltb m 0) (f m))
has_none f m l = bit_zero m ∙ sym (ap (λ (b : Bool). both b (f m)) (le-ltb m 0 (omega arith)))

-- past numbers that do not pass
pub has_skip : (set k j : ℕ) (f : ℕ → Bool) → Has set (λ m. both (ltb m k) (f m)) → k ≤ j
    → ((i : ℕ) → k ≤ i → i < j → f i ≡ false) → Has set (λ m. both (ltb m j) (f m))
has_skip set k j f h l none m hm = h m hm ∙ go (le_or_lt k m) (le_or_lt j m)
  where
    no_and : (b c : Bool) → both b false ≡ both c false
    no_and true true = refl
    no_and true false = refl
    no_and false true = refl
    no_and false false = refl

    go : (k ≤ m) ⊎ (m < k) → (j ≤ m) ⊎ (m < j) → both (ltb m k) (f m) ≡ both (ltb m j) (f m)
    go (inr a) b = ap (λ (c : Bool). both c (f m)) (lt-ltb m k a ∙ sym (lt-ltb m j (omega arith)))
    go (inl a) (inl b) = ap (λ (c : Bool). both c (f m)) (le-ltb m k a ∙ sym (le-ltb m j b))
    go (inl a) (inr b) =
        ap (both (ltb m k)) (none m a b) ∙ no_and (ltb m k) (ltb m j) ∙ sym (ap (both (ltb m j)) (none m a b))

-- ---- its lowest member is the first that passes
module _ (set n : ℕ) (f : ℕ → Bool) (h : Has set (λ m. both (ltb m n) (f m))) (few : n ≤ 64) where
  member : (i : ℕ) → i < n → bit set i ≡ f i
  member i l = h i (omega arith) ∙ ap (λ (b : Bool). both b (f i)) (lt-ltb i n l)

  pub lowest_below : set < 2 ^ 64 → set ≢ 0 → lowest set < n
  lowest_below low some =
      let k = lowest_low set low some in
      ltb-true (lowest set) n (both_l (ltb (lowest set) n) (f (lowest set)) (sym (h (lowest set) k) ∙ lowest_in set k))

  pub lowest_passes : set < 2 ^ 64 → set ≢ 0 → f (lowest set) ≡ true
  lowest_passes low some =
      let k = lowest_low set low some in
      both_r (ltb (lowest set) n) (f (lowest set)) (sym (h (lowest set) k) ∙ lowest_in set k)

  pub lowest_first : set < 2 ^ 64 → set ≢ 0 → lowest set ≡ first_from n 0 f
  lowest_first low some =
      let l = lowest_below low some in
      sym (first_is n 0 f (lowest set) (omega arith) (omega arith) (lowest_passes low some)
      (λ i _ k. sym (member i (omega arith)) ∙ (first_law 64 0 (bit set)).miss i (omega arith) k))

  pub none_first : set ≡ 0 → n ≤ first_from n 0 f
  none_first e =
      let z = first_past n 0 f (λ i _ l. sym (member i (omega arith)) ∙ ap (λ (y : ℕ). bit y i) e ∙ bit_zero i) in
      omega arith

-- ---- the members of a that b lacks
pub bit_minus : (a b i : ℕ) → a < 2 ^ 64 → bit (a - bit_and a b) i ≡ both (bit a i) (not (bit b i))
bit_minus a b i low =
    let c : ℕ = bit_and a b in
    let l = and_le_l a b in
    let m = and_le_l a c in
    let g : bit_and a c ≡ c = bit_ext 64 (bit_and a c) c (omega arith) (omega arith)
    (λ j _. bit_of_and a c j ∙ ap (both (bit a j)) (bit_of_and a b j) ∙ again (bit a j) (bit b j) ∙ sym (bit_of_and a b j)) in
    let e : a - c ≡ bit_xor a c = omega (arith, xor_add_and a c, g) in
    ap (λ (y : ℕ). bit y i) e ∙ bit_of_xor a c i ∙ ap (differs (bit a i)) (bit_of_and a b i) ∙ out (bit a i) (bit b i)
  where
    again : (x y : Bool) → both x (both x y) ≡ both x y
    again true y = refl
    again false y = refl

    out : (x y : Bool) → differs x (both x y) ≡ both x (not y)
    out true y = refl
    out false y = refl
