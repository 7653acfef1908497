-- The groups of the processes by their set. All groups are below 8 exactly when no group has a bit from 3 on;
-- they leave no gap exactly when the set has, with each group but 0, the one below it. Assumes nothing.
use Rattle.std.specs.Prelude.{◌≡◌, refl, Bool, true, false, cond, ◌&&◌, ◌||◌, Option, Some, None, is_some, ℕ, zero, suc, ◌+◌, ◌/◌, ◌%◌, ◌^◌, ◌<◌, ltb}
use Rattle.std.proofs.Common.{sym, ap₂, ◌∙◌, subst, arith, eq-eqb, eqb-true, ltb-true, ltb-false, lt-ltb}
use Rattle.std.proofs.Math.Path.{ap}
use Rattle.std.specs.Int.Bits.{bit_or, bit_and}
use Rattle.std.proofs.lemmas.Nat.{or_shr}
use Rattle.std.proofs.lemmas.Option.{cond_some}
use Rattle.std.proofs.Math.Dec.{eqb}
use Rattle.definitions.specs.General.{every, some, bit, with}
use Rattle.definitions.specs.World.{State, size, group, is_process, has_group}
use Rattle.definitions.specs.Sound.{word, fit, fine}
use Rattle.base.specs.Tests.{both, both_l, both_r, both_i, same}
use Rattle.base.specs.Search.{every_true, every_intro, some_i, some_e, some_cong, every_none, every_next}
use Rattle.base.specs.Bits.{bit_zero, bit_with}
use Rattle.ranges.specs.Laws.{some_none, some_next, or_zero}
use Rattle.base.specs.Sets.{bit_up, subset_e, subset_i}

-- What the loop has gathered of the first n processes.
pub record GroupSet (s : State) (n set any : ℕ) : Type 0 where
  pub have : (g : ℕ) → bit set g ≡ some n (λ p. eqb (s (group p) % 8) g)
  pub high : eqb (any / 2 ^ 3) 0 ≡ every n (λ p. eqb (s (group p) / 2 ^ 3) 0)

-- There is a set exactly if the groups of the first n processes may be; it is that of the groups that exist.
pub record GroupTest (s : State) (n : ℕ) (r : Option ℕ) : Type 0 where
  pub is_good : is_some r ≡ every n (λ p. fine s (group p))
  pub exist : (set : ℕ) → r ≡ Some set → (g : ℕ) → bit set g ≡ has_group s g

-- ---- the loop
pub group_none : (s : State) → GroupSet s 0 0 0
group_none s = record {
  have = λ g. bit_zero g ∙ sym (some_none (λ p. eqb (s (group p) % 8) g));
  high = every_none (λ p. eqb (s (group p) / 2 ^ 3) 0);
}

pub group_more : (s : State) (p set any x : ℕ) {new : ℕ} → x ≡ s (group p) → new ≡ with set (x % 8)
    → GroupSet s p set any
    → GroupSet s (p + 1) new (bit_or any x)
group_more s p set any x ex en h = record {
  have = λ g. ap (λ (y : ℕ). bit y g) en ∙ bit_with set (x % 8) g
      ∙ ap₂ ◌||◌ (h.have g) (ap (λ (y : ℕ). eqb (y % 8) g) ex)
      ∙ sym (some_next (λ p. eqb (s (group p) % 8) g) p);
  high = ap (λ (z : ℕ). eqb z 0) (or_shr any x 3) ∙ or_zero (any / 2 ^ 3) (x / 2 ^ 3)
      ∙ ap₂ both (ap (λ (z : ℕ). eqb (z / 2 ^ 3) 0) ex) h.high
      ∙ sym (every_next (λ p. eqb (s (group p) / 2 ^ 3) 0) p);
}

-- ---- the two tests at the end
module _ (s : State) (n set any : ℕ) (en : n ≡ s size) (hs : set < 2 ^ 16) (h : GroupSet s n set any) where
  above_bit : (g : ℕ) → bit (set / 2 ^ 1) g ≡ bit set (suc g)
  above_bit g = sym (bit_up set g)

  cells_of : (g : ℕ) → has_group s g ≡ some n (λ p. eqb (s (group p)) g)
  unfolding has_group
  cells_of g = ap (λ (k : ℕ). some k (λ p. eqb (s (group p)) g)) (sym en)

  here : (p : ℕ) → p < n → is_process s p ≡ true
  here p l = lt-ltb p (s size) (omega arith)

  fine_is : (p : ℕ) → p < n
      → fine s (group p) ≡ (ltb (s (group p)) 8 && every (s (group p)) (has_group s))
  unfolding fine fit
  fine_is p l =
      ap (λ (b : Bool). word b (s (group p)) (ltb (s (group p)) 8 && every (s (group p)) (has_group s)))
      (here p l)

  -- where every group is below 8
  module _ (low : (p : ℕ) → p < n → s (group p) < 8) where
    exact : (g : ℕ) → bit set g ≡ has_group s g
    exact g =
        h.have g
        ∙ some_cong n (λ p. eqb (s (group p) % 8) g) (λ p. eqb (s (group p)) g)
        (λ p l. ap (λ (x : ℕ). eqb x g) (let z = low p l in omega arith))
        ∙ sym (cells_of g)

    down : bit_and (set / 2 ^ 1) set ≡ set / 2 ^ 1 → (x g : ℕ) → g < x → bit set x ≡ true → bit set g ≡ true
    down e zero g l p = absurd (omega arith)
    down e (suc x) g l p = go (ltb g x) refl (λ k. down e x g k below)
      where
        below : bit set x ≡ true
        below = subset_e (set / 2 ^ 1) set e x (above_bit x ∙ p)

        go : (b : Bool) → ltb g x ≡ b → (g < x → bit set g ≡ true) → bit set g ≡ true
        go true q ih = ih (ltb-true g x q)
        go false q ih =
            let z : g ≡ x = omega (arith, ltb-false g x q) in
            subst (λ (y : ℕ). bit set y ≡ true) (sym z) below

    fine_all : bit_and (set / 2 ^ 1) set ≡ set / 2 ^ 1 → (p : ℕ) → p < n → fine s (group p) ≡ true
    fine_all e p l =
        fine_is p l
        ∙ both_i (ltb (s (group p)) 8) (every (s (group p)) (has_group s))
        (lt-ltb (s (group p)) 8 (low p l))
        (every_intro (s (group p)) (has_group s)
        (λ g k. sym (exact g) ∙ down e (s (group p)) g k (exact (s (group p)) ∙ cells_of (s (group p))
        ∙ some_i n (λ q. eqb (s (group q)) (s (group p))) p l (eq-eqb (s (group p)) (s (group p)) refl))))

  low_of : eqb (any / 2 ^ 3) 0 ≡ true → (p : ℕ) → p < n → s (group p) < 8
  low_of e p l =
      let z : s (group p) / 8 ≡ 0 =
      eqb-true (s (group p) / 2 ^ 3) 0
      (every_true n (λ q. eqb (s (group q) / 2 ^ 3) 0) (sym h.high ∙ e) p l) in
      omega arith

  -- where every group is fine
  module _ (f : (p : ℕ) → p < n → fine s (group p) ≡ true) where
    parts : (p : ℕ) → p < n → (ltb (s (group p)) 8 && every (s (group p)) (has_group s)) ≡ true
    parts p l = sym (fine_is p l) ∙ f p l

    low_fine : (p : ℕ) → p < n → s (group p) < 8
    low_fine p l =
        ltb-true (s (group p)) 8
        (both_l (ltb (s (group p)) 8) (every (s (group p)) (has_group s)) (parts p l))

    any_fine : eqb (any / 2 ^ 3) 0 ≡ true
    any_fine =
        h.high
        ∙ every_intro n (λ p. eqb (s (group p) / 2 ^ 3) 0)
        (λ p l. eq-eqb (s (group p) / 2 ^ 3) 0 (let z = low_fine p l in omega arith))

    closed : bit_and (set / 2 ^ 1) set ≡ set / 2 ^ 1
    closed = subset_i 16 (set / 2 ^ 1) set (omega arith) (λ g _ p. at g (sym (above_bit g) ∙ p))
      where
        at : (g : ℕ) → bit set (suc g) ≡ true → bit set g ≡ true
        at g p =
            let z = some_e n (λ q. eqb (s (group q)) (suc g)) (sym (exact low_fine (suc g) ∙ cells_of (suc g))
            ∙ p) in
            let e : s (group z.0) ≡ suc g = eqb-true (s (group z.0)) (suc g) z.2 in
            exact low_fine g
            ∙ every_true (s (group z.0)) (has_group s)
            (both_r (ltb (s (group z.0)) 8) (every (s (group z.0)) (has_group s))
            (parts z.0 z.1)) g
            (omega arith)

  pub group_test : (good : Bool) → (eqb (any / 2 ^ 3) 0 && eqb (bit_and (set / 2 ^ 1) set) (set / 2 ^ 1)) ≡ good
      → GroupTest s n (cond good (Some set) None)
  group_test good q = record {
    is_good = some_if good ∙ sym q ∙ same (eqb (any / 2 ^ 3) 0 && eqb (bit_and (set / 2 ^ 1) set) (set / 2 ^ 1))
        (every n (λ p. fine s (group p)))
        (λ e. every_intro n (λ p. fine s (group p)) (fine_all (low_of (first e)) (second e)))
        (λ e. let f : (p : ℕ) → p < n → fine s (group p) ≡ true = every_true n (λ p. fine s (group p)) e in
        both_i (eqb (any / 2 ^ 3) 0) (eqb (bit_and (set / 2 ^ 1) set) (set / 2 ^ 1)) (any_fine f)
        (eq-eqb (bit_and (set / 2 ^ 1) set) (set / 2 ^ 1) (closed f)));
    exist = λ x e g. let z = cond_some good set x e in ap (λ (y : ℕ). bit y g) (sym z.1) ∙ exact (low_of (first (q ∙ z.0))) g;
  }
    where
      some_if : (b : Bool) → is_some (cond b (Some set) None) ≡ b
      some_if true = refl
      some_if false = refl

      first : (eqb (any / 2 ^ 3) 0 && eqb (bit_and (set / 2 ^ 1) set) (set / 2 ^ 1)) ≡ true
          → eqb (any / 2 ^ 3) 0 ≡ true
      first e = both_l (eqb (any / 2 ^ 3) 0) (eqb (bit_and (set / 2 ^ 1) set) (set / 2 ^ 1)) e

      second : (eqb (any / 2 ^ 3) 0 && eqb (bit_and (set / 2 ^ 1) set) (set / 2 ^ 1)) ≡ true
          → bit_and (set / 2 ^ 1) set ≡ set / 2 ^ 1
      second e =
          eqb-true (bit_and (set / 2 ^ 1) set) (set / 2 ^ 1)
          (both_r (eqb (any / 2 ^ 3) 0) (eqb (bit_and (set / 2 ^ 1) set) (set / 2 ^ 1)) e)
