-- A log by its set: its items are distinct exactly if the set has as many members; and what one pass gathers. Assumes
-- nothing.
use Rattle.std.specs.Prelude.{◌≡◌, refl, Bool, true, false, not, ◌&&◌, ◌||◌, List, ℕ, zero, suc, ◌+◌, ◌^◌, ◌<◌, eqb}
use Rattle.std.proofs.Math.Path.{sym, ap₂}
use Rattle.std.proofs.Common.{ap, ◌∙◌, subst, arith, add-one, get_or-set_same, get_or-set_other, eq-eqb, ne_eqb, eqb-true}
use Rattle.std.proofs.Math.Decide.{ℕ_discrete}
use Rattle.std.specs.Int.Bits.{bit_and, bit_or}
use lib.ListN.{length, get_or, set}
use Rattle.definitions.specs.General.{pick, every, tally, in_at, absent, bit}
use Rattle.base.specs.Tests.{both, clash, same, and_swap, or_false}
use Rattle.base.specs.Search.{every_true, every_intro, every_next, every_cong}
use Rattle.base.specs.Count.{tally_le, tally_zero, tally_cong, tally_falls, absent_in, in_absent}
use Rattle.base.specs.Bits.{bit_of_and}
use Rattle.base.specs.Sets.{subset_e, subset_i}
use Rattle.ranges.specs.Laws.{every_both}
use Rattle.sets.specs.Members.{Members, members_none, members_cong}
use Rattle.sets.specs.Powers.{Powers, members_or}
use Rattle.logtest.specs.Log.{Passed, item_ok}

-- ---- the pass: none yet, one item more
tally_next : (f : ℕ → Bool) (i : ℕ) (b : Bool) → f i ≡ b → tally (i + 1) f ≡ pick b (suc (tally i f)) (tally i f)
unfolding tally
tally_next f i b e =
    ap (λ (n : ℕ). tally n f) (add-one i) ∙ ap (λ (x : Bool). pick x (suc (tally i f)) (tally i f)) e

ones : every 16 (bit 65535) ≡ true
unfolding every bit
ones = refl

pub passed_none : (log : ℕ → ℕ) (to from counts : List ℕ) → length counts ≡ 16
    → ((q : ℕ) → q < 16 → get_or counts q 0 ≡ 0) → Passed log 0 to from 0 65535 counts
unfolding tally every
passed_none log to from counts l h = record {
  members = members_none log;
  common = λ p k. every_true 16 (bit 65535) ones p k;
  long = l;
  counted = h;
}

-- the same of as many items that are the same
pub passed_cong : (f g : ℕ → ℕ) (n n' : ℕ) {to from counts : List ℕ} {set all : ℕ} → n ≡ n' → ((i : ℕ) → i < n' → f i ≡ g i)
    → Passed f n to from set all counts → Passed g n' to from set all counts
passed_cong f g n n' {to} {from} {counts} {set} e s h = record {
  members = members_cong set n n' f g e s h.members;
  common = λ p k. h.common p k
      ∙ every_cong n (λ i. bit (get_or to (f i) 0) p) (λ i. bit (get_or to (g i) 0) p)
      (λ i l. ap (λ (x : ℕ). bit (get_or to x 0) p) (s i (omega arith)))
      ∙ ap (λ (x : ℕ). every x (λ i. bit (get_or to (g i) 0) p)) e;
  long = h.long;
  counted = λ q k. h.counted q k
      ∙ tally_cong n (λ i. eqb (get_or from (f i) 0) q) (λ i. eqb (get_or from (g i) 0) q)
      (λ i l. ap (λ (x : ℕ). eqb (get_or from x 0) q) (s i (omega arith)))
      ∙ ap (λ (x : ℕ). tally x (λ i. eqb (get_or from (g i) 0) q)) e;
}

pub passed_more : (log : ℕ → ℕ) (i : ℕ) (to from bits : List ℕ) (set all : ℕ) (t t' : List ℕ) (m q v : ℕ) → Powers bits
    → m ≡ log i → m < 64 → q ≡ get_or from m 0 → q < 16 → v ≡ get_or t q 0 + 1 → t' ≡ lib.ListN.set t q v → length t' ≡ 16
    → Passed log i to from set all t
    → Passed log (i + 1) to from (bit_or set (get_or bits m 0)) (bit_and all (get_or to m 0)) t'
passed_more log i to from bits set all t t' m q v pw em hm eq hq ev et l h = record {
  members = members_or set i m log bits pw h.members em hm;
  common = λ p k. bit_of_and all (get_or to m 0) p
      ∙ ap₂ both (h.common p k) (ap (λ (x : ℕ). bit (get_or to x 0) p) em)
      ∙ and_swap (every i (λ j. bit (get_or to (log j) 0) p)) (bit (get_or to (log i) 0) p)
      ∙ sym (every_next (λ j. bit (get_or to (log j) 0) p) i);
  long = l;
  counted = λ x k. ap (λ (y : List ℕ). get_or y x 0) et ∙ go x k (ℕ_discrete q x);
}
  where
    f : ℕ → ℕ → Bool
    f x j = eqb (get_or from (log j) 0) x

    is : q ≡ get_or from (log i) 0
    is = eq ∙ ap (λ (x : ℕ). get_or from x 0) em

    go : (x : ℕ) → x < 16 → Dec (q ≡ x) → get_or (lib.ListN.set t q v) x 0 ≡ tally (i + 1) (f x)
    go x k (yes e) =
        let z = h.counted q hq in
        let y : get_or t q 0 + 1 ≡ suc (tally i (λ j. eqb (get_or from (log j) 0) q)) = omega arith in
        subst (λ (y : ℕ). get_or (lib.ListN.set t q v) y 0 ≡ tally (i + 1) (f y)) e
        (get_or-set_same t q v 0 (let z = h.long in omega arith) ∙ ev ∙ y
        ∙ sym (tally_next (f q) i true (eq-eqb (get_or from (log i) 0) q (sym is))))
    go x k (no e) =
        get_or-set_other t q x v 0 (λ z. e (sym z)) ∙ h.counted x k
        ∙ sym (tally_next (f x) i false (ne_eqb (get_or from (log i) 0) x (λ z. e (is ∙ z))))

-- ---- as many members as items
-- one more than before passes
tally_add : (n : ℕ) (f g : ℕ → Bool) (v : ℕ) → v < n → ((i : ℕ) → i < n → g i ≡ (f i || eqb v i)) → f v ≡ false
    → tally n g ≡ suc (tally n f)
unfolding tally
tally_add zero f g v l h e = absurd (omega arith)
tally_add (suc n) f g v l h e = go (ℕ_discrete v n) (λ k. tally_add n f g v k (λ i j. h i (omega arith)) e)
  where
    last : (b : Bool) (t : ℕ) → pick b (suc (suc t)) (suc t) ≡ suc (pick b (suc t) t)
    last true t = refl
    last false t = refl

    go : Dec (v ≡ n) → (v < n → tally n g ≡ suc (tally n f)) → tally (suc n) g ≡ suc (tally (suc n) f)
    go (yes d) ih =
        let fn : f n ≡ false = ap f (sym d) ∙ e in
        let gn : g n ≡ true = h n (omega arith) ∙ ap₂ ◌||◌ fn (eq-eqb v n d) in
        let same_below : tally n g ≡ tally n f =
        tally_cong n g f (λ i k. h i (omega arith)
        ∙ ap (λ (b : Bool). f i || b) (ne_eqb v i (λ z. omega arith)) ∙ or_false (f i)) in
        rw (gn, fn) (ap suc same_below)
    go (no d) ih =
        let gn : g n ≡ f n = h n (omega arith) ∙ ap (λ (b : Bool). f n || b) (ne_eqb v n d) ∙ or_false (f n) in
        ap₂ (λ (b : Bool) (t : ℕ). pick b (suc t) t) gn (ih (omega arith)) ∙ last (f n) (tally n f)

-- the different items are those that none before is
different : (k n : ℕ) (log : ℕ → ℕ) → ((i : ℕ) → i < n → log i < k)
    → tally k (λ m. not (absent n m log)) ≡ tally n (λ i. absent i (log i) log)
unfolding tally absent every
different k zero log low = tally_zero k (λ m. not (absent 0 m log)) (λ i _. refl)
different k (suc n) log low = go (absent n (log n) log) refl (different k n log (λ i l. low i (omega arith)))
  where
    f : ℕ → Bool
    f m = not (absent n m log)

    g : ℕ → Bool
    g m = not (absent (suc n) m log)

    grown : (m : ℕ) → g m ≡ (f m || eqb (log n) m)
    grown m = at (eqb (log n) m) (absent n m log)
      where
        at : (a b : Bool) → not (elim (not a) [ true ↦ b | false ↦ false ]) ≡ (not b || a)
        at true true = refl
        at true false = refl
        at false true = refl
        at false false = refl

    go : (b : Bool) → absent n (log n) log ≡ b → tally k f ≡ tally n (λ i. absent i (log i) log)
        → tally k g ≡ pick b (suc (tally n (λ i. absent i (log i) log))) (tally n (λ i. absent i (log i) log))
    go true e ih = tally_add k f g (log n) (low n (omega arith)) (λ i _. grown i) (ap not e) ∙ ap suc ih
    go false e ih = tally_cong k g f (λ i _. grown i ∙ at i (ℕ_discrete (log n) i)) ∙ ih
      where
        or_yes : (a : Bool) → a ≡ true → (a || true) ≡ a
        or_yes true q = refl
        or_yes false q = clash {b = false} q refl

        at : (i : ℕ) → Dec (log n ≡ i) → (f i || eqb (log n) i) ≡ f i
        at i (yes d) =
            ap (λ (b : Bool). f i || b) (eq-eqb (log n) i d)
            ∙ or_yes (f i) (ap not (ap (λ (m : ℕ). absent n m log) (sym d) ∙ e))
        at i (no d) = ap (λ (b : Bool). f i || b) (ne_eqb (log n) i d) ∙ or_false (f i)

-- all pass exactly if n do
tally_all : (n : ℕ) (f : ℕ → Bool) → ((i : ℕ) → i < n → f i ≡ true) → tally n f ≡ n
unfolding tally
tally_all zero f h = refl
tally_all (suc n) f h = rw (h n (omega arith)) (ap suc (tally_all n f (λ i l. h i (omega arith))))

tally_full : (n : ℕ) (f : ℕ → Bool) → eqb (tally n f) n ≡ every n f
tally_full n f =
    same (eqb (tally n f) n) (every n f)
    (λ e. every_intro n f (λ i l. at i l (eqb-true (tally n f) n e) (f i) refl))
    (λ e. eq-eqb (tally n f) n (tally_all n f (every_true n f e)))
  where
    at : (i : ℕ) → i < n → tally n f ≡ n → (b : Bool) → f i ≡ b → f i ≡ true
    at i l e true q = q
    at i l e false q =
        let z = tally_falls n (λ _. true) f (λ _ _. refl) i l refl q in
        let y = tally_le n (λ _. true) in
        absurd (omega arith)

module _ (log : ℕ → ℕ) (n set : ℕ) (low : (i : ℕ) → i < n → log i < 64) (h : Members set n log) where
  distinct : eqb (tally 64 (bit set)) n ≡ every n (λ i. absent i (log i) log)
  distinct =
      ap (λ (x : ℕ). eqb x n) (tally_cong 64 (bit set) (λ m. not (absent n m log)) h ∙ different 64 n log low)
      ∙ tally_full n (λ i. absent i (log i) log)

  -- with a test that every item passes
  pub items_law : (test : ℕ → Bool) (good : Bool) → good ≡ every n (λ i. test (log i))
      → (eqb (tally 64 (bit set)) n && good) ≡ every n (item_ok log test)
  unfolding item_ok
  items_law test good e =
      ap₂ both distinct e ∙ and_swap (every n (λ i. absent i (log i) log)) (every n (λ i. test (log i)))
      ∙ sym (every_both n (λ i. test (log i)) (λ i. absent i (log i) log))

  -- the items are among those of another log exactly if the set is within its set
  pub within_law : (k other : ℕ) (first : ℕ → ℕ) → set < 2 ^ 64 → Members other k first
      → eqb (bit_and set other) set ≡ every n (λ i. not (absent k (log i) first))
  within_law k other first small o =
      same (eqb (bit_and set other) set) (every n (λ i. not (absent k (log i) first)))
      (λ e. every_intro n (λ i. not (absent k (log i) first))
      (λ i l. sym (o (log i) (low i l)) ∙ subset_e set other (eqb-true (bit_and set other) set e) (log i)
      (h (log i) (low i l) ∙ ap not (in_absent {f = log} (in_at i l refl)))))
      (λ e. eq-eqb (bit_and set other) set
      (subset_i 64 set other small (λ x l p. o x l ∙ at e x (absent_in n x log (out (absent n x log) (sym (h x l) ∙ p))))))
    where
      out : (b : Bool) → not b ≡ true → b ≡ false
      out true q = clash {b = false} q refl
      out false q = refl

      at : every n (λ i. not (absent k (log i) first)) ≡ true → (x : ℕ) → Rattle.definitions.specs.General.In n log x
          → not (absent k x first) ≡ true
      at e x (in_at i l d) =
          ap (λ (y : ℕ). not (absent k y first)) (sym d) ∙ every_true n (λ i. not (absent k (log i) first)) e i l
