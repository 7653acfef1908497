-- What the test of the processes leaves of an index: the messages of each FIFO log, and the places of it whose message is
-- not in the causal log. Assumes nothing.
use Rattle.std.specs.Prelude.{◌≡◌, refl, Bool, true, false, not, Option, Some, None, is_some, List, ◌⊎◌, ℕ, ◌+◌, ◌*◌, ◌≤◌, ◌<◌, ltb, length, get_or, set}
use Rattle.std.proofs.Common.{sym, ap, ap₂, ◌∙◌, subst, inl, inr, arith, length-set, get_or-set_same, get_or-set_other, lt-ltb, le-ltb}
use Rattle.std.proofs.Math.Decide.{ℕ_discrete}
use Rattle.std.proofs.lemmas.Option.{same_Some}
use Rattle.definitions.specs.General.{in_at, absent, bit}
use Rattle.definitions.specs.World.{State, fifo_length, causal_length, fifo, causal}
use Rattle.base.specs.Tests.{both, clash, le_or_lt}
use Rattle.base.specs.Count.{in_absent}
use Rattle.base.specs.Bits.{bit_zero}
use Rattle.sets.specs.Lowest.{Has}
use Rattle.sets.specs.Members.{Members, item_of}
use Rattle.sets.specs.Powers.{Low}
use Rattle.regions.specs.Runs.{fine_run}
use Rattle.blocks.specs.declared.Standing.{Standing}

-- Place i is one of the log, and its item is not in the set.
abbrev pub outside : List ℕ → ℕ → ℕ → Bool
outside log set i = both (ltb i (length log)) (not (bit set (item_of log i)))

-- m is in the FIFO log of p; place i of that log is open.
abbrev pub in_log : State → ℕ → ℕ → Bool
in_log s p m = not (absent (s (fifo_length p)) m (λ i. s (fifo p i)))

abbrev pub open_place : State → ℕ → ℕ → Bool
open_place s p i = both (ltb i (s (fifo_length p))) (absent (s (causal_length p)) (s (fifo p i)) (λ j. s (causal p j)))

-- There are sets exactly if the block of p is fine; they are these two.
pub record Stands (s : State) (p : ℕ) (r : Option Standing) : Type 0 where
  pub is_good : is_some r ≡ fine_run s (3 + p * 429) 429
  pub listed : (x : Standing) → r ≡ Some x → Has x.fifo (in_log s p)
  pub opened : (x : Standing) → r ≡ Some x → Has x.waiting (open_place s p)

-- The numbers x after those of the first n processes were stored, where all may stand; those before were x₀.
pub record Rows (s : State) (n : ℕ) (good : Bool) (x₀ x : List ℕ) : Type 0 where
  pub long : length x ≡ 112
  pub before : (j : ℕ) → j < 80 → get_or x j 0 ≡ get_or x₀ j 0
  pub listed_past : (p : ℕ) → n ≤ p → p < 16 → get_or x (80 + p) 0 ≡ get_or x₀ (80 + p) 0
  pub opened_past : (p : ℕ) → n ≤ p → p < 16 → get_or x (96 + p) 0 ≡ get_or x₀ (96 + p) 0
  pub listed : good ≡ true → (p : ℕ) → p < n → Has (get_or x (80 + p) 0) (in_log s p)
  pub opened : good ≡ true → (p : ℕ) → p < n → Has (get_or x (96 + p) 0) (open_place s p)

-- ---- no place is outside the set of the items themselves
pub none_outside : (log : List ℕ) (set : ℕ) → Low log → Members set (length log) (item_of log) → Has 0 (outside log set)
none_outside log set low h i l = bit_zero i ∙ sym (go (le_or_lt (length log) i))
  where
    go : (length log ≤ i) ⊎ (i < length log) → outside log set i ≡ false
    go (inl k) = ap (λ (b : Bool). both b (not (bit set (item_of log i)))) (le-ltb i (length log) k)
    go (inr k) =
        ap₂ (λ (a b : Bool). both a (not b)) (lt-ltb i (length log) k)
        (h (item_of log i) (low i k) ∙ ap not (in_absent {f = item_of log} (in_at i k refl)))

-- ---- the places of a log outside the set of another are open
pub open_law : (s : State) (p waiting causals : ℕ) (log : List ℕ) → length log ≡ s (fifo_length p)
    → ((i : ℕ) → i < length log → item_of log i ≡ s (fifo p i)) → Low log
    → Members causals (s (causal_length p)) (λ j. s (causal p j))
    → Has waiting (outside log causals) → Has waiting (open_place s p)
open_law s p waiting causals log ef el low h o i l = o i l ∙ go (le_or_lt (length log) i)
  where
    f : ℕ
    f = length log

    double : (b : Bool) → not (not b) ≡ b
    double true = refl
    double false = refl

    same_first : (b : Bool) → both (ltb i f) b ≡ both (ltb i (s (fifo_length p))) b
    same_first b = ap (λ (n : ℕ). both (ltb i n) b) ef

    none : (b c : Bool) → ltb i f ≡ false → both (ltb i f) b ≡ both (ltb i f) c
    none b c q = ap (λ (x : Bool). both x b) q ∙ sym (ap (λ (x : Bool). both x c) q)

    go : (f ≤ i) ⊎ (i < f) → outside log causals i ≡ open_place s p i
    go (inl k) =
        none (not (bit causals (item_of log i))) (absent (s (causal_length p)) (s (fifo p i)) (λ j. s (causal p j)))
        (le-ltb i f k)
        ∙ same_first (absent (s (causal_length p)) (s (fifo p i)) (λ j. s (causal p j)))
    go (inr k) =
        ap (both (ltb i f)) (ap not (h (item_of log i) (low i k))
        ∙ double (absent (s (causal_length p)) (item_of log i) (λ j. s (causal p j)))
        ∙ ap (λ (m : ℕ). absent (s (causal_length p)) m (λ j. s (causal p j))) (el i k))
        ∙ same_first (absent (s (causal_length p)) (s (fifo p i)) (λ j. s (causal p j)))

-- ---- a block that may not stand, and one that may
pub stands_not : (s : State) (p : ℕ) → false ≡ fine_run s (3 + p * 429) 429 → Stands s p None
stands_not s p e = record {
  is_good = e;
  listed = λ x q. cc;
  opened = λ x q. cc;
}

pub stands_so : (s : State) (p : ℕ) (x : Standing) → true ≡ fine_run s (3 + p * 429) 429 → Has x.fifo (in_log s p)
    → Has x.waiting (open_place s p) → Stands s p (Some x)
stands_so s p x e a b = record {
  is_good = e;
  listed = λ y q. subst (λ (z : Standing). Has z.fifo (in_log s p)) (same_Some x y q) a;
  opened = λ y q. subst (λ (z : Standing). Has z.waiting (open_place s p)) (same_Some x y q) b;
}

-- ---- the loop over the processes: none yet, one more, one whose block may not stand
pub rows_none : (s : State) (x : List ℕ) → length x ≡ 112 → Rows s 0 true x x
rows_none s x l = record {
  long = l;
  before = λ j k. refl;
  listed_past = λ p _ k. refl;
  opened_past = λ p _ k. refl;
  listed = λ e p k. absurd (omega arith);
  opened = λ e p k. absurd (omega arith);
}

pub rows_more : (s : State) (p : ℕ) (x₀ x : List ℕ) (fifos waiting : ℕ) → p < 16
    → Has fifos (in_log s p) → Has waiting (open_place s p) → Rows s p true x₀ x
    → Rows s (p + 1) true x₀ (set (set x (80 + p) fifos) (96 + p) waiting)
rows_more s p x₀ x fifos waiting hp a b h = record {
  long = simp (length-set, length-set) h.long;
  before = λ j k. other j (λ e. omega arith) (λ e. omega arith) ∙ h.before j k;
  listed_past = λ q l k. other (80 + q) (λ e. omega arith) (λ e. omega arith) ∙ h.listed_past q (omega arith) k;
  opened_past = λ q l k. other (96 + q) (λ e. omega arith) (λ e. omega arith) ∙ h.opened_past q (omega arith) k;
  listed = λ _ q l. first q l (ℕ_discrete q p);
  opened = λ _ q l. second q l (ℕ_discrete q p);
}
  where
    one : List ℕ
    one = set x (80 + p) fifos

    two : List ℕ
    two = set (set x (80 + p) fifos) (96 + p) waiting

    other : (j : ℕ) → (j ≡ 80 + p → ⊥) → (j ≡ 96 + p → ⊥) → get_or two j 0 ≡ get_or x j 0
    other j a b = get_or-set_other one (96 + p) j waiting 0 b ∙ get_or-set_other x (80 + p) j fifos 0 a

    at_first : get_or two (80 + p) 0 ≡ fifos
    at_first =
        get_or-set_other one (96 + p) (80 + p) waiting 0 (λ e. omega arith)
        ∙ get_or-set_same x (80 + p) fifos 0 (let z = h.long in omega arith)

    at_second : get_or two (96 + p) 0 ≡ waiting
    at_second = get_or-set_same one (96 + p) waiting 0 (simp length-set (let z = h.long in omega arith))

    first : (q : ℕ) → q < p + 1 → Dec (q ≡ p) → Has (get_or two (80 + q) 0) (in_log s q)
    first q l (yes d) =
        subst (λ (y : ℕ). Has (get_or two (80 + y) 0) (in_log s y)) (sym d)
        (subst (λ (y : ℕ). Has y (in_log s p)) (sym at_first) a)
    first q l (no d) =
        subst (λ (y : ℕ). Has y (in_log s q)) (sym (other (80 + q) (λ z. d (omega arith)) (λ z. omega arith)))
        (h.listed refl q (omega arith))

    second : (q : ℕ) → q < p + 1 → Dec (q ≡ p) → Has (get_or two (96 + q) 0) (open_place s q)
    second q l (yes d) =
        subst (λ (y : ℕ). Has (get_or two (96 + y) 0) (open_place s y)) (sym d)
        (subst (λ (y : ℕ). Has y (open_place s p)) (sym at_second) b)
    second q l (no d) =
        subst (λ (y : ℕ). Has y (open_place s q)) (sym (other (96 + q) (λ z. omega arith) (λ z. d (omega arith))))
        (h.opened refl q (omega arith))

pub rows_not : (s : State) (p n : ℕ) (x₀ x : List ℕ) → p ≤ n → Rows s p true x₀ x → Rows s n false x₀ x
rows_not s p n x₀ x l h = record {
  long = h.long;
  before = h.before;
  listed_past = λ q a b. h.listed_past q (omega arith) b;
  opened_past = λ q a b. h.opened_past q (omega arith) b;
  listed = λ e. clash {b = false} e refl;
  opened = λ e. clash {b = false} e refl;
}
