-- The numbers below 64 that a log lists, as a set. Assumes nothing.
use Rattle.std.specs.Prelude.{◌≡◌, Bool, true, false, not, List, ◌⊎◌, ℕ, ◌+◌, ◌<◌, ◌≤◌, ltb, eqb, get_or}
use Rattle.std.proofs.Common.{sym, ap, ◌∙◌, inl, inr, add-one, arith, eq-eqb, ne_eqb, lt-ltb, le-ltb}
use Rattle.std.proofs.Math.Decide.{ℕ_discrete}
use Rattle.definitions.specs.General.{pick, every, absent, bit, with}
use Rattle.base.specs.Tests.{le_or_lt}
use Rattle.base.specs.Count.{absent_cong}
use Rattle.base.specs.Bits.{bit_zero, with_hit, with_other}

-- The set has the numbers below 64 among the first n items of the log.
abbrev pub Members : ℕ → ℕ → (ℕ → ℕ) → Type 0
Members set n log = (m : ℕ) → m < 64 → bit set m ≡ not (absent n m log)

-- The items of a log that is a list of words.
abbrev pub item_of : List ℕ → ℕ → ℕ
item_of log i = get_or log i 0

pub members_none : (log : ℕ → ℕ) → Members 0 0 log
unfolding absent every
members_none log m l = bit_zero m

pub members_more : (set n x : ℕ) (log : ℕ → ℕ) → Members set n log → x ≡ log n
    → Members (pick (ltb x 64) (with set x) set) (n + 1) log
unfolding absent every
members_more set n x log h e m l = rw (add-one n) (go (ℕ_discrete x m))
  where
    new : ℕ
    new = pick (ltb x 64) (with set x) set

    longer : Bool → Bool
    longer b = elim (not b) as (λ _. Bool) [ true ↦ absent n m log | false ↦ false ]

    go : Dec (x ≡ m) → bit new m ≡ not (longer (eqb (log n) m))
    go (yes d) =
        let low : x < 64 = omega arith in
        ap (λ (b : Bool). bit (pick b (with set x) set) m) (lt-ltb x 64 low) ∙ ap (bit (with set x)) (sym d)
        ∙ with_hit set x ∙ sym (ap (λ (b : Bool). not (longer b)) (eq-eqb (log n) m (sym e ∙ d)))
    go (no d) = kept (le_or_lt 64 x) ∙ h m l ∙ sym (ap (λ (b : Bool). not (longer b)) (ne_eqb (log n) m (λ z. d (e ∙ z))))
      where
        kept : (64 ≤ x) ⊎ (x < 64) → bit new m ≡ bit set m
        kept (inl a) = ap (λ (b : Bool). bit (pick b (with set x) set) m) (le-ltb x 64 a)
        kept (inr a) =
            ap (λ (b : Bool). bit (pick b (with set x) set) m) (lt-ltb x 64 a) ∙ with_other set x m d

-- the same set of as many items that are the same
pub members_cong : (set n n' : ℕ) (f g : ℕ → ℕ) → n ≡ n' → ((i : ℕ) → i < n' → f i ≡ g i) → Members set n f → Members set n' g
members_cong set n n' f g e h k m l = k m l ∙ ap not (absent_cong n n' m f g e (λ i x. h i (omega arith)))
