-- The sets of one number each as a table, and a set with one number more by it. Assumes nothing.
use Rattle.std.specs.Prelude.{◌≡◌, Bool, List, ℕ, ◌+◌, ◌^◌, ◌<◌, length, get_or, set}
use Rattle.std.proofs.Common.{sym, ap, ◌∙◌, subst, arith, get_or-set_same, get_or-set_other, lt-ltb}
use Rattle.std.proofs.Math.Decide.{ℕ_discrete}
use Rattle.std.specs.Int.Bits.{bit_or}
use Rattle.definitions.specs.General.{pick, with}
use Rattle.base.specs.Bits.{or_with}
use Rattle.sets.specs.Members.{Members, members_more}

-- t has, at each i below 64, the set of i alone.
pub record Powers (t : List ℕ) : Type 0 where
  pub long : length t ≡ 64
  pub at : (i : ℕ) → i < 64 → get_or t i 0 ≡ 2 ^ i

-- All words of a log are below 64.
abbrev pub Low : List ℕ → Type 0
Low log = (i : ℕ) → i < length log → get_or log i 0 < 64

-- one number more
pub members_or : (set n x : ℕ) (log : ℕ → ℕ) (t : List ℕ) → Powers t → Members set n log → x ≡ log n → x < 64
    → Members (bit_or set (get_or t x 0)) (n + 1) log
members_or set n x log t h m e l =
    subst (λ (y : ℕ). Members y (n + 1) log)
    (ap (λ (b : Bool). pick b (with set x) set) (lt-ltb x 64 l)
    ∙ sym (ap (bit_or set) (h.at x l) ∙ or_with set x))
    (members_more set n x log m e)

-- a table that is right below i, with one entry more
pub stored_more : (t : List ℕ) (f : ℕ → ℕ) (i v : ℕ) → i < length t → v ≡ f i
    → ((j : ℕ) → j < i → get_or t j 0 ≡ f j) → (j : ℕ) → j < i + 1 → get_or (set t i v) j 0 ≡ f j
stored_more t f i v l e h j k = go (ℕ_discrete j i)
  where
    go : Dec (j ≡ i) → get_or (set t i v) j 0 ≡ f j
    go (yes q) = ap (λ (x : ℕ). get_or (set t i v) x 0) q ∙ get_or-set_same t i v 0 l ∙ e ∙ ap f (sym q)
    go (no q) = get_or-set_other t i j v 0 q ∙ h j (omega arith)
