-- Two rows of words compared, and why one pass over 16 entries serves for any number n of processes: entries from n on
-- are let through, and past the end of both rows none falls short. Assumes nothing.
use Rattle.std.specs.Prelude.{◌≡◌, Bool, true, List, ◌⊎◌, ℕ, ◌≤◌, ◌<◌, eqb, leb, length, get_or}
use Rattle.std.proofs.Common.{ap₂, ◌∙◌, inl, inr, arith, le-leb}
use Rattle.std.proofs.Math.ListN.{get_or-eq_default}
use Rattle.std.proofs.lemmas.Bool.{lt-leb}
use Rattle.definitions.specs.General.{every}
use Rattle.definitions.specs.Machine.{at_most_del}
use Rattle.base.specs.Tests.{either, either_e, either_l, either_r, clash, same, le_or_lt}
use Rattle.base.specs.Search.{every_true, every_intro}

-- Entry q of counters and del that are rows of words.
abbrev pub rows_at_most : ℕ → List ℕ → List ℕ → ℕ → Bool
rows_at_most own c d = at_most_del own (λ q. get_or c q 0) (λ q. get_or d q 0)

-- The test of entry q in the pass.
abbrev pub let_through : ℕ → (ℕ → Bool) → ℕ → Bool
let_through n f q = either (leb n q) (f q)

every_below : (n k : ℕ) (f : ℕ → Bool) → ((q : ℕ) → k ≤ q → f q ≡ true) → every k (let_through n f) ≡ every n f
every_below n k f past =
    same (every k (let_through n f)) (every n f)
    (λ e. every_intro n f (λ q l. below e q l (le_or_lt k q)))
    (λ e. every_intro k (let_through n f) (λ q _. passes e q (le_or_lt n q)))
  where
    below : every k (let_through n f) ≡ true → (q : ℕ) → q < n → (k ≤ q) ⊎ (q < k) → f q ≡ true
    below e q l (inl h) = past q h
    below e q l (inr h) = which (either_e (leb n q) (f q) (every_true k (let_through n f) e q h))
      where
        which : (leb n q ≡ true) ⊎ (f q ≡ true) → f q ≡ true
        which (inl a) = clash a (lt-leb n q l)
        which (inr a) = a

    passes : every n f ≡ true → (q : ℕ) → (n ≤ q) ⊎ (q < n) → let_through n f q ≡ true
    passes e q (inl h) = either_l (leb n q) (f q) (le-leb n q h)
    passes e q (inr h) = either_r (leb n q) (f q) (every_true n f e q h)

-- Two rows of k words: past their end both read 0.
pub rows_below : (n k own : ℕ) (c d : List ℕ) → length c ≡ k → length d ≡ k
    → every k (let_through n (rows_at_most own c d)) ≡ every n (rows_at_most own c d)
rows_below n k own c d lc ld =
    every_below n k (rows_at_most own c d)
    (λ q h. either_r (eqb q own) (leb (get_or c q 0) (get_or d q 0))
    (ap₂ leb (get_or-eq_default c 0 (omega arith)) (get_or-eq_default d 0 (omega arith)) ∙ le-leb 0 0 (omega arith)))
