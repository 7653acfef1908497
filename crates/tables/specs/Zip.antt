-- A loop that joins a second list into the first, entry by entry, in place. Assumes nothing.
use Rattle.std.specs.Prelude.{◌≡◌, length, take, drop, get_or, set}
use Rattle.std.proofs.Math.Path.{refl, ap}
use mathlib.Core.List.{List, [], ◌∷◌, ◌++◌}
use Prim.Native.Nat.{ℕ, zero, suc, ◌+◌, ◌≤◌, ◌<◌}
use Rattle.std.proofs.Common.{not-suc-le-zero, le_of_suc-le-suc, add-one}
use Rattle.std.proofs.Math.ListN.{drop_of_length-le}
use Rattle.tables.specs.Table.{zip}

module _ {A : Type 0} (f : A → A → A) (d : A) where
  -- the first i entries joined, the others of a as they were
  abbrev pub part : List A → List A → ℕ → List A
  part a b i = take i (zip f a b) ++ drop i a

  at_suc : (a b : List A) (i : ℕ) → i < length a → i < length b
      → set (part a b i) i (f (get_or (part a b i) i d) (get_or b i d)) ≡ part a b (suc i)
  unfolding zip
  at_suc [] b i h k = absurd (not-suc-le-zero h)
  at_suc (x ∷ a) [] i h k = absurd (not-suc-le-zero k)
  at_suc (x ∷ a) (y ∷ b) zero h k = refl
  at_suc (x ∷ a) (y ∷ b) (suc i) h k =
      ap (λ (l : List A). f x y ∷ l) (at_suc a b i (le_of_suc-le-suc h) (le_of_suc-le-suc k))

  pub joined_more : (a b r : List A) (i : ℕ) → i < length a → i < length b → r ≡ part a b i
      → set r i (f (get_or r i d) (get_or b i d)) ≡ part a b (i + 1)
  joined_more a b r i h k e = rw (e, add-one i) (at_suc a b i h k)

  pub joined_all : (a b : List A) (n : ℕ) → length a ≤ n → part a b n ≡ zip f a b
  unfolding zip
  joined_all [] b zero h = refl
  joined_all [] b (suc n) h = refl
  joined_all (x ∷ a) b zero h = absurd (not-suc-le-zero h)
  joined_all (x ∷ a) [] (suc n) h = drop_of_length-le a (le_of_suc-le-suc h)
  joined_all (x ∷ a) (y ∷ b) (suc n) h =
      ap (λ (l : List A). f x y ∷ l) (joined_all a b n (le_of_suc-le-suc h))
