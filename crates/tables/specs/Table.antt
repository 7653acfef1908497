-- Tables of counters. Assumes nothing.
use Rattle.std.specs.Prelude.{List, [], ◌∷◌, ◌++◌, ℕ, zero, suc, max, take, drop}

-- two lists joined entry by entry
unfoldable pub zip : {A : Type 0} → (A → A → A) → List A → List A → List A
zip f [] ys = []
zip f (x ∷ xs) [] = []
zip f (x ∷ xs) (y ∷ ys) = f x y ∷ zip f xs ys

unfoldable pub max_row : List ℕ → List ℕ → List ℕ
max_row a b = zip max a b

unfoldable pub max_table : List (List ℕ) → List (List ℕ) → List (List ℕ)
max_table a b = zip max_row a b

-- w cut into n rows of k
unfoldable pub table_at : ℕ → ℕ → List ℕ → List (List ℕ)
table_at zero k w = []
table_at (suc n) k w = take k w ∷ table_at n k (drop k w)

-- the rows one after the other
unfoldable pub concat : List (List ℕ) → List ℕ
concat [] = []
concat (r ∷ rs) = r ++ concat rs
