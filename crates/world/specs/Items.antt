-- Steps as items, and a run that several crates compute examples on: the third known run of document 01, until the message
-- that overtakes another has arrived. Assumes nothing.
use Rattle.std.specs.Prelude.{List, [], ◌∷◌, ℕ}
use Rattle.definitions.specs.History.{Item, given}

-- ---- steps as items
abbrev pub multicasting : ℕ → ℕ → Item
multicasting p groups = given (1 ∷ p ∷ groups ∷ 0 ∷ 0 ∷ 0 ∷ 0 ∷ 0 ∷ [])

abbrev pub arriving : ℕ → ℕ → ℕ → ℕ → Item
arriving k m q p = given (2 ∷ k ∷ m ∷ q ∷ p ∷ 0 ∷ 0 ∷ 0 ∷ [])

-- ---- the third known run: processes 0, 1, 2 in groups 0, 1, 2; 0 multicasts message 0 to group 2 and 1 to group 1; 1
-- delivers it and multicasts 2 to group 2
abbrev pub three : List ℕ
three = 0 ∷ 3 ∷ 136 ∷ 0 ∷ 0 ∷ 0 ∷ 0 ∷ 0 ∷ []

-- until message 2's letters have arrived
abbrev pub until_overtaken : List Item
until_overtaken =
    multicasting 0 4
    ∷ multicasting 0 2
    ∷ arriving 0 1 0 1
    ∷ arriving 2 1 1 1
    ∷ multicasting 1 4
    ∷ arriving 0 2 1 2
    ∷ arriving 2 2 2 2
    ∷ []
