-- What `came_first` says of the run of specs/Examples. Assumes nothing.
use Rattle.std.specs.Prelude.{◌≡◌, refl, List, [], ◌∷◌, ℕ, ◌<◌, length, get_or}
use Rattle.std.proofs.Common.{ap, arith}
use Rattle.definitions.specs.History.{Before, Run, run}
use Rattle.definitions.specs.Words.{first_of, second_of, on_words, started_words}
use Rattle.definitions.specs.CameFirst.{Says}
use Rattle.world.specs.Items.{three}
use Rattle.came_first.specs.Examples.{items, pairs, made_taken, now_is, taken, bytes_are}
use Rattle.came_first.proofs.Theorem.{came_first}

-- as a caller has it, over any lent words and any four answers
module _ (w answers : List ℕ) (long : length w ≡ 20480) (four : length answers ≡ 4) where
  abbrev r : Run (List ℕ)
  r = run on_words (started_words w three) items

  -- so by the theorem
  said : (i : ℕ) → i < 4
      → Says r.now (first_of pairs i) (second_of pairs i) (get_or (1 ∷ 0 ∷ 0 ∷ 0 ∷ []) i 0)
  said i l = record {
    pairs = pairs;
    answers = answers;
    allowed = rw (now_is w answers long four) (taken w answers long four);
    place = i;
    inside = omega (arith, four);
    first = refl;
    second = refl;
    byte = ap (λ (bytes : List ℕ). get_or bytes i 0) (bytes_are w answers long four);
  }

  pub two_after_zero : Before r.seen 0 2
  two_after_zero = ((came_first.reached w three items (made_taken w answers long four)).exact 0 2 1 (said 0 (omega arith))).0 refl

  pub three_not_after_two : ¬ Before r.seen 2 3
  three_not_after_two b =
      omega (arith, ((came_first.reached w three items (made_taken w answers long four)).exact 2 3 0 (said 2 (omega arith))).1 b)
