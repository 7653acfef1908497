-- Pairs of messages that a call takes: two words for each answer, each naming a message; and what the call leaves. Assumes
-- nothing.
use Rattle.std.specs.Prelude.{◌≡◌, true, ◌&&◌, List, ℕ, ◌*◌, ◌/◌, ◌%◌, ◌<◌, leb, eqb, length, get_or}
use Rattle.std.proofs.Common.{arith, ltb-true, eqb-true}
use Rattle.definitions.specs.General.{tabulate}
use Rattle.definitions.specs.World.{count, State, view, is_message}
use Rattle.definitions.specs.Words.{precedes_byte, first_of, second_of, good_lengths, all_named, precedes_refusal, precedes_bytes}
use Rattle.base.specs.Tests.{both_l, both_r}
use Rattle.base.specs.Search.{every_true}

-- two words for each answer
pub two_each : (words bytes : ℕ) → good_lengths words bytes ≡ true → words ≡ bytes * 2
unfolding good_lengths
two_each words bytes g =
    let even = both_l (eqb (words % 2) 0 && leb words 512) (eqb bytes (words / 2)) g in
    omega (
      arith,
      eqb-true (words % 2) 0 (both_l (eqb (words % 2) 0) (leb words 512) even),
      eqb-true bytes (words / 2) (both_r (eqb (words % 2) 0 && leb words 512) (eqb bytes (words / 2)) g),
    )

-- each word names a message
pub named_word : (s : State) (pairs : List ℕ) → all_named s pairs ≡ true → (i : ℕ) → i < length pairs
    → get_or pairs i 0 < s count
unfolding all_named
named_word s pairs named i l =
    ltb-true (get_or pairs i 0) (s count) (every_true (length pairs) (λ j. is_message s (get_or pairs j 0)) named i l)

-- each pair has its byte
pub bytes_left : (w pairs answers : List ℕ) → precedes_refusal w pairs answers ≡ 0
    → precedes_bytes w pairs answers
    ≡ tabulate (length answers) (λ i. precedes_byte (view w) (first_of pairs i) (second_of pairs i))
unfolding precedes_bytes
bytes_left w pairs answers e = rw e
