-- What `awaits` says of the chain of two links of specs/Examples. Assumes nothing.
use Rattle.std.specs.Prelude.{◌≡◌, ℕ, ◌<◌, length}
use Rattle.std.proofs.Math.Path.{sym, ap}
use Rattle.std.proofs.Common.{◌∙◌, arith}
use mathlib.Core.List.{List}
use Rattle.definitions.specs.General.{gives, reply}
use Rattle.definitions.specs.World.{view}
use Rattle.definitions.specs.Machine.{message_of, awaited}
use Rattle.definitions.specs.History.{run}
use Rattle.definitions.specs.Words.{awaited_reply, on_words, started_words}
use Rattle.definitions.specs.Awaits.{Named, Chain}
use Rattle.carried.specs.Same.{awaited_agree}
use Rattle.carried.specs.Calls.{view_agree}
use Rattle.carried.specs.Carried.{words_after}
use Rattle.awaits.proofs.Theorem.{awaits}
use Rattle.awaits.specs.Examples.{four, linked, end, computed, sound_end, made_taken, linked_waits}

-- as a caller has it, over any lent words
module _ (w : List ℕ) (long : length w ≡ 20480) where
  pub linked_named : Named (run on_words (started_words w four) linked) 2 4
  linked_named = awaits.named w four linked (made_taken w long) 2 4 (linked_waits w long)

  pub linked_answer : awaited_reply (run on_words (started_words w four) linked).now 2 4 ≡ gives (message_of 1 2)
  unfolding awaited_reply
  linked_answer =
      let now = (run on_words (started_words w four) linked).now in
      ap (λ (n : ℕ). reply n (awaited (view now) 2 4)) ((awaits.answered now 2 4).1 (linked_waits w long))
      ∙ ap gives (ap (λ (u : List ℕ). awaited (view u) 2 4) (words_after w four (made_taken w long) linked)
      ∙ sym (awaited_agree (view_agree end sound_end) 2 (omega arith) 4 (omega arith)) ∙ computed.5)

  pub linked_chain : (xs : List ℕ) × Chain (run on_words (started_words w four) linked) 2 4 xs × (length xs < 64)
  linked_chain = awaits.chain w four linked (made_taken w long) 2 4 (linked_waits w long)
