-- `comparing::compare` meets its contract: the bytes are written where all words name messages. Assumes nothing.
use mathlib.Core.Path.{◌≡◌, ◌∙◌}
use Prim.Native.Nat.{ℕ}
use Rattle.std.proofs.lemmas.Result.{err_from_is_err_and}
use Rattle.std.specs.Prelude.{List}
use lib.ListN.{length}
use Rattle.definitions.specs.General.{needs, gives, reply}
use Rattle.definitions.specs.World.{State, view}
use Rattle.definitions.specs.Words.{all_named, different}
use Rattle.definitions.specs.Answers.{refusal_number}
use Rattle.base.specs.Refusals.{needs_none, reply_gives, reply_refuses}
use Rattle.world.specs.Pairs.{two_each}
use Rattle.comparing.specs.Pairs.{reply_as, bytes_lent, bytes_all}
use Rattle.comparing.proofs.compare.Goals as goal

-- a number given means that no word was refused
given : (s : State) (pairs : List ℕ) (n : ℕ) → gives n ≡ reply (needs 7 (all_named s pairs) 0) (different s pairs)
    → needs 7 (all_named s pairs) 0 ≡ 0
given s pairs n e = (reply_gives (needs 7 (all_named s pairs) 0) n (different s pairs) e).0

pub answer-requires : goal.answer-requires
answer-requires c =
    let v = view c.args.w.now in (
      c.requires.0,
      (needs_none 6 (all_named v c.args.pairs.now) 0
          (given v c.args.pairs.now c.in_ok-n.n (c.in_ok-n.ensures))).0,
      two_each (length c.args.pairs.now) (length c.args.answers.now) c.requires.1,
    )

pub returns-clause-answer : goal.returns-clause-answer
returns-clause-answer c =
    let a = c.args in
    c.in_ok-n.ensures
    ∙ reply_as a.w.now a.pairs.now a.answers.now c.requires.0 c.requires.1

pub returns-clause-bytes : goal.returns-clause-bytes
returns-clause-bytes c =
    let a = c.args in
    c.answer.ensures
    ∙ bytes_all a.w.now a.pairs.now a.answers.now c.requires.0 c.requires.1
    (given (view a.w.now) a.pairs.now c.in_ok-n.n (c.in_ok-n.ensures))

pub returns-in_err-n-clause-answer : goal.returns-in_err-n-clause-answer
returns-in_err-n-clause-answer c =
    let a = c.args in
    let p = err_from_is_err_and c.from_residual.result c.from_residual.ensures.1 in
    rw (p.1, p.2) (c.in_err-n.ensures ∙ reply_as a.w.now a.pairs.now a.answers.now c.requires.0 c.requires.1)

pub returns-in_err-n-clause-bytes : goal.returns-in_err-n-clause-bytes
returns-in_err-n-clause-bytes c =
    let a = c.args in
    bytes_lent a.w.now a.pairs.now a.answers.now c.requires.0 c.requires.1
    (reply_refuses (refusal_number c.in_err-n.field-0.0) _ _ c.in_err-n.ensures).1
