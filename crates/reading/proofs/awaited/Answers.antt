-- `reading::awaited` meets its contract: 1, 2, 5, 7, then 18, else the answer. Assumes nothing.
use Rattle.std.proofs.Common.{◌≡◌, ◌≤◌, ◌<◌, Bool, sym, ap, ◌∙◌, arith, lt-ltb, le-ltb}
use Rattle.std.proofs.lemmas.Result.{err_from_is_err_and}
use Rattle.definitions.specs.General.{needs}
use Rattle.definitions.specs.World.{size, count, addr, view}
use Rattle.definitions.specs.Words.{awaited_refusal, awaited_reply}
use Rattle.definitions.specs.Answers.{refusal_number}
use Rattle.base.specs.Refusals.{refused_reply}
use Rattle.answers.specs.Laws.{refusal_some}
use Rattle.world.specs.SoundLaws.{count_high}
use Rattle.keeps.specs.Keeps.{SoundWords}
use Rattle.bounds.specs.Bounds.{sound_bounds}
use Rattle.reading.specs.Tested.{present, present_refused, process_inside, not_refused, awaited_after}
use Rattle.reading.proofs.awaited.Goals as goal
use Rattle.reading.proofs.awaited.Goals.{After-waits, Else-word-m, In_ok-words}

-- the world is sound, and the process there
there : (c : In_ok-words) → let a = c.args in
    SoundWords a.w.now × (a.p < view a.w.now size)
there c = present c.args.w.now (addr size) c.args.p 4 (sym c.in_ok-words.ensures.answer)

-- the message is there too
message : (c : Else-word-m) → c.args.m < view c.args.w.now count
message c = rw c.in_ok-words.ensures.words at (rw c.word.ensures at c.if-word-m.false)

-- whether it waits decides
last : (c : After-waits)
    → let a = c.args in
    awaited_refusal a.w.now a.p a.m ≡ needs 18 c.waits.result 0
last c =
    let a = c.args in
    let t = there (goal.at.After-waits c).In_ok-words in
    awaited_after a.w.now a.p a.m t.0 t.1
    ∙ rw (
      lt-ltb a.m (view a.w.now count) (message (goal.at.After-waits c).Else-word-m),
      ← (rw c.in_ok-words.ensures.words at c.waits.ensures),
    )

pub returns-in_err-words : goal.returns-in_err-words
unfolding awaited_reply awaited_refusal
returns-in_err-words c =
    let a = c.args in
    let r = c.in_err-words.field-0.0 in
    let p = err_from_is_err_and c.from_residual.result c.from_residual.ensures.1 in
    rw (p.1, p.2) (refused_reply (refusal_number r) _ _ (refusal_some r)
    (present_refused a.w.now (addr size) a.p 5 _ (refusal_number r) (refusal_some r) c.in_err-words.ensures.answer))

pub returns-then-word-m : goal.returns-then-word-m
unfolding awaited_reply
returns-then-word-m c =
    let a = c.args in
    let t = there (goal.at.returns-then-word-m c).In_ok-words in
    let l : view a.w.now count ≤ a.m = rw c.in_ok-words.ensures.words at (rw c.word.ensures at c.if-word-m.true) in
    refused_reply 7 _ _ (λ e. omega arith)
    (sym (awaited_after a.w.now a.p a.m t.0 t.1 ∙ rw (le-ltb a.m (view a.w.now count) l)))

pub waits-requires : goal.waits-requires
waits-requires c =
    let a = c.args in
    let t = there (goal.at.waits-requires c).In_ok-words in
    rw c.in_ok-words.ensures.words (process_inside a.w.now a.p t.0 t.1, sound_bounds _ t.0.reads)

pub answer-requires : goal.answer-requires
answer-requires c =
    let a = c.args in
    let t = there (goal.at.answer-requires c).In_ok-words in
    rw c.in_ok-words.ensures.words (
      process_inside a.w.now a.p t.0 t.1,
      omega (arith, message (goal.at.answer-requires c).Else-word-m, count_high (view a.w.now) t.0.reads),
      sound_bounds _ t.0.reads,
    )

pub returns-then-waits : goal.returns-then-waits
unfolding awaited_reply
returns-then-waits c =
    not_refused (last (goal.at.returns-then-waits c).After-waits ∙ ap (λ (b : Bool). needs 18 b 0) c.if-waits.true)
    (rw c.in_ok-words.ensures.words at c.answer.ensures)

pub returns : goal.returns
unfolding awaited_reply
returns c =
    refused_reply 18 _ _ (λ e. omega arith)
    (sym (last (goal.at.returns c).After-waits ∙ ap (λ (b : Bool). needs 18 b 0) c.if-waits.false))
