-- `previewing::preview` meets its contract: what the judge says decides. Assumes nothing.
use mathlib.Core.Path.{◌≡◌, ap, ap₂, ◌∙◌}
use mathlib.Core.Bool.{true, false}
use mathlib.Core.List.{List}
use Prim.Native.Nat.{ℕ}
use Rattle.definitions.specs.World.{encode, view}
use Rattle.definitions.specs.Steps.{Step, read, refusal, step}
use Rattle.definitions.specs.Answers.{refusal_number}
use Rattle.definitions.specs.Previews.{step_process}
use Rattle.answers.specs.Laws.{refusal_some}
use Rattle.given.specs.Given.{step_of}
use Rattle.std.proofs.Common.{arith}
use Rattle.std.proofs.lemmas.Result.{err_from_is_err_and}
use Rattle.previewing.specs.Previewed.{Lent, refused, Done, countable, taken}
use Rattle.previewing.proofs.preview.Goals as goal
use Rattle.previewing.proofs.preview.Goals.{After-process-p, Start}

-- what is lent
lent : (c : Start) → Lent c.args.w.now c.args.second.now
lent c = record { world = record { long = omega arith; reads = c.requires.sound }; second_long = omega arith }

-- the step is taken, and is the one that was read
asked : (c : After-process-p)
    → let a = c.args in
    (refusal (view a.w.now) (read a.bytes.now) ≡ 0) × (step_of c.in_ok-g.g ≡ read a.bytes.now)
asked c = c.in_ok-g.ensures

-- it is done on the copy, and its process is known
done : (c : After-process-p)
    → let a = c.args in
    Done a.w.now a.bytes.now a.second.now c.act.new.w c.process-p.result
done c =
    record {
      lent = lent (goal.at.After-process-p c).Start;
      not_refused = (asked c).0;
      leaves = c.act.ensures.words
          ∙ ap₂ (λ (u : List ℕ) (y : Step). encode (step (view u) y)) c.copy.ensures (asked c).1;
      at = c.process-p.ensures ∙ ap step_process (asked c).1;
    }

pub growth-fifo-requires : goal.growth-fifo-requires
growth-fifo-requires c = countable (done (goal.at.growth-fifo-requires c).After-process-p) false

pub growth-causal-requires : goal.growth-causal-requires
growth-causal-requires c = countable (done (goal.at.growth-causal-requires c).After-process-p) true

pub returns-in_err-g-clause-answer : goal.returns-in_err-g-clause-answer
returns-in_err-g-clause-answer c =
    let r = c.in_err-g.field-0.0 in
    let p = err_from_is_err_and c.from_residual.result c.from_residual.ensures.1 in
    rw (p.1, p.2) (refused c.args.w.now c.args.bytes.now c.args.second.now
    (lent (goal.at.returns-in_err-g-clause-answer c).Start) (refusal_number r) (refusal_some r) c.in_err-g.ensures).0

pub returns-in_err-g-clause-words : goal.returns-in_err-g-clause-words
returns-in_err-g-clause-words c =
    let r = c.in_err-g.field-0.0 in
    (refused c.args.w.now c.args.bytes.now c.args.second.now (lent (goal.at.returns-in_err-g-clause-words c).Start)
    (refusal_number r) (refusal_some r) c.in_err-g.ensures).1

pub returns-clause-answer : goal.returns-clause-answer
returns-clause-answer c =
    (taken (done (goal.at.returns-clause-answer c).After-process-p) c.growth-fifo.ensures c.growth-causal.ensures).0

pub returns-clause-words : goal.returns-clause-words
returns-clause-words c =
    (taken (done (goal.at.returns-clause-words c).After-process-p) c.growth-fifo.ensures c.growth-causal.ensures).1
