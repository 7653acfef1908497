-- `stepping::step` meets its contract: what the judge says decides. Assumes nothing.
use Rattle.std.proofs.Common.{ap, ◌∙◌, arith}
use Rattle.definitions.specs.World.{encode, view}
use Rattle.definitions.specs.Steps.{Step, read, step}
use Rattle.stepping.specs.Stepping.{words_taken, words_refused}
use Rattle.stepping.proofs.step.Goals as goal

pub returns-in_err-g-clause-words : goal.returns-in_err-g-clause-words
returns-in_err-g-clause-words c =
    words_refused c.args.w.now (read c.args.bytes.now) c.in_err-g.field-0.0 (omega arith) c.in_err-g.ensures

pub returns-clause-words : goal.returns-clause-words
returns-clause-words c =
    let s = view c.args.w.now in
    let t = c.in_ok-g.ensures in
    c.act.ensures.words ∙ ap (λ (x : Step). encode (step s x)) t.1 ∙ words_taken c.args.w.now (read c.args.bytes.now) t.0
