-- `calls::step` meets its contract: 1, 2, else what a step of a sound world gives. Assumes nothing.
use Rattle.std.proofs.Common.{sym, ◌∙◌, arith}
use Rattle.std.proofs.lemmas.Result.{err_from_is_err_and}
use Rattle.definitions.specs.Answers.{refusal_number}
use Rattle.answers.specs.Laws.{refusal_some}
use Rattle.keeps.specs.Keeps.{taken_sound_words}
use Rattle.reading.specs.Tested.{wrong_length, step_refused, step_taken}
use Rattle.calls.proofs.step.Goals as goal

pub returns-in_default : goal.returns-in_default
returns-in_default c =
    let e = step_refused c.args.w.now c.args.bytes.now 1 (λ z. omega arith)
    (sym (wrong_length c.args.w.now 0 (λ z. c.in_default.ensures.cases z))) in
    record { answer = e.0; words = e.1 }

pub returns-in_err-indexed : goal.returns-in_err-indexed
returns-in_err-indexed c =
    let r = c.in_err-indexed.field-0.0 in
    let p = err_from_is_err_and c.from_residual.result c.from_residual.ensures.1 in
    let same = c.in-Some.ensures.cases.same in
    let e = step_refused c.args.w.now c.args.bytes.now (refusal_number r) (refusal_some r)
    (rw same at c.in_err-indexed.ensures.answer) in
    record { answer = rw (p.1, p.2) e.0; words = same ∙ e.1 }

pub returns : goal.returns
returns c =
    let a = c.args in
    let same = c.in-Some.ensures.cases.same in
    let e = step_taken a.w.now a.bytes.now _ _ (taken_sound_words a.w.now (sym (rw same at c.in_ok-indexed.ensures.answer)))
    (rw same at c.step.ensures.answer) (rw same at c.step.ensures.words) in
    record { answer = e.0; words = e.1 }
