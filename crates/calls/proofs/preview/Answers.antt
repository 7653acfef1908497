-- `calls::preview` meets its contract: 1, 2, else what the preview of a step of a sound world gives. Assumes nothing.
use Rattle.std.proofs.Common.{sym, ◌∙◌, arith}
use Rattle.std.proofs.lemmas.Result.{err_from_is_err_and}
use Rattle.definitions.specs.Answers.{refusal_number}
use Rattle.answers.specs.Laws.{refusal_some}
use Rattle.world.specs.Calls.{preview_judged, preview_unjudged}
use Rattle.reading.specs.Tested.{wrong_length, step_refused}
use Rattle.previewing.specs.Previewed.{not_shown}
use Rattle.calls.proofs.preview.Goals as goal

pub returns-in_default : goal.returns-in_default
returns-in_default c =
    let a = c.args in
    let e = not_shown a.w.now a.bytes.now a.second.now 1 (λ z. omega arith)
    (sym (preview_unjudged a.w.now a.bytes.now a.second.now (λ z. c.in_default.ensures.cases z))) in
    record { answer = e.0; words = e.1 }

pub returns-in_default-try_from : goal.returns-in_default-try_from
returns-in_default-try_from c =
    let a = c.args in
    let s = c.in-Some.ensures.cases in
    let e = not_shown a.w.now a.bytes.now a.second.now 1 (λ z. omega arith)
    ((step_refused a.w.now a.bytes.now 1 (λ z. omega arith)
    (sym (wrong_length a.w.now 0 (λ z. c.in_default-try_from.ensures.1 z)))).0
    ∙ sym (preview_judged a.w.now a.bytes.now a.second.now s.long)) in
    record { answer = e.0; words = s.same ∙ e.1 }

pub returns-in_err-indexed : goal.returns-in_err-indexed
returns-in_err-indexed c =
    let a = c.args in
    let r = c.in_err-indexed.field-0.0 in
    let p = err_from_is_err_and c.from_residual.result c.from_residual.ensures.1 in
    let whole = c.in-Some.ensures.cases in
    let e = not_shown a.w.now a.bytes.now a.second.now (refusal_number r) (refusal_some r)
    ((step_refused a.w.now a.bytes.now (refusal_number r) (refusal_some r)
    (rw c.in-Ok.ensures.1.same at c.in_err-indexed.ensures.answer)).0
    ∙ sym (preview_judged a.w.now a.bytes.now a.second.now whole.long)) in
    record { answer = rw (p.1, p.2) e.0; words = whole.same ∙ e.1 }
