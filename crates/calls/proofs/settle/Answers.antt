-- `calls::settle` meets its contract: 1, 2, else what settling a sound world gives. Assumes nothing.
use Rattle.std.proofs.Common.{sym, ap, ◌∙◌, arith}
use Rattle.std.proofs.lemmas.Result.{err_from_is_err_and}
use Rattle.definitions.specs.General.{gives}
use Rattle.definitions.specs.Settle.{lowest_first}
use Rattle.definitions.specs.Answers.{refusal_number}
use Rattle.answers.specs.Laws.{refusal_some}
use Rattle.world.specs.Calls.{settle_taken}
use Rattle.reading.specs.Tested.{wrong_length, settle_refused}
use Rattle.calls.proofs.settle.Goals as goal

pub returns-in_default : goal.returns-in_default
returns-in_default c =
    let e = settle_refused lowest_first c.args.w.now c.args.budget 1 (λ z. omega arith)
    (sym (wrong_length c.args.w.now 0 (λ z. c.in_default.ensures.cases z))) in
    record { answer = e.0; words = e.1 }

pub returns-in_err-indexed : goal.returns-in_err-indexed
returns-in_err-indexed c =
    let r = c.in_err-indexed.field-0.0 in
    let p = err_from_is_err_and c.from_residual.result c.from_residual.ensures.1 in
    let same = c.in-Some.ensures.cases.same in
    let e = settle_refused lowest_first c.args.w.now c.args.budget (refusal_number r) (refusal_some r)
    (rw same at c.in_err-indexed.ensures.answer) in
    record { answer = rw (p.1, p.2) e.0; words = same ∙ e.1 }

pub returns : goal.returns
returns c =
    let a = c.args in
    let same = c.in-Some.ensures.cases.same in
    let e = settle_taken lowest_first a.w.now a.budget (sym (rw same at c.in_ok-indexed.ensures.answer)) in
    record {
      answer = ap gives (rw same at c.settle_sound.ensures.answer) ∙ e.0;
      words = (rw same at c.settle_sound.ensures.words) ∙ e.1;
    }
