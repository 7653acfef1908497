-- `reading::log_length` meets its contract: 1, 2, then 5, else the length. Assumes nothing.
use Rattle.std.proofs.Common.{sym}
use Rattle.std.proofs.lemmas.Result.{err_from_is_err_and}
use Rattle.definitions.specs.World.{size, addr}
use Rattle.definitions.specs.Words.{log_refusal, length_reply}
use Rattle.definitions.specs.Answers.{refusal_number}
use Rattle.base.specs.Refusals.{refused_reply}
use Rattle.answers.specs.Laws.{refusal_some}
use Rattle.reading.specs.Tested.{present, process_inside, not_refused}
use Rattle.reading.proofs.log_length.Goals as goal

pub returns-in_err-words : goal.returns-in_err-words
unfolding length_reply log_refusal
returns-in_err-words c =
    let r = c.in_err-words.field-0.0 in
    let p = err_from_is_err_and c.from_residual.result c.from_residual.ensures.1 in
    rw (p.1, p.2) (refused_reply (refusal_number r) _ _ (refusal_some r) c.in_err-words.ensures.answer)

pub items-requires : goal.items-requires
items-requires c =
    let a = c.args in
    let t = present a.w.now (addr size) a.p 4 (sym c.in_ok-words.ensures.answer) in
    process_inside a.w.now a.p t.0 t.1

pub returns : goal.returns
unfolding length_reply log_refusal
returns c = not_refused (sym c.in_ok-words.ensures.answer) (rw c.in_ok-words.ensures.words at c.items.ensures)
