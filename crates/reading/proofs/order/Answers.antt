-- `reading::order` meets its contract: 1, 2, then 7, else the number. Assumes nothing.
use Rattle.std.proofs.Common.{ℕ, List, get_or, sym, ap, arith}
use Rattle.std.proofs.lemmas.Result.{err_from_is_err_and}
use Rattle.definitions.specs.World.{count, addr, view, order}
use Rattle.definitions.specs.Words.{order_refusal, order_reply}
use Rattle.definitions.specs.Answers.{refusal_number}
use Rattle.base.specs.Refusals.{refused_reply}
use Rattle.answers.specs.Laws.{refusal_some}
use Rattle.world.specs.SoundLaws.{count_high}
use Rattle.reading.specs.Tested.{present, not_refused}
use Rattle.reading.proofs.order.Goals as goal

pub returns-in_err-words : goal.returns-in_err-words
unfolding order_reply order_refusal
returns-in_err-words c =
    let r = c.in_err-words.field-0.0 in
    let p = err_from_is_err_and c.from_residual.result c.from_residual.ensures.1 in
    rw (p.1, p.2) (refused_reply (refusal_number r) _ _ (refusal_some r) c.in_err-words.ensures.answer)

pub bounds-words-m : goal.bounds-words-m
bounds-words-m c =
    let a = c.args in
    let t = present a.w.now (addr count) a.m 6 (sym c.in_ok-words.ensures.answer) in
    omega (arith, t.1, count_high (view a.w.now) t.0.reads)

pub returns : goal.returns
unfolding order_reply order_refusal
returns c =
    not_refused (sym c.in_ok-words.ensures.answer)
    (ap (λ (u : List ℕ). get_or u (addr (order c.args.m)) 0) c.in_ok-words.ensures.words)
