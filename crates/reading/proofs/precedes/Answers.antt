-- `reading::precedes` meets its contract: 1, 2, 19, then 7, else the bytes. Assumes nothing.
use Rattle.std.proofs.Common.{◌≡◌, sym, ◌∙◌, arith}
use Rattle.std.proofs.lemmas.Result.{err_from_is_err_and}
use Rattle.definitions.specs.General.{refuses}
use Rattle.definitions.specs.Words.{precedes_bytes, precedes_reply}
use Rattle.definitions.specs.Answers.{refusal_number}
use Rattle.answers.specs.Laws.{refusal_some}
use Rattle.keeps.specs.Keeps.{taken_sound_words}
use Rattle.reading.specs.Tested.{pairs_refused, pairs_no_world, pairs_lengths}
use Rattle.reading.proofs.precedes.Goals as goal
use Rattle.reading.proofs.precedes.Goals.{In_err-words, Then-not-good_lengths}

-- a world that is refused
no_world : (c : In_err-words) → let a = c.args in let n = refusal_number c.in_err-words.field-0.0 in
    (refuses n ≡ precedes_reply a.w.now a.pairs.now a.answers.now) × (a.answers.now ≡ precedes_bytes a.w.now a.pairs.now a.answers.now)
no_world c =
    let a = c.args in
    let r = c.in_err-words.field-0.0 in
    pairs_refused a.w.now a.pairs.now a.answers.now (refusal_number r) (refusal_some r)
    (pairs_no_world a.w.now a.pairs.now a.answers.now (refusal_number r) (refusal_some r) c.in_err-words.ensures.answer)

pub returns-in_err-words-clause-answer : goal.returns-in_err-words-clause-answer
returns-in_err-words-clause-answer c =
    let p = err_from_is_err_and c.from_residual.result c.from_residual.ensures.1 in
    rw (p.1, p.2) (no_world (goal.at.returns-in_err-words-clause-answer c).In_err-words).0

pub returns-in_err-words-clause-bytes : goal.returns-in_err-words-clause-bytes
returns-in_err-words-clause-bytes c = (no_world (goal.at.returns-in_err-words-clause-bytes c).In_err-words).1

pub returns-then-not-good_lengths : goal.returns-then-not-good_lengths
returns-then-not-good_lengths c =
    let a = c.args in
    let e = pairs_refused a.w.now a.pairs.now a.answers.now 19 (λ e. omega arith)
    (pairs_lengths a.w.now a.pairs.now a.answers.now (sym c.in_ok-words.ensures.answer)
    (sym c.good_lengths.ensures ∙ c.if-not-good_lengths.true)) in
    record { answer = e.0; bytes = e.1 }

pub compare-requires : goal.compare-requires
compare-requires c =
    rw c.in_ok-words.ensures.words
    (taken_sound_words c.args.w.now (sym c.in_ok-words.ensures.answer), sym c.good_lengths.ensures ∙ c.if-not-good_lengths.false)

pub returns : goal.returns
returns c = rw c.in_ok-words.ensures.words at c.compare.ensures
