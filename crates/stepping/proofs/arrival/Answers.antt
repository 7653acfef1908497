-- `stepping::arrival` meets its contract: the bytes are those of an arrival, or not well formed. Assumes nothing.
use Rattle.std.proofs.Common.{◌≡◌, false, sym, ap, ◌∙◌, length, arith}
use Rattle.std.proofs.lemmas.Result.{err_from_is_err_and}
use Rattle.definitions.specs.World.{encode, view}
use Rattle.definitions.specs.Steps.{Step, arrives, malformed, read, refusal, step}
use Rattle.definitions.specs.declared.Refusal.TheVariants as variants
use Rattle.bounds.specs.Bounds.{sound_bounds}
use Rattle.given.specs.Given.{letter_read}
use Rattle.stepping.specs.Stepping.{can_arrive, malformed_refused, malformed_number, words_taken, words_refused}
use Rattle.stepping.proofs.arrival.Goals as goal
use Rattle.stepping.proofs.arrival.Goals.{Start, In_ok-letter, In_err-letter}

long : (c : Start) → length c.args.w.now ≡ 20480
long c = omega arith

-- the arrival that was read, or that none was
is_read : (c : In_ok-letter) → let l = c.in_ok-letter.letter in arrives l.kind l.message l.from l.to ≡ read c.args.bytes.now
is_read c =
    letter_read false c.args.bytes.now _ (omega arith) c.requires.kind (sym c.in_ok-letter.ensures.ok_part ∙ c.letter.ensures)

not_read : (c : In_err-letter) → malformed ≡ read c.args.bytes.now
not_read c =
    letter_read false c.args.bytes.now _ (omega arith) c.requires.kind (sym c.in_err-letter.ensures.ok_part ∙ c.letter.ensures)

pub returns-in_err-letter-clause-answer : goal.returns-in_err-letter-clause-answer
returns-in_err-letter-clause-answer c =
    let f = c.from_residual in
    let h = c.in_err-letter.ensures in
    let p = err_from_is_err_and f.result f.ensures.1 in
    rw (p.1, p.2) (malformed_number h.value h.ok_part
    ∙ malformed_refused (view c.args.w.now) (not_read (goal.at.returns-in_err-letter-clause-answer c).In_err-letter))

pub returns-in_err-letter-clause-words : goal.returns-in_err-letter-clause-words
returns-in_err-letter-clause-words c =
    let a = c.args in
    words_refused a.w.now (read a.bytes.now) variants.Malformed (long (goal.at.returns-in_err-letter-clause-words c).Start)
    (malformed_refused (view a.w.now) (not_read (goal.at.returns-in_err-letter-clause-words c).In_err-letter))

pub of_letter-requires : goal.of_letter-requires
of_letter-requires c = sound_bounds (view c.args.w.now) c.requires.sound

pub returns-in_err-of_letter-clause-answer : goal.returns-in_err-of_letter-clause-answer
returns-in_err-of_letter-clause-answer c =
    let f = c.from_residual-in_err-of_letter in
    let p = err_from_is_err_and f.result f.ensures.1 in
    rw (p.1, p.2) (c.in_err-of_letter.ensures
    ∙ ap (refusal (view c.args.w.now)) (is_read (goal.at.returns-in_err-of_letter-clause-answer c).In_ok-letter))

pub returns-in_err-of_letter-clause-words : goal.returns-in_err-of_letter-clause-words
returns-in_err-of_letter-clause-words c =
    let a = c.args in
    words_refused a.w.now (read a.bytes.now) c.in_err-of_letter.field-0.0
    (long (goal.at.returns-in_err-of_letter-clause-words c).Start)
    (c.in_err-of_letter.ensures
    ∙ ap (refusal (view a.w.now)) (is_read (goal.at.returns-in_err-of_letter-clause-words c).In_ok-letter))

pub arrive-requires : goal.arrive-requires
arrive-requires c =
    can_arrive c.args.w.now c.args.x.now (long (goal.at.arrive-requires c).Start) c.requires.sound c.requires.index _ _ _ _
    c.args.quiescent c.requires.quiescent (sym c.in_ok-of_letter.ensures)

pub returns-clause-answer : goal.returns-clause-answer
returns-clause-answer c =
    c.in_ok-of_letter.ensures ∙ ap (refusal (view c.args.w.now)) (is_read (goal.at.returns-clause-answer c).In_ok-letter)

pub returns-clause-words : goal.returns-clause-words
unfolding step
returns-clause-words c =
    let a = c.args in
    let e = is_read (goal.at.returns-clause-words c).In_ok-letter in
    c.arrive.ensures.words ∙ ap (λ (x : Step). encode (step (view a.w.now) x)) e
    ∙ words_taken a.w.now (read a.bytes.now) (sym (c.in_ok-of_letter.ensures ∙ ap (refusal (view a.w.now)) e))
