-- `making::make` meets its contract: 1, then 3, else the fresh world. Assumes nothing.
use Rattle.std.proofs.Common.{◌≡◌, List, ℕ, sym, ap, ◌∙◌}
use Rattle.definitions.specs.World.{encode}
use Rattle.definitions.specs.Setup.{good_setup, made}
use Rattle.setup.specs.Groups as setup
use Rattle.making.specs.Calls.{wrong_length, wrong_setup, right_setup}
use Rattle.making.proofs.make.Goals as goal
use Rattle.making.proofs.make.Goals.{After-good}

-- what was tested is the record that was lent
good : (c : After-good) → good_setup c.args.bytes.now ≡ c.good.result
good c = sym (c.good.ensures ∙ ap good_setup c.in-Ok.ensures.1.same)

pub returns-in_default-clause-answer : goal.returns-in_default-clause-answer
returns-in_default-clause-answer c = (wrong_length _ _ (λ e. c.in_default.ensures.cases e)).0

pub returns-in_default-clause-words : goal.returns-in_default-clause-words
returns-in_default-clause-words c = (wrong_length _ _ (λ e. c.in_default.ensures.cases e)).1

pub returns-in_default-try_from-clause-answer : goal.returns-in_default-try_from-clause-answer
returns-in_default-try_from-clause-answer c =
    (wrong_setup c.args.w.now _ c.in-Some.ensures.cases.long
    (sym (setup.wrong_length _ (λ e. c.in_default-try_from.ensures.1 e)))).0

pub returns-in_default-try_from-clause-words : goal.returns-in_default-try_from-clause-words
returns-in_default-try_from-clause-words c =
    c.in-Some.ensures.cases.same
    ∙ (wrong_setup c.args.w.now _ c.in-Some.ensures.cases.long
    (sym (setup.wrong_length _ (λ e. c.in_default-try_from.ensures.1 e)))).1

pub returns-then-not-good-clause-answer : goal.returns-then-not-good-clause-answer
returns-then-not-good-clause-answer c =
    (wrong_setup c.args.w.now _ c.in-Some.ensures.cases.long
    (good (goal.at.returns-then-not-good-clause-answer c).After-good ∙ c.if-not-good.true)).0

pub returns-then-not-good-clause-words : goal.returns-then-not-good-clause-words
returns-then-not-good-clause-words c =
    c.in-Some.ensures.cases.same
    ∙ (wrong_setup c.args.w.now _ c.in-Some.ensures.cases.long
    (good (goal.at.returns-then-not-good-clause-words c).After-good ∙ c.if-not-good.true)).1

pub returns-clause-answer : goal.returns-clause-answer
returns-clause-answer c =
    (right_setup c.args.w.now _ c.in-Some.ensures.cases.long
    (good (goal.at.returns-clause-answer c).After-good ∙ c.if-not-good.false)).0

pub returns-clause-words : goal.returns-clause-words
returns-clause-words c =
    c.fill.ensures
    ∙ ap (λ (s : List ℕ). encode (made s)) c.in-Ok.ensures.1.same
    ∙ (right_setup c.args.w.now _ c.in-Some.ensures.cases.long
    (good (goal.at.returns-clause-words c).After-good ∙ c.if-not-good.false)).1
