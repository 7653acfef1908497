-- `soundness::test_and_index` meets its contract: what exists is tested part by part, and a part that fails is a
-- world that is not sound. Assumes nothing.
use mathlib.Core.Path.{refl, sym, ◌∙◌}
use mathlib.Core.Bool.{false}
use Rattle.definitions.specs.World.{view}
use Rattle.heads.specs.Known.{Sized}
use Rattle.soundness.specs.Whole.{not_sound, header_sound, header_sized, groups_sound, groups_placed, heads_sound, heads_headed}
use Rattle.soundness.specs.Indexed.{tested_not}
use Rattle.soundness.proofs.test_and_index.Goals as goal
use Rattle.soundness.proofs.test_and_index.Goals.{Else-not-header}

-- what the tests passed so far tell
sized : (c : Else-not-header) → Sized c.args.w.now c.word-n.result c.word-count.result
sized c =
    header_sized c.args.w.now c.word-n.result c.word-count.result c.word.result c.word-n.ensures
    c.word-count.ensures c.word.ensures c.told-w (sym c.header.ensures ∙ c.if-not-header.false)

pub returns-then-not-header : goal.returns-then-not-header
returns-then-not-header c =
    tested_not (view c.args.w.now) _ (not_sound (view c.args.w.now) c.header.result c.if-not-header.true
    (λ e. c.header.ensures
    ∙ header_sound c.args.w.now c.word-n.result c.word-count.result c.word.result
    c.word-n.ensures c.word-count.ensures c.word.ensures e))

pub returns-in_default : goal.returns-in_default
returns-in_default c =
    tested_not (view c.args.w.now) _ (not_sound (view c.args.w.now) false refl
    (λ e. c.in_default.ensures.is_good ∙ groups_sound (view c.args.w.now) c.word-n.result
    (sized (goal.at.returns-in_default c).Else-not-header).high e))

pub returns-then-not-messages : goal.returns-then-not-messages
returns-then-not-messages c =
    let h = c.messages in
    tested_not (view c.args.w.now) _ (not_sound (view c.args.w.now) h.result c.if-not-messages.true
    (λ e. h.ensures ∙ heads_sound (view c.args.w.now) c.word-count.result
    (sized (goal.at.returns-then-not-messages c).Else-not-header).few e))

pub whole-requires-clause-placed : goal.whole-requires-clause-placed
whole-requires-clause-placed c =
    groups_placed (view c.args.w.now) c.word-n.result _ c.word-n.ensures c.in-Some.ensures

pub whole-requires-clause-headed : goal.whole-requires-clause-headed
whole-requires-clause-headed c =
    let h = c.messages in
    heads_headed (view c.args.w.now) c.word-count.result c.word-count.ensures
    (sym h.ensures ∙ c.if-not-messages.false)
