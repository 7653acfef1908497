-- `sends::answer` meets its contract. Assumes nothing.
use mathlib.Core.Path.{◌≡◌, refl, sym, ap, ◌∙◌}
use mathlib.Core.Bool.{Bool, true, false}
use native.Mathlib.Omega.{arith}
use Rattle.definitions.specs.General.{with, pick}
use Rattle.base.specs.Tests.{pick_yes, pick_no, both, clash}
use Rattle.sends.specs.Ready.{cleared}
use Rattle.definitions.specs.World.{view}
use Rattle.sends.specs.Oks.{ready_owed}
use Rattle.sends.proofs.Oks.{answered}
use Rattle.sends.proofs.answer.Goals as goal

pub returns-then-not-is_owed-clause-words : goal.returns-then-not-is_owed-clause-words
returns-then-not-is_owed-clause-words c =
    let a = c.args in
    let v = view a.w.now in
    let n : c.is_owed.result ≡ false = c.if-not-is_owed.true in
    answered a.w.now a.w.now a.p a.m c.requires.bounds c.requires.p_in (omega arith) c.is_owed.ensures
    (λ e. clash e n) (λ _. refl)

pub returns-then-not-is_owed-clause-sets : goal.returns-then-not-is_owed-clause-sets
returns-then-not-is_owed-clause-sets c =
    let a = c.args in
    let v = view a.w.now in
    let n : c.is_owed.result ≡ false = c.if-not-is_owed.true in (
      sym (pick_no _ _ (ready_owed v a.p a.m
          ∙ ap (λ (y : Bool). both y (cleared v a.p a.m)) (sym c.is_owed.ensures ∙ n))),
      sym (pick_no _ _ (sym c.is_owed.ensures ∙ n)),
    )

pub returns-clause-words : goal.returns-clause-words
returns-clause-words c =
    let a = c.args in
    let v = view a.w.now in
    let y : c.is_owed.result ≡ true = c.if-not-is_owed.false in
    answered a.w.now _ a.p a.m c.requires.bounds c.requires.p_in (omega arith) c.is_owed.ensures
    (λ _. c.send.ensures) (λ n. clash y n)

pub returns-clause-sets : goal.returns-clause-sets
returns-clause-sets c =
    let a = c.args in
    let v = view a.w.now in
    let y : c.is_owed.result ≡ true = c.if-not-is_owed.false in (
      c.join_if.ensures
          ∙ ap (λ (z : Bool). pick z (with a.t.ready a.m) a.t.ready)
          (c.is_cleared-yes.ensures ∙ sym (ready_owed v a.p a.m
          ∙ ap (λ (z : Bool). both z (cleared v a.p a.m)) (sym c.is_owed.ensures ∙ y))),
      c.join.ensures ∙ sym (pick_yes _ _ (sym c.is_owed.ensures ∙ y)),
    )
