-- `letters::up_mask` meets its contract. The loop's invariant: the mask names the up processes passed. Assumes nothing.
use Rattle.std.proofs.Common.{ℕ, eqb, refl, sym, ap, ◌∙◌}
use Rattle.definitions.specs.General.{pick, with, mask_of}
use Rattle.definitions.specs.World.{view}
use Rattle.definitions.specs.Steps.{is_up}
use Rattle.letters.specs.Search.{mask_more}
use Rattle.letters.proofs.up_mask.Goals as goal

pub loop-q-init : goal.loop-q-init
unfolding mask_of
loop-q-init c = refl

pub loop-q-preserved : goal.loop-q-preserved
loop-q-preserved c =
    let l = c.loop-q in
    c.join_if-mask.ensures
    ∙ ap (λ (x : ℕ). pick (eqb x 1) (with l.mask l.q) l.mask) c.word.ensures
    ∙ ap (λ (x : ℕ). pick (is_up (view c.args.w.now) l.q) (with x l.q) x) l.invariant
    ∙ sym (mask_more l.q (is_up (view c.args.w.now)))
