-- `setup::good` meets its contract: the tests that led to each answer decide the definition's. Assumes nothing.
use Rattle.std.proofs.Common.{◌≡◌, ℕ, List, refl, sym, ap, ap₂, ◌∙◌}
use Rattle.std.proofs.Common.{ne_eqb}
use Rattle.definitions.specs.General.{byte}
use Rattle.definitions.specs.Setup.{setup_bits, good_setup}
use Rattle.setup.specs.Groups.{good_rest, good_front, wrong_length, wrong_first, too_few, too_many, bits_past, gap_decides}
use Rattle.setup.proofs.good.Goals as goal
use Rattle.setup.proofs.good.Goals.{After-from-n, then-setup-ne0-via-then-setup-ne0, then-setup-ne0-via-else-setup-ne0+then-n-lt1, then-setup-ne0-via-else-setup-ne0+else-n-lt1+then-n-gt16}

-- what the test of the rest says of the count that was read
rest : (c : After-from-n) → byte c.in-Ok.setup.now 0 ≡ 0 → (bits : ℕ) → bits ≡ setup_bits c.in-Ok.setup.now
    → good_setup c.args.setup.now ≡ good_rest c.from-n.result bits
rest c z bits e =
    let k = c.in-Ok.ensures.1 in
    good_front _ k.long (ap (λ (s : List ℕ). byte s 0) (sym k.same) ∙ z)
    ∙ sym (ap₂ good_rest (c.from-n.ensures ∙ ap (λ (s : List ℕ). byte s 1) k.same) (e ∙ ap setup_bits k.same))

pub returns-in_default : goal.returns-in_default
returns-in_default c = wrong_length _ (λ e. c.in_default.ensures.1 e)

pub returns-then-setup-ne0 : goal.returns-then-setup-ne0
returns-then-setup-ne0 c =
    let read = (goal.at.returns-then-setup-ne0 c).After-from-n in
    let k = c.in-Ok.ensures.1 in
    elim c.then-setup-ne0.branch [
      | then-setup-ne0-via-then-setup-ne0 w ↦
          wrong_first _ k.long (λ z. w.if-setup-ne0.true (ap (λ (s : List ℕ). byte s 0) k.same ∙ z))
      | then-setup-ne0-via-else-setup-ne0+then-n-lt1 w ↦
          sym (rest read w.if-setup-ne0.false _ refl ∙ too_few _ _ w.if-n-lt1.true)
      | then-setup-ne0-via-else-setup-ne0+else-n-lt1+then-n-gt16 w ↦
          sym (rest read w.if-setup-ne0.false _ refl ∙ too_many _ _ w.if-n-lt1.false w.if-n-gt16.true)
    ]

pub returns-then-all-n-eq0 : goal.returns-then-all-n-eq0
returns-then-all-n-eq0 c =
    c.without_gap.ensures
    ∙ sym (rest (goal.at.returns-then-all-n-eq0 c).After-from-n c.if-setup-ne0.false c.bits-all.result c.bits-all.ensures
    ∙ gap_decides _ _ c.if-n-lt1.false c.if-n-gt16.false c.if-all-n-eq0.true)

pub returns-else-all-n-eq0 : goal.returns-else-all-n-eq0
returns-else-all-n-eq0 c =
    ne_eqb _ 0 c.if-all-n-eq0.false
    ∙ sym (rest (goal.at.returns-else-all-n-eq0 c).After-from-n c.if-setup-ne0.false c.bits-all.result c.bits-all.ensures
    ∙ bits_past _ _ c.if-n-lt1.false c.if-n-gt16.false c.if-all-n-eq0.false)
