-- `parts::fill` meets its contract: the bytes copied to the front, and the rest cleared. Assumes nothing.
use Rattle.std.proofs.Common.{ℕ, ap, sym, ◌∙◌, length, refl}
use Rattle.std.proofs.Math.ListN.{drop}
use Rattle.std.proofs.Math.Seq.{take-length}
use mathlib.Core.List.{List, ◌++◌}
use Rattle.parts.specs.Laws.{filled_by}
use Rattle.parts.proofs.fill.Goals as goal

pub returns : goal.returns
returns c =
    let p = c.args in
    let rest = drop (length p.s.now) p.part.now in
    filled_by p.part.now p.s.now (c.copy.new.dst ++ rest) c.fill.new.self (length p.s.now) c.requires refl
    (ap (λ (x : List ℕ). x ++ rest) (c.copy.ensures ∙ sym (take-length p.s.now))) (c.fill.ensures.after (λ y e. e))
