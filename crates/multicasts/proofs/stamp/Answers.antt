-- `multicasts::stamp` meets its contract. Assumes nothing.
use mathlib.Core.Path.{◌≡◌, ap, ◌∙◌}
use mathlib.Core.List.{List}
use Prim.Native.Nat.{ℕ, ◌+◌, ◌*◌}
use lib.ListN.{length}
use Rattle.base.specs.Tabulate.{splice}
use Rattle.multicasts.specs.Multicast.{stamps_law}
use borrow.Author.Rules.{rules}
use Rattle.multicasts.proofs.stamp.Goals as goal
use Rattle.multicasts.proofs.stamp.Goals.{Start}

-- the arrays are as long as their types say
long : (c : Start) → (length c.args.r.counters ≡ 128) × (length c.args.r.sequences ≡ 8)
long c = (search rules, search rules)

pub returns : goal.returns
returns c =
    let a = c.args in
    let l = long (goal.at.returns c).Start in
    stamps_law a.w.now a.m a.r c.requires l.0 l.1
    (c.put-2.ensures ∙ ap (λ (x : List ℕ). splice x (6867 + a.m * 187 + 130) a.r.sequences) c.put.ensures)
