-- `records::store` meets its contract. Assumes nothing.
use mathlib.Core.List.{List}
use mathlib.Core.Path.{ap, ◌∙◌}
use Prim.Native.Nat.{◌+◌, ◌*◌}
use Rattle.base.specs.Tabulate.{splice}
use Rattle.records.specs.Record.{store_law, Long}
use borrow.Author.Rules.{rules}
use Rattle.records.proofs.store.Goals as goal
use Rattle.records.proofs.store.Goals.{Start}
use Prim.Native.Nat.{ℕ}

arrays : (c : Start) → Long c.args.r
arrays c =
    record {
      counters_long = search rules;
      sequences_long = search rules;
      next_long = search rules;
      delivered_long = search rules;
    }

pub returns : goal.returns
returns c =
    let a = c.args in
    store_law a.w.now a.p a.r (arrays (goal.at.returns c).Start) c.requires
    (c.put-4.ensures ∙ ap (λ (x : List ℕ). splice x (3 + a.p * 429 + 154) a.r.delivered)
    (c.put-3.ensures ∙ ap (λ (x : List ℕ). splice x (3 + a.p * 429 + 138) a.r.next)
    (c.put-2.ensures ∙ ap (λ (x : List ℕ). splice x (3 + a.p * 429 + 130) a.r.sequences)
    c.put.ensures)))
