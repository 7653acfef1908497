-- `making::begin` meets its contract: a record stored, and one word more. Assumes nothing.
use mathlib.Core.Path.{ap₂, ◌∙◌}
use mathlib.Core.List.{List}
use Prim.Native.Nat.{ℕ}
use native.Mathlib.Omega.{arith}
use lib.ListN.{replicate}
use Rattle.definitions.specs.World.{up, put, encode}
use Rattle.world.specs.Layout.{changes_put}
use Rattle.records.specs.Record.{with_record}
use Rattle.making.proofs.begin.Goals as goal

pub returns : goal.returns
returns c =
    let a = c.args in
    λ s e. changes_put c.store.new.w (up a.p) 1 (omega arith) _ (c.store.ensures s e)
    ∙ ap₂ (λ (t : ℕ) (x : List ℕ). encode
    (put (with_record s a.p
    (record {
      group = a.group;
      trust = t;
      counters = replicate 128 0;
      sequences = replicate 8 0;
      next =
          x;
      delivered = replicate 16 0;
    })) (up a.p) 1)) c.everybody.ensures c.nexts.ensures
