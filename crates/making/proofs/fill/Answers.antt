-- `making::fill` meets its contract: zeros, the number of processes, then each of them. Assumes nothing.
use Rattle.std.proofs.Common.{ℕ, ap₂, ◌∙◌, arith}
use Rattle.definitions.specs.World.{encode}
use Rattle.setup.specs.Groups.{group_in, good_facts}
use Rattle.making.specs.Begun.{begun, begun_made}
use Rattle.making.specs.Calls.{start_words}
use Rattle.making.proofs.fill.Goals as goal

pub begin_all-requires : goal.begin_all-requires
begin_all-requires c =
    let n = c.from-n in (
      omega (arith, n.ensures, (good_facts c.args.bytes.now c.requires).1),
      start_words c.args.w.now c.fill.new.self n.result _ (omega arith) (c.fill.ensures.after (λ y e. e)),
    )

pub returns : goal.returns
returns c =
    c.begin_all.ensures
    ∙ ap₂ (λ (n m : ℕ). encode (begun n (group_in m) n)) c.from-n.ensures c.bits-bits.ensures
    ∙ begun_made _
