-- `regions::letters` meets its contract. The loop's invariant: `ok` says whether the masks passed may be.
-- Assumes nothing.
use native.Mathlib.Omega.{arith}
use Rattle.base.specs.Search.{every_none, gathers, gathered}
use Rattle.regions.specs.Letters.{letters_at}
use Rattle.regions.proofs.letters.Goals as goal

pub loop-q-init : goal.loop-q-init
loop-q-init c = every_none _

pub loop-q-preserved : goal.loop-q-preserved
loop-q-preserved c =
    let l = c.loop-q in
    gathers _ l.q l.ok _ l.invariant c.letter-ok.ensures

pub returns : goal.returns
unfolding letters_at
returns c = let l = c.loop-q in gathered _ l.q 16 l.invariant (omega arith)
