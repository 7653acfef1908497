-- `blocks::front` meets its contract: each part against its limit. Assumes nothing.
use mathlib.Core.Path.{◌∙◌}
use Prim.Native.Nat.{◌+◌, ◌*◌}
use native.Mathlib.Omega.{arith}
use Rattle.ranges.specs.Laws.{part_word, within_part}
use Rattle.blocks.specs.Process.{low, front_law}
use Rattle.blocks.proofs.front.Goals as goal

pub returns : goal.returns
returns c =
    let a = c.args in
    let x = c.word in
    let f = c.word-length in
    let z = front_law a.w.now a.p a.t.now c.requires.ready c.requires.p_in x.result f.result c.word-2.result x.ensures
    (omega (arith, x.ensures, c.fits-w (3 + a.p * 429 + 1))) f.ensures c.word-2.ensures in
    let l = low a.w.now a.p a.t.now c.requires.ready c.requires.p_in in
    rw (
      c.within.ensures
          ∙ within_part a.w.now (3 + a.p * 429 + 2) _ a.t.now.limits 0 136 _ (omega arith) (omega (arith, c.told-w, l))
          (λ i d. part_word a.t.now.limits 0 136 i d),
      c.within-2.ensures
          ∙ within_part a.w.now (3 + a.p * 429 + 154) _ a.t.now.limits 136 16 _ (omega arith) (omega (arith, c.told-w, l))
          (λ i d. part_word a.t.now.limits 136 16 i d),
    ) z
