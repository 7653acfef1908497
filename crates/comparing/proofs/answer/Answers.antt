-- `comparing::answer` meets its contract. The loop's invariant: the pairs passed have their bytes. Assumes nothing.
use Prim.Native.Nat.{◌+◌, ◌*◌}
use native.Mathlib.Omega.{arith}
use lib.ListN.{length}
use Rattle.definitions.specs.World.{view}
use Rattle.definitions.specs.Words.{precedes_byte, first_of, second_of}
use Rattle.base.specs.Tabulate.{is_tabulate}
use Rattle.world.specs.SoundLaws.{count_high}
use Rattle.world.specs.Pairs.{named_word}
use Rattle.comparing.proofs.answer.Goals as goal

pub byte-requires : goal.byte-requires
byte-requires c =
    let i = c.loop-i.i in
    let v = view c.args.w.now in
    let few = count_high v c.requires.0.reads in
    let first = named_word v c.args.pairs.now c.requires.1 (i * 2) (omega (arith, c.requires.2)) in
    let second = named_word v c.args.pairs.now c.requires.1 (i * 2 + 1) (omega (arith, c.requires.2)) in (
      c.requires.0,
      omega (arith, first, c.word.ensures),
      omega (arith, first, few, c.word.ensures),
      omega (arith, second, few, c.word-in-loop-i.ensures),
    )

pub returns : goal.returns
returns c =
    let l = c.loop-i in
    let a = c.args in
    is_tabulate 0 (length a.answers.now)
    (λ i. precedes_byte (view a.w.now) (first_of a.pairs.now i) (second_of a.pairs.now i)) l.answers
    l.invariant.0 (λ i h. l.invariant.1 i (omega arith))
