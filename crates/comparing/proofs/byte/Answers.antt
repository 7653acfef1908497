-- `comparing::byte` meets its contract: the lowest group of x is below 8, so that the entry of its sender there lies in the
-- table. Assumes nothing.
use mathlib.Core.Path.{◌≡◌, ◌∙◌}
use Prim.Native.Nat.{◌+◌, ◌*◌, ◌<◌}
use native.Mathlib.Omega.{arith}
use Rattle.definitions.specs.World.{view}
use Rattle.definitions.specs.Words.{lowest_group}
use Rattle.world.specs.SoundLaws.{sender_high}
use Rattle.comparing.specs.Pairs.{lowest_is, byte_read}
use Rattle.comparing.proofs.byte.Goals as goal
use Rattle.comparing.proofs.byte.Goals.{After-word}

-- the lowest group and the sender that were read
read : (c : After-word) → (c.lowest-g.result < 8) × (c.lowest-g.result ≡ lowest_group (view c.args.w.now) c.args.x)
    × (c.word.result < 16)
read c =
    let v = view c.args.w.now in
    let z = lowest_is v c.requires.0.reads c.args.x c.requires.1
    (c.type_inv.w (6867 + c.args.x * 187 + 1)).fits in (
      omega (arith, z.0, c.lowest-g.ensures),
      c.lowest-g.ensures ∙ z.1,
      omega (arith, c.word.ensures, sender_high v c.requires.0.reads c.args.x c.requires.2),
    )

pub overflow_mul-entry : goal.overflow_mul-entry
overflow_mul-entry c =
    let v = view c.args.w.now in
    let z = lowest_is v c.requires.0.reads c.args.x c.requires.1 (c.type_inv.w (6867 + c.args.x * 187 + 1)).fits in
    omega (arith, z.0, c.lowest-g.ensures)

pub overflow_add-entry : goal.overflow_add-entry
overflow_add-entry c = omega (arith, read (goal.at.overflow_add-entry c).After-word, c.requires)

pub overflow_add-most-2 : goal.overflow_add-most-2
overflow_add-most-2 c = omega (arith, read (goal.at.overflow_add-most-2 c).After-word, c.requires)

pub offset_bounds-w-second : goal.offset_bounds-w-second
offset_bounds-w-second c = omega (arith, read (goal.at.offset_bounds-w-second c).After-word, c.requires)

pub overflow_add-first-4 : goal.overflow_add-first-4
overflow_add-first-4 c = omega (arith, read (goal.at.overflow_add-first-4 c).After-word, c.requires)

pub offset_bounds-w-first-2 : goal.offset_bounds-w-first-2
offset_bounds-w-first-2 c = omega (arith, read (goal.at.offset_bounds-w-first-2 c).After-word, c.requires)

pub bounds-w-second : goal.bounds-w-second
bounds-w-second c = omega (arith, read (goal.at.bounds-w-second c).After-word, c.requires)

pub bounds-w-first-2 : goal.bounds-w-first-2
bounds-w-first-2 c = omega (arith, read (goal.at.bounds-w-first-2 c).After-word)

pub returns : goal.returns
returns c =
    let a = c.args in
    c.from.ensures
    ∙ byte_read (view a.w.now) a.x a.m c.lowest-g.result c.word.result
    (read (goal.at.returns c).After-word).1 c.word.ensures
