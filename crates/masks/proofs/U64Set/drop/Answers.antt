-- `drop` at 64 bits meets its contract. Assumes nothing.
use Rattle.base.specs.Bits.{one_shl, sub_without}
use Rattle.masks.proofs.U64Set.drop.Goals as goal

pub returns : goal.returns
returns c = rw (one_shl 64 c.args.x c.requires) (sub_without c.args.self c.args.x)
