-- `drop` at 16 bits meets its contract. Assumes nothing.
use Rattle.base.specs.Bits.{one_shl, sub_without}
use Rattle.masks.proofs.U16Set.drop.Goals as goal

pub returns : goal.returns
returns c = rw (one_shl 16 c.args.x c.requires) (sub_without c.args.self c.args.x)
