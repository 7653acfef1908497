-- `join` at 16 bits meets its contract. Assumes nothing.
use Rattle.base.specs.Bits.{one_shl, or_with}
use Rattle.masks.proofs.U16Set.join.Goals as goal

pub returns : goal.returns
returns c = rw (one_shl 16 c.args.x c.requires) (or_with c.args.self c.args.x)
