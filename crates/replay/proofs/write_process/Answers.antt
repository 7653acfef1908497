-- `replay::write_process` is safe and ends: the process is one of a sound world. Assumes what std says of a write.
use Rattle.std.proofs.Common.{true, false, arith}
use Rattle.reading.specs.Tested.{process_inside, log_inside}
use Rattle.replay.proofs.write_process.Goals as goal

pub word-up-requires : goal.word-up-requires
word-up-requires g c = omega (arith, process_inside c.args.w.now c.args.p c.requires.world c.requires.p_in)

pub part-requires : goal.part-requires
part-requires g c = record {
  p_in = process_inside c.args.w.now c.args.p c.requires.world c.requires.p_in;
  inside = log_inside c.args.w.now c.args.p false c.requires.world c.requires.p_in;
}

pub part-requires-2 : goal.part-requires-2
part-requires-2 g c = record {
  p_in = process_inside c.args.w.now c.args.p c.requires.world c.requires.p_in;
  inside = log_inside c.args.w.now c.args.p true c.requires.world c.requires.p_in;
}
