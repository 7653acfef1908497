-- `replay::run` is safe and ends: a replay that is not refused leaves a sound world. Assumes what std says of a write.
use Rattle.keeps.specs.Keeps.{SoundWords}
use Rattle.replay.proofs.run.Given as goal

abbrev pub invariant-loop-p : goal.invariant-loop-p
invariant-loop-p g l = SoundWords l.w
