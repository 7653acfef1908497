-- `replay::run` is safe and ends: a replay that is not refused leaves a sound world. Assumes what std says of a write.
use Rattle.std.proofs.Common.{sym, subst}
use Rattle.keeps.specs.Keeps.{SoundWords}
use Rattle.replaying.specs.Laws.{replay_sound}
use Rattle.replaying.specs.Turns.{not_refused}
use Rattle.replay.proofs.run.Goals as goal

pub loop-p-init : goal.loop-p-init
loop-p-init g c =
    subst SoundWords (sym c.replay.ensures.words) (replay_sound _ _ (not_refused _ _ _ c.in-Ok.ensures.answer))
