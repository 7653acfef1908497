-- What card 4 of document 02 claims of settle. Why it is true: a settle says done only where the choice names nothing, the
-- choice is over every letter in flight to an up process, and in a sound world there is no letter beside those of its
-- messages and processes. Assumes nothing.
use Rattle.definitions.specs.World.{view}
use Rattle.definitions.specs.Settle.{done}
use Rattle.definitions.specs.Words.{settled_words}
use Rattle.definitions.specs.NothingToCome.{to_come, NothingToCome}
use Rattle.base.specs.Tests.{clash}
use Rattle.world.specs.StepLaws.{none_flies}
use Rattle.nothing_to_come.specs.Left.{come_within, left_sound, nothing_moves, all_made, one_moves}
use Rattle.nothing_to_come.specs.Lost.{says_at_limit, gone}

pub nothing_to_come : NothingToCome
nothing_to_come = record {
  after_done = λ o w b n e x. elim x [
    | to_come k m q p t ↦
        let (hk, _, _, l, flies) = t in
        let u = settled_words o w b in
        let low = come_within u k m q p (left_sound o w b (done n) e) t in
        clash flies (none_flies (view u) (nothing_moves o w b n e) k m q p hk low.0 low.1 l.0 l.1)
  ];
  after_stopped = λ o w b n e. (all_made o w b n e, one_moves o w b n e);
  within_limit = λ o w setup items ok b l. says_at_limit w setup ok o items b l;
  lost_gone = λ w setup bytes before after k m q p ok reads taken. gone w setup ok bytes before after k m q p reads taken;
}
