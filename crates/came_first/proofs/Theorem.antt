-- What card 6 of document 02 claims of the bytes. Why it is true: on a message, C[g][q] counts q's messages to g that are
-- before it, the message itself included, and these are a prefix of q's messages to g. So a message of q to g is before
-- another exactly when its own count is at most the other's; and every message of a run has a lowest group. Assumes nothing.
use Rattle.std.proofs.Common.{sym, ◌∙◌, arith}
use Rattle.definitions.specs.World.{view}
use Rattle.definitions.specs.History.{run}
use Rattle.definitions.specs.CameFirst.{CameFirst}
use Rattle.world.specs.Runs.{on_states, started}
use Rattle.order.specs.Order.{reached}
use Rattle.carried.specs.Carried.{setup_taken, from_setup}
use Rattle.came_first.specs.Masks.{reached_masked}
use Rattle.came_first.specs.Bytes.{byte_small, byte_itself}
use Rattle.came_first.specs.Words.{says_asked}
use Rattle.came_first.proofs.Words.{exact_written}

pub came_first : CameFirst
came_first = record {
  small = λ w x m b y. omega (arith, (says_asked y).is_byte, byte_small (view w) x m);
  itself = λ w x b y. sym (says_asked y).is_byte ∙ byte_itself (view w) x;
  reached = λ w setup items ok.
      rw (from_setup w setup ok items)
      (exact_written (run on_states (started setup) items) (reached setup items (setup_taken w setup ok))
      (reached_masked setup items));
}
