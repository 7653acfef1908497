-- What card 5 of document 02 claims of the answer. Why it is true: del[q] counts the prefix of q's messages to the group
-- that p has delivered causally, and a message that waits knows of more of them; the next of these precedes it, and is
-- lower. Assumes nothing.
use Rattle.definitions.specs.History.{run}
use Rattle.definitions.specs.Awaits.{Awaits}
use Rattle.world.specs.Runs.{on_states, started}
use Rattle.order.specs.Order.{reached}
use Rattle.carried.specs.Carried.{setup_taken, from_setup}
use Rattle.awaits.specs.Words.{waits_of, waits_taken}
use Rattle.awaits.proofs.Words.{named_written, chain_written}

pub awaits : Awaits
awaits = record {
  answered = λ w p m. (waits_of w p m, waits_taken w p m);
  named = λ w setup items ok p m y.
      let r = run on_states (started setup) items in
      let e = from_setup w setup ok items in
      rw e (named_written r (reached setup items (setup_taken w setup ok)) p m (rw e at y));
  chain = λ w setup items ok p m y.
      let r = run on_states (started setup) items in
      let e = from_setup w setup ok items in
      rw e (chain_written r (reached setup items (setup_taken w setup ok)) p m (rw e at y));
}
