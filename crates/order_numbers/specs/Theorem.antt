-- What card 1 of document 02 claims of order numbers, for every lent world of 20,480 words, setup record that is
-- taken and list of items, and for every two accepted journals of which one has the other's records with zeros.
-- Why it is true: a multicast alone writes an order number, once, to the record of the message that it adds, and
-- no step reads one. Assumes nothing.
use Rattle.definitions.specs.OrderNumbers.{OrderNumbers}
use Rattle.order_numbers.specs.Erase.{refusal_erased, step_erased}
use Rattle.order_numbers.specs.Bytes.{read_erased}
use Rattle.order_numbers.specs.Apart.{run_apart}
use Rattle.order_numbers.specs.Kept.{kept}
use Rattle.order_numbers.specs.Replays.{replay_apart}

pub order_numbers : OrderNumbers
order_numbers = record {
  kept = kept;
  step_apart = λ s x. (refusal_erased s x, step_erased s x);
  read_apart = read_erased;
  run_apart = λ w setup items ok. run_apart w setup ok items;
  replay_apart = replay_apart;
}
