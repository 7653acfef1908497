-- What card 2 of document 02 claims of preview, for all words, bytes and second slices. Why it is true: both calls
-- give the words of the same step, and a step writes to the logs of its own process alone, behind what they hold.
-- Assumes nothing.
use Rattle.definitions.specs.Previews.{Previews}
use Rattle.previews.specs.Shown.{as_step, run_words_shown, run_events_shown}
use Rattle.previews.specs.Appended.{appended, none_appended}

pub previews : Previews
previews = record {
  as_step = as_step;
  in_run = λ r bytes second d e. (run_words_shown r bytes second d e, run_events_shown r bytes second d e);
  appends = appended;
  none = none_appended;
}
