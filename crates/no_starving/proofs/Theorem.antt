-- What card 7 of document 02 claims of its settle, and of both. Why it is true: after each arrival a call goes on as one
-- that begins there, in the turn of the process behind the receiver. While a letter waits for p, an arrival elsewhere is at
-- a process that was to be tried before p and then comes behind it; and the letter stays in flight, since only its own
-- arrival takes it out. And all that one settle has brought at any point the other has in the end: there every letter has
-- landed, whoever holds a message has told all, and what would be ready is delivered. Assumes nothing.
use Rattle.definitions.specs.NoStarving.{NoStarving}
use Rattle.keeps.specs.Keeps.{taken_sound_words}
use Rattle.carried.specs.Carried.{setup_taken, words_after}
use Rattle.no_starving.specs.Words.{starves_none_words, one_by_one_words}
use Rattle.no_starving.specs.Alike.{same_end_written}

pub no_starving : NoStarving
no_starving = record {
  one_by_one = one_by_one_words;
  starves_none = λ w i k m q p e c. starves_none_words w (taken_sound_words w e) i k m q p c;
  same_end = λ w setup items ok o h a b la lb.
      rw (words_after w setup ok items) (same_end_written setup items (setup_taken w setup ok) o h a b la lb);
}
