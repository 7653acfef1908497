-- How long a log can be follows by counting from what document 01 asks of its items: a log of distinct
-- messages is no longer than the count, and one of distinct members of another log no longer than that. So
-- the definition of soundness, which asks for these lengths too, asks no more than document 01. It rests on
-- counting (base, Count). Assumes nothing.
use Rattle.std.specs.Prelude.{◌≡◌, refl, Bool, true, not, ◌&&◌, ◌≢◌, ℕ, ◌≤◌, ◌<◌, ltb, leb}
use Rattle.std.proofs.Common.{arith, ltb-true, lt-ltb, leb-true, le-leb}
use Rattle.std.proofs.lemmas.Bool.{not-true}
use Rattle.definitions.specs.General.{In, in_at, absent}
use Rattle.definitions.specs.World.{count, fifo_length, causal_length, fifo, causal, State, is_process, is_message, outside_fifo}
use Rattle.definitions.specs.Sound.{addressee, word, item, fit, fine}
use Rattle.base.specs.Tests.{both_l, both_r}
use Rattle.base.specs.Count.{absent_in, absent_out, room_within}
use Rattle.world.specs.SoundLaws.{word_in}
use Rattle.keeps.specs.Forms.{word_to}

-- ---- any log
-- a log of distinct members of another is no longer than that other
pub members_length : (n k : ℕ) (of log : ℕ → ℕ) → ((i j : ℕ) → i < j → j < k → log i ≢ log j)
    → ((i : ℕ) → i < k → In n of (log i)) → k ≤ n
members_length n k of log once inside = room_within n k of log once inside

-- a log of distinct numbers below n has at most n items
pub distinct_length : (n k : ℕ) (log : ℕ → ℕ) → ((i j : ℕ) → i < j → j < k → log i ≢ log j)
    → ((i : ℕ) → i < k → log i < n) → k ≤ n
distinct_length n k log once low =
    members_length n k (λ i. i) log once (λ i l. in_at (log i) (low i l) refl)

-- ---- the logs of a world
-- A log that fits its 64 places and whose items pass their tests, if the words of its process are in use: its
-- items pass ok and are distinct, so its length is at most what follows from these two.
module _ (used : Bool) (n : ℕ) (ok : ℕ → Bool) (log : ℕ → ℕ) (fits : word used n (leb n 64) ≡ true)
    (items : (i : ℕ) → i < 64 → word used (log i) (item n ok log i (log i)) ≡ true) where
  -- the test of item i
  test : used ≡ true → n ≤ 64 → (i : ℕ) → i < n → (ok (log i) && absent i (log i) log) ≡ true
  unfolding item
  test u h i l = word_in (ltb i n) (log i) _ (word_in used (log i) _ (items i (omega arith)) u) (lt-ltb i n l)

  -- the length is at most the bound
  length_follows : (bound : ℕ)
      → (((i j : ℕ) → i < j → j < n → log i ≢ log j) → ((i : ℕ) → i < n → ok (log i) ≡ true) → n ≤ bound)
      → word used n (leb n bound) ≡ true
  length_follows bound counted =
      word_to used n n (leb n 64) (leb n bound)
      (λ u t. let h = leb-true n 64 t in
      le-leb n bound (counted
      (λ i j l k e. absent_out j (log j) log (both_r (ok (log j)) (absent j (log j) log) (test u h j k))
      (in_at i l e))
      (λ i l. both_l (ok (log i)) (absent i (log i) log) (test u h i l))))
      (λ _ z. z) fits

-- the length of a FIFO log passes the test of Sound
pub fifo_length_follows : (s : State) (p : ℕ)
    → word (is_process s p) (s (fifo_length p)) (leb (s (fifo_length p)) 64) ≡ true
    → ((i : ℕ) → i < 64 → fine s (fifo p i) ≡ true) → fine s (fifo_length p) ≡ true
unfolding fine fit
fifo_length_follows s p fits items =
    length_follows (is_process s p) (s (fifo_length p)) (λ m. is_message s m && addressee s m p)
    (λ i. s (fifo p i)) fits items (s count)
    (λ once pass. distinct_length (s count) (s (fifo_length p)) (λ i. s (fifo p i)) once
    (λ i l. ltb-true (s (fifo p i)) (s count)
    (both_l (is_message s (s (fifo p i))) (addressee s (s (fifo p i)) p) (pass i l))))

-- so does the length of a causal log
pub causal_length_follows : (s : State) (p : ℕ)
    → word (is_process s p) (s (causal_length p)) (leb (s (causal_length p)) 64) ≡ true
    → ((i : ℕ) → i < 64 → fine s (causal p i) ≡ true) → fine s (causal_length p) ≡ true
unfolding fine fit
causal_length_follows s p fits items =
    length_follows (is_process s p) (s (causal_length p))
    (λ m. not (outside_fifo s p m)) (λ i. s (causal p i)) fits items (s (fifo_length p))
    (λ once pass. members_length (s (fifo_length p)) (s (causal_length p)) (λ i. s (fifo p i))
    (λ i. s (causal p i)) once
    (λ i l. absent_in (s (fifo_length p)) (s (causal p i)) (λ j. s (fifo p j)) (not-true _ (pass i l))))
