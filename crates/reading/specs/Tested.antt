-- What the tests of a lent world decide: refusals 1 and 2, or a sound world, of which each call gives what its own
-- sentence says. Assumes nothing.
use Rattle.std.specs.Prelude.{◌≡◌, refl, Bool, true, false, not, List, [], ℕ, suc, ◌+◌, ◌≤◌, ◌<◌, eqb, ltb, length, take, drop, get_or}
use Rattle.std.proofs.Common.{sym, ◌∙◌, arith, ne_eqb, lt-ltb, ltb-true}
use Rattle.definitions.specs.General.{needs, gives, refuses, reply, absent}
use Rattle.definitions.specs.World.{size, count, addr, encode, view, is_message}
use Rattle.definitions.specs.Sound.{sound}
use Rattle.definitions.specs.Steps.{read, refusal, after}
use Rattle.definitions.specs.Settle.{Manner}
use Rattle.definitions.specs.Words.{needs_world, step_refusal, stepped_words, settled_words, settle_reply, log_length, log_start, log_refusal, log_words, length_reply, is_waiting, awaited_refusal, good_lengths, precedes_refusal, precedes_bytes, different, precedes_reply}
use Rattle.base.specs.Refusals.{needs_none, reply_gives}
use Rattle.base.specs.Count.{tally_le}
use Rattle.world.specs.SoundLaws.{size_high, count_high, fifo_length_high, causal_length_high}
use Rattle.keeps.specs.Keeps.{SoundWords, sound_words_taken, world_taken, taken_sound_words, sound_refusal, sound_stepped}

-- ---- the world
pub wrong_length : (w : List ℕ) (n : ℕ) → (length w ≡ 20480 → ⊥) → needs_world w n ≡ 1
wrong_length w n h = rw (ne_eqb (length w) 20480 h)

-- a world that is refused is refused whatever comes after
both_refused : (a b : Bool) (m n : ℕ) → (needs 1 a (needs 2 b 0) ≡ 0 → ⊥)
    → needs 1 a (needs 2 b m) ≡ needs 1 a (needs 2 b n)
both_refused true true m n h = absurd (h refl)
both_refused true false m n h = refl
both_refused false b m n h = refl

pub still_refused : (w : List ℕ) (m n : ℕ) → (needs_world w 0 ≡ 0 → ⊥) → needs_world w m ≡ needs_world w n
still_refused w m n h = both_refused (eqb (length w) 20480) (sound (view w)) m n h

pub still_taken : (w : List ℕ) (n : ℕ) → needs_world w 0 ≡ 0 → needs_world w n ≡ n
still_taken w n h = sound_words_taken w (taken_sound_words w h) n

-- ---- a step
pub step_refused : (w bytes : List ℕ) (r : ℕ) → (r ≡ 0 → ⊥) → r ≡ needs_world w 0
    → (r ≡ step_refusal w bytes) × (w ≡ stepped_words w bytes)
unfolding step_refusal stepped_words
step_refused w bytes r n e =
    let z : r ≡ needs_world w (refusal (view w) (read bytes)) =
    e ∙ still_refused w 0 (refusal (view w) (read bytes)) (λ q. n (e ∙ q)) in
    (z, rw (← z, ne_eqb r 0 n))

pub step_taken : (w bytes u : List ℕ) (r : ℕ) → SoundWords w
    → r ≡ refusal (view w) (read bytes) → u ≡ encode (after (view w) (read bytes))
    → (r ≡ step_refusal w bytes) × (u ≡ stepped_words w bytes)
step_taken w bytes u r h e f = (e ∙ sym (sound_refusal w bytes h), f ∙ sound_stepped w bytes h)

-- ---- settle
pub settle_refused : (o : Manner) (w : List ℕ) (b r : ℕ) → (r ≡ 0 → ⊥) → r ≡ needs_world w 0
    → (refuses r ≡ settle_reply o w b) × (w ≡ settled_words o w b)
unfolding settle_reply settled_words
settle_refused o w b r n e = (rw (← e, ne_eqb r 0 n), rw (← e, ne_eqb r 0 n))

-- ---- a process or a message that is named
-- 1, 2, then n where i is not below the word at a
abbrev pub present_refusal : List ℕ → ℕ → ℕ → ℕ → ℕ
present_refusal w a i n = needs_world w (needs n (ltb i (get_or w a 0)) 0)

pub is_present : (w : List ℕ) (a i n : ℕ) → needs_world w 0 ≡ 0 → i < get_or w a 0 → 0 ≡ present_refusal w a i n
is_present w a i n e h = sym (still_taken w (needs n (ltb i (get_or w a 0)) 0) e ∙ rw (lt-ltb i (get_or w a 0) h))

-- what is so where nothing is refused
pub present : (w : List ℕ) (a i n : ℕ) → present_refusal w a i (suc n) ≡ 0 → SoundWords w × (i < get_or w a 0)
present w a i n e =
    let (h, z) = world_taken w _ e in (h, ltb-true i (get_or w a 0) (needs_none n (ltb i (get_or w a 0)) 0 z).0)

-- where it is refused, it is whatever comes after
pub present_refused : (w : List ℕ) (a i n rest k : ℕ) → (k ≡ 0 → ⊥) → k ≡ present_refusal w a i n
    → k ≡ needs_world w (needs n (ltb i (get_or w a 0)) rest)
present_refused w a i n rest k h = go (eqb (length w) 20480) (sound (view w)) (ltb i (get_or w a 0))
  where
    go : (x y z : Bool) → k ≡ needs 1 x (needs 2 y (needs n z 0)) → k ≡ needs 1 x (needs 2 y (needs n z rest))
    go true true true e = absurd (h e)
    go true true false e = e
    go true false z e = e
    go false y z e = e

-- a call that is not refused gives its value
pub not_refused : {A : Type 0} {n : ℕ} {a b : A} → n ≡ 0 → a ≡ b → gives a ≡ reply n b
not_refused e d = rw (e, d)

-- ---- a log
pub log_refused : (w : List ℕ) (p n : ℕ) (log : Bool) → (n ≡ 0 → ⊥) → n ≡ log_refusal w p → [] ≡ log_words w p log
unfolding log_words
log_refused w p n log h e = rw (← e, ne_eqb n 0 h)

-- of a sound world, and of a process that is there
pub log_there : (w : List ℕ) (p : ℕ) (log : Bool) → SoundWords w → p < view w size
    → take (log_length (view w) p log) (drop (log_start p log) w) ≡ log_words w p log
unfolding log_words log_refusal
log_there w p log h there = rw (← is_present w (addr size) p 5 (sound_words_taken w h 0) there)

-- the process has its place, and the log lies among the words
pub process_inside : (w : List ℕ) (p : ℕ) → SoundWords w → p < view w size → p < 16
process_inside w p h there = omega (arith, size_high (view w) h.reads)

pub log_inside : (w : List ℕ) (p : ℕ) (log : Bool) → SoundWords w → p < view w size
    → log_start p log + log_length (view w) p log ≤ 20480
log_inside w p true h there =
    let s = h.reads in
    let b = process_inside w p h there in
    omega (arith, count_high (view w) s, fifo_length_high (view w) s p b, causal_length_high (view w) s p b)
log_inside w p false h there =
    let s = h.reads in
    let b = process_inside w p h there in
    omega (arith, count_high (view w) s, fifo_length_high (view w) s p b)

-- a log whose length is given lies among them too
pub length_given : (w : List ℕ) (p : ℕ) (log : Bool) (n : ℕ) → gives n ≡ length_reply w p log
    → (p < 16) × (log_start p log + n ≤ 20480)
unfolding length_reply log_refusal
length_given w p log n e =
    let r = reply_gives (log_refusal w p) n (log_length (view w) p log) e in
    let z = present w (addr size) p 4 r.0 in
    (process_inside w p z.0 z.1, omega (arith, r.1, log_inside w p log z.0 z.1))

-- ---- whose message is awaited: what comes after 1, 2 and 5
pub awaited_after : (w : List ℕ) (p m : ℕ) → SoundWords w → p < view w size
    → awaited_refusal w p m ≡ needs 7 (is_message (view w) m) (needs 18 (is_waiting (view w) p m) 0)
unfolding awaited_refusal
awaited_after w p m h there = sound_words_taken w h _ ∙ rw (lt-ltb p (view w size) there)

-- ---- which messages came first: a refusal leaves the answers
pub pairs_refused : (w pairs answers : List ℕ) (n : ℕ) → (n ≡ 0 → ⊥) → n ≡ precedes_refusal w pairs answers
    → (refuses n ≡ precedes_reply w pairs answers) × (answers ≡ precedes_bytes w pairs answers)
unfolding precedes_reply precedes_bytes
pairs_refused w pairs answers n h e = (rw (← e, ne_eqb n 0 h), rw (← e, ne_eqb n 0 h))

-- of no world, and of other lengths
pub pairs_no_world : (w pairs answers : List ℕ) (n : ℕ) → (n ≡ 0 → ⊥) → n ≡ needs_world w 0
    → n ≡ precedes_refusal w pairs answers
unfolding precedes_refusal
pairs_no_world w pairs answers n h e = e ∙ still_refused w 0 _ (λ z. h (e ∙ z))

pub pairs_lengths : (w pairs answers : List ℕ) → needs_world w 0 ≡ 0
    → good_lengths (length pairs) (length answers) ≡ false → 19 ≡ precedes_refusal w pairs answers
unfolding precedes_refusal
pairs_lengths w pairs answers h e = sym (still_taken w _ h ∙ rw e)

-- a number that is given is at most 64
pub pairs_given : (w pairs answers : List ℕ) (n : ℕ) → gives n ≡ precedes_reply w pairs answers → n ≤ 64
unfolding precedes_reply precedes_refusal different
pairs_given w pairs answers n e =
    let (z, d) = reply_gives (precedes_refusal w pairs answers) n (different (view w) pairs) e in
    let (h, _) = world_taken w _ z in
    omega (arith, d, tally_le (view w count) (λ m. not (absent (length pairs) m (λ i. get_or pairs i 0))), count_high (view w) h.reads)
