-- What the calls give on the words of a sound state: the refusals, the steps and the logs are the state's. What is
-- read off those words agrees with the state on the layout (Same), which is all that the refusals, the steps and
-- the choice of a letter look at. Assumes nothing.
use Rattle.std.specs.Prelude.{◌≡◌, Bool, ◌&&◌, List, [], length, take, drop, get_or}
use Rattle.std.proofs.Math.Path.{refl, sym, ap, ap₂}
use Rattle.std.proofs.Common.{◌∙◌, arith}
use Rattle.std.proofs.Math.Bool.{true, false, not}
use Prim.Native.Nat.{ℕ, ◌-◌, ◌^◌, ◌<◌}
use Rattle.std.proofs.Math.Dec.{ltb, eqb}
use borrow.Author.Tests.{ltb-true, eq-eqb, lt-ltb}
use Rattle.definitions.specs.General.{pick, needs, first_from, some, bit, tabulate, In, in_at, Listed}
use Rattle.definitions.specs.World.{Cell, size, count, rule, group, trust, counter, sequence, next, delivered, up, fifo_length, causal_length, held, marks, fifo, causal, sender, mask, stamp, number, flight, order, unused, State, encode, view, addr, has_group, is_process}
use Rattle.definitions.specs.Setup.{setup_refusal, made}
use Rattle.definitions.specs.Steps.{Step, multicasts, arrives, loses, trusts, crashes, malformed, read, good_mask, is_up, in_flight, refusal, accepted, step, after}
use Rattle.definitions.specs.Settle.{Choice, letter, nothing, moves, receiver, origin, kind, movable, letter_of, some_letter, lowest, any, has_letter, served, fair, Manner, lowest_first, by_turns, choice}
use Rattle.definitions.specs.Words.{needs_world, making_refusal, made_words, step_refusal, stepped_words, log_length, log_start, log_refusal, log_words}
use Rattle.base.specs.Tests.{both_l, both_r}
use Rattle.base.specs.Search.{first_law, first_cong, some_cong}
use Rattle.base.specs.Bits.{only_cong}
use Rattle.base.specs.Tabulate.{length_tabulate, get_d_tabulate}
use Rattle.world.specs.Layout.{Within, get_encode, encode_ext, part_encode}
use Rattle.world.specs.SoundLaws.{Sound, size_high, count_high, group_high, sender_high, fifo_length_high, causal_length_high, fifo_high}
use Rattle.world.specs.Calls.{refused_same}
use Rattle.world.specs.StepLaws.{accepted_multicast, accepted_arrival, accepted_loss, accepted_trust}
use Rattle.keeps.specs.Keeps.{sound_words_taken, encoded}
use Rattle.effects.specs.Logs.{log_item, encoded_length}
use Rattle.carried.specs.Same.{Fits, Agree, same, process_low, message_low, leave_agree, arrival_agree, trust_agree, crash_agree, multicast_agree}

-- ---- refusals
needs_same : (n : ℕ) {b b' : Bool} {x x' : ℕ} → b ≡ b' → (b ≡ true → x ≡ x') → needs n b x ≡ needs n b' x'
needs_same n {b} {b'} {x} {x'} e f = go b refl ∙ ap (λ (z : Bool). needs n z x') e
  where
    go : (z : Bool) → b ≡ z → needs n z x ≡ needs n z x'
    go true q = f q
    go false q = refl

module _ {s t : State} (a : Agree s t) where
  -- who is up
  up_agree : (p : ℕ) → p < s size → is_up s p ≡ is_up t p
  up_agree p l = ap (λ (v : ℕ). eqb v 1) (same a (up p) (process_low a p l))

  -- which groups there are
  group_agree : (g : ℕ) → has_group s g ≡ has_group t g
  unfolding has_group
  group_agree g =
      some_cong (s size) (λ p. eqb (s (group p)) g) (λ p. eqb (t (group p)) g)
      (λ p l. ap (λ (v : ℕ). eqb v g) (same a (group p) (process_low a p l)))
      ∙ ap (λ (n : ℕ). some n (λ p. eqb (t (group p)) g)) (same a size tt)

  -- which masks are good
  mask_agree : (groups : ℕ) → good_mask s groups ≡ good_mask t groups
  unfolding good_mask
  mask_agree groups =
      ap (λ (b : Bool). not (eqb groups 0) && ltb groups 256 && b)
      (only_cong 8 groups (has_group s) (has_group t) (λ g _. group_agree g))

  -- which numbers are processes
  size_test : (p : ℕ) → ltb p (s size) ≡ ltb p (t size)
  size_test p = ap (ltb p) (same a size tt)

  -- which are messages
  count_test : (m : ℕ) → ltb m (s count) ≡ ltb m (t count)
  count_test m = ap (ltb m) (same a count tt)

  -- which letters fly
  flight_agree : (k m q p : ℕ) → k < 3 → m < s count → q < s size → in_flight s k m q p ≡ in_flight t k m q p
  flight_agree k m q p hk hm hq =
      ap (λ (v : ℕ). bit v p) (same a (flight m k q) (message_low a m hm, hk, process_low a q hq))

  -- whether both ends are processes
  ends_agree : (q p : ℕ) → (ltb q (s size) && ltb p (s size)) ≡ (ltb q (t size) && ltb p (t size))
  ends_agree q p = ap₂ (λ (x y : Bool). x && y) (size_test q) (size_test p)

  -- both ends are processes
  from_low : (q p : ℕ) → (ltb q (s size) && ltb p (s size)) ≡ true → q < s size
  from_low q p e = ltb-true q (s size) (both_l (ltb q (s size)) (ltb p (s size)) e)

  -- the other end
  to_low : (q p : ℕ) → (ltb q (s size) && ltb p (s size)) ≡ true → p < s size
  to_low q p e = ltb-true p (s size) (both_r (ltb q (s size)) (ltb p (s size)) e)

  -- so the same steps are refused, with the same numbers
  pub refusal_agree : (x : Step) → refusal s x ≡ refusal t x
  unfolding refusal
  refusal_agree (multicasts p groups o) =
      needs_same 5 (size_test p) (λ l. needs_same 6 (mask_agree groups) (λ _.
      needs_same 9 (up_agree p (ltb-true p (s size) l)) (λ _.
      needs_same 10 (ap (λ (n : ℕ). ltb n 64) (same a count tt)) (λ _. refl))))
  refusal_agree (arrives k m q p) =
      needs_same 4 refl (λ hk. needs_same 5 (ends_agree q p) (λ e. needs_same 7 (count_test m) (λ hm.
      needs_same 9 (up_agree p (to_low q p e)) (λ _.
      needs_same 11 (flight_agree k m q p (ltb-true k 3 hk) (ltb-true m (s count) hm) (from_low q p e))
      (λ _. refl)))))
  refusal_agree (loses k m q p) =
      needs_same 4 refl (λ hk. needs_same 5 (ends_agree q p) (λ e. needs_same 7 (count_test m) (λ hm.
      needs_same 11 (flight_agree k m q p (ltb-true k 3 hk) (ltb-true m (s count) hm) (from_low q p e)) (λ _.
      needs_same 12
      (ap₂ (λ (x y : Bool). not (x && y)) (up_agree q (from_low q p e)) (up_agree p (to_low q p e)))
      (λ _. refl)))))
  refusal_agree (trusts p set) =
      needs_same 5 (size_test p) (λ l. needs_same 8 (ap (λ (n : ℕ). ltb set (2 ^ n)) (same a size tt)) (λ _.
      needs_same 9 (up_agree p (ltb-true p (s size) l)) (λ _. refl)))
  refusal_agree (crashes p) =
      needs_same 5 (size_test p) (λ l. needs_same 9 (up_agree p (ltb-true p (s size) l)) (λ _. refl))
  refusal_agree malformed = refl

  -- ---- an accepted step
  pub step_agree : (x : Step) → accepted s x ≡ true → Agree (step s x) (step t x)
  unfolding step
  step_agree (multicasts p groups o) e =
      let y = accepted_multicast s p groups o e in
      multicast_agree p groups o (process_low a p y.process) y.room a
  step_agree (arrives k m q p) e =
      let y = (accepted_arrival s k m q p e).letter in
      arrival_agree k m q p y.kind (message_low a m y.message) (process_low a q y.from)
      (process_low a p y.to) a
  step_agree (loses k m q p) e =
      let y = accepted_loss s k m q p e in
      leave_agree k m q p y.kind (message_low a m y.message) (process_low a q y.from) a
  step_agree (trusts p set) e = trust_agree p set (process_low a p (accepted_trust s p set e).process) a
  step_agree (crashes p) e = crash_agree p a
  step_agree malformed e = a

  -- ---- the lowest letter
  moves_agree : (m k q p : ℕ) → m < s count → k < 3 → q < s size → p < s size
      → moves s m k q p ≡ moves t m k q p
  unfolding moves
  moves_agree m k q p hm hk hq hp =
      ap₂ (λ (x y : Bool). x && y) (flight_agree k m q p hk hm hq) (up_agree p hp)

  -- the first of the processes that passes, where the tests agree
  first_agree : (f g : ℕ → Bool) → ((i : ℕ) → i < s size → f i ≡ g i)
      → first_from (s size) 0 f ≡ first_from (t size) 0 g
  first_agree f g e =
      first_cong (s size) 0 f g (λ i _ u. e i (omega arith))
      ∙ ap (λ (n : ℕ). first_from n 0 g) (same a size tt)

  module _ (to : ℕ → Bool) where
    -- the lowest receiver
    receiver_agree : (m k q : ℕ) → m < s count → k < 3 → q < s size → receiver to s m k q ≡ receiver to t m k q
    unfolding receiver
    receiver_agree m k q hm hk hq =
        first_agree (λ p. to p && moves s m k q p) (λ p. to p && moves t m k q p)
        (λ p l. ap (λ (b : Bool). to p && b) (moves_agree m k q p hm hk hq l))

    -- the lowest origin
    origin_agree : (m k : ℕ) → m < s count → k < 3 → origin to s m k ≡ origin to t m k
    unfolding origin
    origin_agree m k hm hk =
        first_agree (λ q. ltb (receiver to s m k q) (s size)) (λ q. ltb (receiver to t m k q) (t size))
        (λ q l. ap₂ ltb (receiver_agree m k q hm hk l) (same a size tt))

    -- the lowest kind
    kind_agree : (m : ℕ) → m < s count → kind to s m ≡ kind to t m
    unfolding kind
    kind_agree m hm =
        first_cong 3 0 (λ k. ltb (origin to s m k) (s size)) (λ k. ltb (origin to t m k) (t size))
        (λ k _ u. ap₂ ltb (origin_agree m k hm (omega arith)) (same a size tt))

    -- the lowest letter of a message
    letter_agree : (m : ℕ) → m < s count → movable to s m ≡ true → letter_of to s m ≡ letter_of to t m
    unfolding letter_of movable kind
    letter_agree m hm e =
        let k = kind to s m in
        let hk : k < 3 = ltb-true k 3 e in
        let hq =
        ltb-true (origin to s m k) (s size)
        ((first_law 3 0 (λ i. ltb (origin to s m i) (s size))).hit (omega arith)) in
        let eo = origin_agree m k hm hk in
        ap₂ (λ (q r : ℕ). letter k m q r) eo
        (receiver_agree m k (origin to s m k) hm hk hq ∙ ap (receiver to t m k) eo)
        ∙ ap (λ (j : ℕ). letter j m (origin to t m j) (receiver to t m j (origin to t m j))) (kind_agree m hm)

    -- the lowest message
    message_agree : first_from (s count) 0 (movable to s) ≡ first_from (t count) 0 (movable to t)
    unfolding movable
    message_agree =
        first_cong (s count) 0 (movable to s) (movable to t)
        (λ m _ u. ap (λ (k : ℕ). ltb k 3) (kind_agree m (omega arith)))
        ∙ ap (λ (n : ℕ). first_from n 0 (movable to t)) (same a count tt)

    -- whether there is one
    some_agree : some_letter to s ≡ some_letter to t
    some_agree = ap₂ ltb message_agree (same a count tt)

    -- the lowest letter
    lowest_agree : lowest to s ≡ lowest to t
    unfolding lowest
    lowest_agree =
        go (some_letter to s) refl
        ∙ ap₂ (λ (x : ℕ) (b : Bool). elim b as (λ _. Choice) [
          | true ↦ letter_of to t x
          | false ↦ nothing
        ]) message_agree some_agree
      where
        low : ℕ
        low = first_from (s count) 0 (movable to s)

        go : (b : Bool) → some_letter to s ≡ b
            → ◌≡◌ {A = Choice} (elim b [ true ↦ letter_of to s low | false ↦ nothing ])
            (elim b [ true ↦ letter_of to t low | false ↦ nothing ])
        go true e =
            let l = ltb-true low (s count) e in
            letter_agree low l ((first_law (s count) 0 (movable to s)).hit (omega arith))
        go false e = refl

  -- ---- by turns
  -- whether p has a letter
  has_letter_agree : (p : ℕ) → has_letter s p ≡ has_letter t p
  unfolding has_letter
  has_letter_agree p = some_agree (eqb p)

  -- whose turn it is
  turn_agree : (w : ℕ) → served s w ≡ served t w
  unfolding served
  turn_agree w =
      ap₂ (λ (x y : ℕ). pick (ltb x (s size)) x y)
      (first_cong (s size - w) w (has_letter s) (has_letter t) (λ p l u. has_letter_agree p)
      ∙ ap (λ (n : ℕ). first_from (n - w) w (has_letter t)) (same a size tt))
      (first_agree (has_letter s) (has_letter t) (λ p l. has_letter_agree p))
      ∙ ap (λ (n : ℕ). pick (ltb (first_from (t size - w) w (has_letter t)) n)
      (first_from (t size - w) w (has_letter t)) (first_from (t size) 0 (has_letter t))) (same a size tt)

  -- the letter
  fair_agree : (w : ℕ) → fair w s ≡ fair w t
  unfolding fair
  fair_agree w =
      lowest_agree (eqb (served s w)) ∙ ap (λ (p : ℕ). lowest (eqb p) t) (turn_agree w)

  -- either choice
  pub choice_agree : (o : Manner) (w : ℕ) → choice o w s ≡ choice o w t
  choice_agree lowest_first w = lowest_agree any
  choice_agree by_turns w = fair_agree w

-- ---- a sound state and its words
-- a sound state fits the layout
sound_fits : (s : State) → Sound s → (c : Cell) → Within c → Fits c (s c)
sound_fits s h size w = size_high s h
sound_fits s h count w = count_high s h
sound_fits s h rule w = tt
sound_fits s h (group p) w = group_high s h p w
sound_fits s h (trust p) w = tt
sound_fits s h (counter p g q) w = tt
sound_fits s h (sequence p g) w = tt
sound_fits s h (next p q) w = tt
sound_fits s h (delivered p q) w = tt
sound_fits s h (up p) w = tt
sound_fits s h (fifo_length p) w = omega (arith, fifo_length_high s h p w, count_high s h)
sound_fits s h (causal_length p) w =
    omega (arith, causal_length_high s h p w, fifo_length_high s h p w, count_high s h)
sound_fits s h (held p m) w = tt
sound_fits s h (marks p m) w = tt
sound_fits s h (fifo p i) w = fifo_high s h p i w.0 w.1
sound_fits s h (causal p i) w = tt
sound_fits s h (sender m) w = sender_high s h m w
sound_fits s h (mask m) w = tt
sound_fits s h (stamp m g q) w = tt
sound_fits s h (number m g) w = tt
sound_fits s h (flight m k q) w = tt
sound_fits s h (order m) w = tt
sound_fits s h (unused i) w = tt

-- what is read off the words of a sound state agrees with it
pub view_agree : (s : State) → Sound s → Agree s (view (encode s))
view_agree s h = record { at = λ c w. (sym (get_encode s c w), sound_fits s h c w) }

-- states that agree have the same words
pub same_words : {s t : State} → Agree s t → encode t ≡ encode s
same_words {s} {t} a = encode_ext t s (λ c w. sym (same a c w))

module _ (s : State) (h : Sound s) where
  -- the words of a sound state are not refused
  pub sound_world : (n : ℕ) → needs_world (encode s) n ≡ n
  sound_world n = sound_words_taken (encode s) (encoded s h) n

  -- ---- a step
  pub refusal_carried : (bytes : List ℕ) → step_refusal (encode s) bytes ≡ refusal s (read bytes)
  unfolding step_refusal
  refusal_carried bytes =
      sound_world (refusal (view (encode s)) (read bytes))
      ∙ sym (refusal_agree (view_agree s h) (read bytes))

  pub step_carried : (bytes : List ℕ) → stepped_words (encode s) bytes ≡ encode (after s (read bytes))
  unfolding stepped_words after
  step_carried bytes =
      ap (λ (n : ℕ). pick (eqb n 0) (encode (step (view (encode s)) (read bytes))) (encode s))
      (refusal_carried bytes)
      ∙ choice (accepted s (read bytes)) refl
    where
      choice : (b : Bool) → accepted s (read bytes) ≡ b
          → pick b (encode (step (view (encode s)) (read bytes)))
          (encode s) ≡ encode (pick b (step s (read bytes)) s)
      choice true e = same_words (step_agree (view_agree s h) (read bytes) e)
      choice false e = refl

-- ---- making a world
pub making_carried : (w bytes : List ℕ) → length w ≡ 20480 → making_refusal w bytes ≡ setup_refusal bytes
unfolding making_refusal
making_carried w bytes l = ap (λ (b : Bool). needs 1 b (setup_refusal bytes)) (eq-eqb (length w) 20480 l)

pub made_carried : (w bytes : List ℕ) → length w ≡ 20480 → setup_refusal bytes ≡ 0
    → made_words w bytes ≡ encode (made bytes)
unfolding made_words
made_carried w bytes l e =
    ap (λ (n : ℕ). pick (eqb n 0) (encode (made bytes)) w) (making_carried w bytes l ∙ e)

-- ---- the logs
module _ (s : State) (h : Sound s) (p : ℕ) (hp : p < s size) where
  p16 : p < 16
  p16 = omega (arith, size_high s h)

  log_taken : log_refusal (encode s) p ≡ 0
  unfolding log_refusal
  log_taken =
      sound_world s h (needs 5 (is_process (view (encode s)) p) 0)
      ∙ ap (λ (b : Bool). needs 5 b 0)
      (lt-ltb p (view (encode s) size) (omega (arith, hp, ((view_agree s h).at size tt).0)))

  part : (log : Bool) → take (log_length s p log) (drop (log_start p log) (encode s))
      ≡ tabulate (log_length s p log) (λ i. s (log_item p log i))
  part true =
      part_encode s (addr (causal p 0)) (s (causal_length p)) (causal p)
      (omega (arith, p16, count_high s h, fifo_length_high s h p p16, causal_length_high s h p p16))
      (λ i l. omega (arith, p16, count_high s h, fifo_length_high s h p p16, causal_length_high s h p p16))
      (λ i l. omega arith)
  part false =
      part_encode s (addr (fifo p 0)) (s (fifo_length p)) (fifo p)
      (omega (arith, p16, count_high s h, fifo_length_high s h p p16))
      (λ i l. omega (arith, p16, count_high s h, fifo_length_high s h p p16)) (λ i l. omega arith)

  pub log_carried : (log : Bool)
      → log_words (encode s) p log ≡ tabulate (log_length s p log) (λ i. s (log_item p log i))
  unfolding log_words
  log_carried log =
      ap₂ (λ (n l : ℕ). pick (eqb n 0) (take l (drop (log_start p log) (encode s))) []) log_taken
      (encoded_length s p p16 log)
      ∙ part log

-- the log of no process
pub log_absent : (s : State) → Sound s → (p : ℕ) (log : Bool) → is_process s p ≡ false
    → log_words (encode s) p log ≡ []
unfolding log_words log_refusal
log_absent s h p log e =
    let d : log_refusal (encode s) p ≡ 5 =
    sound_world s h _ ∙ ap (λ (n : ℕ). needs 5 (ltb p n) 0) (get_encode s size tt)
    ∙ ap (λ (b : Bool). needs 5 b 0) e in
    refused_same (log_refusal (encode s) p) _ [] (λ q. omega arith)

-- ---- a log as a list
pub listed_in : {n m : ℕ} {log : ℕ → ℕ} {xs : List ℕ} → xs ≡ tabulate n log → Listed xs m → In n log m
listed_in {n} {m} {log} {xs} e (in_at i l d) =
    let k : i < n = omega (arith, ap length e, length_tabulate n log) in
    in_at i k (sym (get_d_tabulate n log i 0 k) ∙ ap (λ (l : List ℕ). get_or l i 0) (sym e) ∙ d)

-- and the other way round
pub in_listed : {n m : ℕ} {log : ℕ → ℕ} {xs : List ℕ} → xs ≡ tabulate n log → In n log m → Listed xs m
in_listed {n} {m} {log} {xs} e (in_at i l d) =
    in_at i (omega (arith, ap length e, length_tabulate n log))
    (ap (λ (l : List ℕ). get_or l i 0) e ∙ get_d_tabulate n log i 0 l ∙ d)
