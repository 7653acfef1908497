-- An accepted multicast keeps a world sound. The argument: the words of the message that is new were unused,
-- so zero; what tests ask of older messages they ask still; and the count rises by 1, as much as the counters
-- and sequence counts that p raises. The first letters are sent as any letters are. It rests on Changes.
-- Assumes nothing.
use Rattle.std.specs.Prelude.{◌≡◌, refl, Bool, false, not, ◌&&◌, ◌≢◌}
use Rattle.std.proofs.Common.{sym, ◌∙◌, subst}
use Rattle.std.proofs.Math.Path.{ap, ap₂}
use Rattle.std.proofs.Math.Bool.{true}
use Prim.Native.Nat.{ℕ, ◌+◌, ◌<◌}
use native.Mathlib.Omega.{arith}
use Rattle.std.proofs.Math.Decide.{ℕ_discrete}
use Rattle.std.proofs.Math.Dec.{ltb, leb, eqb}
use borrow.Author.Tests.{ltb-true, ltb-false, lt-ltb, le-ltb, le-leb, eqb-true, eqb-false, eq-eqb}
use Rattle.definitions.specs.General.{pick, bit, only}
use Rattle.definitions.specs.World.{size, count, rule, group, trust, counter, sequence, next, delivered, up, fifo_length, causal_length, held, marks, fifo, causal, sender, mask, stamp, number, flight, order, unused, State, put, is_process, is_message, has_group}
use Rattle.definitions.specs.Sound.{addressee, sends, word, logged_of, fit, fine}
use Rattle.definitions.specs.Machine.{with_tables, raised, stamped, numbered, posted, multicast}
use Rattle.definitions.specs.Steps.{good_mask}
use Rattle.base.specs.Tests.{clash, both, both_l, both_r, both_i}
use Rattle.base.specs.Count.{tally_cong}
use Rattle.base.specs.Bits.{only_e, only_i}
use Rattle.world.specs.Layout.{Within, put_same, put_other}
use Rattle.world.specs.SoundLaws.{Sound, word_out, word_is, size_high, fifo_exists}
use Rattle.keeps.specs.Forms.{word_to, word_zero, word_wider, word_raised, only_empty, bit_below}
use Rattle.keeps.specs.Logs.{item_weaker}
use Rattle.keeps.specs.Changes.{send_sound}

module _ (s : State) (p groups o : ℕ) (h : Sound s) (hp : p < s size) (good : good_mask s groups ≡ true)
    (room : s count < 64) where
  -- the message's number, and the state with the message but for its letters
  abbrev new : ℕ
  new = s count

  abbrev sent : State
  sent = numbered (stamped (raised s p groups) p (s count)) p groups o

  -- p is a process
  here : is_process s p ≡ true
  here = lt-ltb p (s size) hp

  -- ---- the mask of the step
  -- it names existing groups
  groups_named : (g : ℕ) → bit groups g ≡ true → has_group s g ≡ true
  unfolding good_mask
  groups_named g e =
      let low = ltb-true groups 256 (both_r (not (eqb groups 0)) (ltb groups 256) (both_l _ _ good)) in
      only_e 8 groups (has_group s)
      (both_r (not (eqb groups 0) && ltb groups 256) (only 8 groups (has_group s)) good) g
      (bit_below groups 8 g low e) e

  -- so it passes as the mask of a message
  mask_fits : (not (eqb groups 0) && only 16 groups (has_group s)) ≡ true
  unfolding good_mask
  mask_fits =
      both_i (not (eqb groups 0)) (only 16 groups (has_group s))
      (both_l (not (eqb groups 0)) (ltb groups 256) (both_l _ _ good))
      (only_i 16 groups (has_group s) (λ g _ e. groups_named g e))

  -- what a mask of the world's is
  abbrev names : ℕ → Bool
  names v = not (eqb v 0) && only 16 v (has_group s)

  -- what p equals is a process
  same_process : (x : ℕ) → eqb p x ≡ true → is_process s x ≡ true
  same_process x e = ap (is_process s) (sym (eqb-true p x e)) ∙ here

  -- ---- messages: one more than before
  message_new : ltb new (new + 1) ≡ true
  message_new = lt-ltb new (new + 1) (omega arith)

  -- of the others those exist that existed
  message_old : (j : ℕ) → new ≢ j → ltb j (new + 1) ≡ ltb j new
  message_old j n = go (ltb j new) refl
    where
      go : (b : Bool) → ltb j new ≡ b → ltb j (new + 1) ≡ b
      go true e = lt-ltb j (new + 1) (omega (arith, ltb-true j new e))
      go false e = le-ltb j (new + 1) (omega (arith, ltb-false j new e))

  -- a word of the new message was unused
  was_zero : (b : Bool) (x : ℕ) (t : Bool) → word (is_message s new && b) x t ≡ true → x ≡ 0
  was_zero b x t e = word_out (is_message s new && b) x t e (rw (le-ltb new new (omega arith)))

  -- a sender of an older message stands as it did
  sender_old : (j : ℕ) → new ≢ j → sent (sender j) ≡ s (sender j)
  unfolding numbered stamped raised with_tables put
  sender_old j n = put_other s (sender new) (sender j) p (λ e. n cc)

  -- a mask stands as it did
  mask_old : (j : ℕ) → new ≢ j → sent (mask j) ≡ s (mask j)
  unfolding numbered stamped raised with_tables put
  mask_old j n = put_other s (mask new) (mask j) groups (λ e. n cc)

  -- and so does an order number
  order_old : (j : ℕ) → new ≢ j → sent (order j) ≡ s (order j)
  unfolding numbered stamped raised with_tables put
  order_old j n = put_other s (order new) (order j) o (λ e. n cc)

  -- so older messages have the addressees that they had
  addressee_old : (j : ℕ) → new ≢ j → addressee sent j ≡ addressee s j
  unfolding numbered stamped raised with_tables put
  addressee_old j n = ap {B = ℕ → Bool} (λ k x. is_process s x && bit k (s (group x))) (mask_old j n)

  -- and their letters come from the same processes
  sends_old : (j k y : ℕ) → new ≢ j → sends sent j k y ≡ sends s j k y
  unfolding sends
  sends_old j k y n =
      ap₂ (pick (eqb k 0)) (ap (eqb y) (sender_old j n)) (ap (λ (f : ℕ → Bool). f y) (addressee_old j n))

  -- what holds of the new message and of the older ones
  by_message : (P : ℕ → Type 0) (j : ℕ) → P new → (new ≢ j → P j) → P j
  by_message P j f g = go (ℕ_discrete new j)
    where
      go : Dec (new ≡ j) → P j
      go (yes d) = subst P d f
      go (no n) = g n

  -- ---- words about a message that keep their values: held flags; marks and letters, which name addressees
  -- zero passes the test; b says whether a word of message j is in use, v is the word
  kept_fits : (test : ℕ → (ℕ → Bool) → Bool) → ((f : ℕ → Bool) → test 0 f ≡ true)
      → (b b' : ℕ → Bool) (v : ℕ → ℕ) → ((j : ℕ) → new ≢ j → b' j ≡ b j)
      → ((j : ℕ) → j < 64 → word (is_message s j && b j) (v j) (test (v j) (addressee s j)) ≡ true)
      → (j : ℕ) → j < 64 → word (is_message sent j && b' j) (v j) (test (v j) (addressee sent j)) ≡ true
  unfolding numbered stamped raised with_tables put
  kept_fits test zero_passes b b' v same old j hj =
      by_message (λ i. word (is_message sent i && b' i) (v i) (test (v i) (addressee sent i)) ≡ true) j
      (word_zero (is_message sent new && b' new) (v new) (λ x. test x (addressee sent new))
      (was_zero (b new) (v new) _ (old new room)) (zero_passes (addressee sent new)))
      (λ n. ap₂ (λ (u : Bool) (f : ℕ → Bool). word u (v j) (test (v j) f))
      (ap₂ both (message_old j n) (same j n)) (addressee_old j n) ∙ old j hj)

  -- ---- counters and sequence counts that p raises
  -- C of p rises at p itself for the groups of the mask
  counter_fits : (x g y : ℕ) → Within (counter x g y) → fine sent (counter x g y) ≡ true
  unfolding fine fit has_group numbered stamped raised with_tables put
  counter_fits x g y k =
      word_raised (is_process s x && has_group s g && is_process s y)
      (eqb p x && eqb p y && bit groups g) (s (counter x g y)) new
      (λ e. let same = both_l (eqb p x && eqb p y) (bit groups g) e in
      both_i (is_process s x && has_group s g) (is_process s y)
      (both_i (is_process s x) (has_group s g)
      (same_process x (both_l (eqb p x) (eqb p y) same))
      (groups_named g (both_r (eqb p x && eqb p y) (bit groups g) e)))
      (same_process y (both_r (eqb p x) (eqb p y) same))) (h (counter x g y) k)

  -- b of p rises for the groups of the mask
  sequence_fits : (x g : ℕ) → Within (sequence x g) → fine sent (sequence x g) ≡ true
  unfolding fine fit has_group numbered stamped raised with_tables put
  sequence_fits x g k =
      word_raised (is_process s x && has_group s g) (eqb p x && bit groups g) (s (sequence x g)) new
      (λ e. both_i (is_process s x) (has_group s g)
      (same_process x (both_l (eqb p x) (bit groups g) e)) (groups_named g (both_r (eqb p x) (bit groups g) e)))
      (h (sequence x g) k)

  -- what is copied onto the new message passes there as it does at p; used says whether the word of a process
  -- or message that exists is in use
  copied_fits : (used : Bool → Bool) (x v j : ℕ) → word (used (is_process s p)) x (leb x (new + 1)) ≡ true
      → word (used (is_message s j)) v (leb v new) ≡ true
      → word (used (ltb j (new + 1))) (pick (eqb new j) x v) (leb (pick (eqb new j) x v) (new + 1)) ≡ true
  copied_fits used x v j e f = go (eqb new j) refl
    where
      go : (b : Bool) → eqb new j ≡ b
          → word (used (ltb j (new + 1))) (pick b x v) (leb (pick b x v) (new + 1)) ≡ true
      go true d =
          ap (λ (u : Bool). word (used u) x (leb x (new + 1)))
          (ap (λ (i : ℕ). ltb i (new + 1)) (sym (eqb-true new j d)) ∙ message_new ∙ sym here)
          ∙ e
      go false d =
          word_wider (used (ltb j (new + 1))) v new
          (ap (λ (u : Bool). word (used u) v (leb v new)) (message_old j (eqb-false new j d)) ∙ f)

  -- ---- the logs, and next
  -- an older message that is addressed to x still is
  still_addressed : (x j : ℕ) → both (is_message s j) (addressee s j x) ≡ true
      → both (is_message sent j) (addressee sent j x) ≡ true
  unfolding numbered stamped raised with_tables put
  still_addressed x j e =
      let l = ltb-true j new (both_l (is_message s j) (addressee s j x) e) in
      let n : new ≢ j = λ d. omega arith in
      ap₂ (λ (b : Bool) (f : ℕ → Bool). both b (f x)) (message_old j n) (addressee_old j n) ∙ e

  -- the messages of y in the log of x are as many as before
  next_fits : (x y : ℕ) → Within (next x y) → fine sent (next x y) ≡ true
  unfolding fine fit logged_of numbered stamped raised with_tables put
  next_fits x y k =
      word_to (is_process s x && is_process s y) (s (next x y)) (s (next x y)) _ _
      (λ u t. ap (λ (n : ℕ). eqb (s (next x y)) (1 + n))
      (tally_cong (s (fifo_length x)) (λ i. eqb (sent (sender (s (fifo x i)))) y)
      (λ i. eqb (s (sender (s (fifo x i)))) y)
      (λ i l. ap (λ (q : ℕ). eqb q y) (sender_old (s (fifo x i)) (λ d. omega (arith, logged x i u l))))) ∙ t)
      (λ _ z. z) (h (next x y) k)
    where
      logged : (x i : ℕ) → both (is_process s x) (is_process s y) ≡ true → i < s (fifo_length x)
          → s (fifo x i) < new
      logged x i u l =
          fifo_exists s h x i (ltb-true x (s size) (both_l (is_process s x) (is_process s y) u)) l

  -- ---- the message but for its letters: what each cell's test asks
  sent_sound : Sound sent
  unfolding numbered stamped raised with_tables put fine fit has_group sends
  sent_sound size k = h size k
  sent_sound count k = le-leb (new + 1) 64 (omega arith)
  sent_sound rule k = h rule k
  sent_sound (group x) k = h (group x) k
  sent_sound (trust x) k = h (trust x) k
  sent_sound (counter x g y) k = counter_fits x g y k
  sent_sound (sequence x g) k = sequence_fits x g k
  sent_sound (next x y) k = next_fits x y k
  sent_sound (delivered x y) k =
      word_wider (is_process s x && is_process s y) (s (delivered x y)) new (h (delivered x y) k)
  sent_sound (up x) k = h (up x) k
  sent_sound (fifo_length x) k = word_wider (is_process s x) (s (fifo_length x)) new (h (fifo_length x) k)
  sent_sound (causal_length x) k = h (causal_length x) k
  sent_sound (held x j) k =
      kept_fits (λ v _. leb v 1) (λ _. refl) (λ i. addressee s i x) (λ i. addressee sent i x)
      (λ i. s (held x i)) (λ i n. ap (λ (f : ℕ → Bool). f x) (addressee_old i n))
      (λ i l. h (held x i) (k.0, l)) j k.1
  sent_sound (marks x j) k =
      kept_fits (only 16) only_empty (λ i. addressee s i x) (λ i. addressee sent i x)
      (λ i. s (marks x i)) (λ i n. ap (λ (f : ℕ → Bool). f x) (addressee_old i n))
      (λ i l. h (marks x i) (k.0, l)) j k.1
  sent_sound (fifo x j) k =
      word_to (is_process s x) (s (fifo x j)) (s (fifo x j)) _ _
      (λ _. item_weaker (s (fifo_length x)) (λ n. is_message s n && addressee s n x)
      (λ n. is_message sent n && addressee sent n x) (λ i. s (fifo x i)) j (s (fifo x j))
      (still_addressed x (s (fifo x j)))) (λ _ z. z) (h (fifo x j) k)
  sent_sound (causal x j) k = h (causal x j) k
  sent_sound (sender j) k =
      by_message (λ i. word (is_message sent i) (sent (sender i)) (is_process s (sent (sender i))) ≡ true) j
      (word_is (ltb new (new + 1)) (sent (sender new)) _
      (λ _. ap (is_process s) (put_same s (sender new) (sender new) p refl) ∙ here)
      (λ u. clash message_new u))
      (λ n. ap₂ (λ (b : Bool) (v : ℕ). word b v (is_process s v)) (message_old j n) (sender_old j n)
      ∙ h (sender j) k)
  sent_sound (mask j) k =
      by_message (λ i. word (is_message sent i) (sent (mask i)) (names (sent (mask i))) ≡ true) j
      (word_is (ltb new (new + 1)) (sent (mask new)) _
      (λ _. ap names (put_same s (mask new) (mask new) groups refl) ∙ mask_fits) (λ u. clash message_new u))
      (λ n. ap₂ (λ (b : Bool) (v : ℕ). word b v (names v)) (message_old j n) (mask_old j n) ∙ h (mask j) k)
  sent_sound (stamp j g y) k =
      copied_fits (λ b. b && has_group s g && is_process s y) (raised s p groups (counter p g y))
      (s (stamp j g y)) j (counter_fits p g y (omega (arith, size_high s h))) (h (stamp j g y) k)
  sent_sound (number j g) k =
      copied_fits (λ b. b && has_group s g) (raised s p groups (sequence p g)) (s (number j g)) j
      (sequence_fits p g (omega (arith, size_high s h))) (h (number j g) k)
  sent_sound (flight j i y) k =
      kept_fits (only 16) only_empty (λ x. sends s x i y) (λ x. sends sent x i y)
      (λ x. s (flight x i y)) (λ x n. sends_old x i y n) (λ x l. h (flight x i y) (l, k.1, k.2)) j k.0
  sent_sound (order j) k =
      by_message (λ i. word (is_message sent i) (sent (order i)) true ≡ true) j
      (word_is (ltb new (new + 1)) (sent (order new)) _ (λ _. refl) (λ u. clash message_new u))
      (λ n. ap₂ (λ (b : Bool) (v : ℕ). word b v true) (message_old j n) (order_old j n) ∙ h (order j) k)
  sent_sound (unused a) k = h (unused a) k

  -- the multicast: the message with its first letters
  pub multicast_sound : Sound (multicast s p groups o)
  unfolding multicast posted numbered stamped raised with_tables put sends
  multicast_sound =
      send_sound sent 0 new p (eq-eqb p (sent (sender new)) (sym (put_same s (sender new) (sender new) p refl)))
      message_new sent_sound
