-- What soundness tells, sentence by sentence: the test and the fact are the same; each limit of document 01
-- as a fact about a sound state; which cells the tests of other cells look at; and soundness looks at the
-- world's cells only, so it passes between a state and its words. Assumes nothing.
use Rattle.std.specs.Prelude.{◌≡◌, Bool, true, false, ◌&&◌, List, ◌≢◌, ltb, leb}
use Rattle.std.proofs.Math.Path.{refl, ap, ap₂}
use Rattle.std.proofs.Common.{sym, ◌∙◌}
use Rattle.std.proofs.Math.Bool.{not}
use Prim.Native.Nat.{ℕ, zero, suc, ◌+◌, ◌≤◌, ◌<◌}
use native.Mathlib.Omega.{arith}
use Rattle.std.proofs.Math.Dec.{eqb}
use borrow.Author.Tests.{ltb-true, ltb-false, lt-ltb, eqb-true, leb-true, eq-eqb, ne_eqb, not-true}
use Rattle.definitions.specs.General.{pick, every, some, In, in_at, tally, absent, bit, only}
use Rattle.definitions.specs.World.{Cell, size, count, rule, group, trust, counter, sequence, next, delivered, up, fifo_length, causal_length, held, marks, fifo, causal, sender, mask, stamp, number, flight, order, unused, addr, State, cell_at, encode, view, is_process, is_message, has_group, addressed, outside_fifo}
use Rattle.definitions.specs.Sound.{addressee, sends, word, item, logged_of, fit, fine, sound}
use Rattle.definitions.specs.Machine.{addressees}
use Rattle.base.specs.Tests.{clash, pick_no, both, both_l, both_r, both_i}
use Rattle.base.specs.Search.{every_true, every_intro, every_cong, some_e, some_cong}
use Rattle.base.specs.Count.{tally_le, tally_cong, absent_in, absent_out, absent_cong}
use Rattle.base.specs.Bits.{bit_zero, bit_mask_of, bit_mask_of_above, only_e, only_cong}
use Rattle.world.specs.Layout.{Within, in_words, cell_at_addr, within_cell_at, get_encode}

-- That a world is sound, as the fact about its cells.
abbrev pub Sound : State → Type 0
Sound s = (c : Cell) → Within c → fine s c ≡ true

-- ---- a word in use, and one that is not
pub word_in : (b : Bool) (x : ℕ) (t : Bool) → word b x t ≡ true → b ≡ true → t ≡ true
word_in true x t e p = e
word_in false x t e p = clash {b = false} p refl

pub word_out : (b : Bool) (x : ℕ) (t : Bool) → word b x t ≡ true → b ≡ false → x ≡ 0
word_out true x t e p = clash {b = true} refl p
word_out false x t e p = eqb-true x 0 e

pub word_is : (b : Bool) (x : ℕ) (t : Bool) → (b ≡ true → t ≡ true) → (b ≡ false → x ≡ 0) → word b x t ≡ true
word_is true x t f g = f refl
word_is false x t f g = eq-eqb x 0 (g refl)

-- what is at most n in use is at most n
pub word_le : (b : Bool) (x n : ℕ) (t : Bool) → word b x t ≡ true → (b ≡ true → t ≡ true → x ≤ n) → x ≤ n
word_le true x n t e f = f refl e
word_le false x n t e f = let z = eqb-true x 0 e in omega arith

pub word_leb : (b : Bool) (x n : ℕ) → word b x (leb x n) ≡ true → x ≤ n
word_leb true x n e = leb-true x n e
word_leb false x n e = let z = eqb-true x 0 e in omega arith

-- a word that is not zero is in use
pub word_used : (b : Bool) (x : ℕ) (t : Bool) → word b x t ≡ true → x ≢ 0 → (b ≡ true) × (t ≡ true)
word_used true x t e n = (refl, e)
word_used false x t e n = absurd (n (eqb-true x 0 e))

-- ---- the test and the fact
pub sound_facts : (s : State) → sound s ≡ true → Sound s
unfolding sound
sound_facts s e c h =
    ap (fine s) (sym (cell_at_addr c h))
    ∙ every_true 20480 (λ a. fine s (cell_at a)) e (addr c) (in_words c h)

pub facts_sound : (s : State) → Sound s → sound s ≡ true
unfolding sound
facts_sound s h = every_intro 20480 (λ a. fine s (cell_at a)) (λ a l. h (cell_at a) (within_cell_at a l))

-- ---- each sentence as a fact
module _ (s : State) (h : Sound s) where
  test : (c : Cell) → Within c → fit s c (s c) ≡ true
  unfolding fine
  test c k = h c k

  -- "n from 1 to 16", "At most 64 messages"
  pub size_low : 1 ≤ s size
  unfolding fit
  size_low = leb-true 1 (s size) (both_l (leb 1 (s size)) (leb (s size) 16) (test size tt))

  pub size_high : s size ≤ 16
  unfolding fit
  size_high = leb-true (s size) 16 (both_r (leb 1 (s size)) (leb (s size) 16) (test size tt))

  pub count_high : s count ≤ 64
  unfolding fit
  count_high = leb-true (s count) 64 (test count tt)

  -- "at most 8 groups", "without a gap"
  group_test : (p : ℕ) → p < s size → both (ltb (s (group p)) 8) (every (s (group p)) (has_group s)) ≡ true
  unfolding fit
  group_test p l =
      word_in (is_process s p) (s (group p)) _ (test (group p) (omega (arith, size_high))) (lt-ltb p (s size) l)

  pub group_high : (p : ℕ) → p < 16 → s (group p) < 8
  unfolding fit
  group_high p l =
      let z = word_le (is_process s p) (s (group p)) 7 _ (test (group p) l)
      (λ b t. let z = ltb-true (s (group p)) 8 (both_l (ltb (s (group p)) 8) _ t) in omega arith) in
      omega arith

  pub group_gapless : (p g : ℕ) → p < s size → g < s (group p) → (q : ℕ) × (q < s size) × (s (group q) ≡ g)
  unfolding has_group
  group_gapless p g l k =
      let e = every_true (s (group p)) (has_group s) (both_r (ltb (s (group p)) 8) _ (group_test p l)) g k in
      let z = some_e (s size) (λ q. eqb (s (group q)) g) e in
      (z.0, z.1, eqb-true (s (group z.0)) g z.2)

  -- "every message has an existing sender and a non-empty mask of existing groups"
  pub sender_low : (m : ℕ) → m < s count → s (sender m) < s size
  unfolding fit
  sender_low m l =
      ltb-true (s (sender m)) (s size)
      (word_in (is_message s m) (s (sender m)) _ (test (sender m) (omega (arith, count_high)))
      (lt-ltb m (s count) l))

  pub sender_high : (m : ℕ) → m < 64 → s (sender m) < 16
  unfolding fit
  sender_high m l =
      let z = word_le (is_message s m) (s (sender m)) 15 _ (test (sender m) l)
      (λ b t. let z = ltb-true (s (sender m)) (s size) t in omega (arith, size_high)) in
      omega arith

  mask_test : (m : ℕ) → m < s count
      → both (not (eqb (s (mask m)) 0)) (only 16 (s (mask m)) (has_group s)) ≡ true
  unfolding fit
  mask_test m l =
      word_in (is_message s m) (s (mask m)) _ (test (mask m) (omega (arith, count_high))) (lt-ltb m (s count) l)

  pub mask_some : (m : ℕ) → m < s count → s (mask m) ≢ 0
  mask_some m l e =
      clash (eq-eqb (s (mask m)) 0 e)
      (not-true (eqb (s (mask m)) 0) (both_l (not (eqb (s (mask m)) 0)) _ (mask_test m l)))

  pub mask_named : (m g : ℕ) → m < s count → g < 16 → bit (s (mask m)) g ≡ true
      → (p : ℕ) × (p < s size) × (s (group p) ≡ g)
  unfolding has_group
  mask_named m g l k e =
      let t = both_r (not (eqb (s (mask m)) 0)) _ (mask_test m l) in
      let r = only_e 16 (s (mask m)) (has_group s) t g k e in
      let z = some_e (s size) (λ p. eqb (s (group p)) g) r in
      (z.0, z.1, eqb-true (s (group z.0)) g z.2)

  -- "all counters, s, b and del are at most count"
  pub counter_high : (p g q : ℕ) → p < 16 → g < 8 → q < 16 → s (counter p g q) ≤ s count
  unfolding fit
  counter_high p g q hp hg hq =
      word_leb (is_process s p && has_group s g && is_process s q) (s (counter p g q)) (s count)
      (test (counter p g q) (hp, hg, hq))

  pub stamp_high : (m g q : ℕ) → m < 64 → g < 8 → q < 16 → s (stamp m g q) ≤ s count
  unfolding fit
  stamp_high m g q hm hg hq =
      word_leb (is_message s m && has_group s g && is_process s q) (s (stamp m g q)) (s count)
      (test (stamp m g q) (hm, hg, hq))

  pub number_high : (m g : ℕ) → m < 64 → g < 8 → s (number m g) ≤ s count
  unfolding fit
  number_high m g hm hg =
      word_leb (is_message s m && has_group s g) (s (number m g)) (s count) (test (number m g) (hm, hg))

  pub sequence_high : (p g : ℕ) → p < 16 → g < 8 → s (sequence p g) ≤ s count
  unfolding fit
  sequence_high p g hp hg =
      word_leb (is_process s p && has_group s g) (s (sequence p g)) (s count) (test (sequence p g) (hp, hg))

  pub delivered_high : (p q : ℕ) → p < 16 → q < 16 → s (delivered p q) ≤ s count
  unfolding fit
  delivered_high p q hp hq =
      word_leb (is_process s p && is_process s q) (s (delivered p q)) (s count) (test (delivered p q) (hp, hq))

  -- "flags are 0 or 1"
  pub up_flag : (p : ℕ) → p < 16 → s (up p) ≤ 1
  unfolding fit
  up_flag p hp = word_leb (is_process s p) (s (up p)) 1 (test (up p) hp)

  pub held_flag : (p m : ℕ) → p < 16 → m < 64 → s (held p m) ≤ 1
  unfolding fit
  held_flag p m hp hm = word_leb (is_message s m && addressee s m p) (s (held p m)) 1 (test (held p m) (hp, hm))

  -- "trust sets name existing processes"
  pub trust_named : (p q : ℕ) → p < 16 → q < 16 → bit (s (trust p)) q ≡ true → q < s size
  unfolding fit
  trust_named p q hp hq e =
      let u = word_used (is_process s p) (s (trust p)) _ (test (trust p) hp)
      (λ z. clash e (ap (λ (x : ℕ). bit x q) z ∙ bit_zero q)) in
      ltb-true q (s size) (only_e 16 (s (trust p)) (is_process s) u.1 q hq e)

-- the mask of the addressees of m has a bit for each of them
pub addressees_bit : (s : State) (m p : ℕ) → bit (addressees s m) p ≡ addressee s m p
addressees_bit s m p = go (is_process s p) refl
  where
    go : (b : Bool) → is_process s p ≡ b → bit (addressees s m) p ≡ (b && addressed s m p)
    go true l = bit_mask_of (s size) (addressed s m) p (ltb-true p (s size) l)
    go false l = bit_mask_of_above (s size) (addressed s m) p (ltb-false p (s size) l)

-- "letters, held flags and marks concern only the origins and addressees named above"
pub record Letter (s : State) (k m q p : ℕ) : Type 0 where
  pub of : is_message s m ≡ true
  pub from : sends s m k q ≡ true
  pub to : addressee s m p ≡ true

pub record Addressed (s : State) (p m : ℕ) : Type 0 where
  pub of : is_message s m ≡ true
  pub to : addressee s m p ≡ true

module _ (s : State) (h : Sound s) where
  pub letter_facts : (k m q p : ℕ) → k < 3 → m < 64 → q < 16 → p < 16 → bit (s (flight m k q)) p ≡ true
      → Letter s k m q p
  unfolding fine fit
  letter_facts k m q p hk hm hq hp e =
      let u = word_used (is_message s m && sends s m k q) (s (flight m k q)) _
      (h (flight m k q) (hm, hk, hq)) (λ z. clash e (ap (λ (x : ℕ). bit x p) z ∙ bit_zero p)) in
      record {
        of = both_l (is_message s m) (sends s m k q) u.0;
        from = both_r (is_message s m) (sends s m k q) u.0;
        to = only_e 16 (s (flight m k q)) (addressee s m) u.1 p hp e;
      }

  -- its origin is a process
  pub origin_low : (k m q p : ℕ) → Letter s k m q p → q < s size
  unfolding sends
  origin_low zero m q p l =
      omega (arith, sender_low s h m (ltb-true m (s count) l.of), eqb-true q (s (sender m)) l.from)
  origin_low (suc k) m q p l =
      ltb-true q (s size)
      (both_l (is_process s q) (addressed s m q) (sym (pick_no _ _ (ne_eqb (suc k) 0 (omega arith))) ∙ l.from))

  pub held_facts : (p m : ℕ) → p < 16 → m < 64 → s (held p m) ≢ 0 → Addressed s p m
  unfolding fine fit
  held_facts p m hp hm n =
      let u = word_used (is_message s m && addressee s m p) (s (held p m)) _ (h (held p m) (hp, hm)) n in
      record {
        of = both_l (is_message s m) (addressee s m p) u.0;
        to = both_r (is_message s m) (addressee s m p) u.0;
      }

  pub mark_facts : (p m q : ℕ) → p < 16 → m < 64 → q < 16 → bit (s (marks p m)) q ≡ true
      → Addressed s p m × Addressed s q m
  unfolding fine fit
  mark_facts p m q hp hm hq e =
      let u = word_used (is_message s m && addressee s m p) (s (marks p m)) _
      (h (marks p m) (hp, hm)) (λ z. clash e (ap (λ (x : ℕ). bit x q) z ∙ bit_zero q)) in
      let a = both_l (is_message s m) (addressee s m p) u.0 in (
        record { of = a; to = both_r (is_message s m) (addressee s m p) u.0 },
        record { of = a; to = only_e 16 (s (marks p m)) (addressee s m) u.1 q hq e },
      )

  -- the lengths of the logs
  pub fifo_length_high : (p : ℕ) → p < 16 → s (fifo_length p) ≤ s count
  unfolding fine fit
  fifo_length_high p hp = word_leb (is_process s p) (s (fifo_length p)) (s count) (h (fifo_length p) hp)

  pub causal_length_high : (p : ℕ) → p < 16 → s (causal_length p) ≤ s (fifo_length p)
  unfolding fine fit
  causal_length_high p hp =
      word_leb (is_process s p) (s (causal_length p)) (s (fifo_length p)) (h (causal_length p) hp)

  pub fifo_high : (p i : ℕ) → p < 16 → i < 64 → s (fifo p i) < 64
  unfolding fine fit item
  fifo_high p i hp hi =
      let z = word_le (is_process s p) (s (fifo p i)) 63 _ (h (fifo p i) (hp, hi))
      (λ _ e. word_le (ltb i (s (fifo_length p))) (s (fifo p i)) 63 _ e
      (λ _ t. let z = ltb-true (s (fifo p i)) (s count)
      (both_l (is_message s (s (fifo p i))) _ (both_l _ _ t)) in
      omega (arith, count_high s h))) in
      omega arith

  -- "each log lists distinct messages addressed to its process"
  fifo_test : (p i : ℕ) → p < s size → i < s (fifo_length p)
      → both (both (is_message s (s (fifo p i))) (addressee s (s (fifo p i)) p))
      (absent i (s (fifo p i)) (λ j. s (fifo p j))) ≡ true
  unfolding fine fit item
  fifo_test p i hp hi =
      let p16 : p < 16 = omega (arith, size_high s h) in
      let i64 : i < 64 = omega (arith, fifo_length_high p p16, count_high s h) in
      word_in (ltb i (s (fifo_length p))) (s (fifo p i)) _
      (word_in (is_process s p) (s (fifo p i)) _ (h (fifo p i) (p16, i64)) (lt-ltb p (s size) hp))
      (lt-ltb i (s (fifo_length p)) hi)

  pub fifo_addressed : (p i : ℕ) → p < s size → i < s (fifo_length p) → Addressed s p (s (fifo p i))
  fifo_addressed p i hp hi =
      let a = both_l _ (absent i (s (fifo p i)) (λ j. s (fifo p j))) (fifo_test p i hp hi) in
      record {
        of = both_l (is_message s (s (fifo p i))) (addressee s (s (fifo p i)) p) a;
        to = both_r (is_message s (s (fifo p i))) (addressee s (s (fifo p i)) p) a;
      }

  -- what is in it is a message
  pub fifo_exists : (p i : ℕ) → p < s size → i < s (fifo_length p) → s (fifo p i) < s count
  fifo_exists p i hp hi = ltb-true (s (fifo p i)) (s count) (fifo_addressed p i hp hi).of

  pub fifo_once : (p i j : ℕ) → p < s size → i < j → j < s (fifo_length p) → s (fifo p i) ≢ s (fifo p j)
  fifo_once p i j hp hi hj e =
      absent_out j (s (fifo p j)) (λ x. s (fifo p x))
      (both_r (both (is_message s (s (fifo p j))) (addressee s (s (fifo p j)) p)) _ (fifo_test p j hp hj))
      (in_at i hi e)

  -- "the causal one only members of the FIFO one"
  causal_test : (p i : ℕ) → p < s size → i < s (causal_length p)
      → both (not (outside_fifo s p (s (causal p i)))) (absent i (s (causal p i)) (λ j. s (causal p j))) ≡ true
  unfolding fine fit item
  causal_test p i hp hi =
      let p16 : p < 16 = omega (arith, size_high s h) in
      let i64 : i < 64 = omega (arith, causal_length_high p p16, fifo_length_high p p16, count_high s h) in
      word_in (ltb i (s (causal_length p))) (s (causal p i)) _
      (word_in (is_process s p) (s (causal p i)) _ (h (causal p i) (p16, i64)) (lt-ltb p (s size) hp))
      (lt-ltb i (s (causal_length p)) hi)

  pub causal_in_fifo : (p i : ℕ) → p < s size → i < s (causal_length p)
      → In (s (fifo_length p)) (λ j. s (fifo p j)) (s (causal p i))
  causal_in_fifo p i hp hi =
      absent_in (s (fifo_length p)) (s (causal p i)) (λ j. s (fifo p j))
      (not-true _ (both_l (not (outside_fifo s p (s (causal p i)))) _ (causal_test p i hp hi)))

  pub causal_once : (p i j : ℕ) → p < s size → i < j → j < s (causal_length p)
      → s (causal p i) ≢ s (causal p j)
  causal_once p i j hp hi hj e =
      absent_out j (s (causal p j)) (λ x. s (causal p x))
      (both_r (not (outside_fifo s p (s (causal p j)))) _ (causal_test p j hp hj)) (in_at i hi e)

  -- "next[q], for q below n, is 1 plus the number of q's messages in that FIFO log"
  pub next_is : (p q : ℕ) → p < s size → q < s size → s (next p q) ≡ 1 + logged_of s p q
  unfolding fine fit
  next_is p q hp hq =
      let both16 : (p < 16) × (q < 16) = omega (arith, size_high s h) in
      eqb-true (s (next p q)) (1 + logged_of s p q)
      (word_in (both (is_process s p) (is_process s q)) (s (next p q)) _ (h (next p q) both16)
      (both_i (is_process s p) (is_process s q) (lt-ltb p (s size) hp) (lt-ltb q (s size) hq)))

  pub next_high : (p q : ℕ) → p < 16 → q < 16 → s (next p q) ≤ s (fifo_length p) + 1
  unfolding fine fit logged_of
  next_high p q hp hq =
      word_le (both (is_process s p) (is_process s q)) (s (next p q)) (s (fifo_length p) + 1) _
      (h (next p q) (hp, hq))
      (λ b t. let z = eqb-true (s (next p q)) _ t in
      omega (arith, tally_le (s (fifo_length p)) (λ i. eqb (s (sender (s (fifo p i)))) q)))

-- ---- the cells that the tests of other cells look at
abbrev pub Looked : Cell → Type 0
Looked size = Unit {0}
Looked count = Unit {0}
Looked rule = ⊥
Looked (group p) = Unit {0}
Looked (trust p) = ⊥
Looked (counter p g q) = ⊥
Looked (sequence p g) = ⊥
Looked (next p q) = ⊥
Looked (delivered p q) = ⊥
Looked (up p) = ⊥
Looked (fifo_length p) = Unit {0}
Looked (causal_length p) = Unit {0}
Looked (held p m) = ⊥
Looked (marks p m) = ⊥
Looked (fifo p i) = Unit {0}
Looked (causal p i) = Unit {0}
Looked (sender m) = Unit {0}
Looked (mask m) = Unit {0}
Looked (stamp m g q) = ⊥
Looked (number m g) = ⊥
Looked (flight m k q) = ⊥
Looked (order m) = ⊥
Looked (unused i) = ⊥

-- where s has the same in these as a sound t, the words of s pass the tests of s if they pass those of t
module _ (s t : State) (e : (c : Cell) → Looked c → Within c → s c ≡ t c) (h : Sound t) where
  process_on : (p : ℕ) → is_process s p ≡ is_process t p
  process_on p = ap (ltb p) (e size tt tt)

  message_on : (m : ℕ) → is_message s m ≡ is_message t m
  message_on m = ap (ltb m) (e count tt tt)

  group_on : (g : ℕ) → has_group s g ≡ has_group t g
  unfolding has_group
  group_on g =
      some_cong (s size) (λ p. eqb (s (group p)) g) (λ p. eqb (t (group p)) g)
      (λ p l. ap (λ (x : ℕ). eqb x g) (e (group p) tt (omega (arith, e size tt tt, size_high t h))))
      ∙ ap (λ (n : ℕ). some n (λ p. eqb (t (group p)) g)) (e size tt tt)

  addressee_on : (m p : ℕ) → m < 64 → p < 16 → addressee s m p ≡ addressee t m p
  addressee_on m p l k = ap₂ both (process_on p) (ap₂ bit (e (mask m) tt l) (e (group p) tt k))

  sends_on : (m k q : ℕ) → m < 64 → q < 16 → sends s m k q ≡ sends t m k q
  unfolding sends
  sends_on m k q l a = ap₂ (pick (eqb k 0)) (ap (eqb q) (e (sender m) tt l)) (addressee_on m q l a)

  fifo_room : (p i : ℕ) → p < 16 → i < s (fifo_length p) → i < 64
  fifo_room p i hp hi =
      omega (arith, e (fifo_length p) tt hp, fifo_length_high t h p hp, count_high t h)

  listed_on : (p m : ℕ) → p < 16 → outside_fifo s p m ≡ outside_fifo t p m
  listed_on p m l =
      absent_cong (s (fifo_length p)) (t (fifo_length p)) m (λ i. s (fifo p i)) (λ i. t (fifo p i))
      (e (fifo_length p) tt l) (λ i k. e (fifo p i) tt (l, fifo_room p i l k))

  logged_on : (p q : ℕ) → p < 16 → logged_of s p q ≡ logged_of t p q
  unfolding logged_of
  logged_on p q l =
      tally_cong (s (fifo_length p)) (λ i. eqb (s (sender (s (fifo p i)))) q)
      (λ i. eqb (t (sender (t (fifo p i)))) q)
      (λ i k. ap (λ (x : ℕ). eqb x q) (ap (λ (m : ℕ). s (sender m)) (e (fifo p i) tt (l, fifo_room p i l k))
      ∙ e (sender (t (fifo p i))) tt (fifo_high t h p i l (fifo_room p i l k))))
      ∙ ap (λ (n : ℕ). tally n (λ i. eqb (t (sender (t (fifo p i)))) q)) (e (fifo_length p) tt l)

  absent_on : (n x : ℕ) (f g : ℕ → ℕ) → ((i : ℕ) → i < n → f i ≡ g i) → absent n x f ≡ absent n x g
  absent_on n x f g k = absent_cong n n x f g refl k

  word_on : {a a' : Bool} (x : ℕ) {b b' : Bool} → a ≡ a' → b ≡ b' → word a x b ≡ word a' x b'
  word_on x p q = cc

  at_most_on : {a a' : Bool} (x : ℕ) → a ≡ a' → word a x (leb x (s count)) ≡ word a' x (leb x (t count))
  at_most_on x p = word_on x p (ap (leb x) (e count tt tt))

  pub fit_on : (c : Cell) → Within c → fit s c (s c) ≡ fit t c (s c)
  unfolding fit item
  fit_on size k = refl
  fit_on count k = refl
  fit_on rule k = refl
  fit_on (group p) k =
      word_on (s (group p)) (process_on p) (ap (both (ltb (s (group p)) 8))
      (every_cong (s (group p)) (has_group s) (has_group t) (λ g _. group_on g)))
  fit_on (trust p) k =
      word_on (s (trust p)) (process_on p)
      (only_cong 16 (s (trust p)) (is_process s) (is_process t) (λ q _. process_on q))
  fit_on (counter p g q) k =
      at_most_on (s (counter p g q)) (ap₂ both (ap₂ both (process_on p) (group_on g)) (process_on q))
  fit_on (sequence p g) k = at_most_on (s (sequence p g)) (ap₂ both (process_on p) (group_on g))
  fit_on (next p q) k =
      word_on (s (next p q)) (ap₂ both (process_on p) (process_on q))
      (ap (λ (n : ℕ). eqb (s (next p q)) (1 + n)) (logged_on p q k.0))
  fit_on (delivered p q) k = at_most_on (s (delivered p q)) (ap₂ both (process_on p) (process_on q))
  fit_on (up p) k = word_on (s (up p)) (process_on p) refl
  fit_on (fifo_length p) k = at_most_on (s (fifo_length p)) (process_on p)
  fit_on (causal_length p) k =
      word_on (s (causal_length p)) (process_on p) (ap (leb (s (causal_length p))) (e (fifo_length p) tt k))
  fit_on (held p m) k = word_on (s (held p m)) (ap₂ both (message_on m) (addressee_on m p k.1 k.0)) refl
  fit_on (marks p m) k =
      word_on (s (marks p m)) (ap₂ both (message_on m) (addressee_on m p k.1 k.0))
      (only_cong 16 (s (marks p m)) (addressee s m) (addressee t m) (λ q l. addressee_on m q k.1 l))
  fit_on (fifo p i) k =
      let m : ℕ = s (fifo p i) in
      word_on m (process_on p) (word_on m (ap (ltb i) (e (fifo_length p) tt k.0)) (ap₂ both
      (ap₂ both (message_on m) (addressee_on m p (omega (arith, e (fifo p i) tt k, fifo_high t h p i k.0 k.1)) k.0))
      (absent_on i m (λ j. s (fifo p j)) (λ j. t (fifo p j)) (λ j l. e (fifo p j) tt (omega arith)))))
  fit_on (causal p i) k =
      let m : ℕ = s (causal p i) in
      word_on m (process_on p) (word_on m (ap (ltb i) (e (causal_length p) tt k.0)) (ap₂ both
      (ap not (listed_on p m k.0))
      (absent_on i m (λ j. s (causal p j)) (λ j. t (causal p j)) (λ j l. e (causal p j) tt (omega arith)))))
  fit_on (sender m) k = word_on (s (sender m)) (message_on m) (process_on (s (sender m)))
  fit_on (mask m) k =
      word_on (s (mask m)) (message_on m) (ap (both (not (eqb (s (mask m)) 0)))
      (only_cong 16 (s (mask m)) (has_group s) (has_group t) (λ g _. group_on g)))
  fit_on (stamp m g q) k =
      at_most_on (s (stamp m g q)) (ap₂ both (ap₂ both (message_on m) (group_on g)) (process_on q))
  fit_on (number m g) k = at_most_on (s (number m g)) (ap₂ both (message_on m) (group_on g))
  fit_on (flight m i q) k =
      word_on (s (flight m i q)) (ap₂ both (message_on m) (sends_on m i q k.0 k.2))
      (only_cong 16 (s (flight m i q)) (addressee s m) (addressee t m) (λ p l. addressee_on m p k.0 l))
  fit_on (order m) k = word_on (s (order m)) (message_on m) refl
  fit_on (unused i) k = refl

-- ---- soundness looks at the world's cells only
sound_on : (s t : State) → ((c : Cell) → Within c → s c ≡ t c) → Sound t → Sound s
unfolding fine
sound_on s t e h c k = fit_on s t (λ d _ l. e d l) h c k ∙ ap (fit t c) (e c k) ∙ h c k

pub sound_words : (w : List ℕ) (s : State) → w ≡ encode s → Sound s → Sound (view w)
sound_words w s q = sound_on (view w) s (λ c k. ap (λ (x : List ℕ). view x c) q ∙ get_encode s c k)
