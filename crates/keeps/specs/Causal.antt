-- Causal deliveries keep a world sound. The argument: the delivered message stands in the FIFO log and not in
-- the causal one, so the causal log has room for it by counting; del and C rise to entries of a message, and
-- these are at most count. It rests on Logs and Changes. Assumes nothing.
use Rattle.std.specs.Prelude.{◌≡◌, true, false, ◌&&◌, ℕ, ◌+◌, ◌<◌, max, ◌-◌, leb, eqb}
use Rattle.std.proofs.Math.Path.{refl, subst}
use Rattle.std.proofs.Common.{sym, ap, ◌∙◌, arith}
use Rattle.std.proofs.Math.Bool.{Bool, not}
use borrow.Author.Tests.{lt-ltb, le-leb, eqb-true}
use Rattle.definitions.specs.General.{pick, in_at}
use Rattle.definitions.specs.World.{Cell, size, count, rule, group, trust, counter, sequence, next, delivered, up, fifo_length, causal_length, held, marks, fifo, causal, sender, mask, stamp, number, flight, order, unused, State, put, is_process, has_group, outside_fifo, outside_causal}
use Rattle.definitions.specs.Sound.{sends, word, logged_of, fit, fine}
use Rattle.definitions.specs.Machine.{with_tables, deliverable, deliverable_at, merge, causal_one, causal_all}
use Rattle.base.specs.Tests.{clash, both_l, both_i}
use Rattle.base.specs.Count.{absent_out, in_absent, room_left}
use Rattle.base.specs.Loop.{loop_keeps}
use Rattle.world.specs.Layout.{put_at}
use Rattle.world.specs.SoundLaws.{Sound, word_is, size_high, count_high, group_high, sender_low, stamp_high, fifo_exists, causal_in_fifo, causal_once}
use Rattle.keeps.specs.Forms.{word_max}
use Rattle.keeps.specs.Logs.{Longer, put_longer, longer_item, longer_bound}
use Rattle.keeps.specs.Changes.{SoundAt}

-- the causal log of p in a state in which m was appended to it
causal_longer : (s : State) (p m : ℕ)
    → let t = put (put s (causal p (s (causal_length p))) m) (causal_length p) (s (causal_length p) + 1) in
    Longer p m (λ x. s (causal_length x)) (λ x i. s (causal x i)) (λ x. t (causal_length x))
    (λ x i. t (causal x i))
causal_longer s p m =
    put_longer causal_length causal (λ p x i e. let z : ◌≡◌ {A = ℕ} 0 1 = cc in omega arith) (λ p x e. cc)
    (λ p i x j e. (cc, cc)) s p m

module _ (s : State) (p i : ℕ) (h : Sound s) (hp : p < s size) (hi : i < s (fifo_length p))
    (ready : deliverable_at s p i ≡ true) where
  -- the message, and its sender
  abbrev m : ℕ
  m = s (fifo p i)

  abbrev q : ℕ
  q = s (sender m)

  -- p is a process
  here : is_process s p ≡ true
  here = lt-ltb p (s size) hp

  -- p, m and its sender are in the world
  bounds : (p < 16) × (m < s count) × (m < 64) × (q < s size) × (q < 16)
  bounds =
      let hm : m < s count = fifo_exists s h p i hp hi in
      let hq = sender_low s h m hm in
      omega (arith, size_high s h, count_high s h)

  -- the message is not in the causal log
  outside : outside_causal s p m ≡ true
  unfolding deliverable_at
  outside = both_l (outside_causal s p m) (deliverable s p m) ready

  -- so that log has room: its items are distinct members of the FIFO log
  room : s (causal_length p) < s (fifo_length p)
  room = room_left (s (fifo_length p)) (s (causal_length p)) (λ j. s (fifo p j)) (λ j. s (causal p j))
      (λ a b l k. causal_once s h p a b hp l k) (λ j l. causal_in_fifo s h p j hp l) i hi
      (absent_out (s (causal_length p)) m (λ j. s (causal p j)) outside)

  -- what del of the sender becomes
  delivered_fits : fit s (delivered p q) (s (stamp m (s (group p)) q)) ≡ true
  unfolding fit
  delivered_fits =
      let b = bounds in
      word_is (is_process s p && is_process s q) _ _
      (λ _. le-leb _ (s count) (stamp_high s h m (s (group p)) q b.2 (group_high s h p b.0) b.4))
      (λ u. clash (both_i (is_process s p) (is_process s q) here (lt-ltb q (s size) b.3)) u)

  -- what the counters of p become
  counter_fits : (x g y : ℕ) → x < 16 → g < 8 → y < 16
      → fit s (counter x g y) (pick (eqb p x) (max (s (counter x g y)) (s (stamp m g y)))
      (s (counter x g y))) ≡ true
  unfolding fine fit
  counter_fits x g y hx hg hy = go (eqb p x) refl
    where
      used : Bool
      used = is_process s x && has_group s g && is_process s y

      old : word used (s (counter x g y)) (leb (s (counter x g y)) (s count)) ≡ true
      old = h (counter x g y) (hx, hg, hy)

      go : (b : Bool) → eqb p x ≡ b
          → word used (pick b (max (s (counter x g y)) (s (stamp m g y))) (s (counter x g y)))
          (leb (pick b (max (s (counter x g y)) (s (stamp m g y))) (s (counter x g y))) (s count)) ≡ true
      go false e = old
      go true e =
          let b = bounds in
          word_max used (s (counter x g y)) (s (stamp m g y)) (s count) old
          (ap (λ (a : Bool). word (a && has_group s g && is_process s y) (s (stamp m g y))
          (leb (s (stamp m g y)) (s count)))
          (ap (is_process s) (sym (eqb-true p x e)) ∙ here ∙ sym (lt-ltb m (s count) b.1))
          ∙ h (stamp m g y) (b.2, hg, hy))

  -- one causal delivery: what each cell's test asks
  pub causal_one_sound : Sound (causal_one s p i)
  unfolding causal_one merge with_tables put fine fit has_group sends logged_of
  causal_one_sound size k = h size k
  causal_one_sound count k = h count k
  causal_one_sound rule k = h rule k
  causal_one_sound (group x) k = h (group x) k
  causal_one_sound (trust x) k = h (trust x) k
  causal_one_sound (counter x g y) k = counter_fits x g y k.0 k.1 k.2
  causal_one_sound (sequence x g) k = h (sequence x g) k
  causal_one_sound (next x y) k = h (next x y) k
  causal_one_sound (delivered x y) k =
      put_at s (delivered p q) (delivered x y) (s (stamp m (s (group p)) q))
      (λ v. fit s (delivered x y) v ≡ true)
      (λ e. subst (λ (c : Cell). fit s c (s (stamp m (s (group p)) q)) ≡ true) e delivered_fits)
      (λ _. h (delivered x y) k)
  causal_one_sound (up x) k = h (up x) k
  causal_one_sound (fifo_length x) k = h (fifo_length x) k
  causal_one_sound (causal_length x) k =
      longer_bound (causal_longer s p m) (is_process s) (λ y. s (fifo_length y)) here room x
      (h (causal_length x) k)
  causal_one_sound (held x j) k = h (held x j) k
  causal_one_sound (marks x j) k = h (marks x j) k
  causal_one_sound (fifo x j) k = h (fifo x j) k
  causal_one_sound (causal x j) k =
      longer_item (causal_longer s p m) (is_process s) (λ y n. not (outside_fifo s y n)) here
      (ap not (in_absent {f = λ a. s (fifo p a)} (in_at i hi refl))) outside x j (h (causal x j) k)
  causal_one_sound (sender j) k = h (sender j) k
  causal_one_sound (mask j) k = h (mask j) k
  causal_one_sound (stamp j g y) k = h (stamp j g y) k
  causal_one_sound (number j g) k = h (number j g) k
  causal_one_sound (flight j a y) k = h (flight j a y) k
  causal_one_sound (order j) k = h (order j) k
  causal_one_sound (unused a) k = h (unused a) k

-- a causal delivery leaves n as it is
size_kept : (s : State) (p i : ℕ) → p < s size → p < causal_one s p i size
unfolding causal_one merge with_tables put
size_kept s p i hp = hp

-- all causal deliveries that are due
pub causal_all_sound : (s : State) (p : ℕ) → SoundAt p s → SoundAt p (causal_all s p)
unfolding causal_all
causal_all_sound s p h =
    loop_keeps (λ t. t (fifo_length p)) (λ t. deliverable_at t p) (λ t. causal_one t p) (SoundAt p)
    (λ t i l e _ k. (causal_one_sound t p i k.0 k.1 l e, size_kept t p i k.1))
    (s (fifo_length p) - s (causal_length p)) s h
