-- The fresh world of an accepted setup record is sound. The argument: every word is zero but n, the groups,
-- the trust sets, the up flags and next, each of which passes; below each group of the record another exists,
-- so by induction all below it exist. It rests on Setup (world) and Forms. Assumes nothing.
use Rattle.std.specs.Prelude.{◌≡◌, Bool, false, ◌&&◌, ◌||◌, List, ◌⊎◌, length}
use Rattle.std.proofs.Math.Path.{refl, ap}
use Rattle.std.proofs.Common.{sym, ◌∙◌, inl, inr, arith, lit<, pow_pos}
use Rattle.std.proofs.Math.Bool.{true}
use Prim.Native.Nat.{ℕ, zero, suc, ◌-◌, ◌*◌, ◌/◌, ◌^◌, ◌≤◌, ◌<◌}
use Rattle.std.proofs.Math.Nat.{mod-lt}
use Rattle.std.proofs.Math.Decide.{ℕ_discrete}
use Rattle.std.proofs.Math.Dec.{ltb, leb, eqb}
use borrow.Author.Tests.{ltb-true, lt-ltb, le-ltb, leb-true, le-leb, eq-eqb, eqb-true}
use Rattle.definitions.specs.General.{pick, needs, every, tally, only, byte}
use Rattle.definitions.specs.World.{size, count, rule, group, trust, counter, sequence, next, delivered, up, fifo_length, causal_length, held, marks, fifo, causal, sender, mask, stamp, number, flight, order, unused, State, is_process, is_message, has_group}
use Rattle.definitions.specs.Sound.{addressee, sends, word, item, logged_of, fit, fine}
use Rattle.definitions.specs.Setup.{fresh, setup_bits, setup_group, good_setup, setup_refusal, made}
use Rattle.base.specs.Tests.{both_l, both_r, both_i, either_e}
use Rattle.base.specs.Search.{every_true, every_intro, some_i, some_e}
use Rattle.base.specs.Bits.{only_i}
use Rattle.world.specs.SoundLaws.{Sound}
use Rattle.world.specs.SetupLaws.{fresh_groups}
use Rattle.keeps.specs.Forms.{word_zero, bit_below}

-- a word that is a where it is in use, and zero elsewhere
word_pick : (b : Bool) (a : ℕ) (t : ℕ → Bool) → (b ≡ true → t a ≡ true)
    → word b (pick b a 0) (t (pick b a 0)) ≡ true
word_pick true a t f = f refl
word_pick false a t f = refl

-- ---- n processes with these groups
module _ (n : ℕ) (groups : ℕ → ℕ) (low : 1 ≤ n) (high : n ≤ 16) (few : (p : ℕ) → groups p < 8)
    (gapless : (p g : ℕ) → p < n → g < groups p → has_group (fresh n groups) g ≡ true) where
  abbrev s : State
  s = fresh n groups

  -- a zero word that may be anything up to zero
  at_most_zero : (b : Bool) → word b 0 (leb 0 0) ≡ true
  at_most_zero b = word_zero b 0 (λ x. leb x 0) refl refl

  -- an item past the end of an empty log
  no_item : (b : Bool) (ok : ℕ → Bool) (log : ℕ → ℕ) (i : ℕ) → word b 0 (item 0 ok log i 0) ≡ true
  unfolding item
  no_item b ok log i = word_zero b 0 (λ x. item 0 ok log i x) refl (rw (le-ltb i 0 (omega arith)))

  -- a word of a message, and there is none
  no_message : (b : Bool) (m : ℕ) (t : Bool) → word (ltb m 0 && b) 0 t ≡ true
  no_message b m t = rw (le-ltb m 0 (omega arith))

  -- the group of a process passes: all below it exist
  group_fits : (p : ℕ) → p < n → (ltb (groups p) 8 && every (groups p) (has_group s)) ≡ true
  group_fits p l =
      both_i (ltb (groups p) 8) (every (groups p) (has_group s)) (lt-ltb (groups p) 8 (few p))
      (every_intro (groups p) (has_group s) (λ g k. gapless p g l k))

  -- the trust set of all n processes passes
  trust_fits : only 16 (2 ^ n - 1) (λ q. ltb q n) ≡ true
  trust_fits =
      only_i 16 (2 ^ n - 1) (λ q. ltb q n)
      (λ q _ e. lt-ltb q n (bit_below (2 ^ n - 1) n q (omega (arith, pow_pos n)) e))

  -- every cell of a fresh world passes
  pub fresh_world_sound : Sound (fresh n groups)
  unfolding fine fit fresh logged_of tally
  fresh_world_sound size k = both_i (leb 1 n) (leb n 16) (le-leb 1 n low) (le-leb n 16 high)
  fresh_world_sound count k = refl
  fresh_world_sound rule k = refl
  fresh_world_sound (group p) k =
      word_pick (ltb p n) (groups p) (λ x. ltb x 8 && every x (has_group s)) (λ e. group_fits p (ltb-true p n e))
  fresh_world_sound (trust p) k =
      word_pick (ltb p n) (2 ^ n - 1) (λ x. only 16 x (λ q. ltb q n)) (λ _. trust_fits)
  fresh_world_sound (counter p g q) k = at_most_zero (is_process s p && has_group s g && is_process s q)
  fresh_world_sound (sequence p g) k = at_most_zero (is_process s p && has_group s g)
  fresh_world_sound (next p q) k = word_pick (ltb p n && ltb q n) 1 (λ x. eqb x 1) (λ _. refl)
  fresh_world_sound (delivered p q) k = at_most_zero (is_process s p && is_process s q)
  fresh_world_sound (up p) k = word_pick (ltb p n) 1 (λ x. leb x 1) (λ _. refl)
  fresh_world_sound (fifo_length p) k = at_most_zero (is_process s p)
  fresh_world_sound (causal_length p) k = at_most_zero (is_process s p)
  fresh_world_sound (held p m) k = no_message (addressee s m p) m _
  fresh_world_sound (marks p m) k = no_message (addressee s m p) m _
  fresh_world_sound (fifo p i) k = no_item (is_process s p) _ _ i
  fresh_world_sound (causal p i) k = no_item (is_process s p) _ _ i
  fresh_world_sound (sender m) k = rw (le-ltb m 0 (omega arith))
  fresh_world_sound (mask m) k = rw (le-ltb m 0 (omega arith))
  fresh_world_sound (stamp m g q) k = at_most_zero (is_message s m && has_group s g && is_process s q)
  fresh_world_sound (number m g) k = at_most_zero (is_message s m && has_group s g)
  fresh_world_sound (flight m i q) k = no_message (sends s m i q) m _
  fresh_world_sound (order m) k = rw (le-ltb m 0 (omega arith))
  fresh_world_sound (unused a) k = refl

-- ---- an accepted setup record
module _ (bytes : List ℕ) (good : good_setup bytes ≡ true) where
  abbrev n : ℕ
  n = byte bytes 1

  -- the first four conditions
  first_four : (eqb (length bytes) 8 && eqb (byte bytes 0) 0 && leb 1 n && leb n 16) ≡ true
  unfolding good_setup
  first_four =
      both_l (eqb (length bytes) 8 && eqb (byte bytes 0) 0 && leb 1 n && leb n 16)
      (eqb (setup_bits bytes / 2 ^ (3 * n)) 0) (both_l _ _ good)

  -- n is at least 1
  size_low : 1 ≤ n
  size_low =
      leb-true 1 n (both_r (eqb (length bytes) 8 && eqb (byte bytes 0) 0) (leb 1 n) (both_l _ _ first_four))

  -- n is at most 16
  size_high : n ≤ 16
  size_high =
      leb-true n 16 (both_r (eqb (length bytes) 8 && eqb (byte bytes 0) 0 && leb 1 n) (leb n 16) first_four)

  -- the group just below that of p exists
  has_below : (p g : ℕ) → p < n → setup_group bytes p ≡ suc g → has_group (made bytes) g ≡ true
  unfolding good_setup
  has_below p g l e = go
      (either_e (eqb (setup_group bytes p) 0) (has_group (made bytes) (setup_group bytes p - 1))
      (every_true n (λ q. eqb (setup_group bytes q) 0 || has_group (made bytes) (setup_group bytes q - 1))
      (both_r (eqb (length bytes) 8 && eqb (byte bytes 0) 0 && leb 1 n && leb n 16
      && eqb (setup_bits bytes / 2 ^ (3 * n)) 0) _ good) p l))
    where
      go : (eqb (setup_group bytes p) 0 ≡ true) ⊎ (has_group (made bytes) (setup_group bytes p - 1) ≡ true)
          → has_group (made bytes) g ≡ true
      go (inl z) = absurd (omega (arith, eqb-true (setup_group bytes p) 0 z))
      go (inr z) = ap (has_group (made bytes)) (omega arith) ∙ z

  -- so all groups below one that exists do
  has_all_below : (g x : ℕ) → x ≤ g → has_group (made bytes) g ≡ true → has_group (made bytes) x ≡ true
  unfolding made
  has_all_below zero x l e = ap (has_group (made bytes)) (omega arith) ∙ e
  has_all_below (suc g) x l e = go (ℕ_discrete x (suc g)) (λ k. has_all_below g x k)
    where
      go : Dec (x ≡ suc g) → (x ≤ g → has_group (made bytes) g ≡ true → has_group (made bytes) x ≡ true)
          → has_group (made bytes) x ≡ true
      go (yes d) ih = ap (has_group (made bytes)) d ∙ e
      go (no d) ih =
          let z = some_e n (λ p. eqb (setup_group bytes p) (suc g))
          (sym (fresh_groups n (setup_group bytes) (suc g)) ∙ e) in
          ih (omega arith) (has_below z.0 g z.1 (eqb-true (setup_group bytes z.0) (suc g) z.2))

  -- the world that it makes is sound
  pub made_sound : Sound (made bytes)
  unfolding made setup_group
  made_sound =
      fresh_world_sound n (setup_group bytes) size_low size_high
      (λ p. mod-lt (setup_bits bytes / 2 ^ (3 * p)) (lit< tt))
      (λ p g l k. has_all_below (setup_group bytes p) g (omega arith)
      (fresh_groups n (setup_group bytes) (setup_group bytes p)
      ∙ some_i n (λ q. eqb (setup_group bytes q) (setup_group bytes p)) p l
      (eq-eqb (setup_group bytes p) (setup_group bytes p) refl)))

-- a record that is not refused is as document 01 says
pub setup_good : (bytes : List ℕ) → setup_refusal bytes ≡ 0 → good_setup bytes ≡ true
unfolding setup_refusal
setup_good bytes e = go (good_setup bytes) e
  where
    go : (b : Bool) → needs 3 b 0 ≡ 0 → b ≡ true
    go true e = refl
    go false e = absurd (omega arith)
