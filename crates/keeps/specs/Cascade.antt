-- The cascade keeps a world sound, and with it an arrival and a trust step. The argument: inside a FIFO
-- delivery next lags behind the log, but the causal deliveries neither look at next nor change it, so the
-- state is the same as if next had risen before them; then each change keeps soundness by itself. The FIFO
-- log has room for the message by counting. It rests on Logs, Changes and Causal. Assumes nothing.
use Rattle.std.proofs.Math.Path.{◌≡◌, refl, ap}
use Rattle.std.proofs.Common.{sym, ap₂, ◌∙◌, subst}
use Rattle.std.specs.Prelude.{Bool, ◌&&◌, ℕ, ◌+◌, ◌-◌, ◌<◌, ◌^◌}
use Rattle.std.proofs.Math.Bool.{true, false, not}
use native.Mathlib.Omega.{arith}
use Rattle.std.proofs.Math.Decide.{ℕ_discrete}
use Rattle.std.proofs.Math.Dec.{eqb}
use borrow.Author.Tests.{ltb-true, lt-ltb, le-leb, leb-true, eqb-true, eq-eqb, ne_eqb, not-true}
use Rattle.definitions.specs.General.{pick, in_at, bit}
use Rattle.definitions.specs.World.{size, count, rule, group, trust, counter, sequence, next, delivered, up, fifo_length, causal_length, held, marks, fifo, causal, sender, mask, stamp, number, flight, order, unused, State, put, is_process, is_message, has_group, outside_fifo}
use Rattle.definitions.specs.Sound.{addressee, sends, logged_of, fit, fine}
use Rattle.definitions.specs.Machine.{in_turn, ready, causal_all, appended, raised_next, fifo_one, cascade, leave, mark, hold, received, arrival, trust_set}
use Rattle.base.specs.Tests.{clash, both, both_l, both_r, both_i}
use Rattle.base.specs.Count.{absent_out, room_left}
use Rattle.base.specs.Loop.{loop_keeps}
use Rattle.world.specs.Layout.{Within, put_at}
use Rattle.world.specs.SoundLaws.{Sound, size_high, count_high, sender_low, fifo_exists, fifo_once, Addressed, held_facts, letter_facts}
use Rattle.world.specs.Kept.{marked_keeps, received_keeps}
use Rattle.keeps.specs.Forms.{word_to}
use Rattle.keeps.specs.Logs.{Longer, put_longer, longer_item, longer_bound, longer_length, longer_listed, longer_tally, item_weaker}
use Rattle.keeps.specs.Changes.{SoundAt, leave_sound, mark_sound, hold_sound, send_oks_sound, trust_put_sound}
use Rattle.keeps.specs.Causal.{causal_all_sound}
use Rattle.keeps.specs.Next.{next_before}

-- ---- a message appended to the FIFO log, and next of its sender raised
fifo_longer : (s : State) (p m : ℕ)
    → Longer p m (λ x. s (fifo_length x)) (λ x i. s (fifo x i))
    (λ x. appended s p m (fifo_length x)) (λ x i. appended s p m (fifo x i))
unfolding appended
fifo_longer s p m =
    put_longer fifo_length fifo (λ p x i e. let z : ◌≡◌ {A = ℕ} 0 1 = cc in omega arith) (λ p x e. cc)
    (λ p i x j e. (cc, cc)) s p m

-- two pairs that differ
pair_apart : (p x q y : ℕ) → (p ≡ x → q ≡ y → ⊥) → (eqb p x && eqb q y) ≡ false
pair_apart p x q y n = go (ℕ_discrete p x)
  where
    go : Dec (p ≡ x) → (eqb p x && eqb q y) ≡ false
    go (yes d) = rw (eq-eqb p x d) (ne_eqb q y (n d))
    go (no d) = rw (ne_eqb p x d)

module _ (s : State) (p m : ℕ) (h : Sound s) (hp : p < s size) (a : Addressed s p m)
    (new : outside_fifo s p m ≡ true) where
  -- its sender
  abbrev q : ℕ
  q = s (sender m)

  -- p is a process
  here : is_process s p ≡ true
  here = lt-ltb p (s size) hp

  -- m is a message
  m_low : m < s count
  m_low = ltb-true m (s count) a.of

  -- the FIFO log of p has room: its items are distinct messages, and m is none of them
  room : s (fifo_length p) < s count
  room =
      room_left (s count) (s (fifo_length p)) (λ i. i) (λ i. s (fifo p i))
      (λ i j l k. fifo_once s h p i j hp l k)
      (λ j l. in_at (s (fifo p j)) (fifo_exists s h p j hp l) refl)
      m m_low
      (absent_out (s (fifo_length p)) m (λ i. s (fifo p i)) new)

  -- by how much next x y rises
  rise : ℕ → ℕ → ℕ
  rise x y = pick (eqb p x && eqb q y) 1 0

  -- next of the sender of m at p rises by 1, and no other
  next_rises : (x y : ℕ) → raised_next (appended s p m) p q (next x y) ≡ s (next x y) + rise x y
  unfolding raised_next appended put rise
  next_rises x y =
      put_at (appended s p m) (next p q) (next x y) (s (next p q) + 1) (λ v. v ≡ s (next x y) + rise x y)
      (λ e. let d : p ≡ x = cc in let f : q ≡ y = cc in
      rw (eq-eqb p x d, eq-eqb q y f) (ap₂ (λ (a b : ℕ). s (next a b) + 1) d f))
      (λ n. rw (pair_apart p x q y (λ d f. n (ap₂ next d f))) (omega arith))

  -- it rises only between processes
  rise_unused : (x y : ℕ) → both (is_process s x) (is_process s y) ≡ false → rise x y ≡ 0
  unfolding rise
  rise_unused x y u = go (eqb p x && eqb q y) refl
    where
      go : (b : Bool) → (eqb p x && eqb q y) ≡ b → ◌≡◌ {A = ℕ} (pick b 1 0) 0
      go false e = refl
      go true e = clash (both_i (is_process s x) (is_process s y)
          (ap (is_process s) (sym (eqb-true p x (both_l (eqb p x) (eqb q y) e))) ∙ here)
          (ap (is_process s) (sym (eqb-true q y (both_r (eqb p x) (eqb q y) e)))
          ∙ lt-ltb q (s size) (sender_low s h m m_low))) u

  -- next is again 1 plus the number of messages of y in the FIFO log of x
  next_fits : (x y : ℕ) → Within (next x y) → fine (raised_next (appended s p m) p q) (next x y) ≡ true
  unfolding fine fit logged_of raised_next appended put rise
  next_fits x y k =
      ap (λ (v : ℕ). fit (appended s p m) (next x y) v) (next_rises x y)
      ∙ word_to (is_process s x && is_process s y) (s (next x y)) (s (next x y) + rise x y) _ _
      (λ u t. eq-eqb (s (next x y) + rise x y) _ (omega (
        arith,
        eqb-true (s (next x y)) _ t,
        longer_tally (fifo_longer s p m) (λ j. eqb (s (sender j)) y) x,
      )))
      (λ u z. omega (arith, rise_unused x y u)) (h (next x y) k)

  -- both changes together keep soundness: what each cell's test asks
  appended_sound : Sound (raised_next (appended s p m) p q)
  unfolding raised_next appended put fine fit has_group sends
  appended_sound size k = h size k
  appended_sound count k = h count k
  appended_sound rule k = h rule k
  appended_sound (group x) k = h (group x) k
  appended_sound (trust x) k = h (trust x) k
  appended_sound (counter x g y) k = h (counter x g y) k
  appended_sound (sequence x g) k = h (sequence x g) k
  appended_sound (next x y) k = next_fits x y k
  appended_sound (delivered x y) k = h (delivered x y) k
  appended_sound (up x) k = h (up x) k
  appended_sound (fifo_length x) k =
      longer_bound (fifo_longer s p m) (is_process s) (λ _. s count) here room x (h (fifo_length x) k)
  appended_sound (causal_length x) k =
      word_to (is_process s x) (s (causal_length x)) (s (causal_length x)) _ _
      (λ u t. let old = leb-true (s (causal_length x)) (s (fifo_length x)) t in
      le-leb (s (causal_length x)) (appended s p m (fifo_length x))
      (omega (arith, longer_length (fifo_longer s p m) x)))
      (λ u z. z) (h (causal_length x) k)
  appended_sound (held x j) k = h (held x j) k
  appended_sound (marks x j) k = h (marks x j) k
  appended_sound (fifo x j) k =
      longer_item (fifo_longer s p m) (is_process s) (λ y n. is_message s n && addressee s n y) here
      (both_i (is_message s m) (addressee s m p) a.of a.to) new x j (h (fifo x j) k)
  appended_sound (causal x j) k =
      word_to (is_process s x) (s (causal x j)) (s (causal x j)) _ _
      (λ _. item_weaker (s (causal_length x)) (λ n. not (outside_fifo s x n))
      (λ n. not (outside_fifo (appended s p m) x n)) (λ i. s (causal x i)) j (s (causal x j))
      (λ e. ap not (longer_listed (fifo_longer s p m) x (s (causal x j)) (not-true _ e))))
      (λ _ z. z) (h (causal x j) k)
  appended_sound (sender j) k = h (sender j) k
  appended_sound (mask j) k = h (mask j) k
  appended_sound (stamp j g y) k = h (stamp j g y) k
  appended_sound (number j g) k = h (number j g) k
  appended_sound (flight j i y) k = h (flight j i y) k
  appended_sound (order j) k = h (order j) k
  appended_sound (unused a) k = h (unused a) k

-- n is the same
size_kept : (s : State) (p m q : ℕ) → p < s size → p < raised_next (appended s p m) p q size
unfolding raised_next appended put
size_kept s p m q hp = hp

-- ---- one turn of the cascade, and the cascade
fifo_one_sound : (s : State) (p m : ℕ) → m < s count → ready s p m ≡ true
    → SoundAt p s → SoundAt p (fifo_one s p m)
unfolding fifo_one ready
fifo_one_sound s p m hm e (h, hp) =
    let q : ℕ = s (sender m) in
    let t : State = raised_next (causal_all (appended s p m) p) p q in
    let e₂ = both_l (eqb (s (held p m)) 1 && outside_fifo s p m) (in_turn s p m) (both_l _ _ e) in
    let one = eqb-true (s (held p m)) 1 (both_l (eqb (s (held p m)) 1) (outside_fifo s p m) e₂) in
    let a = held_facts s h p m (omega (arith, size_high s h)) (omega (arith, count_high s h))
    (λ z. omega arith) in
    let new = both_r (eqb (s (held p m)) 1) (outside_fifo s p m) e₂ in
    let k : SoundAt p t = subst (SoundAt p) (next_before (appended s p m) p q)
    (causal_all_sound (raised_next (appended s p m) p q) p
    (appended_sound s p m h hp a new, size_kept s p m q hp)) in
    send_oks_sound t p q (t count) (count_high t k.0) k

-- all turns of it
pub cascade_sound : (s : State) (p : ℕ) → SoundAt p s → Sound (cascade s p)
unfolding cascade
cascade_sound s p h =
    (loop_keeps (λ t. t count) (λ t. ready t p) (λ t. fifo_one t p) (SoundAt p)
    (λ t m l e _ k. fifo_one_sound t p m l e k) (s count - s (fifo_length p)) s h).0

-- ---- a trust step
pub trust_set_sound : (s : State) (p set : ℕ) → p < s size → set < 2 ^ s size
    → Sound s → Sound (trust_set s p set)
unfolding trust_set put
trust_set_sound s p set hp l h = cascade_sound (put s (trust p) set) p (trust_put_sound s p set hp l h, hp)

-- ---- an arrival of a letter in flight
-- an OK comes from an addressee
ok_from : (s : State) (m k q : ℕ) → k ≡ 2 → sends s m k q ≡ true → addressee s m q ≡ true
unfolding sends
ok_from s m k q d e = ap (λ (j : ℕ). sends s m j q) (sym d) ∙ e

-- An arrival before its cascade.
pub received_sound : (s : State) (k m q p : ℕ) → k < 3 → m < s count → q < s size → p < s size
    → bit (s (flight m k q)) p ≡ true → Sound s → SoundAt p (received s k m q p)
unfolding leave put
received_sound s k m q p hk hm hq hp e h =
    let room : (m < 64) × (q < 16) × (p < 16) = omega (arith, count_high s h, size_high s h) in
    let z = letter_facts s h k m q p hk room.0 room.1 room.2 e in
    let t : State = leave s k m q p in
    let ht : Sound t = leave_sound s k m q p hk room.0 room.1 h in
    let u : State = mark t k m q p in
    let hu : Sound u = mark_sound t k m q p room.0 room.2 (record { of = z.of; to = z.to })
    (λ d. ok_from s m k q d z.from) ht in
    let hv : Sound (hold u p m) = hold_sound u p m (record {
      of = marked_keeps s k m q p (λ x. is_message x m) (λ _ _ _ _. refl) (λ _ _. refl) ∙ z.of;
      to = marked_keeps s k m q p (λ x. addressee x m p) (λ _ _ _ _. refl) (λ _ _. refl) ∙ z.to;
    }) hu in
    let n = received_keeps s k m q p (λ t. t size) (λ _ _ _ _. refl) (λ _ _. refl) (λ _ _. refl) in
    (hv, omega arith)

pub arrival_sound : (s : State) (k m q p : ℕ) → k < 3 → m < s count → q < s size → p < s size
    → bit (s (flight m k q)) p ≡ true → Sound s → Sound (arrival s k m q p)
unfolding arrival
arrival_sound s k m q p hk hm hq hp e h =
    cascade_sound (received s k m q p) p (received_sound s k m q p hk hm hq hp e h)
