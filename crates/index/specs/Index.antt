-- The index of a state: 112 numbers that repeat what a step would search the words for. The addressees of each
-- message; the messages of each sender, the messages of each FIFO log, and the places of each FIFO log whose
-- message is not in the causal log, as sets. It looks at few words (a Frame), so a store of any other word keeps
-- it by computation. Assumes nothing.
use Rattle.std.specs.Prelude.{◌≡◌, refl, Bool, true, false, not, ◌&&◌, List, ◌≢◌, ℕ, zero, suc, ◌+◌, ◌*◌, ◌^◌, ◌<◌, ◌≤◌, ltb, eqb, length, get_or}
use Rattle.std.proofs.Common.{sym, ap, ap₂, ◌∙◌, subst, pow_pos, pow_mono, arith}
use Rattle.std.proofs.Math.Nat.{pow-succ'}
use Rattle.definitions.specs.General.{with, mask_of, bit, absent, In, in_at, pick}
use Rattle.base.specs.Bits.{mask_of_cong}
use Rattle.base.specs.Count.{absent_cong, in_dec, out_absent, absent_out, room_left}
use Rattle.base.specs.Tests.{both}
use Rattle.sets.specs.Lowest.{Has}
use Rattle.bounds.specs.Bounds.{Bounds}
use Rattle.definitions.specs.World.{Cell, size, count, group, fifo_length, causal_length, fifo, causal, sender, mask, State, encode, view, addressed, outside_fifo, outside_causal}
use Rattle.world.specs.Layout.{Within, get_encode}
use Rattle.definitions.specs.Machine.{addressees}
use Rattle.world.specs.SoundLaws.{Sound, fifo_once, fifo_exists, causal_in_fifo, causal_once}

-- The words that it looks at.
pub record Frame : Type 0 where
  pub n : ℕ
  pub messages : ℕ
  pub groups : ℕ → ℕ
  pub senders : ℕ → ℕ
  pub masks : ℕ → ℕ
  pub fifo_lengths : ℕ → ℕ
  pub causal_lengths : ℕ → ℕ
  pub fifos : ℕ → ℕ → ℕ
  pub causals : ℕ → ℕ → ℕ

abbrev pub frame : State → Frame
frame s = record {
  n = s size;
  messages = s count;
  groups = λ p. s (group p);
  senders = λ m. s (sender m);
  masks = λ m. s (mask m);
  fifo_lengths = λ p. s (fifo_length p);
  causal_lengths = λ p. s (causal_length p);
  fifos = λ p i. s (fifo p i);
  causals = λ p i. s (causal p i);
}

-- The addressees of m.
abbrev pub to_of : Frame → ℕ → ℕ
to_of f m = mask_of f.n (λ q. bit (f.masks m) (f.groups q))

-- m is a message of q.
abbrev pub is_from : Frame → ℕ → ℕ → Bool
is_from f q m = ltb m f.messages && eqb (f.senders m) q

-- m is in the FIFO log of p.
abbrev pub in_fifo : Frame → ℕ → ℕ → Bool
in_fifo f p m = not (absent (f.fifo_lengths p) m (f.fifos p))

-- Place i of the FIFO log of p is open: its message is not in the causal log.
abbrev pub is_open : Frame → ℕ → ℕ → Bool
is_open f p i = ltb i (f.fifo_lengths p) && absent (f.causal_lengths p) (f.fifos p i) (f.causals p)

-- The numbers x are the index.
pub record Indexed (f : Frame) (x : List ℕ) : Type 0 where
  pub long : length x ≡ 112
  pub to : (m : ℕ) → m < f.messages → get_or x m 0 ≡ to_of f m
  pub own : (q : ℕ) → q < 16 → Has (get_or x (64 + q) 0) (is_from f q)
  pub listed : (p : ℕ) → p < 16 → Has (get_or x (80 + p) 0) (in_fifo f p)
  pub opened : (p : ℕ) → p < 16 → Has (get_or x (96 + p) 0) (is_open f p)

abbrev pub Index : State → List ℕ → Type 0
Index s x = Indexed (frame s) x

-- ---- it is the index of a state exactly if it is that of its words
module _ (s t : State) (e : (c : Cell) → Within c → s c ≡ t c) (h : Bounds s) where
  to_on : (m : ℕ) → m < 64 → addressees s m ≡ addressees t m
  to_on m hm =
      mask_of_cong (s size) (addressed s m) (addressed t m)
      (λ q l. ap₂ bit (e (mask m) hm) (e (group q) (omega (arith, h.sizes))))
      ∙ ap (λ (n : ℕ). mask_of n (addressed t m)) (e size tt)

  log_on : (p : ℕ) → p < 16 → (s (fifo_length p) ≤ 64) × (s (causal_length p) ≤ 64)
  log_on p hp = (
    omega (arith, h.fifo_lengths p hp, h.counts),
    omega (arith, h.fifo_lengths p hp, h.counts, h.causal_lengths p hp),
  )

  fifo_on : (p m : ℕ) → p < 16 → outside_fifo s p m ≡ outside_fifo t p m
  fifo_on p m hp =
      absent_cong (s (fifo_length p)) (t (fifo_length p)) m (λ i. s (fifo p i)) (λ i. t (fifo p i))
      (e (fifo_length p) hp) (λ i l. e (fifo p i) (hp, omega (arith, (log_on p hp).0)))

  causal_on : (p m : ℕ) → p < 16 → outside_causal s p m ≡ outside_causal t p m
  causal_on p m hp =
      absent_cong (s (causal_length p)) (t (causal_length p)) m (λ i. s (causal p i)) (λ i. t (causal p i))
      (e (causal_length p) hp) (λ i l. e (causal p i) (hp, omega (arith, (log_on p hp).1)))

  index_on : {x : List ℕ} → Index s x → Index t x
  index_on z = record {
    long = z.long;
    to = λ m l. let k : m < s count = omega (arith, e count tt) in z.to m k ∙ to_on m (omega (arith, h.counts));
    own = λ q hq m hm. z.own q hq m hm
        ∙ ap₂ (λ (a b : ℕ). both (ltb m a) (eqb b q)) (e count tt) (e (sender m) hm);
    listed = λ p hp m hm. z.listed p hp m hm ∙ ap not (fifo_on p m hp);
    opened = λ p hp i hi. z.opened p hp i hi
        ∙ ap₂ (λ (a : ℕ) (b : Bool). both (ltb i a) b) (e (fifo_length p) hp)
        (causal_on p (s (fifo p i)) hp ∙ ap (outside_causal t p) (e (fifo p i) (hp, hi)));
  }

pub index_words : (w : List ℕ) (s : State) {x : List ℕ} → w ≡ encode s → Bounds s → Index s x → Index (view w) x
index_words w s e h z =
    index_on s (view w) (λ c k. sym (ap (λ (x : List ℕ). view x c) e ∙ get_encode s c k)) h z

pub index_state : (w : List ℕ) (s : State) {x : List ℕ} → w ≡ encode s → Bounds (view w) → Index (view w) x
    → Index s x
index_state w s e h z =
    index_on (view w) s (λ c k. ap (λ (x : List ℕ). view x c) e ∙ get_encode s c k) h z

-- ---- what of soundness the index leans on: no log lists a message twice, and a FIFO log all that the causal one lists
pub record LogsOf (f : Frame) (p : ℕ) : Type 0 where
  pub once : (i j : ℕ) → i < j → j < f.fifo_lengths p → f.fifos p i ≢ f.fifos p j
  pub exist : (i : ℕ) → i < f.fifo_lengths p → f.fifos p i < f.messages
  pub inside : (m : ℕ) → absent (f.fifo_lengths p) m (f.fifos p) ≡ true
      → absent (f.causal_lengths p) m (f.causals p) ≡ true
  pub apart : (i j : ℕ) → i < j → j < f.causal_lengths p → f.causals p i ≢ f.causals p j

abbrev pub Logs : State → ℕ → Type 0
Logs s p = LogsOf (frame s) p

pub sound_logs : (s : State) (p : ℕ) → Sound s → p < s size → Logs s p
sound_logs s p h l = record {
  once = λ i j a b. fifo_once s h p i j l a b;
  exist = λ i a. fifo_exists s h p i l a;
  inside = λ m e. out_absent (λ o. elim o [
    | in_at i k d ↦ absent_out (s (fifo_length p)) m (λ j. s (fifo p j)) e
        (subst (λ (y : ℕ). In (s (fifo_length p)) (λ j. s (fifo p j)) y) d (causal_in_fifo s h p i l k))
  ]);
  apart = λ i j a b. causal_once s h p i j l a b;
}

logs_on : (s t : State) → ((c : Cell) → Within c → s c ≡ t c) → Bounds s → (p : ℕ) → p < 16 → Logs s p → Logs t p
logs_on s t e h p hp z = record {
  once = λ i j a b q.
      let k : j < s (fifo_length p) = omega (arith, e (fifo_length p) hp) in
      let l = log_on s t e h p hp in
      z.once i j a k (e (fifo p i) (hp, omega arith) ∙ q ∙ sym (e (fifo p j) (hp, omega arith)));
  exist = λ i a.
      let k : i < s (fifo_length p) = omega (arith, e (fifo_length p) hp) in
      let l = log_on s t e h p hp in
      omega (arith, e (fifo p i) (hp, omega arith), e count tt, z.exist i k);
  inside = λ m q. sym (causal_on s t e h p m hp) ∙ z.inside m (fifo_on s t e h p m hp ∙ q);
  apart = λ i j a b q.
      let k : j < s (causal_length p) = omega (arith, e (causal_length p) hp) in
      let l = log_on s t e h p hp in
      z.apart i j a k (e (causal p i) (hp, omega arith) ∙ q ∙ sym (e (causal p j) (hp, omega arith)));
}

pub logs_words : (w : List ℕ) (s : State) → w ≡ encode s → Bounds s → (p : ℕ) → p < 16 → Logs s p → Logs (view w) p
logs_words w s e h =
    logs_on s (view w) (λ c k. sym (ap (λ (x : List ℕ). view x c) e ∙ get_encode s c k)) h

pub logs_state : (w : List ℕ) (s : State) → w ≡ encode s → Bounds (view w) → (p : ℕ) → p < 16 → Logs (view w) p
    → Logs s p
logs_state w s e h = logs_on (view w) s (λ c k. ap (λ (x : List ℕ). view x c) e ∙ get_encode s c k) h

-- where a place is open the causal log is shorter than the FIFO log
pub open_room : (s : State) (p i : ℕ) → Logs s p → i < s (fifo_length p) → outside_causal s p (s (fifo p i)) ≡ true
    → s (causal_length p) < s (fifo_length p)
open_room s p i z l o =
    room_left (s (fifo_length p)) (s (causal_length p)) (λ j. s (fifo p j)) (λ j. s (causal p j)) z.apart
    (λ j k. among j k (in_dec (s (fifo_length p)) (λ j. s (fifo p j)) (s (causal p j)))) i l
    (absent_out (s (causal_length p)) (s (fifo p i)) (λ j. s (causal p j)) o)
  where
    among : (j : ℕ) → j < s (causal_length p) → Dec (In (s (fifo_length p)) (λ x. s (fifo p x)) (s (causal p j)))
        → In (s (fifo_length p)) (λ x. s (fifo p x)) (s (causal p j))
    among j k (yes y) = y
    among j k (no n) =
        absurd (absent_out (s (causal_length p)) (s (causal p j)) (λ x. s (causal p x))
        (z.inside (s (causal p j)) (out_absent n)) (in_at j k refl))

-- where a message is outside it the FIFO log is shorter than the count
pub new_room : (s : State) (p m : ℕ) → Logs s p → m < s count → outside_fifo s p m ≡ true → s (fifo_length p) < s count
new_room s p m z l o =
    room_left (s count) (s (fifo_length p)) (λ j. j) (λ j. s (fifo p j)) z.once
    (λ j k. in_at (s (fifo p j)) (z.exist j k) refl) m l
    (absent_out (s (fifo_length p)) m (λ j. s (fifo p j)) o)

-- ---- addressees are a mask of 16 bits
mask_of_low : (n : ℕ) (f : ℕ → Bool) → mask_of n f < 2 ^ n
unfolding mask_of with
mask_of_low zero f = pow_pos 0
mask_of_low (suc n) f = go (f n) (bit (mask_of n f) n) (mask_of_low n f) (pow-succ' 2 n)
  where
    go : (a b : Bool) → mask_of n f < 2 ^ n → 2 ^ suc n ≡ 2 * 2 ^ n
        → pick a (pick b (mask_of n f) (mask_of n f + 2 ^ n)) (mask_of n f) < 2 ^ suc n
    go true true l e = omega arith
    go true false l e = omega arith
    go false b l e = omega arith

pub to_low : (s : State) (x : List ℕ) (m : ℕ) → Bounds s → Index s x → m < s count → get_or x m 0 < 2 ^ 16
to_low s x m h z l =
    let a = mask_of_low (s size) (addressed s m) in
    let k : 2 ^ s size ≤ 2 ^ 16 = pow_mono h.sizes in
    omega (arith, z.to m l)

pub outside_words : (w : List ℕ) (s : State) → w ≡ encode s → Bounds s → (p m : ℕ) → p < 16
    → outside_fifo (view w) p m ≡ outside_fifo s p m
outside_words w s e h p m hp =
    sym (fifo_on s (view w) (λ c k. sym (ap (λ (x : List ℕ). view x c) e ∙ get_encode s c k)) h p m hp)
