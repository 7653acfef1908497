-- The parts of a multicast on words, and one after the other. Assumes nothing.
use Rattle.std.specs.Prelude.{◌≡◌, Bool, ◌&&◌, set}
use Rattle.std.proofs.Math.Path.{refl, sym, ap, ap₂}
use Rattle.std.proofs.Common.{◌∙◌, eq-eqb, ne_eqb, eqb-true}
use Rattle.std.proofs.Math.Bool.{true, false}
use mathlib.Core.List.{List, ◌++◌}
use Rattle.std.proofs.Math.Logic.{inl, inr}
use Prim.Native.Nat.{ℕ, ◌+◌, ◌-◌, ◌*◌, ◌/◌, ◌%◌, ◌≤◌, ◌<◌}
use native.Mathlib.Omega.{arith}
use Rattle.std.proofs.Math.Decide.{ℕ_discrete}
use Rattle.std.proofs.Math.Dec.{eqb}
use Rattle.std.proofs.Math.ListN.{length, get_or, length-append, get_or-append}
use Rattle.std.proofs.Math.Seq.{get_or-append-add}
use Rattle.definitions.specs.General.{pick, bit, tabulate}
use Rattle.definitions.specs.World.{Cell, size, count, rule, group, trust, counter, sequence, next, delivered, up, fifo_length, causal_length, held, marks, fifo, causal, sender, mask, stamp, number, flight, order, unused, addr, State, put, encode, view}
use Rattle.definitions.specs.Machine.{with_tables, raised, stamped, numbered, posted, multicast}
use Rattle.base.specs.Tests.{pick_yes, pick_no, le_or_lt, eqb_refl}
use Rattle.base.specs.Tabulate.{splice, length_tabulate, get_d_tabulate, splice_append}
use Rattle.world.specs.Layout.{Within, Reads, Changes, put_at, length_encode, encode_view, encode_ext, set_encode, splice_encode, reads_cell}
use Rattle.world.specs.SoundLaws.{Sound, count_high, counter_high, sequence_high}
use Rattle.records.specs.declared.Process.{Process}
use Rattle.records.specs.Record.{record_of, with_record, pick_to}
use Rattle.bounds.specs.Bounds.{Bounds}
use Rattle.sends.specs.Sends.{sent}
use Rattle.multicasts.specs.Raise.{bumps, bumped, not_bumped, raised_below, Below, Low, below_tabulate}

-- ---- what p counts is raised
pub sound_low : (s : State) (p : ℕ) → p < 16 → Sound s → Low s p
sound_low s p hp h = record {
  counters_low = λ g q hg hq. omega (arith, counter_high s h p g q hp hg hq, count_high s h);
  sequences_low = λ g hg. omega (arith, sequence_high s h p g hp hg, count_high s h);
}

pub below_record : (s : State) (p : ℕ) {r : Process} → Low s p → r ≡ record_of s p
    → (Below 1000 r.counters) × (Below 1000 r.sequences)
below_record s p h e = (
  λ i. rw (ap (λ (x : Process). get_or x.counters i 0) e) (counters i),
  λ i. rw (ap (λ (x : Process). get_or x.sequences i 0) e) (sequences i),
)
  where
    counters : Below 1000 (tabulate 128 (λ i. s (counter p (i / 16) (i % 16))))
    counters =
        below_tabulate 128 1000 (λ i. s (counter p (i / 16) (i % 16))) (omega arith)
        (λ i l. omega (arith, h.counters_low (i / 16) (i % 16) (omega arith) (omega arith)))

    sequences : Below 1000 (tabulate 8 (λ g. s (sequence p g)))
    sequences =
        below_tabulate 8 1000 (λ g. s (sequence p g)) (omega arith)
        (λ g l. omega (arith, h.sequences_low g l))

module _ (s : State) (p groups : ℕ) (hp : p < 16) where
  own_counters : List ℕ
  own_counters = tabulate 128 (λ i. s (counter p (i / 16) (i % 16)))

  own_sequences : List ℕ
  own_sequences = tabulate 8 (λ g. s (sequence p g))

  counter_was : (g q : ℕ) → g < 8 → q < 16 → get_or own_counters (g * 16 + q) 0 ≡ s (counter p g q)
  unfolding own_counters
  counter_was g q hg hq =
      let u : (g * 16 + q) / 16 ≡ g = omega arith in
      let v : (g * 16 + q) % 16 ≡ q = omega arith in
      get_d_tabulate 128 (λ i. s (counter p (i / 16) (i % 16))) (g * 16 + q) 0 (omega arith)
      ∙ ap₂ (λ (x y : ℕ). s (counter p x y)) u v

  counter_is : (g q : ℕ) → g < 8 → q < 16
      → get_or (bumps (λ g. g * 16 + p) groups 8 own_counters) (g * 16 + q) 0
      ≡ pick (eqb p q && bit groups g) (s (counter p g q) + 1) (s (counter p g q))
  unfolding own_counters
  counter_is g q hg hq = go (ℕ_discrete p q)
    where
      xs : List ℕ
      xs = bumps (λ g. g * 16 + p) groups 8 own_counters

      go : Dec (p ≡ q)
          → get_or xs (g * 16 + q) 0 ≡ pick (eqb p q && bit groups g) (s (counter p g q) + 1)
          (s (counter p g q))
      go (yes e) =
          ap (λ (y : ℕ). get_or xs (g * 16 + y) 0) (sym e)
          ∙ bumped (λ g. g * 16 + p) groups own_counters 8
          (λ i l. omega (arith, length_tabulate 128 (λ i. s (counter p (i / 16) (i % 16)))))
          (λ i j a b n d. n (omega arith)) g hg
          ∙ ap (λ (y : ℕ). pick (bit groups g) (y + 1) y) (counter_was g p hg hp)
          ∙ ap (λ (y : ℕ). pick (bit groups g) (s (counter p g y) + 1) (s (counter p g y))) e
          ∙ sym (ap (λ (t : Bool). pick (t && bit groups g) (s (counter p g q) + 1) (s (counter p g q)))
          (eq-eqb p q e))
      go (no n) =
          not_bumped (λ g. g * 16 + p) groups own_counters 8 (g * 16 + q) (λ i l d. n (omega arith))
          ∙ counter_was g q hg hq
          ∙ sym (ap (λ (t : Bool). pick (t && bit groups g) (s (counter p g q) + 1) (s (counter p g q)))
          (ne_eqb p q n))

  sequence_is : (g : ℕ) → g < 8
      → get_or (bumps (λ g. g) groups 8 own_sequences) g 0
      ≡ pick (bit groups g) (s (sequence p g) + 1) (s (sequence p g))
  unfolding own_sequences
  sequence_is g hg =
      bumped (λ g. g) groups own_sequences 8 (λ i l. omega (arith, length_tabulate 8 (λ g. s (sequence p g))))
      (λ i j a b n. n) g hg
      ∙ ap (λ (y : ℕ). pick (bit groups g) (y + 1) y) (get_d_tabulate 8 (λ g. s (sequence p g)) g 0 hg)

  picked : (x y z : ℕ) (c : Bool) → (p ≡ x → y ≡ pick c (z + 1) z)
      → pick (eqb p x) y z ≡ pick (eqb p x && c) (z + 1) z
  picked x y z c f = go (eqb p x) refl
    where
      go : (t : Bool) → eqb p x ≡ t → pick t y z ≡ pick (t && c) (z + 1) z
      go true e = f (eqb-true p x e)
      go false e = refl

  same : (c : Cell) → Within c
      → with_record s p (raised_below 8 p groups (record_of s p)) c ≡ raised s p groups c
  unfolding with_record raised with_tables own_counters own_sequences
  same size h = refl
  same count h = refl
  same rule h = refl
  same (group x) h = pick_to p x (s (group p)) (s (group x)) (λ e. ap (λ (k : ℕ). s (group k)) e)
  same (trust x) h = pick_to p x (s (trust p)) (s (trust x)) (λ e. ap (λ (k : ℕ). s (trust k)) e)
  same (counter x g q) h = counters (eqb p x) refl
    where
      counters : (t : Bool) → eqb p x ≡ t
          → pick t (get_or (bumps (λ g. g * 16 + p) groups 8 own_counters) (g * 16 + q) 0) (s (counter x g q))
          ≡ pick (t && eqb p q && bit groups g) (s (counter x g q) + 1) (s (counter x g q))
      counters true e =
          counter_is g q h.1 h.2
          ∙ ap (λ (k : ℕ). pick (eqb p q && bit groups g) (s (counter k g q) + 1) (s (counter k g q)))
          (eqb-true p x e)
      counters false e = refl
  same (sequence x g) h =
      picked x (get_or (bumps (λ g. g) groups 8 own_sequences) g 0) (s (sequence x g)) (bit groups g)
      (λ e. sequence_is g h.1 ∙ ap
      (λ (k : ℕ). pick (bit groups g) (s (sequence k g) + 1) (s (sequence k g))) e)
  same (next x q) h =
      pick_to p x (get_or (tabulate 16 (λ k. s (next p k))) q 0) (s (next x q))
      (λ e. get_d_tabulate 16 (λ k. s (next p k)) q 0 h.1 ∙ ap (λ (k : ℕ). s (next k q)) e)
  same (delivered x q) h =
      pick_to p x (get_or (tabulate 16 (λ k. s (delivered p k))) q 0) (s (delivered x q))
      (λ e. get_d_tabulate 16 (λ k. s (delivered p k)) q 0 h.1 ∙ ap (λ (k : ℕ). s (delivered k q)) e)
  same (up x) h = refl
  same (fifo_length x) h = refl
  same (causal_length x) h = refl
  same (held x m) h = refl
  same (marks x m) h = refl
  same (fifo x i) h = refl
  same (causal x i) h = refl
  same (sender m) h = refl
  same (mask m) h = refl
  same (stamp m g q) h = refl
  same (number m g) h = refl
  same (flight m k q) h = refl
  same (order m) h = refl
  same (unused i) h = refl

raised_law : (w u : List ℕ) (p groups : ℕ) {r q : Process} → p < 16 → Reads w r (λ s. record_of s p)
    → q ≡ raised_below 8 p groups r → Changes w u (λ s. with_record s p q)
    → Changes w u (λ s. raised s p groups)
raised_law w u p groups hp er eq c s e =
    c s e ∙ ap (λ (x : Process). encode (with_record s p x)) (eq ∙ ap (raised_below 8 p groups) (er s e))
    ∙ encode_ext _ (raised s p groups) (same s p groups hp)

-- ---- a record's counters and sequence counts are copied onto the message
-- s with those of r on message m
unfoldable pub with_stamps : State → ℕ → Process → State
with_stamps s m r = with_tables s (record {
  counters = λ x g q. s (counter x g q);
  sequences = λ x g. s (sequence x g);
  stamps = λ x g q. pick (eqb m x) (get_or r.counters (g * 16 + q) 0) (s (stamp x g q));
  numbers = λ x g. pick (eqb m x) (get_or r.sequences g 0) (s (number x g));
})

-- where they go
abbrev target : ℕ → ℕ
target m = 6867 + m * 187 + 2

module _ (s : State) (m : ℕ) (r : Process) (hm : m < 64) (lc : length r.counters ≡ 128)
    (lb : length r.sequences ≡ 8) where
  copied : List ℕ
  copied = r.counters ++ r.sequences

  length_copied : length copied ≡ 136
  unfolding copied
  length_copied = simp length-append (omega (arith, lc, lb))

  in_part : (c : Cell) → Within c → target m ≤ addr c → addr c < target m + 136
      → get_or copied (addr c - target m) 0 ≡ with_stamps s m r c
  unfolding with_stamps with_tables copied
  in_part (stamp x g q) k a b =
      let e : m ≡ x = omega arith in
      let i : addr (stamp x g q) - target m ≡ g * 16 + q = omega arith in
      ap (λ (n : ℕ). get_or (r.counters ++ r.sequences) n 0) i
      ∙ get_or-append r.counters r.sequences 0 (g * 16 + q) (omega (arith, lc))
      ∙ sym (pick_yes (get_or r.counters (g * 16 + q) 0) (s (stamp x g q)) (eq-eqb m x e))
  in_part (number x g) k a b =
      let e : m ≡ x = omega arith in
      let i : addr (number x g) - target m ≡ length r.counters + g = omega (arith, lc) in
      ap (λ (n : ℕ). get_or (r.counters ++ r.sequences) n 0) i
      ∙ get_or-append-add r.counters r.sequences g 0
      ∙ sym (pick_yes (get_or r.sequences g 0) (s (number x g)) (eq-eqb m x e))
  in_part (flight x i q) k a b =
      absurd (elim (le_or_lt m x) [
        | inl l ↦ elim (le_or_lt x m)
            [ inl u ↦ omega arith | inr u ↦ omega arith ]
        | inr l ↦ omega arith
      ])
  in_part size k a b = absurd (omega arith)
  in_part count k a b = absurd (omega arith)
  in_part rule k a b = absurd (omega arith)
  in_part (group x) k a b = absurd (omega arith)
  in_part (trust x) k a b = absurd (omega arith)
  in_part (counter x g q) k a b = absurd (omega arith)
  in_part (sequence x g) k a b = absurd (omega arith)
  in_part (next x q) k a b = absurd (omega arith)
  in_part (delivered x q) k a b = absurd (omega arith)
  in_part (up x) k a b = absurd (omega arith)
  in_part (fifo_length x) k a b = absurd (omega arith)
  in_part (causal_length x) k a b = absurd (omega arith)
  in_part (held x i) k a b = absurd (omega arith)
  in_part (marks x i) k a b = absurd (omega arith)
  in_part (fifo x i) k a b = absurd (omega arith)
  in_part (causal x i) k a b = absurd (omega arith)
  in_part (sender x) k a b = absurd (omega arith)
  in_part (mask x) k a b = absurd (omega arith)
  in_part (order x) k a b = absurd (omega arith)
  in_part (unused i) k a b = absurd (omega arith)

  off_part : (c : Cell) → Within c → (target m ≤ addr c → addr c < target m + 136 → ⊥)
      → s c ≡ with_stamps s m r c
  unfolding with_stamps with_tables
  off_part (stamp x g q) k a =
      sym (pick_no (get_or r.counters (g * 16 + q) 0) (s (stamp x g q))
      (ne_eqb m x (λ e. a (omega arith) (omega arith))))
  off_part (number x g) k a =
      sym (pick_no (get_or r.sequences g 0) (s (number x g))
      (ne_eqb m x (λ e. a (omega arith) (omega arith))))
  off_part size k a = refl
  off_part count k a = refl
  off_part rule k a = refl
  off_part (group x) k a = refl
  off_part (trust x) k a = refl
  off_part (counter x g q) k a = refl
  off_part (sequence x g) k a = refl
  off_part (next x q) k a = refl
  off_part (delivered x q) k a = refl
  off_part (up x) k a = refl
  off_part (fifo_length x) k a = refl
  off_part (causal_length x) k a = refl
  off_part (held x i) k a = refl
  off_part (marks x i) k a = refl
  off_part (fifo x i) k a = refl
  off_part (causal x i) k a = refl
  off_part (sender x) k a = refl
  off_part (mask x) k a = refl
  off_part (flight x i q) k a = refl
  off_part (order x) k a = refl
  off_part (unused i) k a = refl

  stamped_words : splice (encode s) (target m) copied ≡ encode (with_stamps s m r)
  stamped_words =
      splice_encode s (with_stamps s m r) (target m) copied (omega (arith, length_copied))
      (λ c k a b. in_part c k a (omega (arith, length_copied)))
      (λ c k a. off_part c k (λ b d. a b (omega (arith, length_copied))))

pub stamps_law : (w : List ℕ) (m : ℕ) (r : Process) {u : List ℕ} → m < 64 → length r.counters ≡ 128
    → length r.sequences ≡ 8
    → u ≡ splice (splice w (target m) r.counters) (6867 + m * 187 + 130) r.sequences
    → Changes w u (λ s. with_stamps s m r)
unfolding copied
stamps_law w m r hm lc lb eu s e =
    eu ∙ ap (λ (x : List ℕ). splice (splice x (target m) r.counters) (6867 + m * 187 + 130)
    r.sequences) e
    ∙ splice_append (encode s) (target m) r.counters r.sequences (6867 + m * 187 + 130)
    (omega (arith, lc))
    (omega (arith, lb, length_encode s))
    ∙ stamped_words s m r hm lc lb

-- the record that was stored is the one that is copied
abbrev pub with_copy : State → ℕ → ℕ → ℕ → State
with_copy s p groups m = stamped (raised s p groups) p m

module _ (s : State) (p groups m : ℕ) (hp : p < 16) where
  abbrev r : Process
  r = raised_below 8 p groups (record_of s p)

  counter_copied : (g q : ℕ) → g < 8 → q < 16
      → get_or r.counters (g * 16 + q) 0 ≡ raised s p groups (counter p g q)
  unfolding with_record
  counter_copied g q hg hq =
      sym (pick_yes (get_or r.counters (g * 16 + q) 0) (s (counter p g q)) (eqb_refl p))
      ∙ same s p groups hp (counter p g q) (hp, hg, hq)

  sequence_copied : (g : ℕ) → g < 8 → get_or r.sequences g 0 ≡ raised s p groups (sequence p g)
  unfolding with_record
  sequence_copied g hg =
      sym (pick_yes (get_or r.sequences g 0) (s (sequence p g)) (eqb_refl p))
      ∙ same s p groups hp (sequence p g) (hp, hg)

  copy_same : (c : Cell) → Within c → with_stamps (raised s p groups) m r c ≡ with_copy s p groups m c
  unfolding with_stamps stamped with_tables
  copy_same (stamp x g q) k =
      ap (λ (y : ℕ). pick (eqb m x) y (raised s p groups (stamp x g q))) (counter_copied g q k.1 k.2)
  copy_same (number x g) k =
      ap (λ (y : ℕ). pick (eqb m x) y (raised s p groups (number x g))) (sequence_copied g k.1)
  copy_same size k = refl
  copy_same count k = refl
  copy_same rule k = refl
  copy_same (group x) k = refl
  copy_same (trust x) k = refl
  copy_same (counter x g q) k = refl
  copy_same (sequence x g) k = refl
  copy_same (next x q) k = refl
  copy_same (delivered x q) k = refl
  copy_same (up x) k = refl
  copy_same (fifo_length x) k = refl
  copy_same (causal_length x) k = refl
  copy_same (held x i) k = refl
  copy_same (marks x i) k = refl
  copy_same (fifo x i) k = refl
  copy_same (causal x i) k = refl
  copy_same (sender x) k = refl
  copy_same (mask x) k = refl
  copy_same (flight x i q) k = refl
  copy_same (order x) k = refl
  copy_same (unused i) k = refl

pub copy_law : (w u v : List ℕ) (p groups m : ℕ) {r q : Process} → p < 16 → Reads w r (λ s. record_of s p)
    → q ≡ raised_below 8 p groups r → Changes w u (λ s. with_record s p q)
    → Changes u v (λ s. with_stamps s m q)
    → Changes w v (λ s. with_copy s p groups m)
copy_law w u v p groups m {r} {q} hp er eq c d s e =
    d (raised s p groups) (raised_law w u p groups hp er eq c s e)
    ∙ ap (λ (x : Process). encode (with_stamps (raised s p groups) m x))
    (eq ∙ ap (raised_below 8 p groups) (er s e))
    ∙ encode_ext _ (with_copy s p groups m) (copy_same s p groups m hp)

-- ---- the message is numbered
pub numbered_law : (w : List ℕ) (p groups o : ℕ) {m : ℕ} → m ≡ view w count → m < 64
    → Changes w
    (set (set (set (set w (addr (sender m)) p) (addr (mask m)) groups) (addr (order m)) o) (addr count) (m + 1))
    (λ s. numbered s p groups o)
unfolding numbered
numbered_law w p groups o {m} em hm s e =
    ap (λ (x : List ℕ). counted (ordered (masked (set x (addr (sender m)) p)))) e
    ∙ ap (λ (x : List ℕ). counted (ordered (masked x))) (set_encode s (sender m) p hm)
    ∙ ap (λ (x : List ℕ). counted (ordered x)) (set_encode (put s (sender m) p) (mask m) groups hm)
    ∙ ap counted (set_encode (put (put s (sender m) p) (mask m) groups) (order m) o hm)
    ∙ set_encode (put (put (put s (sender m) p) (mask m) groups) (order m) o) count (m + 1) tt
    ∙ ap (λ (k : ℕ). encode (put (put (put (put s (sender k) p) (mask k) groups) (order k) o) count (k + 1)))
    (em ∙ reads_cell w count tt s e)
  where
    masked : List ℕ → List ℕ
    masked x = set x (addr (mask m)) groups

    ordered : List ℕ → List ℕ
    ordered x = set x (addr (order m)) o

    counted : List ℕ → List ℕ
    counted x = set x (addr count) (m + 1)

-- ---- the states on the way
-- with the message numbered
abbrev pub with_message : State → ℕ → ℕ → ℕ → ℕ → State
with_message s p groups o m = numbered (with_copy s p groups m) p groups o

pub count_kept : (s : State) (p groups m : ℕ) → with_copy s p groups m count ≡ s count
unfolding stamped raised with_tables
count_kept s p groups m = refl

pub bounds_message : (s : State) (p groups o m : ℕ) → p < 16 → s count < 64 → Bounds s
    → Bounds (with_message s p groups o m)
unfolding numbered stamped raised with_tables put
bounds_message s p groups o m hp room h = record {
  sizes = h.sizes;
  counts = omega arith;
  groups = h.groups;
  senders = λ x l. put_at s (sender (s count)) (sender x) p (λ v. v < 16) (λ _. hp) (λ _. h.senders x l);
  fifo_lengths = λ x l. omega (arith, h.fifo_lengths x l);
  causal_lengths = h.causal_lengths;
  logged = h.logged;
  nexts = h.nexts;
}

-- the parts one after the other
pub multicast_law : (w u1 u2 u3 : List ℕ) (p groups o : ℕ) {m : ℕ} → length w ≡ 20480 → m ≡ view w count
    → Changes w u1 (λ s. with_copy s p groups m) → Changes u1 u2 (λ s. numbered s p groups o)
    → Changes u2 u3 (λ s. sent s p m 0) → u3 ≡ encode (multicast (view w) p groups o)
unfolding multicast posted
multicast_law w u1 u2 u3 p groups o {m} l em c1 c2 c3 =
    c3 _ (c2 _ (c1 (view w) (sym (encode_view w l))))
    ∙ ap (λ (x : ℕ). encode (posted (with_message (view w) p groups o x) p x)) em
