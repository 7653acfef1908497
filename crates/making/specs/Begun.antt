-- A fresh world in the making: its first k processes have been written. A process more is one record stored and one
-- flag set; with all n it is the fresh world. Rests on Setup. Assumes nothing.
use Rattle.std.specs.Prelude.{◌≡◌, Bool, true, false, ◌&&◌, List, ℕ, ◌+◌, ◌-◌, ◌*◌, ◌%◌, ◌^◌, ◌≤◌, ◌<◌, eqb, ltb, get_or, set, replicate}
use Rattle.std.proofs.Math.Path.{refl}
use Rattle.std.proofs.Common.{sym, ap, ◌∙◌, arith, length-set, get_or-set_same, get_or-set_other, shl_exact, pow_pos, pow_mono, lit<, one-mul, eq-eqb, ne_eqb, lt-ltb, le-ltb, ltb-true, ltb-false}
use Rattle.std.proofs.Math.Decide.{ℕ_discrete}
use Rattle.std.proofs.lemmas.List.{length-replicate, get_or-replicate}
use Rattle.definitions.specs.General.{pick, tabulate, byte}
use Rattle.definitions.specs.World.{Cell, size, count, rule, group, trust, counter, sequence, next, delivered, up, fifo_length, causal_length, held, marks, fifo, causal, sender, mask, stamp, number, flight, order, unused, addr, State, put, encode}
use Rattle.definitions.specs.Setup.{setup_bits, setup_group, fresh, made}
use Rattle.base.specs.Tabulate.{get_d_tabulate}
use Rattle.world.specs.Layout.{Within, in_words, put_same, put_other, is_encode, encode_ext}
use Rattle.setup.specs.Groups.{group_in}
use Rattle.records.specs.declared.Process.{Process}
use Rattle.records.specs.Record.{with_record}

-- The fresh world of n processes, of which the first k have been written.
unfoldable pub begun : ℕ → (ℕ → ℕ) → ℕ → State
begun n groups k size = n
begun n groups k count = 0
begun n groups k rule = 0
begun n groups k (group p) = pick (ltb p k) (groups p) 0
begun n groups k (trust p) = pick (ltb p k) (2 ^ n - 1) 0
begun n groups k (counter p g q) = 0
begun n groups k (sequence p g) = 0
begun n groups k (next p q) = pick (ltb p k && ltb q n) 1 0
begun n groups k (delivered p q) = 0
begun n groups k (up p) = pick (ltb p k) 1 0
begun n groups k (fifo_length p) = 0
begun n groups k (causal_length p) = 0
begun n groups k (held p m) = 0
begun n groups k (marks p m) = 0
begun n groups k (fifo p i) = 0
begun n groups k (causal p i) = 0
begun n groups k (sender m) = 0
begun n groups k (mask m) = 0
begun n groups k (stamp m g q) = 0
begun n groups k (number m g) = 0
begun n groups k (flight m j q) = 0
begun n groups k (order m) = 0
begun n groups k (unused i) = 0

-- with all of them it is the fresh world
pub begun_all : (n : ℕ) (groups : ℕ → ℕ) (c : Cell) → begun n groups n c ≡ fresh n groups c
unfolding begun fresh
begun_all n groups size = refl
begun_all n groups count = refl
begun_all n groups rule = refl
begun_all n groups (group p) = refl
begun_all n groups (trust p) = refl
begun_all n groups (counter p g q) = refl
begun_all n groups (sequence p g) = refl
begun_all n groups (next p q) = refl
begun_all n groups (delivered p q) = refl
begun_all n groups (up p) = refl
begun_all n groups (fifo_length p) = refl
begun_all n groups (causal_length p) = refl
begun_all n groups (held p m) = refl
begun_all n groups (marks p m) = refl
begun_all n groups (fifo p i) = refl
begun_all n groups (causal p i) = refl
begun_all n groups (sender m) = refl
begun_all n groups (mask m) = refl
begun_all n groups (stamp m g q) = refl
begun_all n groups (number m g) = refl
begun_all n groups (flight m j q) = refl
begun_all n groups (order m) = refl
begun_all n groups (unused i) = refl

-- The next numbers of a fresh process.
abbrev pub first_nexts : ℕ → List ℕ
first_nexts n = tabulate 16 (λ q. pick (ltb q n) 1 0)

-- The record of a fresh process of group g, of n.
abbrev pub fresh_record : ℕ → ℕ → Process
fresh_record n g = record {
  group = g;
  trust = 2 ^ n - 1;
  counters = replicate 128 0;
  sequences = replicate 8 0;
  next = first_nexts n;
  delivered = replicate 16 0;
}

-- Process p of group g begun: its record stored, and up.
abbrev pub begin_process : State → ℕ → ℕ → ℕ → State
begin_process s p n g = put (with_record s p (fresh_record n g)) (up p) 1

-- ---- a process more
-- what holds of the first k, and of k
grow : (k x : ℕ) (v : ℕ → ℕ) → pick (eqb k x) (v k) (pick (ltb x k) (v x) 0) ≡ pick (ltb x (k + 1)) (v x) 0
grow k x v = go (ℕ_discrete k x)
  where
    go : Dec (k ≡ x) → pick (eqb k x) (v k) (pick (ltb x k) (v x) 0) ≡ pick (ltb x (k + 1)) (v x) 0
    go (yes e) = rw (eq-eqb k x e, lt-ltb x (k + 1) (omega arith)) (ap v e)
    go (no n) = rw (ne_eqb k x n) (which (ltb x k) refl)
      where
        which : (b : Bool) → ltb x k ≡ b → pick b (v x) 0 ≡ pick (ltb x (k + 1)) (v x) 0
        which true e = let h = ltb-true x k e in rw (lt-ltb x (k + 1) (omega arith))
        which false e = let h = ltb-false x k e in rw (le-ltb x (k + 1) (omega arith))

both_pick : (a b : Bool) → ◌≡◌ {A = ℕ} (pick (a && b) 1 0) (pick a (pick b 1 0) 0)
both_pick true b = refl
both_pick false b = refl

-- an array of zeros
zero_there : (b : Bool) (n i : ℕ) → i < n → ◌≡◌ {A = ℕ} (pick b (get_or (replicate n 0) i 0) 0) 0
zero_there true n i h = get_or-replicate n i 0 0 h
zero_there false n i h = refl

up_put : (s : State) (p x v : ℕ) → put s (up p) v (up x) ≡ pick (eqb p x) v (s (up x))
up_put s p x v = go (ℕ_discrete p x)
  where
    go : Dec (p ≡ x) → put s (up p) v (up x) ≡ pick (eqb p x) v (s (up x))
    go (yes e) = put_same s (up p) (up x) v (ap up e) ∙ rw (eq-eqb p x e)
    go (no n) = put_other s (up p) (up x) v (λ e. n (cc)) ∙ rw (ne_eqb p x n)

module _ (n : ℕ) (groups : ℕ → ℕ) (k : ℕ) where
  step : (c : Cell) → Within c → begin_process (begun n groups k) k n (groups k) c ≡ begun n groups (k + 1) c
  unfolding put with_record begun ℕ_discrete
  step size h = refl
  step count h = refl
  step rule h = refl
  step (group p) h = grow k p groups
  step (trust p) h = grow k p (λ _. 2 ^ n - 1)
  step (counter p g q) h = zero_there (eqb k p) 128 (g * 16 + q) (omega arith)
  step (sequence p g) h = zero_there (eqb k p) 8 g (omega arith)
  step (next p q) h =
      rw (
        get_d_tabulate {A = ℕ} 16 (λ j. pick (ltb j n) 1 0) q 0 h.1,
        both_pick (ltb p k) (ltb q n),
        both_pick (ltb p (k + 1)) (ltb q n),
      )
      (grow k p (λ _. pick (ltb q n) 1 0))
  step (delivered p q) h = zero_there (eqb k p) 16 q (omega arith)
  step (up p) h =
      up_put (with_record (begun n groups k) k (fresh_record n (groups k))) k p 1 ∙ grow k p (λ _. 1)
  step (fifo_length p) h = refl
  step (causal_length p) h = refl
  step (held p m) h = refl
  step (marks p m) h = refl
  step (fifo p i) h = refl
  step (causal p i) h = refl
  step (sender m) h = refl
  step (mask m) h = refl
  step (stamp m g q) h = refl
  step (number m g) h = refl
  step (flight m j q) h = refl
  step (order m) h = refl
  step (unused i) h = refl

  pub begun_more : encode (begin_process (begun n groups k) k n (groups k)) ≡ encode (begun n groups (k + 1))
  begun_more = encode_ext (begin_process (begun n groups k) k n (groups k)) (begun n groups (k + 1)) step

-- ---- the first words
-- the words of a world of zeros, with n in the first
abbrev blank : ℕ → List ℕ
blank n = set (replicate 20480 0) 0 n

still_zero : (n : ℕ) (c : Cell) → Within c → (addr c ≡ 0 → ⊥) → get_or (blank n) (addr c) 0 ≡ 0
still_zero n c h e =
    get_or-set_other (replicate 20480 0) 0 (addr c) n 0 e ∙ get_or-replicate 20480 (addr c) 0 0 (in_words c h)

-- no process is below 0
none_below : (p v : ℕ) → 0 ≡ pick (ltb p 0) v 0
none_below p v = rw (le-ltb p 0 (omega arith))

blank_at : (n : ℕ) (groups : ℕ → ℕ) (c : Cell) → Within c → get_or (blank n) (addr c) 0 ≡ begun n groups 0 c
unfolding begun
blank_at n groups size h =
    get_or-set_same (replicate 20480 0) 0 n 0 (rw (length-replicate {A = ℕ} 20480 0) (omega arith))
blank_at n groups count h = still_zero n count h (λ e. omega arith)
blank_at n groups rule h = still_zero n rule h (λ e. omega arith)
blank_at n groups (group p) h = still_zero n (group p) h (λ e. omega arith) ∙ none_below p (groups p)
blank_at n groups (trust p) h = still_zero n (trust p) h (λ e. omega arith) ∙ none_below p (2 ^ n - 1)
blank_at n groups (counter p g q) h = still_zero n (counter p g q) h (λ e. omega arith)
blank_at n groups (sequence p g) h = still_zero n (sequence p g) h (λ e. omega arith)
blank_at n groups (next p q) h =
    still_zero n (next p q) h (λ e. omega arith)
    ∙ none_below p (pick (ltb q n) 1 0) ∙ sym (both_pick (ltb p 0) (ltb q n))
blank_at n groups (delivered p q) h = still_zero n (delivered p q) h (λ e. omega arith)
blank_at n groups (up p) h = still_zero n (up p) h (λ e. omega arith) ∙ none_below p 1
blank_at n groups (fifo_length p) h = still_zero n (fifo_length p) h (λ e. omega arith)
blank_at n groups (causal_length p) h = still_zero n (causal_length p) h (λ e. omega arith)
blank_at n groups (held p m) h = still_zero n (held p m) h (λ e. omega arith)
blank_at n groups (marks p m) h = still_zero n (marks p m) h (λ e. omega arith)
blank_at n groups (fifo p i) h = still_zero n (fifo p i) h (λ e. omega arith)
blank_at n groups (causal p i) h = still_zero n (causal p i) h (λ e. omega arith)
blank_at n groups (sender m) h = still_zero n (sender m) h (λ e. omega arith)
blank_at n groups (mask m) h = still_zero n (mask m) h (λ e. omega arith)
blank_at n groups (stamp m g q) h = still_zero n (stamp m g q) h (λ e. omega arith)
blank_at n groups (number m g) h = still_zero n (number m g) h (λ e. omega arith)
blank_at n groups (flight m j q) h = still_zero n (flight m j q) h (λ e. omega arith)
blank_at n groups (order m) h = still_zero n (order m) h (λ e. omega arith)
blank_at n groups (unused i) h = still_zero n (unused i) h (λ e. omega arith)

pub begun_none : (n : ℕ) (groups : ℕ → ℕ) → set (replicate 20480 0) 0 n ≡ encode (begun n groups 0)
begun_none n groups =
    is_encode (blank n) (begun n groups 0)
    (length-set (replicate 20480 0) 0 n ∙ length-replicate {A = ℕ} 20480 0) (blank_at n groups)

-- all n written: the world of the setup record
pub begun_made : (bytes : List ℕ)
    → encode (begun (byte bytes 1) (group_in (setup_bits bytes)) (byte bytes 1)) ≡ encode (made bytes)
unfolding made group_in setup_group
begun_made bytes =
    encode_ext (begun (byte bytes 1) (group_in (setup_bits bytes)) (byte bytes 1)) (made bytes)
    (λ c h. begun_all (byte bytes 1) (group_in (setup_bits bytes)) c)

-- ---- numbers
-- 1 << n does not lose its bit
pub one_shifted : (n : ℕ) → n ≤ 16 → (1 * 2 ^ n) % 4294967296 ≡ 2 ^ n
one_shifted n h = shl_exact {a = 1} 1 n 32 (lit< tt) (omega arith) ∙ one-mul (2 ^ n)

pub power_small : (n : ℕ) → n ≤ 16 → (1 ≤ 2 ^ n) × (2 ^ n ≤ 65536)
power_small n h = (pow_pos n, pow_mono {i = n} {j = 16} h)
