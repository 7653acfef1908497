-- A FIFO delivery and the cascade: the bounds on the way, the parts of a delivery one after the other, and
-- the loop of the code beside the definition's. The FIFO log has room for what is left, since the loop
-- counts down how many messages it lacks. Assumes nothing.
use Rattle.std.specs.Prelude.{◌≡◌, refl, false, List, ℕ, suc, ◌+◌, ◌≤◌, ◌<◌, set}
use Rattle.std.proofs.Common.{ap, ◌∙◌, arith}
use Rattle.definitions.specs.World.{count, next, fifo_length, causal_length, fifo, sender, addr, State, put, encode, view}
use Rattle.definitions.specs.Machine.{with_tables, merge, causal_one, causal_all, ready, appended, raised_next, send_oks, fifo_one, cascade}
use Rattle.world.specs.Layout.{Changes, put_same, put_at, set_encode, reads_cell}
use Rattle.logs.specs.Pushed.{pushed}
use Rattle.bounds.specs.Bounds.{Bounds}
use Rattle.bounds.specs.Run.{Run}
use Rattle.causal.specs.Causal.{causal_bounds, causal_stands}
use Rattle.sends.specs.Sends.{oks_keep}
use Rattle.sends.proofs.Sends.{bounds_oks}

-- ---- the parts of a FIFO delivery keep the bounds
-- a message appended to the FIFO log
appended_longer : (s : State) (p m : ℕ) → appended s p m (fifo_length p) ≡ s (fifo_length p) + 1
unfolding appended
appended_longer s p m = put_same (put s _ m) (fifo_length p) (fifo_length p) (s (fifo_length p) + 1) refl

pub bounds_appended : (s : State) (p m : ℕ) → m < 64 → s (fifo_length p) < s count → Bounds s
    → Bounds (appended s p m)
unfolding appended put
bounds_appended s p m hm room h = record {
  sizes = h.sizes;
  counts = h.counts;
  groups = h.groups;
  senders = h.senders;
  fifo_lengths = λ x l. longer x (λ v. v ≤ s count) (λ _. omega arith) (h.fifo_lengths x l);
  causal_lengths = λ x l.
      longer x (λ v. s (causal_length x) ≤ v) (λ e. omega (arith, h.causal_lengths x l))
      (h.causal_lengths x l);
  logged = λ x i l k. put_at s (fifo p n) (fifo x i) m (λ v. v < 64) (λ _. hm) (λ _. h.logged x i l k);
  nexts = λ x y l k.
      longer x (λ v. s (next x y) ≤ v + 1) (λ e. omega (arith, h.nexts x y l k)) (h.nexts x y l k);
}
  where
    n : ℕ
    n = s (fifo_length p)

    longer : (x : ℕ) (P : ℕ → Type 0) → (n ≡ s (fifo_length x) → P (n + 1)) → P (s (fifo_length x))
        → P (put s (fifo_length p) (n + 1) (fifo_length x))
    longer x P f g =
        put_at s (fifo_length p) (fifo_length x) (n + 1) P
        (λ e. let z : p ≡ x = cc in f (ap (λ (y : ℕ). s (fifo_length y)) z)) (λ _. g)

-- next raised
bounds_raised : (s : State) (p q : ℕ) → s (next p q) ≤ s (fifo_length p) → Bounds s
    → Bounds (raised_next s p q)
unfolding raised_next put
bounds_raised s p q room h = record {
  sizes = h.sizes;
  counts = h.counts;
  groups = h.groups;
  senders = h.senders;
  fifo_lengths = h.fifo_lengths;
  causal_lengths = h.causal_lengths;
  logged = h.logged;
  nexts = λ x y l k.
      put_at s (next p q) (next x y) (s (next p q) + 1) (λ v. v ≤ s (fifo_length x) + 1)
      (λ e. let z : p ≡ x = cc in omega (arith, ap (λ (v : ℕ). s (fifo_length v)) z)) (λ _. h.nexts x y l k);
}

-- what a FIFO delivery of m leaves and changes
module _ (p : ℕ) (s : State) (m : ℕ) (h : Bounds s) (hp : p < 16) (hm : m < 64)
    (room : s (fifo_length p) < s count) where
  -- after the causal deliveries
  abbrev pub delivered_all : State
  delivered_all = causal_all (appended s p m) p

  pub bounds_delivered : Bounds delivered_all
  bounds_delivered = causal_bounds p (appended s p m) hp (bounds_appended s p m hm room h)

  longer_delivered : delivered_all (fifo_length p) ≡ s (fifo_length p) + 1
  unfolding causal_one merge with_tables put
  longer_delivered = causal_stands p (appended s p m) (fifo_length p) (λ t i. refl) ∙ appended_longer s p m

  next_delivered : (q : ℕ) → delivered_all (next p q) ≡ s (next p q)
  unfolding causal_one merge with_tables put appended
  next_delivered q = causal_stands p (appended s p m) (next p q) (λ t i. refl)

  pub next_room : (q : ℕ) → q < 16 → delivered_all (next p q) ≤ delivered_all (fifo_length p)
  next_room q hq = omega (arith, next_delivered q, longer_delivered, h.nexts p q hp hq)

  pub bounds_next : (q : ℕ) → q < 16 → Bounds (raised_next delivered_all p q)
  bounds_next q hq = bounds_raised delivered_all p q (next_room q hq) bounds_delivered

  -- after the OKs
  pub bounds_fifo : Bounds (fifo_one s p m)
  unfolding fifo_one
  bounds_fifo = bounds_oks p (s (sender m)) _ _ (bounds_next (s (sender m)) (h.senders m hm))

  counted_fifo : fifo_one s p m count ≡ s count
  unfolding fifo_one raised_next causal_one merge with_tables appended put
  counted_fifo =
      oks_keep p (s (sender m)) (λ t. t count ≡ s count) (λ t x e. e) _ _
      (causal_stands p (appended s p m) count (λ t i. refl))

  longer_fifo : fifo_one s p m (fifo_length p) ≡ s (fifo_length p) + 1
  unfolding fifo_one raised_next put
  longer_fifo =
      oks_keep p (s (sender m)) (λ t. t (fifo_length p) ≡ s (fifo_length p) + 1) (λ t x e. e) _ _
      longer_delivered

-- ---- the loop: n messages, and k turns left
abbrev pub messages : State → ℕ
messages t = t count

pub record Kept (p n k : ℕ) (t : State) : Type 0 where
  pub bounds : Bounds t
  pub counted : t count ≡ n
  pub room : t (fifo_length p) + k ≤ n

pub kept_more : (p n : ℕ) → p < 16 → (k : ℕ) (t : State) (m : ℕ) → m < messages t → Kept p n (suc k) t
    → Kept p n k (fifo_one t p m)
kept_more p n hp k t m l h =
    let hm : m < 64 = omega (arith, h.bounds.counts) in
    let r : t (fifo_length p) < t count = omega (arith, h.room, h.counted) in
    record {
      bounds = bounds_fifo p t m h.bounds hp hm r;
      counted = counted_fifo p t m h.bounds hp hm r ∙ h.counted;
      room = omega (arith, longer_fifo p t m h.bounds hp hm r, h.room);
    }

abbrev pub Cascading : ℕ → ℕ → State → List ℕ → ℕ → Type 0
Cascading p n s w left = Run messages (λ t. ready t p) (λ t. fifo_one t p) (Kept p n) (cascade s p) w left

-- ---- the stores of a FIFO delivery
pub raised_law : (w : List ℕ) (p q : ℕ) {x : ℕ} → p < 16 → q < 16 → x ≡ view w (next p q)
    → Changes w (set w (addr (next p q)) (x + 1)) (λ s. raised_next s p q)
unfolding raised_next
raised_law w p q {x} hp hq ex s e =
    ap (λ (y : List ℕ). set y (addr (next p q)) (x + 1)) e ∙ set_encode s (next p q) (x + 1) (hp, hq)
    ∙ ap (λ (k : ℕ). encode (put s (next p q) (k + 1))) (ex ∙ reads_cell w (next p q) (hp, hq) s e)

-- the parts one after the other
pub fifo_law : (w u1 u2 u3 u4 : List ℕ) (p m : ℕ) {q : ℕ} → m < 64 → q ≡ view w (sender m)
    → Changes w u1 (λ s. pushed s p false m) → Changes u1 u2 (λ s. causal_all s p)
    → Changes u2 u3 (λ s. raised_next s p q) → Changes u3 u4 (λ s. send_oks s p q (s count))
    → Changes w u4 (λ s. fifo_one s p m)
unfolding fifo_one appended
fifo_law w u1 u2 u3 u4 p m {q} hm eq c1 c2 c3 c4 s e =
    let t : State = causal_all (appended s p m) p in
    c4 (raised_next t p q) (c3 t (c2 (appended s p m) (c1 s e)))
    ∙ ap (λ (k : ℕ). encode (send_oks (raised_next t p k) p k (raised_next t p k count)))
    (eq ∙ reads_cell w (sender m) hm s e)
