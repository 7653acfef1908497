-- One causal delivery, through the process's record. Assumes nothing.
use Rattle.std.specs.Prelude.{◌≡◌, true, List, [], eqb, take, drop, set}
use Rattle.std.proofs.Math.Path.{refl, sym, ap}
use Rattle.std.proofs.Common.{ap₂, ◌∙◌, arith, eq-eqb, ne_eqb, drop-drop, get_or-set_other}
use Prim.Native.Nat.{ℕ, ◌+◌, ◌*◌, ◌/◌, ◌%◌, ◌<◌, max}
use Rattle.std.proofs.Math.Decide.{ℕ_discrete}
use Rattle.std.proofs.Math.ListN.{length, get_or}
use Rattle.std.proofs.Math.Seq.{get_or-set_same}
use Rattle.definitions.specs.General.{tabulate, pick}
use Rattle.definitions.specs.World.{rule, order, view, Cell, size, count, group, trust, counter, sequence, next, delivered, up, fifo_length, causal_length, held, marks, fifo, causal, sender, mask, stamp, number, flight, unused, State, put, encode}
use Rattle.definitions.specs.Machine.{merge, with_tables, causal_one}
use Rattle.base.specs.Tabulate.{length_tabulate, get_d_tabulate, is_tabulate}
use Rattle.world.specs.Layout.{put_same, put_other, encode_ext, part_encode, reads_cell, Within, Reads, Changes}
use Rattle.records.specs.declared.Process.{Process}
use Rattle.records.specs.Record.{record_of, with_record, with_delivery, pick_to, pick_both}
use Rattle.logs.specs.Pushed.{pushed}
use Rattle.bounds.specs.Bounds.{Bounds}
use Rattle.tables.specs.Table.{table_at, max_table, concat}
use Rattle.tables.specs.Laws.{row_of, length_table, merged_at}

-- message m's counters
abbrev pub table_of : State → ℕ → List (List ℕ)
table_of s m = tabulate 8 (λ g. tabulate 16 (λ q. s (stamp m g q)))

pub reads_table : (w : List ℕ) (m : ℕ) {t : List (List ℕ)} → m < 64
    → t ≡ table_at 8 16 (drop (6867 + m * 187 + 2) w) → Reads w t (λ s. table_of s m)
reads_table w m h q s e =
    q ∙ rw e (is_tabulate [] 8 (λ g. tabulate 16 (λ q. s (stamp m g q)))
    (table_at 8 16 (drop (6867 + m * 187 + 2) (encode s))) (length_table 8 16 _)
    (λ g l. row_of 8 16 (drop (6867 + m * 187 + 2) (encode s)) g l
    ∙ ap (take 16) (drop-drop (g * 16) (6867 + m * 187 + 2) (encode s))
    ∙ part_encode s (6867 + m * 187 + 2 + g * 16) 16 (stamp m g) (omega arith) (λ i k. omega arith)
    (λ i k. omega arith)))

-- the record after the delivery of m from q
abbrev pub record_after : State → ℕ → ℕ → ℕ → ℕ → Process
record_after s p m q x =
    let c = concat (max_table (table_at 8 16 (record_of s p).counters) (table_of s m)) in
    with_delivery (record_of s p) c q x

abbrev pub logged : State → ℕ → ℕ → State
logged s p m = pushed s p true m

module _ (s : State) (p m q x : ℕ) (hq : q < 16) where
  counters_at : (g r : ℕ) → g < 8 → r < 16
      → get_or (concat (max_table (table_at 8 16 (record_of s p).counters) (table_of s m))) (g * 16 + r)
      0 ≡ max (s (counter p g r)) (s (stamp m g r))
  counters_at g r hg hr =
      let u : (g * 16 + r) / 16 ≡ g = omega arith in
      let v : (g * 16 + r) % 16 ≡ r = omega arith in
      merged_at (record_of s p).counters (table_of s m) g r (length_tabulate 128 _) (length_tabulate 8 _)
      (λ i h. ap length (get_d_tabulate 8 (λ g. tabulate 16 (λ q. s (stamp m g q))) i [] h)
      ∙ length_tabulate 16 _) hg hr
      ∙ ap₂ max
      (get_d_tabulate 128 (λ i. s (counter p (i / 16) (i % 16))) (g * 16 + r) 0 (omega arith)
      ∙ ap₂ (λ (a b : ℕ). s (counter p a b)) u v)
      (ap (λ (l : List ℕ). get_or l r 0) (get_d_tabulate 8 (λ g. tabulate 16 (λ q. s (stamp m g q))) g [] hg)
      ∙ get_d_tabulate 16 (λ q. s (stamp m g q)) r 0 hr)

  del_at : (y r : ℕ) → r < 16 → Dec (p ≡ y) → Dec (q ≡ r)
      → pick (eqb p y) (get_or (set (tabulate 16 (λ k. s (delivered p k))) q x) r 0) (s (delivered y r)) ≡ put
      (logged s p m) (delivered p q) x (delivered y r)
  unfolding put
  del_at y r hr (no n) d =
      rw (ne_eqb p y n) (sym (put_other (logged s p m) (delivered p q) (delivered y r) x
      (λ e. let z : p ≡ y = cc in n z)))
  del_at y r hr (yes e) (yes f) =
      let l : q < length (tabulate 16 (λ k. s (delivered p k))) =
      omega (arith, length_tabulate 16 (λ k. s (delivered p k))) in
      rw (eq-eqb p y e) (ap (λ (k : ℕ). get_or (set (tabulate 16 (λ k. s (delivered p k))) q x) k 0) (sym f)
      ∙ get_or-set_same (tabulate 16 (λ k. s (delivered p k))) q x 0 l
      ∙ sym (put_same (logged s p m) (delivered p q) (delivered y r) x (ap₂ delivered e f)))
  del_at y r hr (yes e) (no n) =
      rw (eq-eqb p y e) (get_or-set_other (tabulate 16 (λ k. s (delivered p k))) q r x 0 (λ z. n (sym z))
      ∙ get_d_tabulate 16 (λ k. s (delivered p k)) r 0 hr ∙ ap (λ (k : ℕ). s (delivered k r)) e
      ∙ sym (put_other (logged s p m) (delivered p q) (delivered y r) x (λ e. let z : q ≡ r = cc in n z)))

  same : (c : Cell) → Within c
      → with_record (logged s p m) p (record_after s p m q x) c ≡ merge
      (put (logged s p m) (delivered p q) x) p m c
  unfolding with_record merge with_tables put
  same size h = refl
  same count h = refl
  same rule h = refl
  same (group y) h = pick_to p y (s (group p)) (s (group y)) (λ e. ap (λ (k : ℕ). s (group k)) e)
  same (trust y) h = pick_to p y (s (trust p)) (s (trust y)) (λ e. ap (λ (k : ℕ). s (trust k)) e)
  same (counter y g r) h =
      pick_both p y (get_or (concat (max_table (table_at 8 16 (record_of s p).counters) (table_of s m)))
      (g * 16 + r) 0) (max (s (counter y g r)) (s (stamp m g r))) (s (counter y g r))
      (λ e. counters_at g r (omega arith) (omega arith)
      ∙ ap (λ (k : ℕ). max (s (counter k g r)) (s (stamp m g r))) e)
  same (sequence y g) h =
      pick_to p y (get_or (tabulate 8 (λ k. s (sequence p k))) g 0) (s (sequence y g))
      (λ e. get_d_tabulate 8 (λ k. s (sequence p k)) g 0 (omega arith) ∙ ap (λ (k : ℕ). s (sequence k g)) e)
  same (next y r) h =
      pick_to p y (get_or (tabulate 16 (λ k. s (next p k))) r 0) (s (next y r))
      (λ e. get_d_tabulate 16 (λ k. s (next p k)) r 0 (omega arith) ∙ ap (λ (k : ℕ). s (next k r)) e)
  same (delivered y r) h = del_at y r (omega arith) (ℕ_discrete p y) (ℕ_discrete q r)
  same (up y) h = refl
  same (fifo_length y) h = refl
  same (causal_length y) h = refl
  same (held y n) h = refl
  same (marks y n) h = refl
  same (fifo y i) h = refl
  same (causal y i) h = refl
  same (sender n) h = refl
  same (mask n) h = refl
  same (stamp n g r) h = refl
  same (number n g) h = refl
  same (flight n k f) h = refl
  same (order n) h = refl
  same (unused a) h = refl

stepped : State → ℕ → ℕ → ℕ → ℕ → State
stepped s p m q x = merge (put (logged s p m) (delivered p q) x) p m

-- the record's way is the definition's
pub one_law : (s : State) (p i m q : ℕ) → q < 16 → m ≡ s (fifo p i) → q ≡ s (sender m)
    → encode (with_record (logged s p m) p (record_after s p m q (s (stamp m (s (group p)) q)))) ≡ encode
    (causal_one s p i)
unfolding causal_one stepped
one_law s p i m q hq em eq =
    encode_ext _ (stepped s p m q (s (stamp m (s (group p)) q)))
    (same s p m q (s (stamp m (s (group p)) q)) hq)
    ∙ ap (λ (k : ℕ). encode (stepped s p m k (s (stamp m (s (group p)) k)))) eq
    ∙ ap (λ (n : ℕ). encode (stepped s p n (s (sender n)) (s (stamp n (s (group p)) (s (sender n)))))) em

-- the code's record
pub record_law : (w : List ℕ) (p m q : ℕ) {r r' : Process} {t : List (List ℕ)} {cs : List ℕ} {x g : ℕ}
    → p < 16 → m < 64 → q < 16 → get_or w (3 + p * 429) 0 < 8
    → Reads w r (λ s. record_of s p) → t ≡ table_at 8 16 (drop (6867 + m * 187 + 2) w)
    → g ≡ get_or w (3 + p * 429) 0 → x ≡ get_or w (6867 + m * 187 + 2 + (g * 16 + q)) 0
    → cs ≡ concat (max_table (table_at 8 16 r.counters) t) → r' ≡ with_delivery r cs q x
    → Reads w r' (λ s. record_after s p m q (s (stamp m (s (group p)) q)))
record_law w p m q {r} {r'} {t} {cs} {x} {g} hp hm hq hg er et eg ex ec e s h =
    let r1 = er s h in
    let t1 = reads_table w m hm et s h in
    let g1 = eg ∙ reads_cell w (group p) (omega arith) s h in
    let l : s (group p) < 8 = omega (arith, eg, g1) in
    let x1 = ex ∙ ap (λ (k : ℕ). get_or w (6867 + m * 187 + 2 + (k * 16 + q)) 0) g1
    ∙ reads_cell w (stamp m (s (group p)) q) (omega arith) s h in
    e ∙ ap (λ (c : List ℕ). with_delivery r c q x) ec
    ∙ ap (λ (z : Process). with_delivery z (concat (max_table (table_at 8 16 z.counters) t)) q x) r1
    ∙ ap₂ (λ (y : List (List ℕ)) (v : ℕ). with_delivery (record_of s p)
    (concat (max_table (table_at 8 16 (record_of s p).counters) y)) q v) t1 x1

pub causal_one_law : (w v u : List ℕ) (p i m q : ℕ) (after : Process) → Bounds (view w) → p < 16 → i < 64
    → m ≡ view w (fifo p i) → q ≡ view w (sender m)
    → Reads w after (λ s. record_after s p m q (s (stamp m (s (group p)) q)))
    → Changes w v (λ s. pushed s p true m) → Changes v u (λ s. with_record s p after)
    → Changes w u (λ s. causal_one s p i)
causal_one_law w v u p i m q after bounds hp hi em eq er c1 c2 s e =
    let hm : m < 64 = omega (arith, em, bounds.logged p i hp hi) in
    let hq : q < 16 = omega (arith, eq, bounds.senders m hm) in
    let m1 = em ∙ reads_cell w (fifo p i) (omega arith) s e in
    let q1 = eq ∙ reads_cell w (sender m) (omega arith) s e in
    c2 (logged s p m) (c1 s e) ∙ ap (λ (r : Process). encode (with_record (logged s p m) p r)) (er s e)
    ∙ one_law s p i m q hq m1 q1
