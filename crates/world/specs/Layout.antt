-- Laws of the layout of World: each cell has its own place and each place its cell; one word stored is one
-- cell changed; a part of a block read or stored is its cells read or changed; words that a state encodes,
-- read back, are that state; 20,480 words are the encoding of their reading. Assumes nothing.
use Rattle.std.specs.Prelude.{◌≡◌, refl, Bool, true, false, List, [], ◌∷◌, ◌≢◌, ℕ, zero, suc, ◌+◌, ◌-◌, ◌*◌, ◌/◌, ◌%◌, ◌≤◌, ◌<◌, ltb, length, get_or, set, take, drop}
use Rattle.std.proofs.Common.{sym, ap, ap₂, ◌∙◌, arith, not-suc-le-zero, ltb-true, ltb-false, lt-ltb, le-ltb, length-set, length-take, length-drop, get_or-set_same, get_or-set_other, get_or-take, get_or-drop}
use Rattle.std.proofs.Math.Decide.{ℕ_discrete}
use Rattle.definitions.specs.General.{pick, tabulate}
use Rattle.definitions.specs.World.{Cell, size, count, rule, group, trust, counter, sequence, next, delivered, up, fifo_length, causal_length, held, marks, fifo, causal, sender, mask, stamp, number, flight, order, unused, Cell-discrete, addr, Region, cell_in, of_process, of_message, regions, cell_at, State, put, encode, view}
use Rattle.base.specs.Tabulate.{length_tabulate, get_d_tabulate, is_tabulate, splice, length_splice, splice_below, splice_in, splice_above}

-- The cell is one of the world's: 16 processes, 8 groups, 64 messages, 3 kinds of letters, 1,645 unused
-- words.
abbrev pub Within : Cell → Type 0
Within size = Unit {0}
Within count = Unit {0}
Within rule = Unit {0}
Within (group p) = p < 16
Within (trust p) = p < 16
Within (counter p g q) = (p < 16) × (g < 8) × (q < 16)
Within (sequence p g) = (p < 16) × (g < 8)
Within (next p q) = (p < 16) × (q < 16)
Within (delivered p q) = (p < 16) × (q < 16)
Within (up p) = p < 16
Within (fifo_length p) = p < 16
Within (causal_length p) = p < 16
Within (held p m) = (p < 16) × (m < 64)
Within (marks p m) = (p < 16) × (m < 64)
Within (fifo p i) = (p < 16) × (i < 64)
Within (causal p i) = (p < 16) × (i < 64)
Within (sender m) = m < 64
Within (mask m) = m < 64
Within (stamp m g q) = (m < 64) × (g < 8) × (q < 16)
Within (number m g) = (m < 64) × (g < 8)
Within (flight m k q) = (m < 64) × (k < 3) × (q < 16)
Within (order m) = m < 64
Within (unused i) = i < 1645

-- Of words w that became u: whatever state w was, u is that state changed by f.
abbrev pub Changes : List ℕ → List ℕ → (State → State) → Type 0
Changes w u f = (s : State) → w ≡ encode s → u ≡ encode (f s)

-- Of a value a read from words w: whatever state w is, a is f of it.
abbrev pub Reads : {A : Type 0} → List ℕ → A → (State → A) → Type 0
Reads w a f = (s : State) → w ≡ encode s → a ≡ f s

-- ---- a cell of the world stands among its words
pub in_words : (c : Cell) → Within c → addr c < 20480
in_words size h = omega arith
in_words count h = omega arith
in_words rule h = omega arith
in_words (group p) h = omega arith
in_words (trust p) h = omega arith
in_words (counter p g q) h = omega arith
in_words (sequence p g) h = omega arith
in_words (next p q) h = omega arith
in_words (delivered p q) h = omega arith
in_words (up p) h = omega arith
in_words (fifo_length p) h = omega arith
in_words (causal_length p) h = omega arith
in_words (held p m) h = omega arith
in_words (marks p m) h = omega arith
in_words (fifo p m) h = omega arith
in_words (causal p m) h = omega arith
in_words (sender m) h = omega arith
in_words (mask m) h = omega arith
in_words (stamp m g q) h = omega arith
in_words (number m g) h = omega arith
in_words (flight m k q) h = omega arith
in_words (order m) h = omega arith
in_words (unused a) h = omega arith

-- ---- the cell at a place stands there: for a list of regions, from the place b on
record Placed (b i : ℕ) (c : Cell) : Type 0 where
  pub place : addr c ≡ b + i
  pub inside : Within c

abbrev total : List Region → ℕ
total [] = 0
total (r ∷ rs) = r.extent + total rs

abbrev Right : ℕ → List Region → Type 0
Right b [] = Unit {0}
Right b (r ∷ rs) = ((i : ℕ) → i < r.extent → Placed b i (r.cell i)) × Right (b + r.extent) rs

placed_in : (rs : List Region) (b a : ℕ) → Right b rs → a < total rs → Placed b a (cell_in rs a)
placed_in [] b a t h = absurd (not-suc-le-zero h)
placed_in (r ∷ rs) b a t h = go (ltb a r.extent) refl (placed_in rs (b + r.extent) (a - r.extent) t.1)
  where
    go : (x : Bool) → ltb a r.extent ≡ x
        → (a - r.extent < total rs → Placed (b + r.extent) (a - r.extent) (cell_in rs (a - r.extent)))
        → Placed b a (pick x (r.cell a) (cell_in rs (a - r.extent)))
    go true e ih = t.0 a (ltb-true a r.extent e)
    go false e ih =
        let l : r.extent ≤ a = ltb-false a r.extent e in
        let z = ih (omega arith) in
        record { place = z.place ∙ omega arith; inside = z.inside }

right_process : (p : ℕ) → p < 16 → Right (3 + p * 429) (of_process p)
right_process p h =
    (omega arith, (omega arith, (omega arith, (omega arith, (omega arith, (omega arith, omega arith))))))

right_message : (m : ℕ) → m < 64 → Right (6867 + m * 187) (of_message m)
right_message m h = omega arith

at_process : (i : ℕ) → i < 6864 → Placed 3 i (cell_in (of_process (i / 429)) (i % 429))
at_process i l =
    let p : ℕ = i / 429 in
    let z = placed_in (of_process p) (3 + p * 429) (i % 429) (right_process p (omega arith)) (omega arith) in
    record { place = z.place ∙ omega arith; inside = z.inside }

at_message : (i : ℕ) → i < 11968 → Placed 6867 i (cell_in (of_message (i / 187)) (i % 187))
at_message i l =
    let m : ℕ = i / 187 in
    let z = placed_in (of_message m) (6867 + m * 187) (i % 187) (right_message m (omega arith))
    (omega arith) in
    record { place = z.place ∙ omega arith; inside = z.inside }

right : Right 0 regions
right = (omega arith, (omega arith, (omega arith, (at_process, (at_message, omega arith)))))

pub addr_cell_at : (a : ℕ) → a < 20480 → addr (cell_at a) ≡ a
unfolding cell_at
addr_cell_at a h = (placed_in regions 0 a right h).place ∙ omega arith

pub within_cell_at : (a : ℕ) → a < 20480 → Within (cell_at a)
unfolding cell_at
within_cell_at a h = (placed_in regions 0 a right h).inside

-- ---- at a cell's place stands that cell: region k of a list begins after the extents of those before it
abbrev start : ℕ → List Region → ℕ
start k [] = 0
start zero (r ∷ rs) = 0
start (suc k) (r ∷ rs) = r.extent + start k rs

abbrev extent_at : ℕ → List Region → ℕ
extent_at k [] = 0
extent_at zero (r ∷ rs) = r.extent
extent_at (suc k) (r ∷ rs) = extent_at k rs

abbrev cells_at : ℕ → List Region → ℕ → Cell
cells_at k [] = unused
cells_at zero (r ∷ rs) = r.cell
cells_at (suc k) (r ∷ rs) = cells_at k rs

cell_in_at : (k : ℕ) (rs : List Region) (i : ℕ) → i < extent_at k rs
    → cell_in rs (start k rs + i) ≡ cells_at k rs i
cell_in_at zero [] i h = absurd (not-suc-le-zero h)
cell_in_at (suc k) [] i h = absurd (not-suc-le-zero h)
cell_in_at zero (r ∷ rs) i h =
    let e : 0 + i ≡ i = omega arith in
    rw e (rw (lt-ltb i r.extent h))
cell_in_at (suc k) (r ∷ rs) i h =
    let e : r.extent + start k rs + i - r.extent ≡ start k rs + i = omega arith in
    let l : r.extent ≤ r.extent + start k rs + i = omega arith in
    rw (le-ltb (r.extent + start k rs + i) r.extent l, e) (cell_in_at k rs i h)

-- place i of region k in the block of process p
in_process : (p k i a : ℕ)
    → (p < 16) × (start k (of_process p) + i < 429) × (i < extent_at k (of_process p))
    × (a ≡ 3 + (p * 429 + (start k (of_process p) + i)))
    → cell_at a ≡ cells_at k (of_process p) i
unfolding cell_at
in_process p k i a (hp, fits, l, q) =
    let j : ℕ = start k (of_process p) + i in
    let e : (p * 429 + j) / 429 ≡ p = omega arith in
    let f : (p * 429 + j) % 429 ≡ j = omega arith in
    ap cell_at q ∙ cell_in_at 3 regions (p * 429 + j) (omega arith)
    ∙ ap₂ (λ (x y : ℕ). cell_in (of_process x) y) e f ∙ cell_in_at k (of_process p) i l

-- place i of region k in the block of message m
in_message : (m k i a : ℕ)
    → (m < 64) × (start k (of_message m) + i < 187) × (i < extent_at k (of_message m))
    × (a ≡ 6867 + (m * 187 + (start k (of_message m) + i)))
    → cell_at a ≡ cells_at k (of_message m) i
unfolding cell_at
in_message m k i a (hm, fits, l, q) =
    let j : ℕ = start k (of_message m) + i in
    let e : (m * 187 + j) / 187 ≡ m = omega arith in
    let f : (m * 187 + j) % 187 ≡ j = omega arith in
    ap cell_at q ∙ cell_in_at 4 regions (m * 187 + j) (omega arith)
    ∙ ap₂ (λ (x y : ℕ). cell_in (of_message x) y) e f ∙ cell_in_at k (of_message m) i l

pub cell_at_addr : (c : Cell) → Within c → cell_at (addr c) ≡ c
unfolding cell_at
cell_at_addr size h = refl
cell_at_addr count h = refl
cell_at_addr rule h = refl
cell_at_addr (group p) h = in_process p 0 0 (addr (group p)) (omega arith)
cell_at_addr (trust p) h = in_process p 1 0 (addr (trust p)) (omega arith)
cell_at_addr (counter p g q) h =
    in_process p 2 (g * 16 + q) (addr (counter p g q)) (omega arith)
    ∙ ap₂ (counter p) (omega arith) (omega arith)
cell_at_addr (sequence p g) h = in_process p 3 g (addr (sequence p g)) (omega arith)
cell_at_addr (next p q) h = in_process p 4 q (addr (next p q)) (omega arith)
cell_at_addr (delivered p q) h = in_process p 5 q (addr (delivered p q)) (omega arith)
cell_at_addr (up p) h = in_process p 6 0 (addr (up p)) (omega arith)
cell_at_addr (fifo_length p) h = in_process p 7 0 (addr (fifo_length p)) (omega arith)
cell_at_addr (causal_length p) h = in_process p 8 0 (addr (causal_length p)) (omega arith)
cell_at_addr (held p m) h = in_process p 9 m (addr (held p m)) (omega arith)
cell_at_addr (marks p m) h = in_process p 10 m (addr (marks p m)) (omega arith)
cell_at_addr (fifo p i) h = in_process p 11 i (addr (fifo p i)) (omega arith)
cell_at_addr (causal p i) h = in_process p 12 i (addr (causal p i)) (omega arith)
cell_at_addr (sender m) h = in_message m 0 0 (addr (sender m)) (omega arith)
cell_at_addr (mask m) h = in_message m 1 0 (addr (mask m)) (omega arith)
cell_at_addr (stamp m g q) h =
    in_message m 2 (g * 16 + q) (addr (stamp m g q)) (omega arith) ∙ ap₂ (stamp m) (omega arith) (omega arith)
cell_at_addr (number m g) h = in_message m 3 g (addr (number m g)) (omega arith)
cell_at_addr (flight m k q) h =
    in_message m 4 (k * 16 + q) (addr (flight m k q)) (omega arith)
    ∙ ap₂ (flight m) (omega arith) (omega arith)
cell_at_addr (order m) h = in_message m 5 0 (addr (order m)) (omega arith)
cell_at_addr (unused i) h = cell_in_at 5 regions i (omega arith)

-- ---- one cell changed
pub put_same : (s : State) (c d : Cell) (v : ℕ) → c ≡ d → put s c v d ≡ v
unfolding put
put_same s c d v h = go (Cell-discrete ℕ_discrete c d)
  where
    go : (x : Dec (c ≡ d)) → elim x [ yes e ↦ v | no n ↦ s d ] ≡ v
    go (yes e) = refl
    go (no n) = absurd (n h)

pub put_other : (s : State) (c d : Cell) (v : ℕ) → c ≢ d → put s c v d ≡ s d
unfolding put
put_other s c d v h = go (Cell-discrete ℕ_discrete c d)
  where
    go : (x : Dec (c ≡ d)) → elim x [ yes e ↦ v | no n ↦ s d ] ≡ s d
    go (yes e) = absurd (h e)
    go (no n) = refl

-- what holds of v at c, and of s elsewhere, holds of s with v at c
pub put_at : (s : State) (c d : Cell) (v : ℕ) (P : ℕ → Type 0) → (c ≡ d → P v) → ((c ≡ d → ⊥) → P (s d))
    → P (put s c v d)
unfolding put
put_at s c d v P f g = go (Cell-discrete ℕ_discrete c d)
  where
    go : (x : Dec (c ≡ d)) → P (elim x [ yes e ↦ v | no n ↦ s d ])
    go (yes e) = f e
    go (no n) = g n

-- ---- the words of a state
pub length_encode : (s : State) → length (encode s) ≡ 20480
unfolding encode
length_encode s = length_tabulate 20480 (λ a. s (cell_at a))

-- read back, they are the state
pub get_encode : (s : State) (c : Cell) → Within c → get_or (encode s) (addr c) 0 ≡ s c
unfolding encode
get_encode s c h =
    get_d_tabulate 20480 (λ a. s (cell_at a)) (addr c) 0 (in_words c h) ∙ ap s (cell_at_addr c h)

-- words are those of t if each cell's word is t's
pub is_encode : (w : List ℕ) (t : State) → length w ≡ 20480
    → ((c : Cell) → Within c → get_or w (addr c) 0 ≡ t c) → w ≡ encode t
unfolding encode
is_encode w t l h =
    is_tabulate 0 20480 (λ a. t (cell_at a)) w l
    (λ a k. ap (λ (x : ℕ). get_or w x 0) (sym (addr_cell_at a k)) ∙ h (cell_at a) (within_cell_at a k))

-- 20,480 words are those of the state that they hold
pub encode_view : (w : List ℕ) → length w ≡ 20480 → encode (view w) ≡ w
encode_view w l = sym (is_encode w (view w) l (λ c h. refl))

-- states that agree on the world's cells have the same words
pub encode_ext : (s t : State) → ((c : Cell) → Within c → s c ≡ t c) → encode s ≡ encode t
encode_ext s t h = is_encode (encode s) t (length_encode s) (λ c k. get_encode s c k ∙ h c k)

-- one word stored is one cell changed
pub set_encode : (s : State) (c : Cell) (v : ℕ) → Within c → set (encode s) (addr c) v ≡ encode (put s c v)
set_encode s c v h =
    is_encode (set (encode s) (addr c) v) (put s c v) (length-set (encode s) (addr c) v ∙ length_encode s)
    (λ d k. go d k (Cell-discrete ℕ_discrete c d))
  where
    u : List ℕ
    u = set (encode s) (addr c) v

    go : (d : Cell) → Within d → Dec (c ≡ d) → get_or u (addr d) 0 ≡ put s c v d
    go d k (yes e) =
        let l : addr c < length (encode s) = omega (arith, in_words c h, length_encode s) in
        ap (λ (x : Cell). get_or u (addr x) 0) (sym e) ∙ get_or-set_same (encode s) (addr c) v 0 l
        ∙ sym (put_same s c d v e)
    go d k (no n) =
        get_or-set_other (encode s) (addr c) (addr d) v 0
        (λ e. n (sym (cell_at_addr c h) ∙ ap cell_at (sym e) ∙ cell_at_addr d k))
        ∙ get_encode s d k ∙ sym (put_other s c d v n)

-- a part read: the cells f 0, f 1, .. that stand from b on
pub part_encode : (s : State) (b n : ℕ) (f : ℕ → Cell) → b + n ≤ 20480 → ((i : ℕ) → i < n → Within (f i))
    → ((i : ℕ) → i < n → addr (f i) ≡ b + i) → take n (drop b (encode s)) ≡ tabulate n (λ i. s (f i))
part_encode s b n f fits inside place =
    is_tabulate 0 n (λ i. s (f i)) (take n (drop b (encode s)))
    (simp (length-take, length-drop) (omega (arith, length_encode s)))
    (λ i h. get_or-take n (drop b (encode s)) i 0 h ∙ get_or-drop b (encode s) i 0
    ∙ ap (λ (x : ℕ). get_or (encode s) x 0) (sym (place i h)) ∙ get_encode s (f i) (inside i h))

-- a part stored: what stands in it is its own, the rest is s's
pub splice_encode : (s t : State) (b : ℕ) (xs : List ℕ) → b + length xs ≤ 20480
    → ((c : Cell) → Within c → b ≤ addr c → addr c < b + length xs → get_or xs (addr c - b) 0 ≡ t c)
    → ((c : Cell) → Within c → (b ≤ addr c → addr c < b + length xs → ⊥) → s c ≡ t c)
    → splice (encode s) b xs ≡ encode t
splice_encode s t b xs fits in_part off =
    is_encode (splice (encode s) b xs) t (length_splice (encode s) b xs room ∙ length_encode s)
    (λ c k. go c k (ltb (addr c) b) refl (ltb (addr c) e) refl)
  where
    e : ℕ
    e = b + length xs

    room : b + length xs ≤ length (encode s)
    room = omega (arith, length_encode s)

    go : (c : Cell) → Within c → (x : Bool) → ltb (addr c) b ≡ x → (y : Bool) → ltb (addr c) e ≡ y
        → get_or (splice (encode s) b xs) (addr c) 0 ≡ t c
    go c k true p y q =
        let l : addr c < b = ltb-true (addr c) b p in
        splice_below (encode s) b xs room (addr c) l ∙ get_encode s c k ∙ off c k (λ g h. omega arith)
    go c k false p true q =
        let l : b ≤ addr c = ltb-false (addr c) b p in
        let u : addr c < b + length xs = ltb-true (addr c) (b + length xs) q in
        splice_in (encode s) b xs room (addr c) l u ∙ in_part c k l u
    go c k false p false q =
        let u : b + length xs ≤ addr c = ltb-false (addr c) (b + length xs) q in
        splice_above (encode s) b xs room (addr c) u ∙ get_encode s c k ∙ off c k (λ g h. omega arith)

-- ---- the same as changes and readings of words
pub changes_put : (w : List ℕ) (c : Cell) (v : ℕ) → Within c → Changes w (set w (addr c) v) (λ s. put s c v)
changes_put w c v h s e = rw e (set_encode s c v h)

pub reads_cell : (w : List ℕ) (c : Cell) → Within c → Reads w (get_or w (addr c) 0) (λ s. s c)
reads_cell w c h s e = rw e (get_encode s c h)

-- a change, at the state that the words hold
pub changes_own : (w u : List ℕ) (f : State → State) → length w ≡ 20480 → Changes w u f
    → u ≡ encode (f (view w))
changes_own w u f l h = h (view w) (sym (encode_view w l))
