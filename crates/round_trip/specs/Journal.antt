-- Written and read, the records come back; read and written, an accepted journal comes back. Block by block: each
-- block gives back its records and its bytes, and the cut at 504 bytes falls where a block's records end, since
-- every block but the last holds 63. Assumes nothing.
use Rattle.std.specs.Prelude.{◌≡◌, refl, Bool, true, false, List, [], ◌++◌, ℕ, zero, suc, ◌+◌, ◌*◌, ◌/◌, ◌%◌, ◌≤◌, ◌<◌, ltb, eqb, length, get_or, take, drop}
use Rattle.std.proofs.Common.{sym, ap, ◌∙◌, append-nil, arith, length-append, length-drop, length-take, take-append-drop, drop_of_length-le, take_all, take_at, drop_at, length-take-le, get_or-drop, get_or-take, eq-eqb, ne_eqb, le-leb, ltb-true, ltb-false}
use Rattle.std.proofs.Math.ListN.{get_or-eq_default}
use Rattle.definitions.specs.General.{needs, Bytes}
use Rattle.definitions.specs.Block.{block, count_of, records_in, right_count, block_refusal}
use Rattle.definitions.specs.Journal.{blocks_of, blocks_for, journal_of, right_records, write_refusal, written, right_length, blocks_refusal, journal_refusal, records_from, records_of, read_refusal, read_out}
use Rattle.definitions.specs.Demand.{RoundTrip}
use Rattle.base.specs.Refusals.{needs_none, or_else_none}
use Rattle.block.specs.Laws.{length_block, count_small, count_full, taken, length_records_in}
use Rattle.journal.specs.Writing.{RightRecords, records_right, right_of}
use Rattle.journal.specs.Reading.{accepted, whole_records}
use Rattle.round_trip.specs.Block.{records_back, block_good, block_back}

-- ---- writing, then reading
-- k blocks are just enough for the records rs
record Filling (k : ℕ) (rs : List ℕ) : Type 0 where
  whole : length rs % 8 ≡ 0
  enough : length rs ≤ 504 * k
  needed : 504 * k < length rs + 504

-- what the block in front takes: 63 records, or in the last block all that are left
right_front : (k : ℕ) (rs : List ℕ) → Filling (suc k) rs
    → right_count (eqb k 0) (length (take 504 rs) / 8) ≡ true
unfolding right_count
right_front zero rs f =
    let e : take 504 rs ≡ rs = take_all 504 rs (omega (arith, f.enough)) in
    rw (
      e,
      le-leb 1 (length rs / 8) (omega (arith, f.whole, f.needed)),
      le-leb (length rs / 8) 63
          (omega (arith, f.enough)),
    )
right_front (suc k) rs f =
    let e : length (take 504 rs) ≡ 504 = length-take-le 504 rs (omega (arith, f.needed)) in
    rw (e, ne_eqb (suc k) 0 (λ z. omega arith))

-- the size of what it takes
size_front : (k : ℕ) (rs : List ℕ) → Filling (suc k) rs
    → length (take 504 rs) ≡ 8 * (length (take 504 rs) / 8)
size_front k rs f = let e = length-take 504 rs in omega (arith, e, f.whole)

filling_rest : (k : ℕ) (rs : List ℕ) → Filling (suc k) rs → Filling k (drop 504 rs)
filling_rest k rs f =
    let e = length-drop 504 rs in
    record {
      whole = omega (arith, e, f.whole);
      enough = omega (arith, e, f.enough);
      needed =
          omega (arith, e, f.needed);
    }

-- k blocks, written and read
written_blocks : (k n : ℕ) (rs : List ℕ) → Filling k rs → n + k ≤ 65536
    → (blocks_refusal k n (blocks_of k n rs) ≡ 0) × (records_from k (blocks_of k n rs) ≡ rs)
    × (length (blocks_of k n rs) ≡ 512 * k)
unfolding blocks_of blocks_refusal records_from
written_blocks zero n rs f h = (refl, sym (drop_of_length-le rs {i = 0} (omega (arith, f.enough))), refl)
written_blocks (suc k) n rs f h =
    let c : List ℕ = take 504 rs in
    let t : List ℕ = blocks_of k (n + 1) (drop 504 rs) in
    let right = right_front k rs f in
    let size = size_front k rs f in
    let lb : length (block n c) ≡ 512 = length_block n c (omega (arith, length-take 504 rs)) in
    let front : take 512 (block n c ++ t) ≡ block n c = take_at (block n c) t 512 lb in
    let back : drop 512 (block n c ++ t) ≡ t = drop_at (block n c) t 512 lb in
    let ih = written_blocks k (n + 1) (drop 504 rs) (filling_rest k rs f) (omega arith) in (
      rw (front, back, block_good n (eqb k 0) c (length c / 8) size right (omega arith)) ih.0,
      rw (front, back, records_back n (eqb k 0) c (length c / 8) size right (omega arith), ih.1)
          (take-append-drop 504 rs),
      length-append (block n c) t ∙ omega (arith, lb, ih.2),
    )

-- the whole journal of records that can be written
journal_blocks : (rs : List ℕ) → right_records (length rs) ≡ true
    → (blocks_refusal (blocks_for (length rs)) 0 (journal_of rs) ≡ 0)
    × (records_from (blocks_for (length rs)) (journal_of rs) ≡ rs)
    × (length (journal_of rs) ≡ 512 * blocks_for (length rs))
unfolding journal_of
journal_blocks rs e =
    let r = records_right (length rs) e in
    let f : Filling (blocks_for (length rs)) rs =
    record { whole = r.whole; enough = omega arith; needed = omega arith } in
    written_blocks (blocks_for (length rs)) 0 rs f (omega (arith, r.small))

-- The records of the journal of some records are these.
pub records_come_back : (rs : List ℕ) → right_records (length rs) ≡ true
    → (journal_refusal (journal_of rs) ≡ 0) × (records_of (journal_of rs) ≡ rs)
unfolding journal_refusal right_length records_of
records_come_back rs e =
    let r = records_right (length rs) e in
    let k : ℕ = blocks_for (length rs) in
    let w = journal_blocks rs e in
    let d : 512 * k / 512 ≡ k = omega arith in (
      rw (
        w.2,
        d,
        ne_eqb (512 * k) 0 (λ z. omega (arith, r.some)),
        le-leb (512 * k) 65536
            (omega (arith, r.small)),
        eq-eqb (512 * k % 512) 0 (omega arith),
      ) w.0,
      rw (w.2, d) w.1,
    )

-- ---- reading, then writing
bytes_take : (n : ℕ) (s : List ℕ) → Bytes s → Bytes (take n s)
bytes_take n s h i = go (ltb i n) refl
  where
    go : (b : Bool) → ltb i n ≡ b → get_or (take n s) i 0 < 256
    go true e = rw (get_or-take n s i 0 (ltb-true i n e)) (h i)
    go false e =
        let past : length (take n s) ≤ i = omega (arith, length-take n s, ltb-false i n e) in
        rw (get_or-eq_default (take n s) 0 past) (omega arith)

bytes_drop : (n : ℕ) (s : List ℕ) → Bytes s → Bytes (drop n s)
bytes_drop n s h i = rw (get_or-drop n s i 0) (h (n + i))

-- the cut at 504 bytes falls where the records of the block in front end
cut : (k : ℕ) (b r : List ℕ) → length b ≡ 512 → right_count (eqb k 0) (count_of b) ≡ true → (k ≡ 0 → r ≡ [])
    → (take 504 (records_in b ++ r) ≡ records_in b) × (drop 504 (records_in b ++ r) ≡ r)
cut zero b r lb e none =
    let x : List ℕ = records_in b in
    let l : length x ≤ 504 =
    omega (arith, length_records_in (eqb 0 0) b lb e, (count_small (eqb 0 0) (count_of b) e).1) in
    rw (none refl, append-nil x) (take_all 504 x l, drop_of_length-le x {i = 504} l)
cut (suc k) b r lb e none =
    let x : List ℕ = records_in b in
    let full : count_of b ≡ 63 = count_full (count_of b) (rw (ne_eqb (suc k) 0 (λ z. omega arith)) at e) in
    let l : length x ≡ 504 = omega (arith, length_records_in (eqb (suc k) 0) b lb e, full) in
    (take_at x r 504 l, drop_at x r 504 l)

no_records : (k : ℕ) (j : List ℕ) → k ≡ 0 → records_from k j ≡ []
unfolding records_from
no_records zero j e = refl
no_records (suc k) j e = absurd (omega arith)

-- k blocks, read and written
read_blocks : (k n : ℕ) (j : List ℕ) → length j ≡ 512 * k → Bytes j → blocks_refusal k n j ≡ 0
    → blocks_of k n (records_from k j) ≡ j
unfolding blocks_of blocks_refusal records_from
read_blocks zero n j l h e = sym (drop_of_length-le j {i = 0} (omega arith))
read_blocks (suc k) n j l h e =
    let b : List ℕ = take 512 j in
    let r : List ℕ = records_from k (drop 512 j) in
    let lb : length b ≡ 512 = length-take-le 512 j (omega arith) in
    let z = or_else_none (block_refusal n (eqb k 0) b) (blocks_refusal k (n + 1) (drop 512 j)) e in
    let right = (taken n (eqb k 0) b z.0).1.counted in
    let parts = cut k b r lb right (no_records k (drop 512 j)) in
    let one : block n (records_in b) ≡ b = block_back n (eqb k 0) b lb (bytes_take 512 j h) z.0 in
    let ih = read_blocks k (n + 1) (drop 512 j) (simp length-drop (omega arith)) (bytes_drop 512 j h)
    z.1 in
    rw (parts.0, parts.1, one, ih) (take-append-drop 512 j)

-- The journal of the records of an accepted journal is this one.
pub journal_comes_back : (j : List ℕ) → Bytes j → journal_refusal j ≡ 0
    → (right_records (length (records_of j)) ≡ true) × (journal_of (records_of j) ≡ j)
unfolding records_of journal_of
journal_comes_back j h e =
    let a = accepted j e in
    let w = whole_records j e in
    let k : ℕ = length j / 512 in
    let n : ℕ = length (records_from k j) in
    let d : blocks_for n ≡ k = omega (arith, a.0, w.size, w.low, w.high) in
    let r : RightRecords n =
    record {
      some = omega (arith, w.size, w.low);
      whole = omega (arith, w.size);
      small =
          omega (arith, a.0, w.size, w.high);
    } in
    (right_of n r, rw d (read_blocks k 0 j (omega (arith, a.0)) h a.1))

-- ---- what a caller gets who writes and reads, or reads and writes
-- an output that is written holds the journal; one that is read to holds the records
written_is : (rs out : List ℕ) → write_refusal (length rs) (length out) ≡ 0
    → (right_records (length rs) ≡ true) × (written rs out ≡ journal_of rs)
unfolding written write_refusal
written_is rs out e = (
  (needs_none 15 (right_records (length rs))
      (needs 17 (eqb (length out) (512 * blocks_for (length rs))) 0) e).0,
  rw e,
)

read_is : (j back : List ℕ) → read_refusal j (length back) ≡ 0
    → (journal_refusal j ≡ 0) × (read_out j back ≡ records_of j)
unfolding read_out read_refusal
read_is j back e =
    ((or_else_none (journal_refusal j) (needs 17 (eqb (length back) (length (records_of j))) 0) e).0, rw e)

-- Records that are written to `out`, and read from it to `back`, stand in `back`.
pub write_then_read : (rs out back : List ℕ) → write_refusal (length rs) (length out) ≡ 0
    → read_refusal (written rs out) (length back) ≡ 0 → read_out (written rs out) back ≡ rs
write_then_read rs out back e f =
    let w = written_is rs out e in
    (read_is (written rs out) back f).1 ∙ ap records_of w.1 ∙ (records_come_back rs w.0).1

-- They are read where `back` is as long as they are.
pub write_read_taken : (rs out back : List ℕ) → write_refusal (length rs) (length out) ≡ 0
    → length back ≡ length rs
    → read_refusal (written rs out) (length back) ≡ 0
unfolding read_refusal
write_read_taken rs out back e l =
    let w = written_is rs out e in
    let b = records_come_back rs w.0 in
    rw (w.1, b.0, b.1, eq-eqb (length back) (length rs) l)

-- A journal that is read to `back`, and written from it to `out`, stands in `out`.
pub read_then_write : (j back out : List ℕ) → Bytes j → read_refusal j (length back) ≡ 0
    → write_refusal (length (read_out j back)) (length out) ≡ 0 → written (read_out j back) out ≡ j
read_then_write j back out h e f =
    let r = read_is j back e in
    (written_is (read_out j back) out f).1 ∙ ap journal_of r.1 ∙ (journal_comes_back j h r.0).1

-- It is written where `out` is as long as it is.
pub read_write_taken : (j back out : List ℕ) → Bytes j → read_refusal j (length back) ≡ 0
    → length out ≡ length j
    → write_refusal (length (read_out j back)) (length out) ≡ 0
unfolding write_refusal
read_write_taken j back out h e l =
    let r = read_is j back e in
    let c = journal_comes_back j h r.0 in
    let size : length out ≡ 512 * blocks_for (length (records_of j)) =
    l ∙ sym (ap length c.1) ∙ (journal_blocks (records_of j) c.0).2 in
    rw (r.1, c.0, eq-eqb (length out) (512 * blocks_for (length (records_of j))) size)

-- Demand 2's round trip.
pub round_trip : RoundTrip
round_trip = record {
  records_back = λ rs out back e l.
      let taken = write_read_taken rs out back e l in
      (taken, write_then_read rs out back e taken);
  journal_back = λ j back out h e l.
      let taken = read_write_taken j back out h e l in
      (taken, read_then_write j back out h e taken);
}
