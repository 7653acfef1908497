-- Zeros for the order numbers in bytes: bytes are a step with them exactly as without, and record i of the
-- records with zeros is record i with zeros. A setup record that is taken has none. Assumes nothing.
use Rattle.std.specs.Prelude.{◌≡◌, refl, Bool, true, false, not, ◌&&◌, ◌||◌, List, ◌≢◌, ℕ, ◌+◌, ◌-◌, ◌*◌, ◌/◌, ◌%◌, ◌<◌, min, ltb, eqb, length, drop}
use Rattle.std.proofs.Common.{sym, ap, ap₂, ◌∙◌, arith, length-take, length-drop, ext_get_or, get_or-take, get_or-drop, eqb-true, ne_eqb, ltb-false}
use Rattle.definitions.specs.General.{pick, needs, byte, low_first}
use Rattle.definitions.specs.Setup.{good_setup, setup_refusal}
use Rattle.definitions.specs.Steps.{Step, multicasts, arrives, loses, trusts, crashes, malformed, zeros_from, read}
use Rattle.definitions.specs.Replay.{record_at}
use Rattle.definitions.specs.OrderNumbers.{erased_step, of_order, erased_bytes}
use Rattle.base.specs.Tests.{same, both_l, both_r}
use Rattle.base.specs.Refusals.{needs_none}
use Rattle.base.specs.Search.{every_cong}
use Rattle.base.specs.Tabulate.{length_tabulate, get_d_tabulate}

-- ---- the bytes
pub length_erased : (bytes : List ℕ) → length (erased_bytes bytes) ≡ length bytes
unfolding erased_bytes
length_erased bytes = length_tabulate (length bytes) (λ i. pick (of_order bytes i) 0 (byte bytes i))

-- byte i, zero where it is of an order number
byte_erased : (bytes : List ℕ) (i : ℕ) → i < length bytes
    → byte (erased_bytes bytes) i ≡ pick (of_order bytes i) 0 (byte bytes i)
unfolding erased_bytes
byte_erased bytes i l = get_d_tabulate (length bytes) (λ i. pick (of_order bytes i) 0 (byte bytes i)) i 0 l

-- one that is of none
byte_kept : (bytes : List ℕ) (i : ℕ) → (i < length bytes) × (i % 8 ≢ 3) × (i % 8 ≢ 4)
    → byte (erased_bytes bytes) i ≡ byte bytes i
byte_kept bytes i (l, a, b) =
    byte_erased bytes i l
    ∙ rw (ne_eqb (i % 8) 3 a, ne_eqb (i % 8) 4 b) (none (eqb (byte bytes (i / 8 * 8)) 1))
  where
    none : (x : Bool) → pick (x && false) 0 (byte bytes i) ≡ byte bytes i
    none true = refl
    none false = refl

-- ---- 8 bytes
-- that begin with another number than 1 have no order number
plain : (bytes : List ℕ) → length bytes ≡ 8 → eqb (byte bytes 0) 1 ≡ false → erased_bytes bytes ≡ bytes
plain bytes l e =
    ext_get_or 0 (erased_bytes bytes) bytes (length_erased bytes) (λ i h.
    let k : i < length bytes = omega (arith, length_erased bytes) in
    let z : i / 8 * 8 ≡ 0 = omega arith in
    byte_erased bytes i k ∙ rw (z, e))

-- one of two steps that are no multicast is none
other_step : (b : Bool) (x y : Step) → erased_step x ≡ x → erased_step y ≡ y
    → erased_step (pick b x y) ≡ pick b x y
other_step true x y e f = e
other_step false x y e f = f

-- so they are none
read_plain : (bytes : List ℕ) → eqb (byte bytes 0) 1 ≡ false → erased_step (read bytes) ≡ read bytes
unfolding read
read_plain bytes e =
    let b = byte bytes in
    rw e (
    other_step (not (eqb (length bytes) 8)) malformed _ refl
    (other_step (eqb (b 0) 2 && ltb (b 1) 3 && zeros_from bytes 5) (arrives (b 1) (b 2) (b 3) (b 4)) _ refl
    (other_step (eqb (b 0) 3 && ltb (b 1) 3 && zeros_from bytes 5) (loses (b 1) (b 2) (b 3) (b 4)) _ refl
    (other_step (eqb (b 0) 4 && zeros_from bytes 4) (trusts (b 1) (low_first bytes 2)) _ refl
    (other_step (eqb (b 0) 5 && zeros_from bytes 2) (crashes (b 1)) malformed refl refl)))))

-- those that begin with 1 are one, or malformed
read_one : (bytes : List ℕ) → length bytes ≡ 8 → byte bytes 0 ≡ 1 → read bytes
    ≡ pick (zeros_from bytes 5) (multicasts (byte bytes 1) (byte bytes 2) (low_first bytes 3)) malformed
unfolding read
read_one bytes l e = rw (l, e)

-- and with zeros the same one, with 0 for its order number
module _ (bytes : List ℕ) (l : length bytes ≡ 8) (e : byte bytes 0 ≡ 1) where
  abbrev zeros : List ℕ
  zeros = erased_bytes bytes

  kept : (i : ℕ) → (i < 8) × (i % 8 ≢ 3) × (i % 8 ≢ 4) → byte zeros i ≡ byte bytes i
  kept i h = byte_kept bytes i (omega arith)

  tail_kept : zeros_from zeros 5 ≡ zeros_from bytes 5
  tail_kept = every_cong 8 _ _ (λ j h. go j h (ltb j 5) refl)
    where
      go : (j : ℕ) → j < 8 → (b : Bool) → ltb j 5 ≡ b
          → (b || eqb (byte zeros j) 0) ≡ (b || eqb (byte bytes j) 0)
      go j h true q = refl
      go j h false q =
          let a = ltb-false j 5 q in
          ap (λ (x : ℕ). eqb x 0) (kept j (omega arith))

  number_erased : low_first zeros 3 ≡ 0
  number_erased = ap₂ (λ (x y : ℕ). x + y * 256) (gone 3 (omega arith) refl) (gone 4 (omega arith) refl)
    where
      gone : (i : ℕ) → i < 8 → (eqb (i % 8) 3 || eqb (i % 8) 4) ≡ true → byte zeros i ≡ 0
      gone i h q = let z : i / 8 * 8 ≡ 0 = omega arith in byte_erased bytes i (omega arith) ∙ rw (z, e, q)

  read_one_erased : read (erased_bytes bytes) ≡ erased_step (read bytes)
  read_one_erased =
      read_one zeros (length_erased bytes ∙ l) (kept 0 (omega arith) ∙ e)
      ∙ rw (tail_kept, kept 1 (omega arith), kept 2 (omega arith), number_erased, read_one bytes l e)
      (go (zeros_from bytes 5))
    where
      go : (b : Bool) → pick b (multicasts (byte bytes 1) (byte bytes 2) 0) malformed
          ≡ erased_step (pick b (multicasts (byte bytes 1) (byte bytes 2) (low_first bytes 3)) malformed)
      go true = refl
      go false = refl

-- ---- any bytes
-- that are not 8
not_eight : (bytes : List ℕ) → eqb (length bytes) 8 ≡ false → read bytes ≡ malformed
unfolding read
not_eight bytes e = rw e

pub read_erased : (bytes : List ℕ) → read (erased_bytes bytes) ≡ erased_step (read bytes)
read_erased bytes = go (eqb (length bytes) 8) refl (eqb (byte bytes 0) 1) refl
  where
    go : (a : Bool) → eqb (length bytes) 8 ≡ a → (b : Bool) → eqb (byte bytes 0) 1 ≡ b
        → read (erased_bytes bytes) ≡ erased_step (read bytes)
    go true p true q = read_one_erased bytes (eqb-true (length bytes) 8 p) (eqb-true (byte bytes 0) 1 q)
    go true p false q = rw (plain bytes (eqb-true (length bytes) 8 p) q) (sym (read_plain bytes q))
    go false p b q =
        not_eight (erased_bytes bytes) (ap (λ (n : ℕ). eqb n 8) (length_erased bytes) ∙ p)
        ∙ sym (ap erased_step (not_eight bytes p))

-- ---- records
-- record i
pub record_erased : (rs : List ℕ) (i : ℕ) → record_at (erased_bytes rs) i ≡ erased_bytes (record_at rs i)
record_erased rs i = ext_get_or 0 (record_at (erased_bytes rs) i) (erased_bytes (record_at rs i)) long at
  where
    size : (xs : List ℕ) → length (record_at xs i) ≡ min 8 (length xs - 8 * i)
    size xs = simp (length-take, length-drop)

    long : length (record_at (erased_bytes rs) i) ≡ length (erased_bytes (record_at rs i))
    long = omega (arith, size (erased_bytes rs), size rs, length_erased rs, length_erased (record_at rs i))

    item : (xs : List ℕ) (j : ℕ) → j < 8 → byte (record_at xs i) j ≡ byte xs (8 * i + j)
    item xs j h = get_or-take 8 (drop (8 * i) xs) j 0 h ∙ get_or-drop (8 * i) xs j 0

    at : (j : ℕ) → j < length (record_at (erased_bytes rs) i)
        → byte (record_at (erased_bytes rs) i) j ≡ byte (erased_bytes (record_at rs i)) j
    at j h =
        let h8 : j < 8 = omega (arith, size (erased_bytes rs)) in
        let hr : 8 * i + j < length rs = omega (arith, size (erased_bytes rs), length_erased rs) in
        let hj : j < length (record_at rs i) = omega (arith, size rs) in
        let a : (8 * i + j) / 8 * 8 ≡ 8 * i + 0 = omega arith in
        let b : (8 * i + j) % 8 ≡ j = omega arith in
        let c : j / 8 * 8 ≡ 0 = omega arith in
        let d : j % 8 ≡ j = omega arith in
        item (erased_bytes rs) j h8 ∙ byte_erased rs (8 * i + j) hr
        ∙ rw (a, b, ← item rs j h8, ← item rs 0 (omega arith))
        (sym (byte_erased (record_at rs i) j hj ∙ rw (c, d)))

-- a setup record: one that is taken begins with 0
good_begins : (bytes : List ℕ) → good_setup bytes ≡ true → (length bytes ≡ 8) × (byte bytes 0 ≡ 0)
unfolding good_setup
good_begins bytes e =
    let a = eqb (length bytes) 8 in
    let b = eqb (byte bytes 0) 0 in
    let z : (a && b) ≡ true = both_l _ _ (both_l _ _ (both_l _ _ (both_l _ _ e))) in
    (eqb-true (length bytes) 8 (both_l a b z), eqb-true (byte bytes 0) 0 (both_r a b z))

-- so that nothing of it is erased
good_plain : (bytes : List ℕ) → length bytes ≡ 8 → byte bytes 0 ≡ 0 → erased_bytes bytes ≡ bytes
good_plain bytes l e = plain bytes l (rw e)

pub setup_refusal_erased : (bytes : List ℕ) → setup_refusal (erased_bytes bytes) ≡ setup_refusal bytes
unfolding setup_refusal
setup_refusal_erased bytes =
    ap (λ (b : Bool). needs 3 b 0) (same (good_setup (erased_bytes bytes)) (good_setup bytes) from to)
  where
    from : good_setup (erased_bytes bytes) ≡ true → good_setup bytes ≡ true
    from e =
        let z = good_begins (erased_bytes bytes) e in
        let l : length bytes ≡ 8 = omega (arith, z.0, length_erased bytes) in
        let k = byte_kept bytes 0 (omega arith) in
        rw (good_plain bytes l (sym k ∙ z.1)) at e

    to : good_setup bytes ≡ true → good_setup (erased_bytes bytes) ≡ true
    to e = let z = good_begins bytes e in rw (good_plain bytes z.0 z.1) e

pub setup_plain : (bytes : List ℕ) → setup_refusal bytes ≡ 0 → erased_bytes bytes ≡ bytes
unfolding setup_refusal
setup_plain bytes e =
    let z = good_begins bytes (needs_none 2 (good_setup bytes) 0 e).0 in
    good_plain bytes z.0 z.1
