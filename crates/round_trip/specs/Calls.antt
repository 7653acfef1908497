-- What a caller gets who writes and reads, or reads and writes: when both calls are taken, what went in comes
-- out. Rests on the two theorems of Journal. Assumes nothing.
use Rattle.std.specs.Prelude.{◌≡◌, refl, Bool, true, false, ◌&&◌, List, ℕ, eqb, length, Result, Ok, Err}
use Rattle.std.specs.Result.{is_ok}
use Rattle.std.proofs.Common.{sym, eqb-true, ne_eqb}
use Rattle.definitions.specs.Answers.{refusal_number, outcome_number}
use Rattle.definitions.specs.declared.Refusal.{Refusal}
use Rattle.answers.specs.Laws.{refusal_some}
use Rattle.definitions.specs.General.{pick, Bytes}
use Rattle.definitions.specs.Journal.{write_refusal, written, read_refusal, read_out}
use Rattle.round_trip.specs.Journal.{write_then_read, read_then_write}

-- Writing rs to `out` is taken, and so is reading it back to `back`.
unfoldable pub both_written : List ℕ → List ℕ → List ℕ → Bool
both_written rs out back =
    eqb (write_refusal (length rs) (length out)) 0 && eqb (read_refusal (written rs out) (length back)) 0

-- Reading j to `back` is taken, and so is writing it to `out`.
unfoldable pub both_read : List ℕ → List ℕ → List ℕ → Bool
both_read j back out =
    eqb (read_refusal j (length back)) 0 && eqb (write_refusal (length (read_out j back)) (length out)) 0

-- ---- a call is taken where its refusal is 0
pub taken_is : (o : Result (Unit {0}) Refusal) → is_ok o ≡ eqb (outcome_number o) 0
taken_is (Ok _) = refl
taken_is (Err r) = sym (ne_eqb (refusal_number r) 0 (refusal_some r))

-- ---- the second call decides, where the first was taken
pub write_refused : (rs out back : List ℕ) → eqb (write_refusal (length rs) (length out)) 0 ≡ false
    → false ≡ both_written rs out back
unfolding both_written
write_refused rs out back h = rw h

pub read_refused : (j back out : List ℕ) → eqb (read_refusal j (length back)) 0 ≡ false
    → false ≡ both_read j back out
unfolding both_read
read_refused j back out h = rw h

-- what reading leaves of a journal that was written
pub written_read : (rs out back : List ℕ) (b : Bool) → eqb (write_refusal (length rs) (length out)) 0 ≡ true
    → b ≡ eqb (read_refusal (written rs out) (length back)) 0
    → (b ≡ both_written rs out back) × (read_out (written rs out) back ≡ pick b rs back)
unfolding both_written read_out
written_read rs out back b e h = rw e (h, go b h)
  where
    go : (b : Bool) → b ≡ eqb (read_refusal (written rs out) (length back)) 0
        → read_out (written rs out) back ≡ pick b rs back
    go true q = write_then_read rs out back (eqb-true _ 0 e) (eqb-true _ 0 (sym q))
    go false q = rw (sym q)

-- what writing leaves of records that were read
pub read_written : (j back out : List ℕ) (b : Bool) → Bytes j → eqb (read_refusal j (length back)) 0 ≡ true
    → b ≡ eqb (write_refusal (length (read_out j back)) (length out)) 0
    → (b ≡ both_read j back out) × (written (read_out j back) out ≡ pick b j out)
unfolding both_read written
read_written j back out b bytes e h = rw e (h, go b h)
  where
    go : (b : Bool) → b ≡ eqb (write_refusal (length (read_out j back)) (length out)) 0
        → written (read_out j back) out ≡ pick b j out
    go true q = read_then_write j back out bytes (eqb-true _ 0 e) (eqb-true _ 0 (sym q))
    go false q = rw (sym q)
