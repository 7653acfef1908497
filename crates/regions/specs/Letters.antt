-- Letters in flight: "0 first (sent by the sender)", "kinds 1 and 2 come from addressees", and all go to
-- addressees. Assumes nothing.
use Rattle.std.specs.Prelude.{◌≡◌, refl, Bool, true, false, ◌&&◌, ◌||◌, List, ℕ, ◌+◌, ◌*◌, ◌^◌, ◌<◌, eqb, get_or}
use Rattle.std.proofs.Common.{sym, ap, ◌∙◌, arith, eq-eqb, ne_eqb, eqb-true, lt-ltb}
use Rattle.std.specs.Int.Bits.{bit_and}
use Rattle.definitions.specs.General.{pick, every, bit, with, only}
use Rattle.definitions.specs.World.{State, count, sender, flight, view, is_message}
use Rattle.definitions.specs.Sound.{addressee, sends, word, fit, fine}
use Rattle.base.specs.Tests.{same}
use Rattle.base.specs.Bits.{bit_zero, bit_with}
use Rattle.limits.specs.Addressees.{addressees_of, addressee_bit}
use Rattle.regions.specs.Runs.{fine_run, run_of}
use Rattle.regions.specs.Rows.{addressees_only}

-- Letters from q may be in flight to these receivers, for these origins and addressees.
unfoldable pub letter_ok : ℕ → ℕ → ℕ → ℕ → Bool
letter_ok receivers origins to q = pick (bit origins q) (eqb (bit_and receivers to) receivers)
    (eqb receivers 0)

-- The same of the 16 masks from a on.
unfoldable pub letters_at : List ℕ → ℕ → ℕ → ℕ → Bool
letters_at w a origins to = every 16 (λ q. letter_ok (get_or w (a + q) 0) origins to q)

-- the letters of m of one kind, which come from the origins
pub letters_law : (w : List ℕ) (m k origins : ℕ) → m < 64 → k < 3 → m < view w count
    → ((q : ℕ) → q < 16 → bit origins q ≡ sends (view w) m k q) → ((i : ℕ) → get_or w i 0 < 2 ^ 16)
    → letters_at w (6867 + m * 187 + 138 + k * 16) origins (addressees_of (view w) m)
    ≡ fine_run (view w) (6867 + m * 187 + 138 + k * 16) 16
unfolding letters_at letter_ok fine fit
letters_law w m k origins hm hk here from small =
    run_of (view w) (6867 + m * 187 + 138 + k * 16) 16 (flight m k)
    (λ q. pick (bit origins q) (eqb (bit_and (x q) to) (x q)) (eqb (x q) 0)) (λ q l. (hm, hk, l))
    (λ q l. omega arith)
    (λ q l. let e : 6867 + m * 187 + 138 + k * 16 + q ≡ 6867 + m * 187 + 138 + (k * 16 + q) = omega arith in
    ap (λ (b : Bool). pick b (eqb (bit_and (x q) to) (x q)) (eqb (x q) 0)) (from q l)
    ∙ ap (λ (y : ℕ). pick (sends (view w) m k q) (eqb (bit_and y to) y) (eqb y 0))
    (ap (λ (i : ℕ). get_or w i 0) e)
    ∙ one q (view w (flight m k q)) (small (6867 + m * 187 + 138 + (k * 16 + q))) (sends (view w) m k q)
    ∙ sym (ap (λ (b : Bool). word (b && sends (view w) m k q) (view w (flight m k q))
    (only 16 (view w (flight m k q)) (addressee (view w) m))) is))
  where
    to : ℕ
    to = addressees_of (view w) m

    x : ℕ → ℕ
    x q = get_or w (6867 + m * 187 + 138 + k * 16 + q) 0

    is : is_message (view w) m ≡ true
    is = lt-ltb m (view w count) here

    one : (q y : ℕ) → y < 2 ^ 16 → (b : Bool)
        → pick b (eqb (bit_and y to) y) (eqb y 0) ≡ word b y (only 16 y (addressee (view w) m))
    one q y l true = addressees_only (view w) m y l is
    one q y l false = refl

-- ---- the origins: the sender alone for the first letters, the addressees for the others
pub sender_origin : (s : State) (m q v : ℕ) → v ≡ with 0 (s (sender m)) → bit v q ≡ sends s m 0 q
unfolding sends
sender_origin s m q v e =
    ap (λ (x : ℕ). bit x q) e ∙ bit_with 0 (s (sender m)) q
    ∙ ap (λ (b : Bool). b || eqb (s (sender m)) q) (bit_zero q)
    ∙ same (eqb (s (sender m)) q) (eqb q (s (sender m)))
    (λ p. eq-eqb q (s (sender m)) (sym (eqb-true (s (sender m)) q p)))
    (λ p. eq-eqb (s (sender m)) q (sym (eqb-true q (s (sender m)) p)))

pub addressee_origin : (s : State) (m k q : ℕ) → 0 < k → is_message s m ≡ true
    → bit (addressees_of s m) q ≡ sends s m k q
unfolding sends
addressee_origin s m k q l e =
    addressee_bit s m q ∙ ap (λ (b : Bool). b && addressee s m q) e
    ∙ sym (ap (λ (b : Bool). pick b (eqb q (s (sender m))) (addressee s m q)) (ne_eqb k 0 (λ z. omega arith)))
