-- Addressees, the letters that a process sends, and the OKs that it owes: the tests read off words, and the
-- stores. Assumes nothing.
use Rattle.std.specs.Prelude.{◌≡◌, refl, Bool, true, false, List, ℕ, zero, suc, ◌+◌, ◌<◌, eqb, set}
use Rattle.std.proofs.Common.{sym, ◌∙◌, add-one, arith}
use Rattle.std.proofs.Math.Path.{ap, ap₂}
use Rattle.definitions.specs.General.{bit, with, mask_of, pick}
use Rattle.definitions.specs.World.{size, group, next, held, sender, mask, number, flight, addr, State, put, encode, view, addressed}
use Rattle.definitions.specs.Machine.{addressees, in_turn, due, send_ok, send_oks}
use Rattle.base.specs.Bits.{mask_of_cong}
use Rattle.base.specs.Tests.{both}
use Rattle.world.specs.Layout.{Reads, Changes, get_encode, set_encode}
use Rattle.bounds.specs.Bounds.{Bounds, bounds_state}

-- s with letters of kind k for m from p in flight to all addressees
abbrev pub sent : State → ℕ → ℕ → ℕ → State
sent s p m k = put s (flight m k p) (addressees s m)

-- a mask built bit by bit
pub mask_of_more : (n : ℕ) (f : ℕ → Bool) {a r : ℕ} {b : Bool} → a ≡ mask_of n f → b ≡ f n
    → r ≡ pick b (with a n) a → r ≡ mask_of (n + 1) f
unfolding mask_of
mask_of_more n f ea eb er =
    er ∙ ap₂ (λ (b : Bool) (m : ℕ). pick b (with m n) m) eb ea ∙ sym (ap (λ (k : ℕ). mask_of k f) (add-one n))

-- ---- what the tests read off the words of s is so of s
module _ (s : State) (h : Bounds s) where
  abbrev v : State
  v = view (encode s)

  pub addressed_words : (m q : ℕ) → m < 64 → q < 16 → addressed v m q ≡ addressed s m q
  addressed_words m q hm hq = ap₂ bit (get_encode s (mask m) hm) (get_encode s (group q) hq)

  addressees_words : (m : ℕ) → m < 64 → addressees v m ≡ addressees s m
  addressees_words m hm =
      ap (λ (n : ℕ). mask_of n (addressed v m)) (get_encode s size tt)
      ∙ mask_of_cong (s size) (addressed v m) (addressed s m)
      (λ q l. addressed_words m q hm (omega (arith, h.sizes)))

  pub in_turn_words : (p m : ℕ) → p < 16 → m < 64 → in_turn v p m ≡ in_turn s p m
  in_turn_words p m hp hm =
      ap₂ (λ (g q : ℕ). eqb (v (number m g)) (v (next p q))) (get_encode s (group p) hp)
      (get_encode s (sender m) hm)
      ∙ ap₂ eqb (get_encode s (number m (s (group p))) (hm, h.groups p hp))
      (get_encode s (next p (s (sender m))) (hp, h.senders m hm))

  due_words : (p q m : ℕ) → p < 16 → m < 64 → due v p q m ≡ due s p q m
  unfolding due
  due_words p q m hp hm =
      ap₂ (λ (x y : ℕ). both (both (eqb x 1) (eqb y q)) (in_turn v p m)) (get_encode s (held p m) (hp, hm))
      (get_encode s (sender m) hm)
      ∙ ap (both (both (eqb (s (held p m)) 1) (eqb (s (sender m)) q))) (in_turn_words p m hp hm)

pub addressees_law : (w : List ℕ) (m : ℕ) {r : ℕ} → Bounds (view w) → m < 64 → r ≡ addressees (view w) m
    → Reads w r (λ s. addressees s m)
addressees_law w m h hm q s e =
    q ∙ ap (λ (x : List ℕ). addressees (view x) m) e ∙ addressees_words s (bounds_state w s e h) m hm

due_state : (w : List ℕ) (p q m : ℕ) {b : Bool} → Bounds (view w) → p < 16 → m < 64 → due (view w) p q m ≡ b
    → (s : State) → w ≡ encode s → due s p q m ≡ b
due_state w p q m h hp hm d s e =
    sym (ap (λ (x : List ℕ). due (view x) p q m) e ∙ due_words s (bounds_state w s e h) p q m hp hm) ∙ d

pub due_law : (w : List ℕ) (p q m : ℕ) {b : Bool} → Bounds (view w) → p < 16 → m < 64 → b ≡ due (view w) p q m
    → Reads w b (λ s. due s p q m)
due_law w p q m h hp hm d s e = sym (due_state w p q m h hp hm (sym d) s e)

-- ---- the tests, in the code's order
pub in_turn_is : (s : State) (p m : ℕ) {g q x y : ℕ} {r : Bool} → g ≡ s (group p) → q ≡ s (sender m)
    → x ≡ s (number m g) → y ≡ s (next p q) → r ≡ eqb x y → r ≡ in_turn s p m
in_turn_is s p m eg eq ex ey er =
    er ∙ ap₂ eqb ex ey ∙ ap₂ (λ (a b : ℕ). eqb (s (number m a)) (s (next p b))) eg eq

-- ---- letters stored
pub sent_law : (w : List ℕ) (p m k : ℕ) {a : ℕ} → p < 16 → m < 64 → k < 3 → Reads w a (λ s. addressees s m)
    → Changes w (set w (addr (flight m k p)) a) (λ s. sent s p m k)
sent_law w p m k {a} hp hm hk ea s e =
    ap (λ (x : List ℕ). set x (addr (flight m k p)) a) e ∙ set_encode s (flight m k p) a (hm, hk, hp)
    ∙ ap (λ (x : ℕ). encode (put s (flight m k p) x)) (ea s e)

pub send_yes : (w u : List ℕ) (p q m : ℕ) → Bounds (view w) → p < 16 → m < 64 → due (view w) p q m ≡ true
    → Changes w u (λ s. sent s p m 2) → Changes w u (λ s. send_ok s p q m)
unfolding send_ok
send_yes w u p q m h hp hm d c s e =
    c s e ∙ sym (ap (λ (b : Bool). encode (pick b (sent s p m 2) s)) (due_state w p q m h hp hm d s e))

pub send_no : (w : List ℕ) (p q m : ℕ) → Bounds (view w) → p < 16 → m < 64 → due (view w) p q m ≡ false
    → Changes w w (λ s. send_ok s p q m)
unfolding send_ok
send_no w p q m h hp hm d s e =
    e ∙ sym (ap (λ (b : Bool). encode (pick b (sent s p m 2) s)) (due_state w p q m h hp hm d s e))

-- ---- what letters leave, the OKs leave
pub oks_keep : (p q : ℕ) (P : State → Type 0) → ((t : State) (m : ℕ) → P t → P (sent t p m 2))
    → (k : ℕ) (s : State) → P s → P (send_oks s p q k)
unfolding send_oks send_ok
oks_keep p q P keep zero s h = h
oks_keep p q P keep (suc k) s h = go (due t p q k) (oks_keep p q P keep k s h)
  where
    t : State
    t = send_oks s p q k

    go : (b : Bool) → P t → P (pick b (sent t p k 2) t)
    go true z = keep t k z
    go false z = z

-- ---- the loop over the messages
pub oks_start : (p q : ℕ) (s : State) → send_oks s p q 0 ≡ s
unfolding send_oks
oks_start p q s = refl

pub oks_more : (p q k : ℕ) (s : State) → send_ok (send_oks s p q k) p q k ≡ send_oks s p q (k + 1)
unfolding send_oks
oks_more p q k s = sym (ap (send_oks s p q) (add-one k))
