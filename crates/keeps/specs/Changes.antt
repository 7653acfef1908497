-- Changes of one cell that no test of another cell looks at keep a world sound: up, trust, letters in flight,
-- held flags and marks. The argument: what the tests look at is the same, so only the changed word's own test
-- is to be shown. From it follow the crash, the loss, an arrival before its cascade, and the sending of OKs. It
-- rests on Forms. Assumes nothing.
use Rattle.std.specs.Prelude.{◌≡◌, refl, Bool, true, false, ◌&&◌, ◌⊎◌, ℕ, zero, suc, ◌≤◌, ◌<◌, ◌^◌, leb, eqb}
use Rattle.std.proofs.Common.{sym, ◌∙◌, subst, inl, inr, arith, eqb-true, lt-ltb}
use Rattle.definitions.specs.General.{pick, bit, with, without, only}
use Rattle.definitions.specs.World.{Cell, size, trust, up, held, marks, sender, flight, State, put, is_process, is_message}
use Rattle.definitions.specs.Sound.{addressee, sends, fit, fine}
use Rattle.definitions.specs.Machine.{addressees, in_turn, due, send_ok, send_oks, leave, mark, hold, crash}
use Rattle.base.specs.Tests.{clash, both_l, both_i}
use Rattle.base.specs.Bits.{only_e, only_i, with_cases, without_old, sub_without}
use Rattle.world.specs.Layout.{put_at, put_other}
use Rattle.world.specs.SoundLaws.{Sound, word_in, word_is, size_high, addressees_bit, Addressed, held_facts, Looked, fit_on}
use Rattle.keeps.specs.Forms.{word_to, bit_below}

-- A sound world in which p is a process.
abbrev pub SoundAt : ℕ → State → Type 0
SoundAt p s = Sound s × (p < s size)

-- one cell that no other test looks at: its own test passes
pub put_sound : (s : State) (c : Cell) (v : ℕ) → ¬ Looked c → fit s c v ≡ true → Sound s → Sound (put s c v)
unfolding fine
put_sound s c v away ok h d k =
    fit_on (put s c v) s (λ x l _. put_other s c x v (λ e. away (subst Looked (sym e) l))) h d k
    ∙ put_at s c d v (λ x. fit s d x ≡ true) (λ e. subst (λ (y : Cell). fit s y v ≡ true) e ok) (λ n. h d k)

-- ---- the crash
pub crash_sound : (s : State) (p : ℕ) → Sound s → Sound (crash s p)
unfolding crash fit
crash_sound s p h =
    put_sound s (up p) 0 (λ z. z) (word_is (is_process s p) 0 (leb 0 1) (λ _. refl) (λ _. refl)) h

-- ---- a trust set that names existing processes
pub trust_put_sound : (s : State) (p set : ℕ) → p < s size → set < 2 ^ s size
    → Sound s → Sound (put s (trust p) set)
unfolding fit
trust_put_sound s p set hp l h =
    put_sound s (trust p) set (λ z. z) (word_is (is_process s p) set (only 16 set (is_process s))
    (λ _. only_i 16 set (is_process s) (λ q _ e. lt-ltb q (s size) (bit_below set (s size) q l e)))
    (λ u. clash (lt-ltb p (s size) hp) u)) h

-- ---- the letter leaves flight
pub leave_sound : (s : State) (k m q p : ℕ) → k < 3 → m < 64 → q < 16 → Sound s → Sound (leave s k m q p)
unfolding leave fit fine
leave_sound s k m q p hk hm hq h =
    let x : ℕ = s (flight m k q) in
    put_sound s (flight m k q) (without x p) (λ z. z)
    (word_to (is_message s m && sends s m k q) x (without x p) _ _
    (λ u t. only_i 16 (without x p) (addressee s m)
    (λ i l e. only_e 16 x (addressee s m) t i l (without_old x p i e)))
    (λ u z. sym (sub_without x p) ∙ omega arith)
    (h (flight m k q) (hm, hk, hq)))
    h

-- ---- the mark of the origin, who is an addressee where the letter is an OK
pub mark_sound : (s : State) (k m q p : ℕ) → m < 64 → p < 16 → Addressed s p m
    → (k ≡ 2 → addressee s m q ≡ true) → Sound s → Sound (mark s k m q p)
unfolding mark fit fine
mark_sound s k m q p hm hp a from h = go (eqb k 2) refl
  where
    x : ℕ
    x = s (marks p m)

    used : (is_message s m && addressee s m p) ≡ true
    used = both_i (is_message s m) (addressee s m p) a.of a.to

    named : (i : ℕ) → i < 16 → eqb k 2 ≡ true → (bit x i ≡ true) ⊎ (q ≡ i) → addressee s m i ≡ true
    named i l e (inl b) =
        only_e 16 x (addressee s m) (word_in (is_message s m && addressee s m p) x _
        (h (marks p m) (hp, hm)) used) i l b
    named i l e (inr d) = subst (λ (y : ℕ). addressee s m y ≡ true) d (from (eqb-true k 2 e))

    go : (b : Bool) → eqb k 2 ≡ b → Sound (pick b (put s (marks p m) (with x q)) s)
    go false e = h
    go true e = put_sound s (marks p m) (with x q) (λ z. z)
        (word_is (is_message s m && addressee s m p) (with x q) _
        (λ _. only_i 16 (with x q) (addressee s m) (λ i l d. named i l e (with_cases x q i d)))
        (λ u. clash used u)) h

-- ---- an addressee sends a relay or an OK to all addressees
pub send_sound : (s : State) (k m p : ℕ) → sends s m k p ≡ true → is_message s m ≡ true → Sound s
    → Sound (put s (flight m k p) (addressees s m))
unfolding fit
send_sound s k m p from of h =
    put_sound s (flight m k p) (addressees s m) (λ z. z)
    (word_is (is_message s m && sends s m k p) (addressees s m) _
    (λ _. only_i 16 (addressees s m) (addressee s m) (λ i _ e. sym (addressees_bit s m i) ∙ e))
    (λ u. clash (both_i (is_message s m) (sends s m k p) of from) u)) h

-- relays and OKs come from addressees
relay_or_ok : (s : State) (m p : ℕ) (b : Bool) → addressee s m p ≡ true → sends s m (pick b 2 1) p ≡ true
unfolding sends
relay_or_ok s m p true e = e
relay_or_ok s m p false e = e

-- the receiver holds m, and sends its OK or relay if it did not hold it before
pub hold_sound : (s : State) (p m : ℕ) → Addressed s p m → Sound s → Sound (hold s p m)
unfolding hold put fit
hold_sound s p m a h = go (eqb (s (held p m)) 1)
  where
    holds : Sound (put s (held p m) 1)
    holds = put_sound s (held p m) 1 (λ z. z)
        (word_is (is_message s m && addressee s m p) 1 (leb 1 1) (λ _. refl)
        (λ u. clash (both_i (is_message s m) (addressee s m p) a.of a.to) u)) h

    go : (b : Bool)
        → Sound (pick b s (put (put s (held p m) 1) (flight m (pick (in_turn s p m) 2 1) p) (addressees s m)))
    go true = h
    go false =
        send_sound (put s (held p m) 1) (pick (in_turn s p m) 2 1) m p
        (relay_or_ok (put s (held p m) 1) m p (in_turn s p m) a.to) a.of holds

-- ---- the OK for a held message, and those for all below k
send_ok_sound : (s : State) (p q m : ℕ) → m < 64 → SoundAt p s → SoundAt p (send_ok s p q m)
unfolding send_ok due put
send_ok_sound s p q m hm (h, hp) = go (due s p q m) refl
  where
    go : (b : Bool) → due s p q m ≡ b → SoundAt p (pick b (put s (flight m 2 p) (addressees s m)) s)
    go false e = (h, hp)
    go true e =
        let two = both_l (eqb (s (held p m)) 1 && eqb (s (sender m)) q) (in_turn s p m) e in
        let one = eqb-true (s (held p m)) 1 (both_l (eqb (s (held p m)) 1) (eqb (s (sender m)) q) two) in
        let a = held_facts s h p m (omega (arith, size_high s h)) hm (λ z. omega arith) in
        (send_sound s 2 m p (relay_or_ok s m p true a.to) a.of h, hp)

-- of all messages below k
pub send_oks_sound : (s : State) (p q k : ℕ) → k ≤ 64 → SoundAt p s → SoundAt p (send_oks s p q k)
unfolding send_oks
send_oks_sound s p q zero hk h = h
send_oks_sound s p q (suc k) hk h =
    send_ok_sound (send_oks s p q k) p q k (omega arith) (send_oks_sound s p q k (omega arith) h)
