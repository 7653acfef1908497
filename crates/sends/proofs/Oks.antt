-- The loop over the messages of a sender for which OKs are owed (specs/Oks): what OKs leave, one message, the loop. Assumes
-- nothing.
use Rattle.std.specs.Prelude.{◌≡◌, Bool, true, false, List, ◌≢◌, ◌⊎◌, ℕ, zero, suc, ◌+◌, ◌-◌, ◌^◌, ◌≤◌, ◌<◌, min, ltb, eqb, get_or}
use Rattle.std.proofs.Math.Path.{refl}
use Rattle.std.proofs.Common.{sym, ap, ◌∙◌, inl, inr, arith, lt-ltb, ltb-true, eqb-true}
use Rattle.definitions.specs.General.{pick, with, without}
use Rattle.base.specs.Tests.{pick_no, both, both_l, both_r, bool_cases, le_or_lt}
use Rattle.sets.specs.Lowest.{Has, lowest}
use Rattle.sets.specs.Below.{has_none, has_more, has_skip}
use Rattle.sets.specs.Sweep.{Sweep, sweep_start, sweep_hit, sweep_higher, sweep_gap, sweep_more, sweep_none}
use Rattle.bounds.specs.Bounds.{Bounds, bounds_words}
use Rattle.index.specs.Index.{Index, is_from, index_words, frame}
use Rattle.sends.specs.Ready.{ready_law}
use Rattle.sends.specs.Sends.{sent, oks_keep, oks_start, oks_more, send_yes, send_no, due_law}
use Rattle.definitions.specs.World.{count, sender, State, put, encode, view}
use Rattle.world.specs.Layout.{Changes, reads_cell}
use Rattle.definitions.specs.Machine.{ready, due, send_ok, send_oks}
use Rattle.sends.specs.Oks.{owed, not_from, Sending}
use Rattle.sends.proofs.Sends.{bounds_oks}

-- ---- OKs change nothing that these tests look at
module _ (p q k : ℕ) (s : State) where
  pub oks_due : (r x : ℕ) → due (send_oks s p q k) p r x ≡ due s p r x
  unfolding due put
  oks_due r x = oks_keep p q (λ t. due t p r x ≡ due s p r x) (λ t m z. z) k s refl

  pub oks_ready : (x : ℕ) → ready (send_oks s p q k) p x ≡ ready s p x
  unfolding ready put
  oks_ready x = oks_keep p q (λ t. ready t p x ≡ ready s p x) (λ t m z. z) k s refl

  pub oks_count : send_oks s p q k count ≡ s count
  unfolding put
  oks_count = oks_keep p q (λ t. t count ≡ s count) (λ t m z. z) k s refl

  pub oks_sender : (m : ℕ) → send_oks s p q k (sender m) ≡ s (sender m)
  unfolding put
  oks_sender m = oks_keep p q (λ t. t (sender m) ≡ s (sender m)) (λ t m z. z) k s refl

  pub oks_index : (x : List ℕ) → Index s x → Index (send_oks s p q k) x
  unfolding put
  oks_index x h = oks_keep p q (λ t. Index t x) (λ t m z. z) k s h

-- past messages for which none is owed
oks_idle : (p q a d : ℕ) (s : State) → ((i : ℕ) → a ≤ i → i < a + d → due s p q i ≡ false)
    → send_oks s p q (a + d) ≡ send_oks s p q a
unfolding send_oks send_ok
oks_idle p q a zero s h = ap (send_oks s p q) (let e : a + 0 ≡ a = omega arith in e)
oks_idle p q a (suc d) s h =
    ap (send_oks s p q) (let e : a + suc d ≡ suc (a + d) = omega arith in e)
    ∙ pick_no _ _ (oks_due p q (a + d) s q (a + d) ∙ h (a + d) (omega arith) (omega arith))
    ∙ oks_idle p q a d s (λ i l k. h i l (omega arith))

-- ---- one message
pub answered : (w u : List ℕ) (p m : ℕ) {b : Bool} → Bounds (view w) → p < 16 → m < 64 → b ≡ owed (view w) p m
    → (b ≡ true → Changes w u (λ s. sent s p m 2)) → (b ≡ false → u ≡ w)
    → Changes w u (λ s. send_ok s p (s (sender m)) m)
answered w u p m {b} h hp hm eb on off s e =
    go b eb on off ∙ ap (λ (q : ℕ). encode (send_ok s p q m)) (reads_cell w (sender m) hm s e)
  where
    q : ℕ
    q = view w (sender m)

    go : (c : Bool) → c ≡ owed (view w) p m → (c ≡ true → Changes w u (λ s. sent s p m 2)) → (c ≡ false → u ≡ w)
        → u ≡ encode (send_ok s p q m)
    go true ec y n = send_yes w u p q m h hp hm (sym ec) (y refl) s e
    go false ec y n = n refl ∙ send_no w p q m h hp hm (sym ec) s e

-- ---- the loop over the messages of q
module _ (s : State) (p q : ℕ) (few : s count ≤ 64) where
  -- nothing is owed below the lowest message of q
  pub sending_start : {w : List ℕ} (x : List ℕ) → w ≡ encode s → Has (get_or x (64 + q) 0) (is_from (frame s) q)
      → Sending s p q w (get_or x (64 + q) 0) 0 0
  sending_start {w} x e h = record {
    members = z;
    words = e ∙ ap encode (sym (ap (send_oks s p q) (let k : min (lowest own) (s count) ≡ 0 + min (lowest own) (s count) = omega arith in k)
        ∙ oks_idle p q 0 (min (lowest own) (s count)) s
        (λ i a b. not_from s p q i (omega arith) (none i (omega arith))) ∙ oks_start p q s));
    ready_are = has_skip 0 0 (lowest own) _ (has_none _) (omega arith)
        (λ i a b. ap (λ (c : Bool). both c (ready s p i)) (none i b));
    sent_are = has_skip 0 0 (lowest own) _ (has_none _) (omega arith)
        (λ i a b. ap (λ (c : Bool). both c (due s p q i)) (none i b));
  }
    where
      own : ℕ
      own = get_or x (64 + q) 0

      z : Sweep (is_from (frame s) q) (λ _. Unit {0}) own
      z = sweep_start own h

      none : (i : ℕ) → i < lowest own → is_from (frame s) q i ≡ false
      none i l = go (bool_cases (is_from (frame s) q i))
        where
          ones : Sweep (is_from (frame s) q) (λ _. ⊥) own
          ones = sweep_start own h

          go : (is_from (frame s) q i ≡ true) ⊎ (is_from (frame s) q i ≡ false) → is_from (frame s) q i ≡ false
          go (inl e) = absurd (ones.done i l e)
          go (inr e) = e

  -- one more
  module _ {w : List ℕ} {left r t : ℕ} (g : Sending s p q w left r t) (low : left < 2 ^ 64) (some : left ≢ 0) where
    abbrev m : ℕ
    m = lowest left

    pub sending_from : (m < s count) × (s (sender m) ≡ q)
    sending_from =
        let e = sweep_hit g.members low some in (
          ltb-true m (s count) (both_l (ltb m (s count)) (eqb (s (sender m)) q) e),
          eqb-true (s (sender m)) q (both_r (ltb m (s count)) (eqb (s (sender m)) q) e),
        )

    pub sending_words : w ≡ encode (send_oks s p q m)
    sending_words =
        g.words ∙ ap (λ (k : ℕ). encode (send_oks s p q k))
        (let z = sending_from.0 in let e : min m (s count) ≡ m = omega arith in e)

    -- what the code needs of the words, and what it reads of them
    module _ (hp : p < 16) (h : Bounds s) where
      pub sending_bounds : Bounds (view w)
      sending_bounds = bounds_words w (send_oks s p q m) sending_words (bounds_oks p q m s h)

      pub sending_index : {x : List ℕ} → Index s x → Index (view w) x
      sending_index {x} z =
          index_words w (send_oks s p q m) sending_words (bounds_oks p q m s h) (oks_index p q m s x z)

      pub sending_low : m < view w count
      sending_low =
          omega (arith, sending_from.0, reads_cell w count tt (send_oks s p q m) sending_words, oks_count p q m s)

      pub sending_ready : ready (view w) p m ≡ ready s p m
      sending_ready =
          ready_law w p m sending_bounds hp (let a = sending_from.0 in omega arith) refl (send_oks s p q m) sending_words
          ∙ oks_ready p q m s m

      pub sending_owed : owed (view w) p m ≡ due s p q m
      sending_owed =
          let hm : m < 64 = let a = sending_from.0 in omega arith in
          due_law w p (view w (sender m)) m sending_bounds hp hm refl (send_oks s p q m) sending_words
          ∙ oks_due p q m s (view w (sender m)) m
          ∙ ap (λ (y : ℕ). due s p y m)
          (reads_cell w (sender m) hm (send_oks s p q m) sending_words ∙ oks_sender p q m s m ∙ sending_from.1)

    pub sending_more : {u : List ℕ} {next r2 t2 : ℕ} → next ≡ without left (lowest left)
        → Changes w u (λ z. send_ok z p (z (sender m)) m)
        → r2 ≡ pick (ready s p m) (with r m) r → t2 ≡ pick (due s p q m) (with t m) t
        → Sending s p q u next r2 t2
    sending_more {u} {next} {r2} {t2} en c er et = record {
      members = sweep_more g.members low some en tt;
      words = c (send_oks s p q m) sending_words
          ∙ ap (λ (k : ℕ). encode (send_ok (send_oks s p q m) p k m)) (oks_sender p q m s m ∙ sending_from.1)
          ∙ ap encode (oks_more p q m s ∙ sym (past (le_or_lt (lowest next) (s count))));
      ready_are = has_skip r2 (m + 1) (lowest next) _
          (has_more r r2 m (λ i. both (is_from (frame s) q i) (ready s p i)) (ready s p m) g.ready_are
          (sym (ap (λ (b : Bool). both b (ready s p m)) (sweep_hit g.members low some))) er)
          (omega (arith, higher))
          (λ i a b. ap (λ (z : Bool). both z (ready s p i)) (sweep_gap g.members low some en i (omega arith) b));
      sent_are = has_skip t2 (m + 1) (lowest next) _
          (has_more t t2 m (λ i. both (is_from (frame s) q i) (due s p q i)) (due s p q m) g.sent_are
          (sym (ap (λ (b : Bool). both b (due s p q m)) (sweep_hit g.members low some))) et)
          (omega (arith, higher))
          (λ i a b. ap (λ (z : Bool). both z (due s p q i)) (sweep_gap g.members low some en i (omega arith) b));
    }
      where
        higher : m < lowest next
        higher = sweep_higher g.members low some en

        to : (k : ℕ) → m + 1 ≤ k → k ≤ s count → k ≤ lowest next → send_oks s p q k ≡ send_oks s p q (m + 1)
        to k a b d =
            ap (send_oks s p q) (let e : k ≡ m + 1 + (k - (m + 1)) = omega arith in e)
            ∙ oks_idle p q (m + 1) (k - (m + 1)) s
            (λ i x y. not_from s p q i (omega arith) (sweep_gap g.members low some en i (omega arith) (omega arith)))

        past : (lowest next ≤ s count) ⊎ (s count < lowest next)
            → send_oks s p q (min (lowest next) (s count)) ≡ send_oks s p q (m + 1)
        past d = let a = higher in let b = sending_from.0 in to (min (lowest next) (s count)) (omega arith) (omega arith) (omega arith)

  -- the end
  pub sending_end : {w : List ℕ} {left r t : ℕ} → Sending s p q w left r t → left ≡ 0
      → (w ≡ encode (send_oks s p q (s count)))
      × Has r (λ m. both (is_from (frame s) q m) (ready s p m)) × Has t (λ m. both (is_from (frame s) q m) (due s p q m))
  sending_end {w} {left} {r} {t} g e =
      let z = sweep_none left e in (
        g.words ∙ ap (λ (k : ℕ). encode (send_oks s p q k)) (let k : min (lowest left) (s count) ≡ s count = omega arith in k),
        λ i l. g.ready_are i l ∙ ap (λ (b : Bool). both b (both (is_from (frame s) q i) (ready s p i))) (lt-ltb i (lowest left) (omega arith)),
        λ i l. g.sent_are i l ∙ ap (λ (b : Bool). both b (both (is_from (frame s) q i) (due s p q i))) (lt-ltb i (lowest left) (omega arith)),
      )
