-- A step at one process leaves every other process's own words as they were: document 01, "Steps". The
-- cascade at p writes p's own words and the letters that p sends, and nothing else. Assumes nothing.
use Rattle.std.specs.Prelude.{◌≡◌, ◌≢◌}
use Rattle.std.proofs.Math.Path.{refl}
use Rattle.std.proofs.Common.{sym, ◌∙◌, subst, ne_eqb}
use Prim.Native.Nat.{ℕ, ◌+◌}
use Rattle.definitions.specs.World.{Cell, size, count, rule, group, trust, counter, sequence, next, delivered, up, fifo_length, causal_length, held, marks, fifo, causal, sender, mask, stamp, number, flight, order, unused, State, put}
use Rattle.definitions.specs.Machine.{with_tables, merge, causal_one, causal_all, appended, raised_next, send_oks, fifo_one, cascade, received, arrival, trust_set, crash}
use Rattle.base.specs.Tests.{pick_no}
use Rattle.world.specs.Layout.{put_other}
use Rattle.world.specs.Kept.{causal_all_keeps, oks_keep, cascade_keeps, received_keeps}

-- ---- the own words of process p
abbrev pub Own : ℕ → Cell → Type 0
Own p size = ⊥
Own p count = ⊥
Own p rule = ⊥
Own p (group x) = p ≡ x
Own p (trust x) = p ≡ x
Own p (counter x g q) = p ≡ x
Own p (sequence x g) = p ≡ x
Own p (next x q) = p ≡ x
Own p (delivered x q) = p ≡ x
Own p (up x) = p ≡ x
Own p (fifo_length x) = p ≡ x
Own p (causal_length x) = p ≡ x
Own p (held x m) = p ≡ x
Own p (marks x m) = p ≡ x
Own p (fifo x i) = p ≡ x
Own p (causal x i) = p ≡ x
Own p (sender m) = ⊥
Own p (mask m) = ⊥
Own p (stamp m g q) = ⊥
Own p (number m g) = ⊥
Own p (flight m k q) = ⊥
Own p (order m) = ⊥
Own p (unused i) = ⊥

-- c is neither p's own word nor one for letters that p sends
pub record Away (p : ℕ) (c : Cell) : Type 0 where
  pub not_own : ¬ Own p c
  pub not_sent : (m k : ℕ) → flight m k p ≢ c

-- what belongs to one process belongs to no other, and is no letter
own_one : (p r : ℕ) (c : Cell) → Own p c → Own r c → p ≡ r
own_one p r size a b = absurd a
own_one p r count a b = absurd a
own_one p r rule a b = absurd a
own_one p r (group x) a b = a ∙ sym b
own_one p r (trust x) a b = a ∙ sym b
own_one p r (counter x g q) a b = a ∙ sym b
own_one p r (sequence x g) a b = a ∙ sym b
own_one p r (next x q) a b = a ∙ sym b
own_one p r (delivered x q) a b = a ∙ sym b
own_one p r (up x) a b = a ∙ sym b
own_one p r (fifo_length x) a b = a ∙ sym b
own_one p r (causal_length x) a b = a ∙ sym b
own_one p r (held x m) a b = a ∙ sym b
own_one p r (marks x m) a b = a ∙ sym b
own_one p r (fifo x i) a b = a ∙ sym b
own_one p r (causal x i) a b = a ∙ sym b
own_one p r (sender m) a b = absurd a
own_one p r (mask m) a b = absurd a
own_one p r (stamp m g q) a b = absurd a
own_one p r (number m g) a b = absurd a
own_one p r (flight m k q) a b = absurd a
own_one p r (order m) a b = absurd a
own_one p r (unused i) a b = absurd a

own_no_letter : (r : ℕ) (c : Cell) → Own r c → (m k q : ℕ) → flight m k q ≢ c
own_no_letter r c o m k q e = subst (Own r) (sym e) o

pub other_away : (p r : ℕ) (c : Cell) → Own r c → (p ≡ r → ⊥) → Away p c
other_away p r c o d = record {
  not_own = λ a. d (own_one p r c a o);
  not_sent = λ m k. own_no_letter r c o m k p;
}

-- ---- one store
own_put : (s : State) (p : ℕ) (d c : Cell) (v : ℕ) → Own p d → Away p c → put s d v c ≡ s c
own_put s p d c v o a = put_other s d c v (λ e. a.not_own (subst (Own p) e o))

sent_put : (s : State) (p m k : ℕ) (c : Cell) (v : ℕ) → Away p c → put s (flight m k p) v c ≡ s c
sent_put s p m k c v a = put_other s (flight m k p) c v (a.not_sent m k)

-- ---- the cascade at p, part by part
module _ (p : ℕ) where
  merge_away : (s : State) (m : ℕ) (c : Cell) → Away p c → merge s p m c ≡ s c
  unfolding merge with_tables
  merge_away s m (counter r g q) a = pick_no _ (s (counter r g q)) (ne_eqb p r a.not_own)
  merge_away s m size a = refl
  merge_away s m count a = refl
  merge_away s m rule a = refl
  merge_away s m (group x) a = refl
  merge_away s m (trust x) a = refl
  merge_away s m (sequence x g) a = refl
  merge_away s m (next x q) a = refl
  merge_away s m (delivered x q) a = refl
  merge_away s m (up x) a = refl
  merge_away s m (fifo_length x) a = refl
  merge_away s m (causal_length x) a = refl
  merge_away s m (held x j) a = refl
  merge_away s m (marks x j) a = refl
  merge_away s m (fifo x i) a = refl
  merge_away s m (causal x i) a = refl
  merge_away s m (sender j) a = refl
  merge_away s m (mask j) a = refl
  merge_away s m (stamp j g q) a = refl
  merge_away s m (number j g) a = refl
  merge_away s m (flight j k q) a = refl
  merge_away s m (order j) a = refl
  merge_away s m (unused i) a = refl

  pub causal_one_away : (s : State) (i : ℕ) (c : Cell) → Away p c → causal_one s p i c ≡ s c
  unfolding causal_one
  causal_one_away s i c a =
      let m : ℕ = s (fifo p i) in
      let n : ℕ = s (causal_length p) in
      let t : State = put s (causal p n) m in
      let u : State = put t (causal_length p) (n + 1) in
      merge_away _ m c a ∙ own_put u p (delivered p (s (sender m))) c _ refl a
      ∙ own_put t p (causal_length p) c (n + 1) refl a ∙ own_put s p (causal p n) c m refl a

  pub causal_all_away : (s : State) (c : Cell) → Away p c → causal_all s p c ≡ s c
  causal_all_away s c a = causal_all_keeps (λ t. t c) p (λ t i. causal_one_away t i c a) s

  pub appended_away : (s : State) (m : ℕ) (c : Cell) → Away p c → appended s p m c ≡ s c
  unfolding appended
  appended_away s m c a =
      own_put (put s (fifo p (s (fifo_length p))) m) p (fifo_length p) c _ refl a
      ∙ own_put s p (fifo p (s (fifo_length p))) c m refl a

  pub raised_next_away : (s : State) (q : ℕ) (c : Cell) → Away p c → raised_next s p q c ≡ s c
  unfolding raised_next
  raised_next_away s q c a = own_put s p (next p q) c _ refl a

  send_oks_away : (s : State) (q k : ℕ) (c : Cell) → Away p c → send_oks s p q k c ≡ s c
  send_oks_away s q k c a = oks_keep (λ t. t c) p (λ t m v. sent_put t p m 2 c v a) s q k

  pub fifo_one_away : (s : State) (m : ℕ) (c : Cell) → Away p c → fifo_one s p m c ≡ s c
  unfolding fifo_one
  fifo_one_away s m c a =
      let q : ℕ = s (sender m) in
      let t : State = causal_all (appended s p m) p in
      send_oks_away (raised_next t p q) q (raised_next t p q count) c a ∙ raised_next_away t q c a
      ∙ causal_all_away (appended s p m) c a ∙ appended_away s m c a

  pub cascade_away : (s : State) (c : Cell) → Away p c → cascade s p c ≡ s c
  cascade_away s c a = cascade_keeps (λ t. t c) p (λ t m. fifo_one_away t m c a) s

-- ---- the steps at p leave every other process's own words as they were
module _ (p r : ℕ) (d : p ≡ r → ⊥) (c : Cell) (o : Own r c) where
  pub received_local : (s : State) (k m q : ℕ) → received s k m q p c ≡ s c
  received_local s k m q =
      received_keeps s k m q p (λ t. t c) (λ t j x v. put_other t (flight m j x) c v (own_no_letter r c o m j x))
      (λ t v. own_put t p (marks p m) c v refl (other_away p r c o d))
      (λ t v. own_put t p (held p m) c v refl (other_away p r c o d))

  pub arrival_local : (s : State) (k m q : ℕ) → arrival s k m q p c ≡ s c
  unfolding arrival
  arrival_local s k m q =
      cascade_away p (received s k m q p) c (other_away p r c o d) ∙ received_local s k m q

  pub trust_local : (s : State) (set : ℕ) → trust_set s p set c ≡ s c
  unfolding trust_set
  trust_local s set =
      cascade_away p (put s (trust p) set) c (other_away p r c o d)
      ∙ own_put s p (trust p) c set refl (other_away p r c o d)

  pub crash_local : (s : State) → crash s p c ≡ s c
  unfolding crash
  crash_local s = own_put s p (up p) c 0 refl (other_away p r c o d)
