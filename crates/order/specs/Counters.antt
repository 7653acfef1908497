-- What the counters mean, over the view of the messages: C[g][q] on a message counts the messages of q to g
-- that are before it, its s[g] is its place among its sender's messages to g; C[g][q] of a process counts
-- those in its past. A delivery takes the larger of two counts, and both count prefixes of q's messages, so
-- that is the count of the union. A multicast counts one more, and only what the new message is. Assumes
-- nothing.
use Rattle.std.specs.Prelude.{◌≡◌, refl, Bool, true, false, ◌⊎◌, ◌≢◌, ℕ, suc, ◌+◌, ◌≤◌, ◌<◌, max, eqb}
use Rattle.std.proofs.Common.{sym, ap, ap₂, ◌∙◌, inl, inr, arith, add-one, eqb-true, ne_eqb}
use Rattle.definitions.specs.General.{pick, tally, bit}
use Rattle.definitions.specs.History.{sent, got}
use Rattle.base.specs.Tests.{at_or_off, either_l, bool_cases, le_or_lt, clash, both, either, both_l, both_r, both_i, eqb_refl}
use Rattle.base.specs.Count.{tally_mono, tally_cong, tally_falls, tally_max}
use Rattle.effects.specs.Views.{Messages}
use Rattle.order.specs.Knowledge.{Knowledge, learn, Closed, closed_got, before_new, before_old, closed_sent}

-- ---- counts
-- m is to group g
abbrev pub To : Messages → ℕ → ℕ → Type 0
To w g m = bit (w.mask m) g ≡ true

-- x is a message of q to g
abbrev pub of_to : Messages → ℕ → ℕ → ℕ → Bool
of_to w q g x = both (eqb (w.sender x) q) (bit (w.mask x) g)

-- it is of q
pub of : (w : Messages) (q g x : ℕ) → of_to w q g x ≡ true → w.sender x ≡ q
of w q g x e = eqb-true (w.sender x) q (both_l (eqb (w.sender x) q) (bit (w.mask x) g) e)

-- it is to g
pub to : (w : Messages) (q g x : ℕ) → of_to w q g x ≡ true → To w g x
to w q g x e = both_r (eqb (w.sender x) q) (bit (w.mask x) g) e

-- a test that passes where another does adds nothing to it
pub both_less : (a b : Bool) → (b ≡ true → a ≡ true) → both a b ≡ b
both_less true b h = refl
both_less false true h = h refl
both_less false false h = refl

-- how many of q's messages to g a set has, and how many there are
abbrev pub counted : Messages → (ℕ → Bool) → ℕ → ℕ → ℕ
counted w f q g = tally w.total (λ x. both (f x) (of_to w q g x))

-- all of them
abbrev pub all_of : Messages → ℕ → ℕ → ℕ
all_of w q g = tally w.total (of_to w q g)

-- ---- the meaning of the counters and sequence numbers on messages
pub record Counting (n : ℕ) (w : Messages) (k : Knowledge) : Type 0 where
  pub closed : Closed w.total w.sender k
  pub senders : (m : ℕ) → m < w.total → w.sender m < n
  pub stamps : (m g q : ℕ) → m < w.total → w.stamp m g q ≡ counted w (k.before m) q g
  pub numbers : (m g : ℕ) → m < w.total → w.number m g ≡ w.stamp m g (w.sender m)

module _ {n : ℕ} {w : Messages} {k : Knowledge} (c : Counting n w k) where
  -- more is before m than before x, if x is before m
  part_of : (m x g q : ℕ) → k.before m x ≡ true → (y : ℕ) → both (k.before x y) (of_to w q g y) ≡ true
      → both (k.before m y) (of_to w q g y) ≡ true
  part_of m x g q b y e =
      both_i (k.before m y) (of_to w q g y)
      ((c.closed.before m).chain x y b (both_l (k.before x y) (of_to w q g y) e))
      (both_r (k.before x y) (of_to w q g y) e)

  -- so its counters are at most those of m
  pub stamp_le : (m x g q : ℕ) → k.before m x ≡ true → w.stamp x g q ≤ w.stamp m g q
  stamp_le m x g q b =
      let hm = c.closed.before_low m x b in
      let hx = (c.closed.before m).low x b in
      let l =
      tally_mono w.total (λ y. both (k.before m y) (of_to w q g y))
      (λ y. both (k.before x y) (of_to w q g y))
      (λ y _. part_of m x g q b y) in
      omega (arith, c.stamps m g q hm, c.stamps x g q (omega arith))

  -- the earlier messages of the same sender are before m
  pub sender_before : (m x : ℕ) → m < w.total → x ≤ m → w.sender x ≡ w.sender m → k.before m x ≡ true
  sender_before m x h l e = (c.closed.before m).prefix m x (c.closed.before_self m h) l e

  -- of the messages of x's sender to g those before m are a prefix: if x, one of them, is not before m, what is before m
  -- is before x, and x is one more
  fewer : (x m g : ℕ) → x < w.total → m < w.total → To w g x → k.before m x ≡ false
      → w.stamp m g (w.sender x) < w.stamp x g (w.sender x)
  fewer x m g hx hm t out =
      let l = tally_falls w.total (λ y. both (k.before x y) (of_to w (w.sender x) g y))
      (λ y. both (k.before m y) (of_to w (w.sender x) g y)) part x hx
      (both_i (k.before x x) (of_to w (w.sender x) g x) (c.closed.before_self x hx)
      (both_i (eqb (w.sender x) (w.sender x)) (bit (w.mask x) g) (eqb_refl (w.sender x)) t))
      (rw out) in
      omega (arith, c.stamps m g (w.sender x) hm, c.stamps x g (w.sender x) hx)
    where
      part : (y : ℕ) → both (k.before m y) (of_to w (w.sender x) g y) ≡ true
          → both (k.before x y) (of_to w (w.sender x) g y) ≡ true
      part y e =
          let b = both_l (k.before m y) (of_to w (w.sender x) g y) e in
          let o = both_r (k.before m y) (of_to w (w.sender x) g y) e in
          let d = of w (w.sender x) g y o in
          elim (le_or_lt x y) [
            | inl l ↦ clash ((c.closed.before m).prefix y x b l (sym d)) out
            | inr l ↦ both_i (k.before x y) (of_to w (w.sender x) g y) (sender_before x y hx (omega arith) d) o
          ]

  -- so one counter tells whether x is before m: its own count is at most that of m
  pub counter_before : (x m g : ℕ) → x < w.total → m < w.total → To w g x
      → w.stamp x g (w.sender x) ≤ w.stamp m g (w.sender x) → k.before m x ≡ true
  counter_before x m g hx hm t l = elim (bool_cases (k.before m x)) [
    | inl e ↦ e
    | inr e ↦ absurd (omega (arith, fewer x m g hx hm t e))
  ]

  -- and a lower message counts fewer of m's sender than m does: it is not before it
  pub stamp_lt : (m x g : ℕ) → m < w.total → x < m → To w g m
      → w.stamp x g (w.sender m) < w.stamp m g (w.sender m)
  stamp_lt m x g h l t = fewer m x g h (omega arith) t (later (bool_cases (k.before x m)))
    where
      later : (k.before x m ≡ true) ⊎ (k.before x m ≡ false) → k.before x m ≡ false
      later (inr e) = e
      later (inl e) = absurd (omega (arith, (c.closed.before x).low m e))

  -- a message's counters count some of all
  pub stamp_most : (m g q : ℕ) → m < w.total → w.stamp m g q ≤ all_of w q g
  stamp_most m g q h =
      let l = tally_mono w.total (of_to w q g) (λ y. both (k.before m y) (of_to w q g y))
      (λ y _ e. both_r (k.before m y) (of_to w q g y) e) in
      omega (arith, c.stamps m g q h)

  -- all of a process's own messages are in its past
  pub own_all : (p g : ℕ) → counted w (k.past p) p g ≡ all_of w p g
  own_all p g =
      tally_cong w.total (λ x. both (k.past p x) (of_to w p g x)) (of_to w p g)
      (λ x h. both_less (k.past p x) (of_to w p g x)
      (λ e. rw (of w p g x e) at (c.closed.past_own x h)))

-- ---- a delivery
union : (a b d : Bool) → both (either b a) d ≡ either (both a d) (both b d)
union true true true = refl
union true true false = refl
union true false true = refl
union true false false = refl
union false true d = refl
union false false d = refl

module _ {n : ℕ} {w : Messages} {k : Knowledge} (c : Counting n w k) (p m : ℕ) where
  pub counting_got : Counting n w (learn (got p m) k)
  counting_got = record {
    closed = closed_got p m c.closed;
    senders = c.senders;
    stamps = c.stamps;
    numbers = c.numbers;
  }

  -- of two prefixes of q's messages the larger is the union
  union_count : (q g : ℕ) → max (counted w (k.past p) q g) (counted w (k.before m) q g)
      ≡ counted w (λ x. either (k.before m x) (k.past p x)) q g
  union_count q g =
      tally_max w.total (λ x. both (k.past p x) (of_to w q g x))
      (λ x. both (k.before m x) (of_to w q g x))
      (λ x. both (either (k.before m x) (k.past p x)) (of_to w q g x))
      (λ x. union (k.past p x) (k.before m x) (of_to w q g x))
      (λ i j f d e. go i j f d e (le_or_lt i j))
    where
      sender_of : (f : ℕ → Bool) (i : ℕ) → both (f i) (of_to w q g i) ≡ true → w.sender i ≡ q
      sender_of f i e = of w q g i (both_r (f i) (of_to w q g i) e)

      go : (i j : ℕ) → both (k.past p i) (of_to w q g i) ≡ true
          → both (k.before m i) (of_to w q g i) ≡ false
          → both (k.before m j) (of_to w q g j) ≡ true → (i ≤ j) ⊎ (j < i)
          → both (k.past p j) (of_to w q g j) ≡ true
      go i j f d e (inl l) = clash
          (both_i (k.before m i) (of_to w q g i)
          ((c.closed.before m).prefix j i (both_l (k.before m j) (of_to w q g j) e) l
          (sender_of (k.past p) i f ∙ sym (sender_of (k.before m) j e)))
          (both_r (k.past p i) (of_to w q g i) f)) d
      go i j f d e (inr l) =
          both_i (k.past p j) (of_to w q g j)
          ((c.closed.past p).prefix i j (both_l (k.past p i) (of_to w q g i) f) (omega arith)
          (sender_of (k.before m) j e ∙ sym (sender_of (k.past p) i f)))
          (both_r (k.before m j) (of_to w q g j) e)

  -- the counters of p after its delivery of m, and of another process
  pub counter_here : m < w.total → (g q v : ℕ) → v ≡ counted w (k.past p) q g
      → max v (w.stamp m g q) ≡ counted w ((learn (got p m) k).past p) q g
  counter_here h g q v e =
      ap₂ max e (c.stamps m g q h) ∙ union_count q g
      ∙ sym
      (ap (λ (b : Bool). counted w (λ x. either (both b (k.before m x)) (k.past p x)) q g) (eqb_refl p))

  -- the counters of another process are as they were
  pub counter_there : (r g q v : ℕ) → p ≢ r → v ≡ counted w (k.past r) q g
      → v ≡ counted w ((learn (got p m) k).past r) q g
  counter_there r g q v d e =
      e
      ∙ sym
      (ap (λ (b : Bool). counted w (λ x. either (both b (k.before m x)) (k.past r x)) q g)
      (ne_eqb p r d))

-- ---- a multicast
-- w' is w with one message more, of p to the groups of a mask; C and b of p were raised before they were
-- copied onto it
pub record OneMore (w : Messages) (k : Knowledge) (p groups : ℕ) (w' : Messages) : Type 0 where
  pub total : w'.total ≡ w.total + 1
  pub old_sender : (x : ℕ) → x < w.total → w'.sender x ≡ w.sender x
  pub old_mask : (x : ℕ) → x < w.total → w'.mask x ≡ w.mask x
  pub old_stamp : (x g q : ℕ) → x < w.total → w'.stamp x g q ≡ w.stamp x g q
  pub old_number : (x g : ℕ) → x < w.total → w'.number x g ≡ w.number x g
  pub new_sender : w'.sender w.total ≡ p
  pub new_mask : w'.mask w.total ≡ groups
  pub new_stamp : (g q : ℕ) → w'.stamp w.total g q
      ≡ pick (both (eqb p q) (bit groups g)) (suc (counted w (k.past p) q g)) (counted w (k.past p) q g)
  pub new_number : (g : ℕ) → w'.number w.total g ≡ w'.stamp w.total g p

-- one number more
tally_more : (n m : ℕ) (f : ℕ → Bool) → m ≡ n + 1 → tally m f ≡ pick (f n) (suc (tally n f)) (tally n f)
unfolding tally
tally_more n m f e = ap (λ (k : ℕ). tally k f) (e ∙ add-one n)

module _ {n : ℕ} {w : Messages} {k : Knowledge} {p groups : ℕ} {w' : Messages} (c : Counting n w k)
    (o : OneMore w k p groups w') where
  -- what holds of the new message and of the old ones
  pub old_or_new : (P : ℕ → Type 0) → P w.total → ((x : ℕ) → x < w.total → P x) → (m : ℕ) → m < w'.total
      → P m
  old_or_new P new old m h =
      at_or_off w.total (λ x. x < w'.total → P x) (λ _. new) (λ x d l. old x (omega (arith, o.total))) m h

  of_to_old : (q g x : ℕ) → x < w.total → of_to w' q g x ≡ of_to w q g x
  of_to_old q g x h = rw (o.old_sender x h, o.old_mask x h)

  -- the new message is of p, to the groups of the mask
  of_to_new : (q g : ℕ) → of_to w' q g w.total ≡ both (eqb p q) (bit groups g)
  of_to_new q g = rw (o.new_sender, o.new_mask)

  -- a set that has of the old messages those of f, and the new one as b says
  counted_more : (f f' : ℕ → Bool) (b : Bool) → f' w.total ≡ b → ((x : ℕ) → x < w.total → f' x ≡ f x)
      → (q g : ℕ)
      → counted w' f' q g
      ≡ pick (both b (both (eqb p q) (bit groups g))) (suc (counted w f q g)) (counted w f q g)
  counted_more f f' b e h q g =
      let t = tally_cong w.total (λ x. both (f' x) (of_to w' q g x)) (λ x. both (f x) (of_to w q g x))
      (λ x l. ap₂ both (h x l) (of_to_old q g x l)) in
      tally_more w.total w'.total (λ x. both (f' x) (of_to w' q g x)) o.total
      ∙ ap₂ (λ (z : Bool) (v : ℕ). pick z (suc v) v) (ap₂ both e (of_to_new q g)) t

  -- all of them, with the new message
  pub all_more : (q g : ℕ)
      → all_of w' q g ≡ pick (both (eqb p q) (bit groups g)) (suc (all_of w q g)) (all_of w q g)
  all_more q g =
      tally_more w.total w'.total (of_to w' q g) o.total
      ∙ ap₂ (λ (z : Bool) (v : ℕ). pick z (suc v) v) (of_to_new q g)
      (tally_cong w.total (of_to w' q g) (of_to w q g) (of_to_old q g))

  -- none is lost
  pub all_grows : (q g : ℕ) → all_of w q g ≤ all_of w' q g
  all_grows q g = go (both (eqb p q) (bit groups g)) (all_more q g)
    where
      go : (b : Bool) → all_of w' q g ≡ pick b (suc (all_of w q g)) (all_of w q g)
          → all_of w q g ≤ all_of w' q g
      go true e = omega arith
      go false e = omega arith

  -- what was before an older message still is
  pub before_same : (m x : ℕ) → m < w.total → (learn (sent p w.total) k).before m x ≡ k.before m x
  before_same m x h = before_old k p w.total m x (omega arith)

  -- the new message's number is above that of all its sender's messages
  pub new_above : (g : ℕ) → bit groups g ≡ true → w'.stamp w.total g p ≡ suc (all_of w p g)
  new_above g t = o.new_stamp g p ∙ rw (eqb_refl p, t) (ap suc (own_all c p g))

  -- a set that has only old messages
  without_new : (f : ℕ → Bool) → ((x : ℕ) → f x ≡ true → x < w.total) → f w.total ≡ false
  without_new f low = elim (bool_cases (f w.total)) [
    | inl e ↦ absurd (omega (arith, low w.total e))
    | inr e ↦ e
  ]

  -- the counters on the messages are right after it
  pub counting_sent : p < n → Counting n w' (learn (sent p w.total) k)
  counting_sent hp = record {
    closed =
        rw (o.total ∙ add-one w.total)
        (closed_sent p c.closed w'.sender o.old_sender o.new_sender);
    senders = old_or_new (λ m. w'.sender m < n) (rw o.new_sender hp)
        (λ m l. rw (o.old_sender m l) (c.senders m l));
    stamps = λ m g q. old_or_new
        (λ x. w'.stamp x g q ≡ counted w' ((learn (sent p w.total) k).before x) q g)
        (o.new_stamp g q
        ∙ sym (counted_more (k.past p) ((learn (sent p w.total) k).before w.total) true
        itself fresh_past q g))
        (λ x l. o.old_stamp x g q l ∙ c.stamps x g q l
        ∙ sym (counted_more (k.before x) ((learn (sent p w.total) k).before x) false
        (before_same x w.total l
        ∙ without_new (k.before x) (λ y b. omega (arith, (c.closed.before x).low y b)))
        (λ y _. before_same x y l) q g)) m;
    numbers = λ m g. old_or_new (λ x. w'.number x g ≡ w'.stamp x g (w'.sender x))
        (o.new_number g ∙ ap (w'.stamp w.total g) (sym o.new_sender))
        (λ x l. o.old_number x g l ∙ c.numbers x g l ∙ sym (o.old_stamp x g (w.sender x) l)
        ∙ ap (w'.stamp x g) (sym (o.old_sender x l))) m;
  }
    where
      fresh_past : (x : ℕ) → x < w.total → (learn (sent p w.total) k).before w.total x ≡ k.past p x
      fresh_past x h = before_new k p w.total w.total x refl ∙ rw (ne_eqb w.total x (omega arith))

      itself : (learn (sent p w.total) k).before w.total w.total ≡ true
      itself =
          before_new k p w.total w.total w.total refl
          ∙ either_l (eqb w.total w.total) (k.past p w.total) (eqb_refl w.total)

  -- the counters of a process after it
  pub counter_sent : (r g q v : ℕ) → v ≡ counted w (k.past r) q g
      → pick (both (eqb p r) (both (eqb p q) (bit groups g))) (suc v) v
      ≡ counted w' ((learn (sent p w.total) k).past r) q g
  counter_sent r g q v e =
      ap (λ (z : ℕ). pick (both (eqb p r) (both (eqb p q) (bit groups g))) (suc z) z) e
      ∙ sym (counted_more (k.past r) ((learn (sent p w.total) k).past r) (eqb p r) at_new at_old q g)
    where
      at_new : (learn (sent p w.total) k).past r w.total ≡ eqb p r
      at_new =
          rw (eqb_refl w.total, without_new (k.past r) (λ x b. (c.closed.past r).low x b)) (alone (eqb p r))
        where
          alone : (b : Bool) → either (both b true) false ≡ b
          alone true = refl
          alone false = refl

      at_old : (x : ℕ) → x < w.total → (learn (sent p w.total) k).past r x ≡ k.past r x
      at_old x h =
          rw (ne_eqb w.total x (omega arith), both_less (eqb p r) false (λ e. clash {b = false} e refl))
