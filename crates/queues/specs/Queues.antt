-- Letters sorted by who they go to, beside the words, in 1,041 numbers: for each message and process the set of its places,
-- 16 k + q for kind k from q; for each process the set of messages with such a place; the set of processes with such a
-- message. Which letters they are is any test of a message, a place and a process. Assumes nothing.
use Rattle.std.specs.Prelude.{◌≡◌, refl, Bool, true, false, not, ◌&&◌, ◌||◌, List, ◌≢◌, ◌⊎◌, ℕ, ◌+◌, ◌*◌, ◌/◌, ◌^◌, ◌≤◌, ◌<◌, ltb, eqb, length, get_or, set, replicate}
use Rattle.std.proofs.Common.{sym, ap, ap₂, ◌∙◌, subst, inl, inr, arith, length-set, get_or-set_same, get_or-set_other, lt-ltb, le-ltb, ltb-true, ltb-false, ne_eqb, eqb-true}
use Rattle.std.proofs.Math.Decide.{ℕ_discrete}
use Rattle.std.proofs.lemmas.List.{length-replicate, get_or-replicate, set-get_or}
use Rattle.definitions.specs.General.{pick, bit, with, without}
use Rattle.base.specs.Tests.{both, either, clash, eqb_refl, or_false, le_or_lt, pick_yes, pick_no}
use Rattle.base.specs.Bits.{bit_with, bit_zero, with_hit, without_hit, without_old, without_other}
use Rattle.base.specs.Search.{first_law}
use Rattle.sets.specs.Lowest.{lowest}

-- A test of a message, a place and a process.
abbrev pub Places : Type 0
Places = ℕ → ℕ → ℕ → Bool

pub record Queues (f : Places) (a : List ℕ) : Type 0 where
  pub long : length a ≡ 1041
  pub letters : (x r j : ℕ) → x < 64 → r < 16 → j < 64 → bit (get_or a (x * 16 + r) 0) j ≡ (ltb j 48 && f x j r)
  pub messages : (r x : ℕ) → r < 16 → x < 64 → bit (get_or a (1024 + r) 0) x ≡ ltb (lowest (get_or a (x * 16 + r) 0)) 64
  pub waits : (r : ℕ) → bit (get_or a 1040 0) r ≡ (ltb r 16 && ltb (lowest (get_or a (1024 + r) 0)) 64)

-- the same letters
pub queues_same : {f g : Places} {a : List ℕ} → Queues f a
    → ((x j r : ℕ) → x < 64 → j < 48 → r < 16 → f x j r ≡ g x j r)
    → Queues g a
queues_same {f} {g} {a} q e = record {
  long = q.long;
  letters = λ x r j hx hr hj. q.letters x r j hx hr hj ∙ low x r j hx hr (ltb j 48) refl;
  messages = q.messages;
  waits = q.waits;
}
  where
    low : (x r j : ℕ) → x < 64 → r < 16 → (b : Bool) → ltb j 48 ≡ b → both b (f x j r) ≡ both b (g x j r)
    low x r j hx hr true l = e x j r hx (ltb-true j 48 l) hr
    low x r j hx hr false l = refl

-- ---- whether a set has a member
pub some_member : (set i : ℕ) → i < 64 → bit set i ≡ true → ltb (lowest set) 64 ≡ true
some_member set i h e = go (le_or_lt 64 (lowest set))
  where
    go : (64 ≤ lowest set) ⊎ (lowest set < 64) → ltb (lowest set) 64 ≡ true
    go (inl l) = clash e ((first_law 64 0 (bit set)).miss i (omega arith) (omega arith))
    go (inr l) = lt-ltb (lowest set) 64 l

pub no_member : (set : ℕ) → ((i : ℕ) → i < 64 → bit set i ≡ false) → ltb (lowest set) 64 ≡ false
no_member set h = go (le_or_lt 64 (lowest set))
  where
    go : (64 ≤ lowest set) ⊎ (lowest set < 64) → ltb (lowest set) 64 ≡ false
    go (inl l) = le-ltb (lowest set) 64 l
    go (inr l) = clash ((first_law 64 0 (bit set)).hit (omega arith)) (h (lowest set) l)

zero_none : ltb (lowest 0) 64 ≡ false
zero_none = no_member 0 (λ i _. bit_zero i)

pub none_lowest : (set : ℕ) → set ≡ 0 → 64 ≤ lowest set
none_lowest set e = ltb-false (lowest set) 64 (ap (λ (n : ℕ). ltb (lowest n) 64) e ∙ zero_none)

-- ---- zeros are the queues of no letter
pub none_queued : Queues (λ _ _ _. false) (replicate 1041 0)
none_queued = record {
  long = length-replicate {A = ℕ} 1041 0;
  letters = λ x r j hx hr hj. ap (λ (n : ℕ). bit n j) (zero (x * 16 + r) (omega arith)) ∙ bit_zero j ∙ no (ltb j 48);
  messages = λ r x hr hx.
      ap (λ (n : ℕ). bit n x) (zero (1024 + r) (omega arith)) ∙ bit_zero x
      ∙ sym (ap (λ (n : ℕ). ltb (lowest n) 64) (zero (x * 16 + r) (omega arith)) ∙ zero_none);
  waits = λ r. ap (λ (n : ℕ). bit n r) (zero 1040 (omega arith)) ∙ bit_zero r ∙ nobody r (ltb r 16) refl;
}
  where
    zero : (i : ℕ) → i < 1041 → ◌≡◌ {A = ℕ} (get_or (replicate 1041 0) i 0) 0
    zero i l = get_or-replicate 1041 i 0 0 l

    no : (b : Bool) → false ≡ both b false
    no true = refl
    no false = refl

    nobody : (r : ℕ) (b : Bool) → ltb r 16 ≡ b
        → false ≡ both b (ltb (lowest (get_or (replicate 1041 0) (1024 + r) 0)) 64)
    nobody r true e =
        let h = ltb-true r 16 e in
        sym (ap (λ (n : ℕ). ltb (lowest n) 64) (zero (1024 + r) (omega arith)) ∙ zero_none)
    nobody r false e = refl

-- ---- three numbers written: the places of m at p, the messages at p, and who waits
pub three_long : (a : List ℕ) (m p u v w : ℕ) → length a ≡ 1041
    → length (set (set (set a (m * 16 + p) u) (1024 + p) v) 1040 w) ≡ 1041
three_long a m p u v w l =
    length-set (set (set a (m * 16 + p) u) (1024 + p) v) 1040 w ∙ length-set (set a (m * 16 + p) u) (1024 + p) v
    ∙ length-set a (m * 16 + p) u ∙ l

module _ (f g : Places) (a : List ℕ) (m p u v w : ℕ) (q : Queues f a) (hm : m < 64) (hp : p < 16)
    (places : (j : ℕ) → j < 64 → bit u j ≡ (ltb j 48 && g m j p))
    (messages : (x : ℕ) → x < 64 → bit v x ≡ pick (eqb m x) (ltb (lowest u) 64) (bit (get_or a (1024 + p) 0) x))
    (waiting : (r : ℕ) → bit w r ≡ pick (eqb p r) (ltb (lowest v) 64) (bit (get_or a 1040 0) r))
    (others : (x j r : ℕ) → (m ≢ x) ⊎ (p ≢ r) → g x j r ≡ f x j r) where
  abbrev pub three : List ℕ
  three = set (set (set a (m * 16 + p) u) (1024 + p) v) 1040 w

  -- what is read there
  first_read : get_or three (m * 16 + p) 0 ≡ u
  first_read =
      get_or-set_other (set (set a (m * 16 + p) u) (1024 + p) v) 1040 (m * 16 + p) w 0 (λ e. omega arith)
      ∙ get_or-set_other (set a (m * 16 + p) u) (1024 + p) (m * 16 + p) v 0 (λ e. omega arith)
      ∙ get_or-set_same a (m * 16 + p) u 0 (omega (arith, q.long))

  second_read : get_or three (1024 + p) 0 ≡ v
  second_read =
      get_or-set_other (set (set a (m * 16 + p) u) (1024 + p) v) 1040 (1024 + p) w 0 (λ e. omega arith)
      ∙ get_or-set_same (set a (m * 16 + p) u) (1024 + p) v 0 (omega (arith, q.long, length-set a (m * 16 + p) u))

  third_read : get_or three 1040 0 ≡ w
  third_read =
      get_or-set_same (set (set a (m * 16 + p) u) (1024 + p) v) 1040 w 0
      (omega (arith, q.long, length-set a (m * 16 + p) u, length-set (set a (m * 16 + p) u) (1024 + p) v))

  other_read : (k : ℕ) → k ≢ m * 16 + p → k ≢ 1024 + p → k ≢ 1040 → get_or three k 0 ≡ get_or a k 0
  other_read k d e c =
      get_or-set_other (set (set a (m * 16 + p) u) (1024 + p) v) 1040 k w 0 c
      ∙ get_or-set_other (set a (m * 16 + p) u) (1024 + p) k v 0 e ∙ get_or-set_other a (m * 16 + p) k u 0 d

  -- at another message or process
  elsewhere : (x r : ℕ) → x < 64 → r < 16 → (m ≢ x) ⊎ (p ≢ r) → get_or three (x * 16 + r) 0 ≡ get_or a (x * 16 + r) 0
  elsewhere x r hx hr (inl d) =
      other_read (x * 16 + r) (λ e. d (omega arith)) (λ e. omega arith) (λ e. omega arith)
  elsewhere x r hx hr (inr d) =
      other_read (x * 16 + r) (λ e. d (omega arith)) (λ e. omega arith) (λ e. omega arith)

  letters_at : (x r j : ℕ) → x < 64 → r < 16 → j < 64 → Dec (m ≡ x) → Dec (p ≡ r)
      → bit (get_or three (x * 16 + r) 0) j ≡ (ltb j 48 && g x j r)
  letters_at x r j hx hr hj (yes d) (yes e) =
      subst (λ (y : ℕ). bit (get_or three (y * 16 + r) 0) j ≡ both (ltb j 48) (g y j r)) d
      (subst (λ (y : ℕ). bit (get_or three (m * 16 + y) 0) j ≡ both (ltb j 48) (g m j y)) e
      (ap (λ (n : ℕ). bit n j) first_read ∙ places j hj))
  letters_at x r j hx hr hj (no d) _ = off x r j hx hr hj (inl d)
    where
      off : (x r j : ℕ) → x < 64 → r < 16 → j < 64 → (m ≢ x) ⊎ (p ≢ r)
          → bit (get_or three (x * 16 + r) 0) j ≡ (ltb j 48 && g x j r)
      off x r j hx hr hj o =
          ap (λ (n : ℕ). bit n j) (elsewhere x r hx hr o) ∙ q.letters x r j hx hr hj
          ∙ ap (both (ltb j 48)) (sym (others x j r o))
  letters_at x r j hx hr hj (yes d) (no e) =
      ap (λ (n : ℕ). bit n j) (elsewhere x r hx hr (inr e)) ∙ q.letters x r j hx hr hj
      ∙ ap (both (ltb j 48)) (sym (others x j r (inr e)))

  messages_at : (r x : ℕ) → r < 16 → x < 64 → Dec (p ≡ r) → Dec (m ≡ x)
      → bit (get_or three (1024 + r) 0) x ≡ ltb (lowest (get_or three (x * 16 + r) 0)) 64
  messages_at r x hr hx (yes e) (yes d) =
      subst (λ (y : ℕ). bit (get_or three (1024 + y) 0) x ≡ ltb (lowest (get_or three (x * 16 + y) 0)) 64) e
      (subst (λ (y : ℕ). bit (get_or three (1024 + p) 0) y ≡ ltb (lowest (get_or three (y * 16 + p) 0)) 64) d
      (ap (λ (n : ℕ). bit n m) second_read ∙ messages m hm
      ∙ ap (λ (b : Bool). pick b (ltb (lowest u) 64) (bit (get_or a (1024 + p) 0) m)) (eqb_refl m)
      ∙ ap (λ (n : ℕ). ltb (lowest n) 64) (sym first_read)))
  messages_at r x hr hx (yes e) (no d) =
      subst (λ (y : ℕ). bit (get_or three (1024 + y) 0) x ≡ ltb (lowest (get_or three (x * 16 + y) 0)) 64) e
      (ap (λ (n : ℕ). bit n x) second_read ∙ messages x hx
      ∙ pick_no (ltb (lowest u) 64) (bit (get_or a (1024 + p) 0) x) (ne_eqb m x d)
      ∙ q.messages p x hp hx ∙ ap (λ (n : ℕ). ltb (lowest n) 64) (sym (elsewhere x p hx hp (inl d))))
  messages_at r x hr hx (no e) d =
      ap (λ (n : ℕ). bit n x) (other_read (1024 + r) (λ c. omega arith) (λ c. e (omega arith)) (λ c. omega arith))
      ∙ q.messages r x hr hx ∙ ap (λ (n : ℕ). ltb (lowest n) 64) (sym (elsewhere x r hx hr (inr e)))

  waits_at : (r : ℕ) → Dec (p ≡ r) → bit (get_or three 1040 0) r
      ≡ (ltb r 16 && ltb (lowest (get_or three (1024 + r) 0)) 64)
  waits_at r (yes e) =
      subst (λ (y : ℕ). bit (get_or three 1040 0) y ≡ both (ltb y 16) (ltb (lowest (get_or three (1024 + y) 0)) 64)) e
      (ap (λ (n : ℕ). bit n p) third_read ∙ waiting p
      ∙ ap (λ (b : Bool). pick b (ltb (lowest v) 64) (bit (get_or a 1040 0) p)) (eqb_refl p)
      ∙ ap (λ (n : ℕ). ltb (lowest n) 64) (sym second_read)
      ∙ ap (λ (b : Bool). both b (ltb (lowest (get_or three (1024 + p) 0)) 64)) (sym (lt-ltb p 16 hp)))
  waits_at r (no e) =
      ap (λ (n : ℕ). bit n r) third_read ∙ waiting r
      ∙ pick_no (ltb (lowest v) 64) (bit (get_or a 1040 0) r) (ne_eqb p r e) ∙ q.waits r ∙ low (ltb r 16) refl
    where
      low : (b : Bool) → ltb r 16 ≡ b
          → both b (ltb (lowest (get_or a (1024 + r) 0)) 64) ≡ both b (ltb (lowest (get_or three (1024 + r) 0)) 64)
      low true c =
          let h = ltb-true r 16 c in
          ap (λ (n : ℕ). ltb (lowest n) 64)
          (sym (other_read (1024 + r) (λ y. omega arith) (λ y. e (omega arith)) (λ y. omega arith)))
      low false c = refl

  pub three_queued : Queues g three
  three_queued = record {
    long = three_long a m p u v w q.long;
    letters = λ x r j hx hr hj. letters_at x r j hx hr hj (ℕ_discrete m x) (ℕ_discrete p r);
    messages = λ r x hr hx. messages_at r x hr hx (ℕ_discrete p r) (ℕ_discrete m x);
    waits = λ r. waits_at r (ℕ_discrete p r);
  }

-- ---- a letter joins, and one leaves
-- whether it is the one of m at place i to p
abbrev pub is_at : ℕ → ℕ → ℕ → ℕ → ℕ → ℕ → Bool
is_at m i p x j r = eqb m x && (eqb i j && eqb p r)

abbrev pub joined : Places → ℕ → ℕ → ℕ → Places
joined f m i p x j r = f x j r || is_at m i p x j r

abbrev pub parted : Places → ℕ → ℕ → ℕ → Places
parted f m i p x j r = f x j r && not (is_at m i p x j r)

-- another message or process is none
not_at : (m i p x j r : ℕ) → (m ≢ x) ⊎ (p ≢ r) → is_at m i p x j r ≡ false
not_at m i p x j r (inl d) = ap (λ (b : Bool). both b (both (eqb i j) (eqb p r))) (ne_eqb m x d)
not_at m i p x j r (inr d) =
    ap (λ (b : Bool). both (eqb m x) (both (eqb i j) b)) (ne_eqb p r d) ∙ none (eqb m x) (eqb i j)
  where
    none : (b c : Bool) → both b (both c false) ≡ false
    none true true = refl
    none true false = refl
    none false c = refl

-- at m and p it is the place that decides
just_at : (m i p j : ℕ) → is_at m i p m j p ≡ eqb i j
just_at m i p j =
    ap₂ (λ (b c : Bool). both b (both (eqb i j) c)) (eqb_refl m) (eqb_refl p) ∙ last (eqb i j)
  where
    last : (b : Bool) → both b true ≡ b
    last true = refl
    last false = refl

module _ (f : Places) (a : List ℕ) (m i p : ℕ) (q : Queues f a) (hm : m < 64) (hi : i < 48) (hp : p < 16) where
  pub join_queued : {u v w : ℕ} → u ≡ with (get_or a (m * 16 + p) 0) i → v ≡ with (get_or a (1024 + p) 0) m
      → w ≡ with (get_or a 1040 0) p
      → Queues (joined f m i p) (set (set (set a (m * 16 + p) u) (1024 + p) v) 1040 w)
  join_queued {u} {v} {w} eu ev ew =
      three_queued f (joined f m i p) a m p u v w q hm hp places messages waiting
      (λ x j r o. ap (either (f x j r)) (not_at m i p x j r o) ∙ or_false (f x j r))
    where
      here : (j : ℕ) (b c e : Bool) → (e ≡ true → b ≡ true) → either (both b c) e ≡ both b (either c e)
      here j true c e h = refl
      here j false c true h = sym (h refl)
      here j false c false h = refl

      places : (j : ℕ) → j < 64 → bit u j ≡ (ltb j 48 && joined f m i p m j p)
      places j hj =
          ap (λ (n : ℕ). bit n j) eu ∙ bit_with (get_or a (m * 16 + p) 0) i j
          ∙ ap (λ (b : Bool). either b (eqb i j)) (q.letters m p j hm hp hj)
          ∙ here j (ltb j 48) (f m j p) (eqb i j) (λ e. lt-ltb j 48 (omega (arith, eqb-true i j e)))
          ∙ ap (λ (b : Bool). both (ltb j 48) (either (f m j p) b)) (sym (just_at m i p j))

      there : ltb (lowest u) 64 ≡ true
      there = some_member u i (omega arith) (ap (λ (n : ℕ). bit n i) eu ∙ with_hit (get_or a (m * 16 + p) 0) i)

      also : ltb (lowest v) 64 ≡ true
      also = some_member v m hm (ap (λ (n : ℕ). bit n m) ev ∙ with_hit (get_or a (1024 + p) 0) m)

      added : (b c e : Bool) → c ≡ true → either b e ≡ pick e c b
      added true c true h = sym h
      added false c true h = sym h
      added true c false h = refl
      added false c false h = refl

      messages : (x : ℕ) → x < 64 → bit v x ≡ pick (eqb m x) (ltb (lowest u) 64) (bit (get_or a (1024 + p) 0) x)
      messages x hx =
          ap (λ (n : ℕ). bit n x) ev ∙ bit_with (get_or a (1024 + p) 0) m x
          ∙ added (bit (get_or a (1024 + p) 0) x) (ltb (lowest u) 64) (eqb m x) there

      waiting : (r : ℕ) → bit w r ≡ pick (eqb p r) (ltb (lowest v) 64) (bit (get_or a 1040 0) r)
      waiting r =
          ap (λ (n : ℕ). bit n r) ew ∙ bit_with (get_or a 1040 0) p r
          ∙ added (bit (get_or a 1040 0) r) (ltb (lowest v) 64) (eqb p r) also

  -- a message that has a place left had one, and is in the set
  in_messages : (u : ℕ) → u ≡ without (get_or a (m * 16 + p) 0) i → ltb (lowest u) 64 ≡ true
      → bit (get_or a (1024 + p) 0) m ≡ true
  in_messages u eu h =
      let l = ltb-true (lowest u) 64 h in
      q.messages p m hp hm
      ∙ some_member (get_or a (m * 16 + p) 0) (lowest u) l
      (without_old (get_or a (m * 16 + p) 0) i (lowest u)
      (sym (ap (λ (n : ℕ). bit n (lowest u)) eu) ∙ (first_law 64 0 (bit u)).hit (omega arith)))

  -- its place leaves; the message where it was the last place, the process where that was the last message
  pub leave_queued : {u v w : ℕ} → u ≡ without (get_or a (m * 16 + p) 0) i
      → v ≡ pick (ltb (lowest u) 64) (get_or a (1024 + p) 0) (without (get_or a (1024 + p) 0) m)
      → w ≡ pick (ltb (lowest v) 64) (get_or a 1040 0) (without (get_or a 1040 0) p)
      → Queues (parted f m i p) (set (set (set a (m * 16 + p) u) (1024 + p) v) 1040 w)
  leave_queued {u} {v} {w} eu ev ew =
      three_queued f (parted f m i p) a m p u v w q hm hp places
      (λ x hx. kept (get_or a (1024 + p) 0) v m x (ltb (lowest u) 64) refl ev (in_messages u eu))
      (λ r. kept (get_or a 1040 0) w p r (ltb (lowest v) 64) refl ew in_waiting)
      (λ x j r o. ap (λ (b : Bool). both (f x j r) (not b)) (not_at m i p x j r o) ∙ all (f x j r))
    where
      all : (b : Bool) → both b true ≡ b
      all true = refl
      all false = refl

      places : (j : ℕ) → j < 64 → bit u j ≡ (ltb j 48 && parted f m i p m j p)
      places j hj = ap (λ (n : ℕ). bit n j) eu ∙ go (ℕ_discrete i j)
        where
          cut : (b c : Bool) {e : Bool} → e ≡ true → false ≡ both b (both c (not e))
          cut true true h = sym (ap not h)
          cut true false h = refl
          cut false c h = refl

          go : Dec (i ≡ j) → bit (without (get_or a (m * 16 + p) 0) i) j ≡ (ltb j 48 && parted f m i p m j p)
          go (yes d) =
              subst (λ (y : ℕ). bit (without (get_or a (m * 16 + p) 0) i) y ≡ both (ltb y 48) (parted f m i p m y p)) d
              (without_hit (get_or a (m * 16 + p) 0) i
              ∙ cut (ltb i 48) (f m i p) (just_at m i p i ∙ eqb_refl i))
          go (no d) =
              without_other (get_or a (m * 16 + p) 0) i j d ∙ q.letters m p j hm hp hj
              ∙ sym (ap (λ (b : Bool). both (ltb j 48) (both (f m j p) (not b))) (just_at m i p j ∙ ne_eqb i j d)
              ∙ ap (both (ltb j 48)) (all (f m j p)))

      -- a set that loses k unless it is told to keep it, and has it then
      kept : (set new k x : ℕ) (b : Bool) {c : Bool} → c ≡ b → new ≡ pick c set (without set k)
          → (b ≡ true → bit set k ≡ true)
          → bit new x ≡ pick (eqb k x) c (bit set x)
      kept set new k x true {c} ec en has =
          ap (λ (n : ℕ). bit n x) (en ∙ ap (λ (b : Bool). pick b set (without set k)) ec) ∙ go (ℕ_discrete k x)
        where
          go : Dec (k ≡ x) → bit set x ≡ pick (eqb k x) c (bit set x)
          go (yes d) =
              sym (ap (λ (b : Bool). pick b c (bit set x)) (ap (eqb k) (sym d) ∙ eqb_refl k) ∙ ec
              ∙ sym (has refl) ∙ ap (bit set) d)
          go (no d) = sym (pick_no c (bit set x) (ne_eqb k x d))
      kept set new k x false {c} ec en has =
          ap (λ (n : ℕ). bit n x) (en ∙ ap (λ (b : Bool). pick b set (without set k)) ec) ∙ go (ℕ_discrete k x)
        where
          go : Dec (k ≡ x) → bit (without set k) x ≡ pick (eqb k x) c (bit set x)
          go (yes d) =
              ap (bit (without set k)) (sym d) ∙ without_hit set k
              ∙ sym (ap (λ (b : Bool). pick b c (bit set x)) (ap (eqb k) (sym d) ∙ eqb_refl k) ∙ ec)
          go (no d) = without_other set k x d ∙ sym (pick_no c (bit set x) (ne_eqb k x d))

      in_waiting : ltb (lowest v) 64 ≡ true → bit (get_or a 1040 0) p ≡ true
      in_waiting h = go (ltb (lowest u) 64) refl
        where
          l : lowest v < 64
          l = ltb-true (lowest v) 64 h

          member : bit v (lowest v) ≡ true
          member = (first_law 64 0 (bit v)).hit (omega (arith, l))

          told : ltb (lowest (get_or a (1024 + p) 0)) 64 ≡ true → bit (get_or a 1040 0) p ≡ true
          told e = q.waits p ∙ ap₂ both (lt-ltb p 16 hp) e

          go : (b : Bool) → ltb (lowest u) 64 ≡ b → bit (get_or a 1040 0) p ≡ true
          go true e =
              told (ap (λ (n : ℕ). ltb (lowest n) 64)
              (sym (ev ∙ ap (λ (b : Bool). pick b (get_or a (1024 + p) 0) (without (get_or a (1024 + p) 0) m)) e)) ∙ h)
          go false e =
              let same = ev ∙ ap (λ (b : Bool). pick b (get_or a (1024 + p) 0) (without (get_or a (1024 + p) 0) m)) e in
              told (some_member (get_or a (1024 + p) 0) (lowest v) l
              (elim (ℕ_discrete m (lowest v)) [
                | yes d ↦ clash (sym (ap (λ (n : ℕ). bit n (lowest v)) same) ∙ member)
                    (ap (bit (without (get_or a (1024 + p) 0) m)) (sym d) ∙ without_hit (get_or a (1024 + p) 0) m)
                | no d ↦ sym (without_other (get_or a (1024 + p) 0) m (lowest v) d)
                    ∙ sym (ap (λ (n : ℕ). bit n (lowest v)) same) ∙ member
              ]))

  -- as the code writes them: no more than changes
  module _ (u : ℕ) (eu : u ≡ without (get_or a (m * 16 + p) 0) i) where
    messages_there : get_or (set a (m * 16 + p) u) (1024 + p) 0 ≡ get_or a (1024 + p) 0
    messages_there = get_or-set_other a (m * 16 + p) (1024 + p) u 0 (λ e. omega arith)

    waiting_there : (v : ℕ) → get_or (set (set a (m * 16 + p) u) (1024 + p) v) 1040 0 ≡ get_or a 1040 0
    waiting_there v =
        get_or-set_other (set a (m * 16 + p) u) (1024 + p) 1040 v 0 (λ e. omega arith)
        ∙ get_or-set_other a (m * 16 + p) 1040 u 0 (λ e. omega arith)

    -- the last message has left too, or more
    pub left_process : (v w : ℕ) → 64 ≤ lowest u → 64 ≤ lowest v
        → v ≡ without (get_or (set a (m * 16 + p) u) (1024 + p) 0) m
        → w ≡ without (get_or (set (set a (m * 16 + p) u) (1024 + p) v) 1040 0) p
        → Queues (parted f m i p) (set (set (set a (m * 16 + p) u) (1024 + p) v) 1040 w)
    left_process v w lu lv ev ew =
        leave_queued eu
        (ev ∙ ap (λ (n : ℕ). without n m) messages_there ∙ sym (pick_no _ _ (le-ltb (lowest u) 64 lu)))
        (ew ∙ ap (λ (n : ℕ). without n p) (waiting_there v) ∙ sym (pick_no _ _ (le-ltb (lowest v) 64 lv)))

    -- the last place
    pub left_message : (v : ℕ) → 64 ≤ lowest u → lowest v < 64
        → v ≡ without (get_or (set a (m * 16 + p) u) (1024 + p) 0) m
        → Queues (parted f m i p) (set (set a (m * 16 + p) u) (1024 + p) v)
    left_message v lu lv ev =
        subst (Queues (parted f m i p))
        (ap (set (set (set a (m * 16 + p) u) (1024 + p) v) 1040) (sym (waiting_there v))
        ∙ set-get_or (set (set a (m * 16 + p) u) (1024 + p) v) 1040 0)
        (leave_queued eu
        (ev ∙ ap (λ (n : ℕ). without n m) messages_there ∙ sym (pick_no _ _ (le-ltb (lowest u) 64 lu)))
        (sym (pick_yes _ _ (lt-ltb (lowest v) 64 lv))))

    -- one of several
    pub left_place : lowest u < 64 → Queues (parted f m i p) (set a (m * 16 + p) u)
    left_place lu =
        let v : ℕ = get_or a (1024 + p) 0 in
        let same = ap (set (set a (m * 16 + p) u) (1024 + p)) (sym messages_there)
        ∙ set-get_or (set a (m * 16 + p) u) (1024 + p) 0 in
        subst (Queues (parted f m i p))
        (ap (set (set (set a (m * 16 + p) u) (1024 + p) v) 1040) (sym (waiting_there v))
        ∙ set-get_or (set (set a (m * 16 + p) u) (1024 + p) v) 1040 0 ∙ same)
        (leave_queued eu (sym (pick_yes _ _ (lt-ltb (lowest u) 64 lu)))
        (sym (pick_yes _ _ (some_member v m hm (in_messages u eu (lt-ltb (lowest u) 64 lu))))))

-- ---- the letters of one message at one place, to the processes of a mask
abbrev pub noted : Places → ℕ → ℕ → ℕ → Places
noted f m i mask x j r = f x j r || (eqb m x && (eqb i j && bit mask r))

-- one process of the mask after the other
pub noted_none : (f : Places) (m i x j r : ℕ) → noted f m i 0 x j r ≡ f x j r
noted_none f m i x j r =
    ap (λ (b : Bool). either (f x j r) (both (eqb m x) (both (eqb i j) b))) (bit_zero r)
    ∙ none (f x j r) (eqb m x) (eqb i j)
  where
    none : (b c d : Bool) → either b (both c (both d false)) ≡ b
    none true c d = refl
    none false true true = refl
    none false true false = refl
    none false false d = refl

pub noted_one : (f : Places) (m i p mask x j r : ℕ) → bit mask p ≡ true
    → noted (joined f m i p) m i (without mask p) x j r ≡ noted f m i mask x j r
noted_one f m i p mask x j r h = go (ℕ_discrete p r)
  where
    once : (b c d : Bool) {e e' g : Bool} → e ≡ true → e' ≡ false → g ≡ true
        → either (either b (both c (both d e))) (both c (both d e')) ≡ either b (both c (both d g))
    once b c d {e} {e'} {g} x y z =
        ap₂ (λ (s t : Bool). either (either b (both c (both d s))) (both c (both d t))) x y
        ∙ cases b c d ∙ sym (ap (λ (s : Bool). either b (both c (both d s))) z)
      where
        cases : (b c d : Bool)
            → either (either b (both c (both d true))) (both c (both d false)) ≡ either b (both c (both d true))
        cases true c d = refl
        cases false true true = refl
        cases false true false = refl
        cases false false d = refl

    apart : (b c d : Bool) {e g g' : Bool} → e ≡ false → g ≡ g'
        → either (either b (both c (both d e))) (both c (both d g)) ≡ either b (both c (both d g'))
    apart b c d {e} {g} {g'} x y =
        ap₂ (λ (s t : Bool). either (either b (both c (both d s))) (both c (both d t))) x y ∙ cases b c d g'
      where
        cases : (b c d g : Bool)
            → either (either b (both c (both d false))) (both c (both d g)) ≡ either b (both c (both d g))
        cases true c d g = refl
        cases false true true g = refl
        cases false true false g = refl
        cases false false d g = refl

    go : Dec (p ≡ r) → noted (joined f m i p) m i (without mask p) x j r ≡ noted f m i mask x j r
    go (yes e) =
        once (f x j r) (eqb m x) (eqb i j) (ap (eqb p) (sym e) ∙ eqb_refl p)
        (ap (bit (without mask p)) (sym e) ∙ without_hit mask p) (ap (bit mask) (sym e) ∙ h)
    go (no d) =
        apart (f x j r) (eqb m x) (eqb i j) (ne_eqb p r d) (without_other mask p r d)

-- ---- the first process from t on, or else the first of all; 64 where there is none
abbrev pub ahead_of : ℕ → ℕ → ℕ
ahead_of waiting t = lowest (waiting / 2 ^ t)

abbrev pub served_of : ℕ → ℕ → ℕ
served_of waiting t = pick (ltb (ahead_of waiting t) 64) (t + ahead_of waiting t) (lowest waiting)
