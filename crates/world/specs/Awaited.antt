-- The answer of the deliverable test: what its two searches find; and that "deliverable", which is that the answer is yes,
-- is document 01's test of every process. Assumes nothing.
use Rattle.std.specs.Prelude.{◌≡◌, Bool, ◌&&◌, ◌≢◌, ℕ, ◌+◌, ◌<◌, leb, eqb}
use Rattle.std.proofs.Math.Path.{refl, sym}
use Rattle.std.proofs.Common.{◌∙◌, arith}
use Rattle.std.proofs.Math.Bool.{true, false, not}
use Rattle.std.proofs.Math.Dec.{ltb}
use borrow.Author.Tests.{ltb-true, ltb-false, not-true, not-false, eqb-true, eqb-false, eq-eqb, ne_eqb, leb-false, lt-leb}
use Rattle.definitions.specs.General.{pick, every}
use Rattle.definitions.specs.World.{size, count, group, delivered, sender, stamp, State, addressed}
use Rattle.definitions.specs.Machine.{fits, yes_now, message_of, process_alone, lowest_short, is_awaited, lowest_awaited, short_of, awaited, is_yes, deliverable}
use Rattle.base.specs.Tests.{clash, both_l, both_r, both_i, either}
use Rattle.base.specs.Search.{First, first_law, every_intro, every_fails}

-- ---- a process that falls short
pub record Short (s : State) (p m q : ℕ) : Type 0 where
  pub other : q ≢ s (sender m)
  pub above : s (delivered p q) < s (stamp m (s (group p)) q)

module _ (s : State) (p m : ℕ) where
  pub short_facts : (q : ℕ) → fits s p m q ≡ false → Short s p m q
  short_facts q e = go (eqb q (s (sender m))) refl e
    where
      go : (b : Bool) → eqb q (s (sender m)) ≡ b
          → either b (leb (s (stamp m (s (group p)) q)) (s (delivered p q))) ≡ false → Short s p m q
      go true d z = clash {b = true} refl z
      go false d z = record { other = eqb-false q (s (sender m)) d; above = leb-false _ _ z }

  pub short_is : (q : ℕ) → Short s p m q → fits s p m q ≡ false
  short_is q h = rw (ne_eqb q (s (sender m)) h.other) (lt-leb _ _ h.above)

  -- the lowest
  pub lowest_short_law : First (s size) 0 (λ q. not (fits s p m q)) (lowest_short s p m)
  unfolding lowest_short
  lowest_short_law = first_law (s size) 0 (λ q. not (fits s p m q))

  -- where one falls short, the answer is not yes
  short_no : (q : ℕ) → is_yes (short_of s p q) ≡ false
  unfolding short_of
  short_no q = go (ltb (lowest_awaited s p q) (s count))
    where
      go : (b : Bool) → is_yes (pick b (message_of q (lowest_awaited s p q)) (process_alone q)) ≡ false
      go true = refl
      go false = refl

  -- "for all q other than the sender, the message's C[group of p][q] is at most del[q]": one test with "the answer is yes"
  pub deliverable_every : deliverable s p m ≡ every (s size) (fits s p m)
  unfolding deliverable awaited
  deliverable_every = go (ltb (lowest_short s p m) (s size)) refl
    where
      go : (b : Bool) → ltb (lowest_short s p m) (s size) ≡ b
          → is_yes (pick b (short_of s p (lowest_short s p m)) yes_now) ≡ every (s size) (fits s p m)
      go false e =
          let l = ltb-false (lowest_short s p m) (s size) e in
          sym (every_intro (s size) (fits s p m)
          (λ q h. not-false (fits s p m q) (lowest_short_law.miss q (omega arith) (omega arith))))
      go true e =
          let l = ltb-true (lowest_short s p m) (s size) e in
          short_no (lowest_short s p m)
          ∙ sym (every_fails (s size) (fits s p m) (lowest_short s p m) l
          (not-true (fits s p m (lowest_short s p m)) (lowest_short_law.hit (omega arith))))

-- ---- a message that is awaited
pub record Next (s : State) (p q x : ℕ) : Type 0 where
  pub of : s (sender x) ≡ q
  pub to : addressed s x p ≡ true
  pub turn : s (stamp x (s (group p)) q) ≡ s (delivered p q) + 1

module _ (s : State) (p q : ℕ) where
  -- it is of q, and to the group
  abbrev is_to : ℕ → Bool
  is_to x = eqb (s (sender x)) q && addressed s x p

  abbrev in_turn : ℕ → Bool
  in_turn x = eqb (s (stamp x (s (group p)) q)) (s (delivered p q) + 1)

  pub next_facts : (x : ℕ) → is_awaited s p q x ≡ true → Next s p q x
  next_facts x e =
      let t = both_l (is_to x) (in_turn x) e in
      record {
        of = eqb-true (s (sender x)) q (both_l (eqb (s (sender x)) q) (addressed s x p) t);
        to = both_r (eqb (s (sender x)) q) (addressed s x p) t;
        turn = eqb-true (s (stamp x (s (group p)) q)) (s (delivered p q) + 1) (both_r (is_to x) (in_turn x) e);
      }

  pub next_is : (x : ℕ) → Next s p q x → is_awaited s p q x ≡ true
  next_is x n =
      both_i (is_to x) (in_turn x)
      (both_i (eqb (s (sender x)) q) (addressed s x p) (eq-eqb (s (sender x)) q n.of) n.to)
      (eq-eqb (s (stamp x (s (group p)) q)) (s (delivered p q) + 1) n.turn)

  -- the lowest
  pub lowest_awaited_law : First (s count) 0 (is_awaited s p q) (lowest_awaited s p q)
  unfolding lowest_awaited
  lowest_awaited_law = first_law (s count) 0 (is_awaited s p q)
