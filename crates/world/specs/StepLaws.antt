-- What an accepted step tells: each condition of its refusals, as a fact; and the letter that settle
-- chooses is one that would be accepted. Assumes nothing.
use Rattle.std.specs.Prelude.{◌≡◌, Bool, true, false, ◌&&◌, ◌≢◌}
use Rattle.std.proofs.Math.Path.{refl}
use Rattle.std.proofs.Common.{sym, ap, ◌∙◌, subst, arith}
use Prim.Native.Nat.{ℕ, ◌<◌, ◌^◌}
use Rattle.std.proofs.Math.Dec.{ltb}
use borrow.Author.Tests.{ltb-true, ltb-false, lt-ltb, eqb-true, eq-eqb}
use Rattle.definitions.specs.General.{first_from, bit}
use Rattle.definitions.specs.World.{size, count, up, flight, State, is_process, is_message}
use Rattle.definitions.specs.Steps.{multicasts, arrives, loses, trusts, crashes, good_mask, is_up, in_flight, good_trust, refusal, accepted}
use Rattle.definitions.specs.Settle.{Choice, letter, nothing, moves, receiver, origin, kind, movable, letter_of, some_letter, lowest, any}
use Rattle.base.specs.Tests.{both_l, both_r, both_i, and_true, clash}
use Rattle.base.specs.Refusals.{needs_none}
use Rattle.base.specs.Search.{first_law}

-- ---- an accepted multicast of p
pub record Multicasts (s : State) (p groups : ℕ) : Type 0 where
  pub process : p < s size
  pub mask : good_mask s groups ≡ true
  pub live : s (up p) ≡ 1
  pub room : s count < 64

pub accepted_multicast : (s : State) (p groups o : ℕ) → accepted s (multicasts p groups o) ≡ true
    → Multicasts s p groups
unfolding refusal
accepted_multicast s p groups o e =
    let a = needs_none 4 (is_process s p) _ (eqb-true (refusal s (multicasts p groups o)) 0 e) in
    let b = needs_none 5 (good_mask s groups) _ a.1 in
    let c = needs_none 8 (is_up s p) _ b.1 in
    let d = needs_none 9 (ltb (s count) 64) 0 c.1 in
    record {
      process = ltb-true p (s size) a.0;
      mask = b.0;
      live = eqb-true (s (up p)) 1 c.0;
      room = ltb-true (s count) 64 d.0;
    }

-- ---- a letter of kind k for m from q to p that is in flight
pub record InFlight (s : State) (k m q p : ℕ) : Type 0 where
  pub kind : k < 3
  pub message : m < s count
  pub from : q < s size
  pub to : p < s size
  pub flies : bit (s (flight m k q)) p ≡ true

pub record Arrives (s : State) (k m q p : ℕ) : Type 0 where
  pub letter : InFlight s k m q p
  pub live : s (up p) ≡ 1

pub accepted_arrival : (s : State) (k m q p : ℕ) → accepted s (arrives k m q p) ≡ true → Arrives s k m q p
unfolding refusal
accepted_arrival s k m q p e =
    let a = needs_none 3 (ltb k 3) _ (eqb-true (refusal s (arrives k m q p)) 0 e) in
    let b = needs_none 4 (is_process s q && is_process s p) _ a.1 in
    let c = needs_none 6 (is_message s m) _ b.1 in
    let d = needs_none 8 (is_up s p) _ c.1 in
    let f = needs_none 10 (in_flight s k m q p) 0 d.1 in
    record {
      letter = record {
        kind = ltb-true k 3 a.0;
        message = ltb-true m (s count) c.0;
        from = ltb-true q (s size) (both_l (is_process s q) (is_process s p) b.0);
        to = ltb-true p (s size) (both_r (is_process s q) (is_process s p) b.0);
        flies = f.0;
      };
      live = eqb-true (s (up p)) 1 d.0;
    }

pub accepted_loss : (s : State) (k m q p : ℕ) → accepted s (loses k m q p) ≡ true → InFlight s k m q p
unfolding refusal
accepted_loss s k m q p e =
    let a = needs_none 3 (ltb k 3) _ (eqb-true (refusal s (loses k m q p)) 0 e) in
    let b = needs_none 4 (is_process s q && is_process s p) _ a.1 in
    let c = needs_none 6 (is_message s m) _ b.1 in
    let f = needs_none 10 (in_flight s k m q p) _ c.1 in
    record {
      kind = ltb-true k 3 a.0;
      message = ltb-true m (s count) c.0;
      from = ltb-true q (s size) (both_l (is_process s q) (is_process s p) b.0);
      to = ltb-true p (s size) (both_r (is_process s q) (is_process s p) b.0);
      flies = f.0;
    }

-- ---- an accepted trust step, and crash, of p
pub record Trusts (s : State) (p set : ℕ) : Type 0 where
  pub process : p < s size
  pub mask : set < 2 ^ s size
  pub live : s (up p) ≡ 1

pub accepted_trust : (s : State) (p set : ℕ) → accepted s (trusts p set) ≡ true → Trusts s p set
unfolding refusal
accepted_trust s p set e =
    let a = needs_none 4 (is_process s p) _ (eqb-true (refusal s (trusts p set)) 0 e) in
    let b = needs_none 7 (good_trust s set) _ a.1 in
    let c = needs_none 8 (is_up s p) 0 b.1 in
    record {
      process = ltb-true p (s size) a.0;
      mask = ltb-true set (2 ^ s size) b.0;
      live = eqb-true (s (up p)) 1 c.0;
    }

pub accepted_crash : (s : State) (p : ℕ) → accepted s (crashes p) ≡ true → (p < s size) × (s (up p) ≡ 1)
unfolding refusal
accepted_crash s p e =
    let a = needs_none 4 (is_process s p) _ (eqb-true (refusal s (crashes p)) 0 e) in
    let b = needs_none 8 (is_up s p) 0 a.1 in
    (ltb-true p (s size) a.0, eqb-true (s (up p)) 1 b.0)

-- ---- the letter that settle chooses
-- the first that passes: where one does, and where none does
pub hit : (n : ℕ) (f : ℕ → Bool) → ltb (first_from n 0 f) n ≡ true → f (first_from n 0 f) ≡ true
hit n f e = let l = ltb-true (first_from n 0 f) n e in (first_law n 0 f).hit (omega arith)

pub miss : (n : ℕ) (f : ℕ → Bool) → ltb (first_from n 0 f) n ≡ false → (i : ℕ) → i < n → f i ≡ false
miss n f e i h =
    let l = ltb-false (first_from n 0 f) n e in (first_law n 0 f).miss i (omega arith) (omega arith)

-- a letter in flight to an up process: its arrival is taken
pub moves_taken : (s : State) (k m q p : ℕ) → Arrives s k m q p → accepted s (arrives k m q p) ≡ true
unfolding refusal
moves_taken s k m q p a =
    let l = a.letter in
    let sizes : (is_process s q && is_process s p) ≡ true =
    both_i (is_process s q) (is_process s p) (lt-ltb q (s size) l.from) (lt-ltb p (s size) l.to) in
    let alive : is_up s p ≡ true = eq-eqb (s (up p)) 1 a.live in
    rw (lt-ltb k 3 l.kind, sizes, lt-ltb m (s count) l.message, alive, l.flies)

-- a letter that moves, or none that does
abbrev pub Chosen : State → Choice → Type 0
Chosen s (letter k m q p) = Arrives s k m q p
Chosen s nothing = (k m q p : ℕ) → k < 3 → m < s count → q < s size → p < s size → moves s m k q p ≡ false

-- the lowest letter to a receiver that passes: one that moves, and its receiver passes; or none moves to such a one
abbrev pub ChosenTo : (ℕ → Bool) → State → Choice → Type 0
ChosenTo to s (letter k m q p) = (to p ≡ true) × Arrives s k m q p
ChosenTo to s nothing =
    (k m q p : ℕ) → k < 3 → m < s count → q < s size → p < s size → (to p && moves s m k q p) ≡ false

module _ (to : ℕ → Bool) (s : State) where
  letter_moves : (m : ℕ) → ltb m (s count) ≡ true → movable to s m ≡ true → ChosenTo to s (letter_of to s m)
  unfolding letter_of movable kind origin receiver moves
  letter_moves m hm hk =
      let k : ℕ = kind to s m in
      let a = hit 3 (λ k. ltb (origin to s m k) (s size)) hk in
      let q : ℕ = origin to s m k in
      let b = hit (s size) (λ q. ltb (receiver to s m k q) (s size)) a in
      let p : ℕ = receiver to s m k q in
      let d = hit (s size) (λ p. to p && moves s m k q p) b in
      let c = both_r (to p) (moves s m k q p) d in (
        both_l (to p) (moves s m k q p) d,
        record {
          letter = record {
            kind = ltb-true k 3 hk;
            message = ltb-true m (s count) hm;
            from = ltb-true q (s size) a;
            to = ltb-true p (s size) b;
            flies = both_l (in_flight s k m q p) (is_up s p) c;
          };
          live = eqb-true (s (up p)) 1 (both_r (in_flight s k m q p) (is_up s p) c);
        },
      )

  pub none_moves : some_letter to s ≡ false → ChosenTo to s nothing
  unfolding movable kind origin receiver
  none_moves e k m q p hk hm hq hp =
      let a = miss (s count) (movable to s) e m hm in
      let b = miss 3 (λ k. ltb (origin to s m k) (s size)) a k hk in
      let c = miss (s size) (λ q. ltb (receiver to s m k q) (s size)) b q hq in
      miss (s size) (λ p. to p && moves s m k q p) c p hp

  pub lowest_law : ChosenTo to s (lowest to s)
  unfolding lowest
  lowest_law = go (some_letter to s) refl
    where
      m : ℕ
      m = first_from (s count) 0 (movable to s)

      go : (b : Bool) → some_letter to s ≡ b
          → ChosenTo to s (elim b as (λ _. Choice) [ true ↦ letter_of to s m | false ↦ nothing ])
      go true e = letter_moves m e (hit (s count) (movable to s) e)
      go false e = none_moves e

  -- where there is one, it is named
  pub lowest_names : some_letter to s ≡ true → lowest to s ≢ nothing
  unfolding lowest letter_of
  lowest_names e z = go (some_letter to s) e z
    where
      m : ℕ
      m = first_from (s count) 0 (movable to s)

      go : (b : Bool) → b ≡ true
          → elim b as (λ _. Choice) [ true ↦ letter_of to s m | false ↦ nothing ] ≢ nothing
      go true e z = let y : ◌≡◌ {A = ℕ} 0 1 = cc in absurd (omega arith)
      go false e z = clash e refl

-- of all receivers
pub lowest_chosen : (s : State) → Chosen s (lowest any s)
lowest_chosen s = go (lowest any s) (lowest_law any s)
  where
    go : (c : Choice) → ChosenTo any s c → Chosen s c
    go (letter k m q p) h = h.1
    go nothing h = h

-- where none moves, none is in flight to an up process
pub none_flies : (s : State) → Chosen s nothing → (k m q p : ℕ) → k < 3 → m < s count → q < s size → p < s size
    → s (up p) ≡ 1 → bit (s (flight m k q)) p ≡ false
unfolding moves
none_flies s c k m q p hk hm hq hp u =
    let flies : Bool = in_flight s k m q p in
    sym (and_true flies) ∙ ap (λ (b : Bool). flies && b) (sym (eq-eqb (s (up p)) 1 u)) ∙ c k m q p hk hm hq hp

pub lowest_moves : (s : State) (k m q p : ℕ) → lowest any s ≡ letter k m q p → Arrives s k m q p
lowest_moves s k m q p e = subst (Chosen s) e (lowest_chosen s)
