-- The choice by turns: whose turn it is (Turn), and the letter that it names is one that would be accepted; so of either
-- manner. Assumes nothing.
use Rattle.std.specs.Prelude.{◌≡◌, refl, Bool, true, false, ◌&&◌, ℕ, ◌-◌, ◌≤◌, ◌<◌, ltb, eqb}
use Rattle.std.proofs.Common.{sym, ap, ◌∙◌, subst, inl, inr, arith, ltb-true, ltb-false, eqb-true, eq-eqb}
use Rattle.definitions.specs.General.{pick, first_from}
use Rattle.definitions.specs.World.{size, count, up, State}
use Rattle.definitions.specs.Steps.{is_up, in_flight}
use Rattle.definitions.specs.Settle.{Choice, letter, nothing, moves, lowest, has_letter, served, fair, Manner, lowest_first, by_turns, choice}
use Rattle.base.specs.Tests.{both_i, bool_cases, clash, eqb_refl}
use Rattle.base.specs.Search.{first_law}
use Rattle.world.specs.StepLaws.{hit, miss, Arrives, Chosen, ChosenTo, none_moves, lowest_law, lowest_names, lowest_chosen}

-- to a process that has none no letter moves
pub has_none : (s : State) (p : ℕ) → p < s size → has_letter s p ≡ false → (k m q : ℕ) → k < 3 → m < s count → q < s size
    → moves s m k q p ≡ false
unfolding has_letter
has_none s p hp e k m q hk hm hq =
    ap (λ (b : Bool). b && moves s m k q p) (sym (eqb_refl p)) ∙ none_moves (eqb p) s e k m q p hk hm hq hp

-- a process to which one moves has one
pub arrives_has : (s : State) (k m q p : ℕ) → Arrives s k m q p → has_letter s p ≡ true
unfolding moves
arrives_has s k m q p a = elim (bool_cases (has_letter s p)) [
  | inl e ↦ e
  | inr e ↦
      let l = a.letter in
      clash (both_i (in_flight s k m q p) (is_up s p) l.flies (eq-eqb (s (up p)) 1 a.live))
      (has_none s p l.to e k m q l.kind l.message l.from)
]

-- ---- whose turn it is: the first from t on that has a letter, or, if none has there, the first of all, or nobody
pub data Turn (s : State) (t r : ℕ) : Type 0 where
  ahead : t ≤ r → r < s size → has_letter s r ≡ true
      → ((p : ℕ) → t ≤ p → p < r → has_letter s p ≡ false)
      → Turn s t r
  around : r < s size → has_letter s r ≡ true
      → ((p : ℕ) → t ≤ p → p < s size → has_letter s p ≡ false)
      → ((p : ℕ) → p < r → has_letter s p ≡ false)
      → Turn s t r
  nobody : s size ≤ r → ((p : ℕ) → p < s size → has_letter s p ≡ false) → Turn s t r

pub turn_law : (s : State) (t : ℕ) → Turn s t (served s t)
unfolding served
turn_law s t = go (ltb p (s size)) refl
  where
    p : ℕ
    p = first_from (s size - t) t (has_letter s)

    all : (b : Bool) → ltb (first_from (s size) 0 (has_letter s)) (s size) ≡ b
        → ((x : ℕ) → t ≤ x → x < s size → has_letter s x ≡ false)
        → Turn s t (first_from (s size) 0 (has_letter s))
    all true e none =
        around (ltb-true (first_from (s size) 0 (has_letter s)) (s size) e) (hit (s size) (has_letter s) e) none
        (λ x l. (first_law (s size) 0 (has_letter s)).miss x (omega arith) l)
    all false e none =
        nobody (ltb-false (first_from (s size) 0 (has_letter s)) (s size) e) (miss (s size) (has_letter s) e)

    go : (b : Bool) → ltb p (s size) ≡ b → Turn s t (pick b p (first_from (s size) 0 (has_letter s)))
    go true e =
        let f = first_law (s size - t) t (has_letter s) in
        let l = ltb-true p (s size) e in
        ahead f.low l (f.hit (omega arith)) f.miss
    go false e =
        let f = first_law (s size - t) t (has_letter s) in
        let l = ltb-false p (s size) e in
        all (ltb (first_from (s size) 0 (has_letter s)) (s size)) refl (λ x a h. f.miss x a (omega arith))

-- the letter that it names moves, and where it names none no letter moves
pub fair_chosen : (t : ℕ) (s : State) → Chosen s (fair t s)
unfolding fair has_letter
fair_chosen t s = go (lowest (eqb r) s) refl (lowest_law (eqb r) s) (turn_law s t)
  where
    r : ℕ
    r = served s t

    go : (c : Choice) → lowest (eqb r) s ≡ c → ChosenTo (eqb r) s c → Turn s t r → Chosen s c
    go (letter k m q p) e h z = h.1
    go nothing e h (ahead a l w f) = absurd (lowest_names (eqb r) s w e)
    go nothing e h (around l w f g) = absurd (lowest_names (eqb r) s w e)
    go nothing e h (nobody l f) = λ k m q p hk hm hq hp. has_none s p hp (f p hp) k m q hk hm hq

-- its receiver is the one whose turn it is
pub fair_turn : (t : ℕ) (s : State) (k m q p : ℕ) → fair t s ≡ letter k m q p → Turn s t p
unfolding fair
fair_turn t s k m q p e =
    let h = subst (ChosenTo (eqb (served s t)) s) e (lowest_law (eqb (served s t)) s) in
    subst (Turn s t) (eqb-true (served s t) p h.0) (turn_law s t)

-- ---- either manner
pub choice_chosen : (o : Manner) (t : ℕ) (s : State) → Chosen s (choice o t s)
choice_chosen lowest_first t s = lowest_chosen s
choice_chosen by_turns t s = fair_chosen t s

pub choice_moves : (o : Manner) (t : ℕ) (s : State) (k m q p : ℕ) → choice o t s ≡ letter k m q p
    → Arrives s k m q p
choice_moves o t s k m q p e = subst (Chosen s) e (choice_chosen o t s)
