-- `letters::lowest_letter` meets its contract. Each loop's invariant speaks of its own level: nothing is found yet,
-- and the search goes on from where the loops stand. Assumes nothing.
use mathlib.Core.Path.{◌≡◌, refl, sym, ap, subst, ◌∙◌}
use mathlib.Core.Bool.{true}
use mathlib.Core.Logic.{inl, inr}
use Prim.Native.Nat.{ℕ, ◌+◌, ◌≤◌}
use native.Mathlib.Nat.{sub-zero}
use native.Mathlib.Omega.{arith}
use lib.Dec.{ltb}
use borrow.Author.Tests.{lt-ltb, le-ltb}
use Rattle.definitions.specs.General.{bit, first_from}
use Rattle.definitions.specs.World.{State, size, count, view}
use Rattle.definitions.specs.Settle.{receiver, origin, kind, movable, any}
use Rattle.base.specs.Search.{first_skip, first_hit, first_end}
use Rattle.letters.specs.Letters.{choice_of}
use Rattle.letters.specs.Places.{from_message, from_kind, from_origin}
use Rattle.letters.specs.Search.{receiver_in, receiver_none, lowest_found, lowest_none}
use Rattle.letters.proofs.lowest_letter.Invariants.{Origins}
use Rattle.letters.proofs.lowest_letter.Goals as goal
use Rattle.letters.proofs.lowest_letter.Goals.{At-search}

-- what was read: the number of processes, and that of messages
counted : (c : At-search)
    → (c.word-n.result ≡ view c.args.w.now size)
    × (c.word-messages.result ≡ view c.args.w.now count)
    × (view c.args.w.now size ≤ 16)
    × (view c.args.w.now count ≤ 64)
counted c =
    (c.word-n.ensures, c.word-messages.ensures, c.requires.processes, c.requires.messages)

-- from the start of a level
first_origin : (s : State) (m k : ℕ) → Origins s m k 0
unfolding origin
first_origin s m k = rw (sub-zero (s size))

pub search-init : goal.search-init
search-init c =
    let s = view c.args.w.now in
    let h = c.requires.passed in (
      omega (arith, h.messages, c.word-messages.ensures),
      h.kinds,
      omega (arith, h.origins, c.word-n.ensures),
      refl,
      from_message s c.args.from h,
      from_kind s c.args.from h,
      from_origin s c.args.from h,
    )

pub loop-q-preserved : goal.loop-q-preserved
loop-q-preserved c =
    let s = view c.args.w.now in
    let r = counted (goal.at.loop-q-preserved c).At-search in
    let n = c.receivers.ensures in (
      omega arith,
      c.loop-q.invariant.1,
      c.loop-q.invariant.2
          ∙ first_skip (λ x. ltb (receiver any s c.search.m c.loop-k.k x) (s size)) (s size) c.loop-q.q
          (omega (arith, r))
          (receiver_none s c.search.m c.loop-k.k c.loop-q.q c.lowest-p.result r.2
          (c.lowest-p.ensures ∙ ap (λ (x : ℕ). first_from 16 0 (bit x)) n) (omega (arith, r))),
    )

pub loop-k-preserved : goal.loop-k-preserved
loop-k-preserved c =
    let s = view c.args.w.now in
    let r = counted (goal.at.loop-k-preserved c).At-search in
    let e : origin any s c.search.m c.loop-k.k ≡ s size =
    c.loop-q.invariant.2
    ∙ first_end (λ x. ltb (receiver any s c.search.m c.loop-k.k x) (s size)) (s size) c.loop-q.q
    (omega (arith, r)) in (
      omega arith,
      omega arith,
      c.loop-q.invariant.1,
      c.loop-k.invariant.3
          ∙ first_skip (λ j. ltb (origin any s c.search.m j) (s size)) 3 c.loop-k.k (omega arith)
          (ap (λ (x : ℕ). ltb x (s size)) e ∙ le-ltb (s size) (s size) (omega arith)),
      first_origin s c.search.m _,
      inr refl,
    )

pub search-preserved : goal.search-preserved
unfolding movable kind
search-preserved c =
    let s = view c.args.w.now in
    let r = counted (goal.at.search-preserved c).At-search in
    let e : kind any s c.search.m ≡ 3 =
    c.loop-k.invariant.3
    ∙ first_end (λ j. ltb (origin any s c.search.m j) (s size)) 3 c.loop-k.k (omega arith) in (
      omega arith,
      omega arith,
      c.loop-k.invariant.1,
      c.loop-k.invariant.2,
      c.search.invariant.4
          ∙ first_skip (movable any s) (s count) c.search.m (omega (arith, r))
          (ap (λ (x : ℕ). ltb x 3) e ∙ le-ltb 3 3 (omega arith)),
      refl,
      elim c.loop-k.invariant.5 [
        | inl l ↦ absurd (omega arith)
        | inr z ↦ subst (Origins s (c.search.m + 1) 0) (sym z) (first_origin s (c.search.m + 1) 0)
      ],
    )

pub returns-after-search : goal.returns-after-search
returns-after-search c =
    let s = view c.args.w.now in
    let r = counted (goal.at.returns-after-search c).At-search in
    ap choice_of c.search.invariant.3
    ∙ sym (lowest_none any s
    (c.search.invariant.4 ∙ first_end (movable any s) (s count) c.search.m (omega (arith, r))))

pub returns-then-p-n : goal.returns-then-p-n
unfolding movable
returns-then-p-n c =
    let s = view c.args.w.now in
    let r = counted (goal.at.returns-then-p-n c).At-search in
    let b = c.lowest-p in
    let er = receiver_in s c.search.m c.loop-k.k c.loop-q.q b.result r.2
    (b.ensures ∙ ap (λ (x : ℕ). first_from 16 0 (bit x)) c.receivers.ensures)
    (omega (arith, r)) in
    let hq : ltb (receiver any s c.search.m c.loop-k.k c.loop-q.q) (s size) ≡ true =
    ap (λ (x : ℕ). ltb x (s size)) er ∙ lt-ltb b.result (s size) (omega (arith, r)) in
    let eq = c.loop-q.invariant.2
    ∙ first_hit (λ x. ltb (receiver any s c.search.m c.loop-k.k x) (s size)) (s size) c.loop-q.q
    (omega (arith, r)) hq in
    let hk : ltb (origin any s c.search.m c.loop-k.k) (s size) ≡ true =
    ap (λ (x : ℕ). ltb x (s size)) eq ∙ lt-ltb c.loop-q.q (s size) (omega (arith, r)) in
    let ek = c.loop-k.invariant.3
    ∙ first_hit (λ j. ltb (origin any s c.search.m j) (s size)) 3 c.loop-k.k (omega arith) hk in
    let hm : ltb (kind any s c.search.m) 3 ≡ true =
    ap (λ (x : ℕ). ltb x 3) ek ∙ lt-ltb c.loop-k.k 3 (omega arith) in
    let em = c.search.invariant.4 ∙ first_hit (movable any s) (s count) c.search.m (omega (arith, r)) hm in
    sym (lowest_found any s c.search.m c.loop-k.k c.loop-q.q b.result em (omega (arith, r)) ek eq er)
