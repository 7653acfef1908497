-- `comparing::different` meets its contract. The loop's invariant: the words passed name messages, and are the members of
-- the set. Assumes nothing.
use mathlib.Core.Path.{◌≡◌, refl, sym, ap, ◌∙◌, subst}
use mathlib.Core.Bool.{true}
use Prim.Native.Nat.{ℕ, ◌+◌, ◌<◌}
use native.Mathlib.Omega.{arith}
use lib.Dec.{ltb}
use lib.ListN.{length, get_or}
use borrow.Author.Tests.{lt-ltb, le-ltb}
use Rattle.definitions.specs.General.{pick, needs, gives, every, with}
use Rattle.definitions.specs.World.{count, view}
use Rattle.definitions.specs.Words.{all_named, different}
use Rattle.base.specs.Refusals.{refused_reply}
use Rattle.base.specs.Search.{every_fails, every_more}
use Rattle.world.specs.SoundLaws.{count_high}
use Rattle.sets.specs.Members.{Members, members_none, members_more}
use Rattle.comparing.specs.Pairs.{members_different}
use Rattle.comparing.proofs.different.Goals as goal
use Rattle.comparing.proofs.different.Goals.{At-loop-i}

-- past the last word, all name messages
all_passed : (c : At-loop-i) → c.loop-i.i ≡ length c.args.pairs.now → all_named
    (view c.args.w.now) c.args.pairs.now ≡ true
unfolding all_named
all_passed c e =
    let pairs = c.args.pairs.now in
    ap (λ (k : ℕ). every k (λ j. ltb (get_or pairs j 0) (view c.args.w.now count))) (sym e)
    ∙ sym (ap (λ (n : ℕ). every c.loop-i.i (λ j. ltb (get_or pairs j 0) n)) c.word-count.ensures) ∙
    c.loop-i.invariant.0

pub loop-i-init : goal.loop-i-init
unfolding every
loop-i-init c = (refl, members_none _)

pub returns-then-count-m : goal.returns-then-count-m
unfolding all_named
returns-then-count-m c =
    let n = view c.args.w.now count in
    let pairs = c.args.pairs.now in
    let no = every_fails (length pairs) (λ i. ltb (get_or pairs i 0) n) c.loop-i.i (omega arith)
    (le-ltb (get_or pairs c.loop-i.i 0) n (omega (arith, c.word-m.ensures, c.word-count.ensures))) in
    refused_reply 7 (needs 7 (every (length pairs) (λ i. ltb (get_or pairs i 0) n)) 0)
    (different (view c.args.w.now) pairs)
    (λ e. omega arith) (rw no)

pub join-set-requires : goal.join-set-requires
join-set-requires c =
    omega (arith, c.word-count.ensures, count_high (view c.args.w.now) c.requires.reads)

pub loop-i-preserved : goal.loop-i-preserved
loop-i-preserved c =
    let pairs = c.args.pairs.now in
    let m = c.word-m.result in
    let i = c.loop-i.i in (
      every_more i (λ j. ltb (get_or pairs j 0) c.word-count.result) c.loop-i.invariant.0
          (lt-ltb (get_or pairs i 0) c.word-count.result (omega (arith, c.word-m.ensures))),
      subst (λ (y : ℕ). Members y (i + 1) (λ j. get_or pairs j 0))
          (joined c.loop-i.set m (omega (arith, count_high (view c.args.w.now) c.requires.reads)) ∙ sym
          c.join-set.ensures)
          (members_more c.loop-i.set i m (λ j. get_or pairs j 0) c.loop-i.invariant.1 c.word-m.ensures),
    )
  where
    joined : (set m : ℕ) → m < 64 → pick (ltb m 64) (with set m) set ≡ with set m
    joined set m c = rw (lt-ltb m 64 c)

pub returns : goal.returns
returns c =
    let s = view c.args.w.now in
    let pairs = c.args.pairs.now in
    let named : all_named s pairs ≡ true = all_passed (goal.at.returns c).At-loop-i (omega arith) in
    rw named (ap gives (c.count.ensures ∙ members_different s pairs named c.loop-i.set (count_high s c.requires.reads)
    (subst (λ (k : ℕ). Members c.loop-i.set k (λ j. get_or pairs j 0)) (omega arith) c.loop-i.invariant.1)))
