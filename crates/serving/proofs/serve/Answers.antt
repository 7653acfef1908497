-- `serving::serve` meets its contract. Assumes nothing.
use Rattle.std.proofs.Common.{◌≡◌, refl, sym, ap, ◌∙◌, List, ℕ, ◌+◌, ◌-◌, ◌<◌, arith, get_or}
use Rattle.std.proofs.Math.Nat.{sub-zero}
use Rattle.definitions.specs.Settle.{Settled, by_turns, done, stopped}
use Rattle.definitions.specs.Words.{settle_words}
use Rattle.keeps.specs.Keeps.{SoundWords}
use Rattle.sets.specs.Lowest.{lowest}
use Rattle.world.specs.SoundLaws.{size_high}
use Rattle.settling.specs.Settling.{settling_from, settle_more, settle_done, settle_stopped}
use Rattle.serving.specs.Serving.{turning_first, turning_none, turning_found, turning_low, turning_serves, turning_next}
use Rattle.serving.proofs.serve.Goals as goal
use Rattle.serving.proofs.serve.Goals.{In-Some, After-lowest-m}

-- somebody waits: the process is below 16, its message below 64
waits : (c : In-Some) → (c.in-Some.p < 16) × (lowest (get_or c.loop-made.a (1024 + c.in-Some.p) 0) < 64)
waits c =
    let e = c.in-Some.ensures in
    let z = turning_low c.loop-made.invariant.0 e.1 e.0 refl refl in (z.4, z.1)

-- the process and the message
low : (c : After-lowest-m) → (c.in-Some.p < 16) × (c.lowest-m.result < 64)
low c = let z = waits (goal.at.After-lowest-m c).In-Some in (z.0, omega (arith, z.1, c.lowest-m.ensures))

pub up_mask-up-requires : goal.up_mask-up-requires
up_mask-up-requires c = size_high _ c.requires.sound

pub loop-made-init : goal.loop-made-init
unfolding settle_words
loop-made-init c =
    let h : SoundWords c.args.w.now = record { long = c.told-w; reads = c.requires.sound } in
    (turning_first h c.up_mask-up.ensures c.requires.index c.gather.ensures, rw (sub-zero c.args.budget))

pub served-requires : goal.served-requires
served-requires c = let g = c.loop-made.invariant.0 in omega (arith, g.turn, size_high _ g.sound.reads)

pub returns-in_default : goal.returns-in_default
returns-in_default c =
    let v = c.loop-made.invariant in
    let e = v.1 ∙ settle_done by_turns _ c.loop-made.made c.loop-made.turn c.loop-made.w (turning_none v.0 c.in_default.ensures) in
    record {
      answer = sym (ap (λ (z : Settled (List ℕ)). z.ending) e);
      words = sym (ap (λ (z : Settled (List ℕ)). z.world) e);
    }

pub bounds-a-p : goal.bounds-a-p
bounds-a-p c = omega (arith, (waits (goal.at.bounds-a-p c).In-Some).0)

pub overflow_mul-m : goal.overflow_mul-m
overflow_mul-m c = omega (arith, (low (goal.at.overflow_mul-m c).After-lowest-m).1)

pub overflow_add-m : goal.overflow_add-m
overflow_add-m c = omega (arith, low (goal.at.overflow_add-m c).After-lowest-m)

pub offset_bounds-a-m : goal.offset_bounds-a-m
offset_bounds-a-m c = omega (arith, low (goal.at.offset_bounds-a-m c).After-lowest-m)

pub bounds-a-m : goal.bounds-a-m
bounds-a-m c = omega (arith, low (goal.at.bounds-a-m c).After-lowest-m)

pub has-known-requires : goal.has-known-requires
has-known-requires c = (low (goal.at.has-known-requires c).After-lowest-m).0

pub serve_one-requires : goal.serve_one-requires
serve_one-requires c =
    let e = c.in-Some.ensures in
    turning_serves c.loop-made.invariant.0 e.1 e.0 c.lowest-m.ensures c.lowest-place.ensures c.has-known.ensures

pub join-quiescent-requires : goal.join-quiescent-requires
join-quiescent-requires c = (low (goal.at.join-quiescent-requires c).After-lowest-m).0

pub loop-made-preserved : goal.loop-made-preserved
loop-made-preserved c =
    let l = c.loop-made in
    let v = l.invariant in
    let e = c.in-Some.ensures in
    let s = c.serve_one.ensures in
    let found = turning_found v.0 e.1 e.0 c.lowest-m.ensures c.lowest-place.ensures in (
      turning_next v.0 e.1 e.0 c.lowest-m.ensures c.lowest-place.ensures s c.join-quiescent.ensures,
      v.1 ∙ settle_more by_turns c.args.budget l.made l.turn l.w _ _ _ _ (omega arith) found
          ∙ ap (settling_from by_turns (c.args.budget - (l.made + 1)) (l.made + 1) (c.in-Some.p + 1)) (sym s.words),
    )

pub served-requires-2 : goal.served-requires-2
served-requires-2 c = let g = c.loop-made.invariant.0 in omega (arith, g.turn, size_high _ g.sound.reads)

pub returns-in-Some-served : goal.returns-in-Some-served
returns-in-Some-served c =
    let l = c.loop-made in
    let v = l.invariant in
    let s = c.in-Some-served.ensures in
    let b : c.args.budget ≡ l.made = omega arith in
    let e = v.1 ∙ settle_stopped by_turns c.args.budget l.made l.turn l.w _ _ _ _ (omega arith)
    (turning_found v.0 s.1 s.0 refl refl) in
    record {
      answer = ap stopped b ∙ sym (ap (λ (z : Settled (List ℕ)). z.ending) e);
      words = sym (ap (λ (z : Settled (List ℕ)). z.world) e);
    }

pub returns-in-None : goal.returns-in-None
returns-in-None c =
    let l = c.loop-made in
    let v = l.invariant in
    let b : c.args.budget ≡ l.made = omega arith in
    let e = v.1 ∙ settle_done by_turns _ l.made l.turn l.w (turning_none v.0 c.in-None.ensures) in
    record {
      answer = ap done b ∙ sym (ap (λ (z : Settled (List ℕ)). z.ending) e);
      words = sym (ap (λ (z : Settled (List ℕ)). z.world) e);
    }
