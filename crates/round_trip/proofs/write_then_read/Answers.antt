-- `round_trip::write_then_read` meets its contract, by what the two calls ensure alone. Assumes nothing.
use Rattle.std.proofs.Common.{◌≡◌, ℕ, List, eqb, length, sym, ap, ◌∙◌}
use Rattle.definitions.specs.Journal.{write_refusal, written, read_refusal, read_out}
use Rattle.round_trip.specs.Calls.{taken_is, write_refused, written_read}
use Rattle.round_trip.proofs.write_then_read.Goals as goal
use Rattle.round_trip.proofs.write_then_read.Goals.{After-is_ok, After-is_ok-then-is_ok}

-- whether writing was taken, and whether reading was, as the definitions give it
first : (c : After-is_ok) → c.is_ok.result ≡ eqb (write_refusal (length c.args.records.now) (length c.args.out.now)) 0
first c = c.is_ok.ensures.value ∙ taken_is c.write.result ∙ ap (λ (n : ℕ). eqb n 0) c.write.ensures.answer

second : (c : After-is_ok-then-is_ok) → c.is_ok-then-is_ok.result
    ≡ eqb (read_refusal (written c.args.records.now c.args.out.now) (length c.args.back.now)) 0
second c =
    c.is_ok-then-is_ok.ensures.value
    ∙ taken_is c.read.result
    ∙ ap (λ (n : ℕ). eqb n 0) c.read.ensures.answer
    ∙ ap (λ (x : List ℕ). eqb (read_refusal x (length c.args.back.now)) 0) c.write.ensures.bytes

pub returns-then-is_ok-clause-answer : goal.returns-then-is_ok-clause-answer
returns-then-is_ok-clause-answer c =
    let at = goal.at.returns-then-is_ok-clause-answer c in
    (written_read c.args.records.now c.args.out.now c.args.back.now _ (sym (first at.After-is_ok) ∙ c.if-is_ok.true)
    (second at.After-is_ok-then-is_ok)).0

pub returns-then-is_ok-clause-bytes : goal.returns-then-is_ok-clause-bytes
returns-then-is_ok-clause-bytes c =
    let at = goal.at.returns-then-is_ok-clause-bytes c in
    c.read.ensures.bytes
    ∙ ap (λ (x : List ℕ). read_out x c.args.back.now) c.write.ensures.bytes
    ∙ (written_read c.args.records.now c.args.out.now c.args.back.now _ (sym (first at.After-is_ok) ∙ c.if-is_ok.true)
    (second at.After-is_ok-then-is_ok)).1

pub returns-else-is_ok-clause-answer : goal.returns-else-is_ok-clause-answer
returns-else-is_ok-clause-answer c =
    c.if-is_ok.false
    ∙ write_refused c.args.records.now c.args.out.now c.args.back.now
    (sym (first (goal.at.returns-else-is_ok-clause-answer c).After-is_ok) ∙ c.if-is_ok.false)
