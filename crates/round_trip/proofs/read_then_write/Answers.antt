-- `round_trip::read_then_write` meets its contract, by what the two calls ensure alone. Assumes nothing.
use Rattle.std.proofs.Common.{◌≡◌, ℕ, List, eqb, length, sym, ap, ◌∙◌}
use Rattle.definitions.specs.Journal.{write_refusal, written, read_refusal, read_out}
use Rattle.round_trip.specs.Calls.{taken_is, read_refused, read_written}
use Rattle.round_trip.proofs.read_then_write.Goals as goal
use Rattle.round_trip.proofs.read_then_write.Goals.{After-is_ok, After-is_ok-then-is_ok}

-- whether reading was taken, and whether writing was, as the definitions give it
first : (c : After-is_ok) → c.is_ok.result ≡ eqb (read_refusal c.args.journal.now (length c.args.back.now)) 0
first c = c.is_ok.ensures.value ∙ taken_is c.read.result ∙ ap (λ (n : ℕ). eqb n 0) c.read.ensures.answer

second : (c : After-is_ok-then-is_ok) → c.is_ok-then-is_ok.result
    ≡ eqb (write_refusal (length (read_out c.args.journal.now c.args.back.now)) (length c.args.out.now)) 0
second c =
    c.is_ok-then-is_ok.ensures.value
    ∙ taken_is c.write.result
    ∙ ap (λ (n : ℕ). eqb n 0) c.write.ensures.answer
    ∙ ap (λ (x : List ℕ). eqb (write_refusal (length x) (length c.args.out.now)) 0) c.read.ensures.bytes

pub returns-then-is_ok-clause-answer : goal.returns-then-is_ok-clause-answer
returns-then-is_ok-clause-answer c =
    let at = goal.at.returns-then-is_ok-clause-answer c in
    (read_written c.args.journal.now c.args.back.now c.args.out.now _ (λ i. (c.type_inv.journal i).fits)
    (sym (first at.After-is_ok) ∙ c.if-is_ok.true) (second at.After-is_ok-then-is_ok)).0

pub returns-then-is_ok-clause-bytes : goal.returns-then-is_ok-clause-bytes
returns-then-is_ok-clause-bytes c =
    let at = goal.at.returns-then-is_ok-clause-bytes c in
    c.write.ensures.bytes
    ∙ ap (λ (x : List ℕ). written x c.args.out.now) c.read.ensures.bytes
    ∙ (read_written c.args.journal.now c.args.back.now c.args.out.now _ (λ i. (c.type_inv.journal i).fits)
    (sym (first at.After-is_ok) ∙ c.if-is_ok.true) (second at.After-is_ok-then-is_ok)).1

pub returns-else-is_ok-clause-answer : goal.returns-else-is_ok-clause-answer
returns-else-is_ok-clause-answer c =
    c.if-is_ok.false
    ∙ read_refused c.args.journal.now c.args.back.now c.args.out.now
    (sym (first (goal.at.returns-else-is_ok-clause-answer c).After-is_ok) ∙ c.if-is_ok.false)
