-- Laws of the answers: no refusal has the number 0, and an outcome decides which of two refusals in a row is given.
-- Assumes nothing.
use Rattle.std.specs.Prelude.{◌≡◌, Bool, ℕ, Result, Ok, Err}
use Rattle.std.proofs.Common.{sym, ap, ◌∙◌, arith, eq-eqb, ne_eqb}
use Rattle.definitions.specs.General.{pick, or_else}
use Rattle.definitions.specs.Answers.{refusal_number, outcome_number}
use Rattle.definitions.specs.declared.Refusal.{Refusal}
use Rattle.definitions.specs.declared.Refusal.TheVariants.{WorldLength, WorldUnsound, BadSetup, Malformed, NoProcess, BadMask, NoMessage, BadTrust, Down, Full, NotInFlight, BothUp, JournalLength, WrongCheck, WrongForm, RecordsLength, OutputLength, NotWaiting, PairsLength}

-- ---- a refusal has a number
pub refusal_some : (r : Refusal) → refusal_number r ≡ 0 → ⊥
refusal_some WorldLength e = omega arith
refusal_some WorldUnsound e = omega arith
refusal_some BadSetup e = omega arith
refusal_some Malformed e = omega arith
refusal_some NoProcess e = omega arith
refusal_some BadMask e = omega arith
refusal_some NoMessage e = omega arith
refusal_some BadTrust e = omega arith
refusal_some Down e = omega arith
refusal_some Full e = omega arith
refusal_some NotInFlight e = omega arith
refusal_some BothUp e = omega arith
refusal_some JournalLength e = omega arith
refusal_some WrongCheck e = omega arith
refusal_some WrongForm e = omega arith
refusal_some RecordsLength e = omega arith
refusal_some OutputLength e = omega arith
refusal_some NotWaiting e = omega arith
refusal_some PairsLength e = omega arith

-- ---- the number of an outcome, by its case
pub taken_zero : {A : Type 0} {a : A} {o : Result A Refusal} {n : ℕ} → o ≡ Ok a → outcome_number o ≡ n → n ≡ 0
taken_zero t h = sym (ap outcome_number (sym t) ∙ h)

pub refused_number : {A : Type 0} {o : Result A Refusal} {n : ℕ} {r : Refusal} → o ≡ Err r → outcome_number o ≡ n → refusal_number r ≡ n
refused_number t h = ap outcome_number (sym t) ∙ h

-- ---- tests in front of others
-- where they refuse, they refuse whatever comes after
pub front_refused : {A : Type 0} {o : Result A Refusal} {first : ℕ} (rest : ℕ) (r : Refusal) → o ≡ Err r → outcome_number o ≡ first
    → refusal_number r ≡ or_else first rest
front_refused {o} {first} rest r t h =
    let e : refusal_number r ≡ first = refused_number t h in
    e ∙ sym (ap (λ (b : Bool). pick b rest first) (ne_eqb first 0 (λ z. refusal_some r (e ∙ z))))

-- where they do not, what comes after decides
pub front_taken : {A : Type 0} {a : A} {o : Result A Refusal} {first x : ℕ} (rest : ℕ) → o ≡ Ok a → outcome_number o ≡ first → x ≡ rest
    → x ≡ or_else first rest
front_taken {o} {first} rest t h e =
    e ∙ sym (ap (λ (b : Bool). pick b rest first) (eq-eqb first 0 (taken_zero t h)))
